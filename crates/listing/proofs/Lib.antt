pub mod Laws
pub mod Statements
pub mod Samples
