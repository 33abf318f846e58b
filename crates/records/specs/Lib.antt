-- The records of an image as this crate's functions read and write them, with their laws.
pub mod Records
pub mod Laws
pub mod Statements
