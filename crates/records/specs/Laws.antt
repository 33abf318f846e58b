-- Laws of the definitions: nothing here needs to be believed.
pub mod Rows
pub mod Head
pub mod There
