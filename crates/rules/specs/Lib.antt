-- Laws of the definitions in the form in which this crate's code needs them: nothing here needs to be believed.
pub mod Check
pub mod Faults
pub mod Finding
pub mod Found
pub mod Statements
