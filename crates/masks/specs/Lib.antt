-- Laws of the definitions in the form in which this crate's code needs them: nothing here needs to be believed.
pub mod Shift
pub mod Round
pub mod Statements
