-- Laws of the definitions in the form in which this crate's code needs them, and what is proved of its promises.
pub mod Events
pub mod Numbered
pub mod Verdict
pub mod Statements
