-- Laws of the definitions: nothing here needs to be believed.
pub mod Digits
pub mod Records
pub mod Inside
