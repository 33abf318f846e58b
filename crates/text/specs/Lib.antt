-- What a reader believes of the lines that are printed is `Text`; `Parts` is for who calls the functions of this crate.
pub mod Text
pub mod Parts
pub mod Laws
pub mod Statements
