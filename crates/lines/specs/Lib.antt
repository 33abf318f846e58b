-- What a reader believes of a schedule's lines; then how they are read byte by byte.
pub mod Line
pub mod Reading
pub mod Letters
pub mod Laws
pub mod Statements
