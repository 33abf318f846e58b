-- What this crate promises to others of one order (`Parts`), and laws in the form in which its code needs them: nothing here needs to be believed.
pub mod Parts
pub mod Match
pub mod Sight
pub mod Ready
pub mod Turns
pub mod Single
pub mod Acted
pub mod Placed
pub mod Statements
