-- Laws of the definitions: nothing here needs to be believed. An order on records; the loop over a piece of input; what every chain of calls prints.
pub mod Ordering
pub mod Taking
pub mod Pieces
pub mod End
pub mod Took
pub mod Compute
