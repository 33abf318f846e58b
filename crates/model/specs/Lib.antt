-- What a reader believes of the lock: the definitions that the contracts of `src/` cite, held against document 01 file by file.
pub mod Table
pub mod Mask
pub mod Ring
pub mod Points
pub mod Bytes
pub mod Layout
pub mod Good
pub mod Cost
pub mod Step
pub mod Event
pub mod Run
pub mod Paid
pub mod Parts
