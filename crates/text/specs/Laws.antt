-- Laws of the definitions: nothing here needs to be believed. What is put into a buffer, and where there is room for it; numbers in decimal.
pub mod Put
pub mod Room
pub mod Decimal
pub mod Value
