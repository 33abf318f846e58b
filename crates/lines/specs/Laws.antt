-- Laws of the definitions: nothing here needs to be believed. The first line of an input; what a part of a line stands for, and what is known where a run
-- does something with a byte.
pub mod Lines
pub mod Told
pub mod Parts
