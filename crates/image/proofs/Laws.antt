-- Laws of the definitions: nothing here needs to be believed.
pub mod Again
pub mod Held
pub mod Checking
pub mod Whole
pub mod Reading
pub mod Encoded
pub mod Writing
pub mod Blank
pub mod Fits
pub mod Empty
pub mod RoundTrip
pub mod Promises
