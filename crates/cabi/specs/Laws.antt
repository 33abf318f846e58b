-- Laws of the definitions: nothing here needs to be believed.
pub mod Fields
pub mod Puts
pub mod Stepping
pub mod Putting
pub mod Acting
pub mod Calling
pub mod Running
pub mod Fresh
pub mod Rack
