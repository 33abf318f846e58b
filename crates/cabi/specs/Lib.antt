-- What a reader believes of the calls on images in lent buffers. The statements say what follows; `Laws` proves it.
pub mod Calls
pub mod Laws
pub mod Statements
