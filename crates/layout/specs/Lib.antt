-- What a reader believes of the layout of images: numbers as bytes, and the fields of each record with their widths. `Laws` says what follows of any widths.
pub mod Places
pub mod Widths
pub mod Laws
pub mod Statements
