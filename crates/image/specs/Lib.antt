-- What a reader believes of images, over the layout: what is written and read. `Statements` of proofs/ say what follows; `Laws` there proves it.
pub mod Image
pub mod Parts
