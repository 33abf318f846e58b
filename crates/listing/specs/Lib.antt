-- What a reader believes of the listing of a whole input (its lines are defined in the crate `lines`, what is printed in `text`). Then how a run takes an
-- input in pieces; `Statements` of proofs/ tie the two together.
pub mod Listing
pub mod Feed
pub mod Chain
pub mod Took
pub mod Turn
