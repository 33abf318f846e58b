-- The steps as the crates take them, part by part: the promises between the crates cite these, and no promise for the buyer does. `Laws.Stepped` proves that
-- together they are the steps of `Step`.
pub mod Moves
pub mod Charges
pub mod Steps
pub mod Good
pub mod Rules
pub mod Listed
