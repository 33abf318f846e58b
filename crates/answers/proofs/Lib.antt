-- Laws of what an order comes to.
pub mod Verdict
