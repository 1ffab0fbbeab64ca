pub mod GivesLemmas
pub mod HoldsLemmas
pub mod LoopLemmas
pub mod Points
pub mod Quotes
