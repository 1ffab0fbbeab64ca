pub mod AsciiLemmas
pub mod NameLemmas
pub mod ReplacingLemmas
pub mod WalkLemmas
mod ItemLemmas
mod SubstituteLemmas
