pub mod Fits
pub mod Laws
pub mod Outcomes
pub mod Rows
pub mod Trees
pub mod Compiled
pub mod Words
