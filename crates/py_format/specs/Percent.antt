-- Percent formatting.
pub mod Fold
pub mod Taking
pub mod Values
