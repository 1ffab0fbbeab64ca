pub mod Laws
pub mod Percent
pub mod PercentRows
pub mod WritingRows
