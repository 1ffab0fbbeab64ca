pub mod Laws
pub mod Percent
pub mod Rows
