pub mod Filling
pub mod Template
pub mod Request
pub mod Reader
pub mod Answer
