-- Templates of percent formatting.
pub mod ByteParts
pub mod Flags
pub mod Literals
pub mod Reading
pub mod Specifiers
pub mod Spelling
pub mod Template
pub mod Writing
