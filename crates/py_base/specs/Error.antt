-- The errors of all calls: their kinds, their names, and what they print.
pub mod Brace
pub mod Causes
pub mod Display
pub mod Key
pub mod Kinds
pub mod Names
pub mod Percent
pub mod TypeNames
