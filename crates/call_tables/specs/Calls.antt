-- What the calls of tables give, by the definitions of the crates that have them.
pub mod Arguments
pub mod Searches
pub mod Tables
