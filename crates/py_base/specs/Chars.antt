-- Classes of characters, the categories of a regular expression, whitespace and quoting.
pub mod Categories
pub mod Classes
pub mod Quoting
pub mod Whitespace
