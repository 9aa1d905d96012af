pub mod Encoding
pub mod Ranges
pub mod Parsing
