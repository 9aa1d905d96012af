pub mod Body
pub mod Parsing
pub mod Digest
pub mod Sinks
