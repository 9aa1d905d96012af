pub mod Request
pub mod Parsing
pub mod Abort
pub mod Sees
pub mod Run
pub mod Performs
