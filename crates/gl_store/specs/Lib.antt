pub mod Tail
pub mod Kept
pub mod Calls
