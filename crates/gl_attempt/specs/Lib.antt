pub mod Asks
pub mod Attempt
