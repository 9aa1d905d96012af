pub mod Campaigning
pub mod Bridging
