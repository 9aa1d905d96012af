pub mod Scans
pub mod Skips
pub mod Ledgers
