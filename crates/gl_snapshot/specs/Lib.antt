pub mod Parsing
pub mod Snapshot
pub mod Verdict
