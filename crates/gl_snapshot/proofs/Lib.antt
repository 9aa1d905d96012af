pub mod Steps
pub mod Rows
pub mod Sizes
pub mod Parts
pub mod SnapshotLaws
pub mod Verdicts
