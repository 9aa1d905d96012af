pub mod Limits
pub mod Receipts
pub mod Reply
pub mod Reasons
pub mod Encoding
pub mod Snapshots
