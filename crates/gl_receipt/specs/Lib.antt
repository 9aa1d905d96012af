pub mod Receipt
pub mod Verdict
pub mod Form
pub mod Tree
pub mod Law
pub mod Ranges
pub mod Made
