pub mod Founding
pub mod Requests
pub mod Events
pub mod Report
pub mod Types
pub mod Node
pub mod Totals
