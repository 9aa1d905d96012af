pub mod Ledgers
pub mod BookOver
pub mod ReadOver
