pub mod Tails
pub mod Keys
pub mod SignaturesAbove
pub mod Applications
pub mod Governing
pub mod KeptEntries
pub mod Unbroken
pub mod OpeningLedgers
