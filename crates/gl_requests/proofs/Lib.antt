pub mod Sizes
pub mod Repeats
pub mod Remainders
pub mod FieldReadings
pub mod PartReadings
pub mod ActionReadings
pub mod RequestReadings
pub mod RangeTests
