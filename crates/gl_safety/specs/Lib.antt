pub mod SmallBook
pub mod Made
