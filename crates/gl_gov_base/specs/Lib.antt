pub mod SameBy
pub mod Alike
pub mod Law
pub mod AtBase
pub mod GovernedOver
