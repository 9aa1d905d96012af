pub mod Holding
pub mod Standing
pub mod Pairs
pub mod Stands
pub mod Offers
pub mod Replies
pub mod Plain
pub mod Events
