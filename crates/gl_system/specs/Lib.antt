pub mod Place
pub mod Outgoing
