pub mod Field
pub mod Dealing
pub mod Joining
