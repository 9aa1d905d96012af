pub mod View
pub mod Steps
pub mod Lawful
pub mod Lends
