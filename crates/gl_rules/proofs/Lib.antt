pub mod Ids
pub mod Lists
pub mod Soundness
