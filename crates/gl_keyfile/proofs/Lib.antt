pub mod Folding
pub mod Bounds
