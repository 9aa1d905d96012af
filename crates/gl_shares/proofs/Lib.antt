pub mod Xor
pub mod Decide
pub mod Bilinear
pub mod FieldLaws
pub mod Lagrange
pub mod Steps
pub mod Joins
pub mod Division
