pub mod Begun
pub mod Sizes
pub mod Loop
pub mod Following
pub mod Ascending
pub mod Parts
pub mod BodyLaws
pub mod Places
