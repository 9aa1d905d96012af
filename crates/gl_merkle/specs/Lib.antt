pub mod Tree
pub mod Path
pub mod Collision
pub mod Reach
pub mod Peaks
pub mod Levels
pub mod Frontier
