pub mod Answer
pub mod Client
pub mod Fields
pub mod Frames
pub mod Message
pub mod MessageReading
