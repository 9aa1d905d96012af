pub mod Gates
pub mod Parts
pub mod Stops
pub mod Records
pub mod Durable
pub mod RecordView
pub mod Kept
pub mod Frames
