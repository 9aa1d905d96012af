pub mod Form
pub mod KeyFile
pub mod Leaf
pub mod SigningRequest
