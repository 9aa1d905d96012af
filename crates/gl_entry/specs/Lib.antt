pub mod Entry
pub mod Leaf
pub mod Parsing
pub mod SignedMessage
pub mod Stream
pub mod SourceBytes
pub mod LedgerFile
pub mod FileReading
