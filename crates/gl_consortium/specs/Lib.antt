pub mod Texts
pub mod ExpectedOutput
pub mod Faults
pub mod Laws
pub mod Members
pub mod Tree
pub mod Dealt
