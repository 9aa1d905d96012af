pub mod NodeSet
pub mod Stages
pub mod Active
