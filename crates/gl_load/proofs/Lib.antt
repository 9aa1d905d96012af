pub mod Founded
pub mod Running
pub mod NodeSteps
pub mod Steps
pub mod Growing
pub mod Counting
pub mod NodeEvents
pub mod Auditing
