pub mod GovState
pub mod Ends
pub mod Kept
pub mod Known
pub mod Committed
pub mod Binding
pub mod Verdict
pub mod AuditSteps
