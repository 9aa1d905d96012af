pub mod Finish
pub mod Completion
pub mod OldLedger
pub mod ExpectedOutput
pub mod Answers
pub mod SettingsPrefix
pub mod RecoveryOutput
pub mod Refounded
