pub mod ServiceLimits
pub mod FewValues
pub mod Refused
pub mod ValueSizes
