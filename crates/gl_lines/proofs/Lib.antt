pub mod PartLemmas
pub mod NumberLemmas
pub mod GroupLemmas
pub mod OperationLemmas
pub mod ReferenceLemmas
pub mod ReadingLemmas
pub mod FirstLines
pub mod FitLines
