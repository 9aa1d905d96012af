pub mod TextPrefixes
pub mod Faults
pub mod Plans
pub mod Moments
pub mod Tearing
pub mod Recorded
pub mod Results
