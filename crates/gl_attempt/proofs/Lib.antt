pub mod Alike
pub mod Bounded
pub mod AskLaws
pub mod Fetching
pub mod NotedSizes
pub mod AttemptLaws
