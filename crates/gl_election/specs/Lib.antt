pub mod Elections
pub mod Bridge
