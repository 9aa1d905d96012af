pub mod Form
pub mod Text
