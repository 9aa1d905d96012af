mod Sizes
mod Seqnos
mod Putting
mod SetParts
pub mod Selected
mod Untouched
pub mod TouchedRows
mod Numbers
mod RowSizes
mod OpenIds
