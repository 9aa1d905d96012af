pub mod ExpectedOutputLaws
pub mod KeptLeaves
pub mod RequestBytes
pub mod Foundings
pub mod Openings
pub mod TextForms
pub mod Signed
pub mod Opened
mod MemberLemmas
mod TreeLemmas
mod DealtLemmas
