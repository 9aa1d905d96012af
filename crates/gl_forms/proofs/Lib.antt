pub mod ListLemmas
pub mod TextLemmas
pub mod ElementLemmas
pub mod RuleLemmas
pub mod FitLemmas
pub mod FitForms
pub mod HexLemmas
pub mod KeyLemmas
