pub mod ObjectLemmas
pub mod TextLemmas
pub mod HexLemmas
