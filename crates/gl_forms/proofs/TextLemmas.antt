-- The lemma of `gl_json` under the name by which crates above take it.
pub use Rattle.gl_json.proofs.TextLemmas.{tree_is}
