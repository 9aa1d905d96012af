use Rattle.std.proofs.Common.{◌≡◌, true, false}
use Rattle.serde_json.specs.View.{view}
use Rattle.gl_json.proofs.TextLemmas.{tree_is, no_tree}
use Rattle.gl_json.proofs.tree.read_tree.Goals as goal

pub returns-in-Ok : goal.returns-in-Ok
returns-in-Ok c = record { exact = tree_is c.args.text.now (view c.in-Ok.tree) c.in-Ok.ensures.ok.0 c.in-Ok.ensures.ok.1 }

pub returns-else-is_memory : goal.returns-else-is_memory
returns-else-is_memory c = record {
  exact = no_tree c.args.text.now (λ utf8. c.in-Err.ensures.err (λ memory. let no : false ≡ true = c.if-is_memory.ensures.1 memory in cc) utf8);
}
