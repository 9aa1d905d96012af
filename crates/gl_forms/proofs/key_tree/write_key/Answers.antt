use Rattle.serde_json.specs.View.{view}
use Rattle.gl_forms.proofs.KeyLemmas.{back}
use Rattle.gl_forms.proofs.key_tree.write_key.Goals as goal

pub returns-clause-reads_back : goal.returns-clause-reads_back
returns-clause-reads_back c short =
    back c.to_vec.result (λ t. t.items) (view c.in_ok-key_tree.field-0) c.args.key.now c.in_ok-key_tree.ensures.ranges short c.in_ok-key_tree.ensures.tree
    c.to_vec.ensures.utf8 c.to_vec.ensures.reads_back
