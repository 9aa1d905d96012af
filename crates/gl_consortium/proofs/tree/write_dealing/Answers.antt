use Rattle.gl_consortium.proofs.TreeLemmas.{back, written}
use Rattle.gl_consortium.proofs.tree.write_dealing.Goals as goal

pub returns-clause-text : goal.returns-clause-text
returns-clause-text c = written c.to_vec.result (λ t. t.items) c.in_ok-action_tree.field-0 c.args.dealing.now c.in_ok-action_tree.ensures c.to_vec.ensures.text

pub returns-clause-reads_back : goal.returns-clause-reads_back
returns-clause-reads_back c fits =
    back c.to_vec.result (λ t. t.items) c.in_ok-action_tree.field-0 c.args.dealing.now fits c.in_ok-action_tree.ensures c.to_vec.ensures.utf8 c.to_vec.ensures.reads_back
