use Rattle.gl_receipt.proofs.TextLemmas.{written, back}
use Rattle.gl_receipt.proofs.writer.write_receipt.Goals as goal

pub returns-clause-text : goal.returns-clause-text
returns-clause-text c = written c.to_vec.result (λ t. t.items) c.in_ok-receipt_tree.field-0 c.args.receipt.now c.in_ok-receipt_tree.ensures.tree c.to_vec.ensures.text

pub returns-clause-reads_back : goal.returns-clause-reads_back
returns-clause-reads_back c = back c.to_vec.result (λ t. t.items) c.in_ok-receipt_tree.field-0 c.args.receipt.now c.in_ok-receipt_tree.ensures.ranges c.in_ok-receipt_tree.ensures.tree c.to_vec.ensures.utf8 c.to_vec.ensures.reads_back
