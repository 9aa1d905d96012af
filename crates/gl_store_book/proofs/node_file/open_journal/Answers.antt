use Rattle.std.proofs.Common.{◌∙◌}
use Rattle.gl_store_book.specs.NodeFile.{seen_state}
use Rattle.gl_store_book.proofs.NodeFiles.{limited}
use Rattle.gl_store_book.proofs.node_file.open_journal.Goals as goal

pub returns-in-Ok-clause-durable : goal.returns-in-Ok-clause-durable
returns-in-Ok-clause-durable g c h =
    limited (g.D.Disk.bytes c.args.disk) (seen_state c.in-Ok.state) (seen_state c.within_leaves.result) c.within_leaves.ensures.same (c.in-Ok.ensures.durable h)

pub returns-in-Ok-clause-open : goal.returns-in-Ok-clause-open
returns-in-Ok-clause-open g c = record {
  kept = λ h. (c.in-Ok.ensures.open h).0;
  opens = λ h. limited (g.D.Disk.bytes c.in-Ok.journal.gated.disk) (seen_state c.in-Ok.state) (seen_state c.within_leaves.result) c.within_leaves.ensures.same
      ((c.in-Ok.ensures.open h).1 ∙ c.in-Ok.ensures.durable h);
}
