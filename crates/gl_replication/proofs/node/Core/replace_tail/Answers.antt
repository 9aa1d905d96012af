use Rattle.std.proofs.Common.{subst}
use Rattle.gl_rules.specs.Node.{Node}
use Rattle.gl_entry.specs.declared.entry.Entry.{Entry}
use Rattle.gl_replication.specs.Stands.{StandsFor}
use Rattle.gl_replication.proofs.Tails.{replaced_is}
use Rattle.gl_replication.proofs.node.Core.replace_tail.Goals as goal

pub returns-in-Ok-clause-grown : goal.returns-in-Ok-clause-grown
returns-in-Ok-clause-grown g c = λ b x n s.
    let r = c.in-Ok.ensures.grown b x n s in
    let h = c.requires.len b x n s in (
      r.0,
      r.1,
      subst (λ (m : Node Entry). StandsFor g.B.Book.stands c.follow_in_view.new.self b x m)
          (replaced_is b c.args.y c.args.view c.args.len c.ledger_len-before.result c.args.seqno n r.0 (c.ledger_len-before.ensures.value b _ s.ledger) h.0 h.1)
          (c.follow_in_view.ensures.turns b x _ (c.count_cut-in-Ok.ensures.turns b x _ (c.count_cut.ensures.turns b x _ r.2))),
    )
