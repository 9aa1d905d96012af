use Rattle.std.proofs.Common.{◌≡◌, ◌-◌, ◌∙◌, ap, arith}
use Rattle.gl_rules.specs.Log.{entry_at}
use Rattle.gl_snapshot_body.specs.Body.{no_body}
use Rattle.gl_audit.specs.Committed.{Held}
use Rattle.gl_store.proofs.store.Store.entry.Goals as goal

pub returns-clause-entry : goal.returns-clause-entry
returns-clause-entry c =
    let all : c.args.seqno - 0 ≡ c.args.seqno = omega arith in
    c.entry.ensures.entry no_body c.self.invariant.stands ∙ ap (entry_at c.self.inside.tail.entries) all ∙ ap (λ (h : Held). entry_at h.ledger c.args.seqno) c.self.view_is
