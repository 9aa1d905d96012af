use Rattle.std.proofs.Common.{◌≡◌, ◌-◌, [], length, map, take, ap, subst, sym, ◌∙◌, arith}
use Rattle.gl_rules.specs.Outcome.{Step, Refused, NoLaterSignature}
use Rattle.gl_rules.specs.Outcome as outcomes
use Rattle.gl_entry.specs.declared.entry.Entry.{Entry}
use Rattle.gl_election.specs.Bridge.{seen_message}
use Rattle.gl_replication.specs.Offers.{Offers, begun_from}
use Rattle.gl_replication.specs.Stands.{seen_outcome}
use Rattle.gl_replication.specs.declared.snapshots.Offer.{Offer}
use Rattle.gl_replication.proofs.Rows.{stepped_as}
use Rattle.gl_replication.proofs.Installs.{install_idle, install_none, install_some}
use Rattle.gl_replication.proofs.node.Core.install.Goals as goal

pub returns-then-ledger_len-gt0-clause-steps : goal.returns-then-ledger_len-gt0-clause-steps
returns-then-ledger_len-gt0-clause-steps g c = λ b x n s m offered.
    stepped_as g.B.Book.stands (record { node = n; sent = []; outcome = outcomes.Idle })
    (install_idle b m n (omega (arith, c.if-ledger_len-gt0.true, c.ledger_len.ensures.value b _ s.ledger)))
    s (ap seen_outcome c.idle.ensures.outcome) (ap (map seen_message) c.idle.ensures.quiet)

pub returns-in-NoLaterSignature-clause-refused : goal.returns-in-NoLaterSignature-clause-refused
returns-in-NoLaterSignature-clause-refused g c = λ b x n s m offered.
    let none = subst (λ (offer : Offer). Offers g.B.Snapshots.shows offer b m) c.in-NoLaterSignature.is offered in
    let empty : length n.log ≡ 0 = omega (arith, c.if-ledger_len-gt0.false, c.ledger_len.ensures.value b _ s.ledger) in
    ap (λ (step : Step Entry g.row.B-Response.Denot g.row.B-Refused.Denot). step.outcome) (install_none b m n empty none.0)
    ∙ ap (λ commit. Refused (NoLaterSignature commit)) (sym none.1)

pub returns-in-Ok-clause-steps : goal.returns-in-Ok-clause-steps
returns-in-Ok-clause-steps g c = λ b x n s m offered.
    let some = subst (λ (offer : Offer). Offers g.B.Snapshots.shows offer b m) c.in-Snapshot.is offered in
    let empty : length n.log ≡ 0 = omega (arith, c.if-ledger_len-gt0.false, c.ledger_len.ensures.value b _ s.ledger) in
    let log = take (some.1 - 1) m.log in
    stepped_as g.B.Book.stands (record { node = begun_from b log n; sent = []; outcome = outcomes.Done }) (install_some b m n empty some.1 some.2)
    (c.in-Ok.ensures.begun b x n s log some.3) (ap seen_outcome c.done.ensures.outcome) (ap (map seen_message) c.done.ensures.quiet)
