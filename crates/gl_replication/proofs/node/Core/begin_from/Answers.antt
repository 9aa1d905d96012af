use Rattle.std.proofs.Common.{◌≡◌, length, ap, subst, ◌∙◌, arith}
use Rattle.gl_entry.specs.declared.entry.Entry.{Entry}
use Rattle.gl_rules.specs.Log.{view_at}
use Rattle.gl_rules.specs.Node.{Node}
use Rattle.gl_replication.specs.Stands.{StandsFor}
use Rattle.gl_replication.proofs.Installs.{begun_here, begun_later, installed}
use Rattle.gl_replication.proofs.node.Core.begin_from.Goals as goal

pub returns-then-view-self-clause-begun : goal.returns-then-view-self-clause-begun
returns-then-view-self-clause-begun g c = λ b x n s log shown.
    let ledger = c.in_ok-install.ensures.begun b _ s.ledger log shown in
    let len : c.ledger_len-self.result ≡ length log = c.ledger_len-self.ensures.value b _ ledger in
    let view : c.view_at-view.result ≡ view_at b log (length log) = c.view_at-view.ensures b _ ledger ∙ ap (view_at b log) len in
    subst (λ (m : Node Entry). StandsFor g.B.Book.stands c.begin_view.new.self b x m)
    (begun_later b log n c.view_at-view.result (c.requires.empty b _ s.ledger) view (omega (arith, c.if-view-self.true, ap (λ (m : Node Entry). m.view) s.same)))
    (c.begin_view.ensures.turns b x _ (installed g.B.Book.stands s c.install.new.self c.ledger_len-self.result log len ledger))

pub returns-else-view-self-clause-begun : goal.returns-else-view-self-clause-begun
returns-else-view-self-clause-begun g c = λ b x n s log shown.
    let ledger = c.in_ok-install.ensures.begun b _ s.ledger log shown in
    let len : c.ledger_len-self.result ≡ length log = c.ledger_len-self.ensures.value b _ ledger in
    let view : c.view_at-view.result ≡ view_at b log (length log) = c.view_at-view.ensures b _ ledger ∙ ap (view_at b log) len in
    subst (λ (m : Node Entry). StandsFor g.B.Book.stands (record c.args.self.now { book = c.install.new.self; commit = c.ledger_len-self.result }) b x m)
    (begun_here b log n c.view_at-view.result view (omega (arith, c.if-view-self.false, ap (λ (m : Node Entry). m.view) s.same)))
    (installed g.B.Book.stands s c.install.new.self c.ledger_len-self.result log len ledger)
