use Rattle.std.proofs.Common.{◌∙◌, ap}
use Rattle.gl_store.specs.Tail.{Tail}
use Rattle.gl_store.proofs.Tails.{behind_with, kept_behind}
use Rattle.gl_store.proofs.ledger_tail.LedgerTail.copy.Goals as goal

pub invariant_of-result : goal.invariant_of-result
invariant_of-result c =
    let b = c.self.invariant in
    (b.0, behind_with b.0 _ c.self.inside.entries.items _ c.in_ok-copy.field-0 b.1 (c.in_ok-copy_entries.ensures ∙ c.deref.ensures.value) (c.in_ok-copy.ensures.state b.0 _ b.1.stands) (c.in_ok-copy.ensures.whole b.1.whole))

pub returns-clause-entries : goal.returns-clause-entries
returns-clause-entries c = c.in_ok-copy_entries.ensures ∙ c.deref.ensures.value ∙ ap (λ (t : Tail). t.entries) c.self.view_is

pub returns-clause-stands : goal.returns-clause-stands
returns-clause-stands c = λ body now.
    let s = kept_behind c.self.view_is body now in
    behind_with body _ c.self.inside.entries.items _ c.in_ok-copy.field-0 s (c.in_ok-copy_entries.ensures ∙ c.deref.ensures.value) (c.in_ok-copy.ensures.state body _ s.stands) (c.in_ok-copy.ensures.whole s.whole)
