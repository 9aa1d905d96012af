use Rattle.std.proofs.Common.{◌≡◌, ◌∙◌, ◌+◌, ◌==◌, ℕ, None, length, ap, subst, sym, arith}
use Rattle.std.proofs.lemmas.Result.{err_from_is_err_and}
use Rattle.gl_gov_rules.specs.Changes.{history}
use Rattle.gl_gov_rules.specs.Refusals.{refusal}
use Rattle.gl_ledger.specs.Ledger.{governance_entry}
use Rattle.gl_ledger.specs.Recordings.{requests_of}
use Rattle.gl_snapshot_body.specs.Body.{no_body}
use Rattle.gl_audit.specs.Committed.{Held}
use Rattle.gl_audit.specs.GovState.{Refuses}
use Rattle.gl_store.proofs.KeptEntries.{held_still, kept_becomes, none_below}
use Rattle.gl_store.proofs.store.Store.governance_entry.Goals as goal

pub governance_entry-requires-clause-founding : goal.governance_entry-requires-clause-founding
governance_entry-requires-clause-founding c = λ body s.
    let none = none_below c.self.inside.tail _ body c.self.invariant s in
    let same : length c.self.inside.tail.entries ≡ body.base + length c.self.inside.tail.entries = omega (arith, none) in
    c.requires.founding ∙ ap (λ (h : Held). length h.ledger == 0) (sym c.self.view_is) ∙ ap (λ (n : ℕ). n == 0) same

pub returns-clause-accepted : goal.returns-clause-accepted
returns-clause-accepted c =
    subst (λ (h : Held). refusal (history (requests_of h.ledger)) (length h.ledger + 1) c.args.request.now ≡ None) c.self.view_is (c.in_ok-entry.ensures.accepted no_body c.self.invariant.stands)

pub returns-clause-made : goal.returns-clause-made
returns-clause-made c = subst (λ (h : Held). c.in_ok-entry.entry ≡ governance_entry c.args.request.now h.ledger c.args.view) c.self.view_is (c.in_ok-entry.ensures.made no_body c.self.invariant.stands)

pub returns-clause-kept : goal.returns-clause-kept
returns-clause-kept c = held_still c.self.inside.tail c.governance_entry.new.self c.self.inside.commit c.args.self.now c.self.view_is c.governance_entry.ensures.kept

pub invariant_of-self : goal.invariant_of-self
invariant_of-self c = kept_becomes c.self.inside.tail c.governance_entry.new.self _ c.self.invariant c.governance_entry.ensures.kept

pub invariant_of-self-2 : goal.invariant_of-self-2
invariant_of-self-2 c = kept_becomes c.self.inside.tail c.governance_entry.new.self _ c.self.invariant c.governance_entry.ensures.kept

-- refused, or memory ran out
pub returns-in_err-entry-clause-refused : goal.returns-in_err-entry-clause-refused
returns-in_err-entry-clause-refused c =
    let p = err_from_is_err_and c.from_residual.result c.from_residual.ensures.1 in
    let refused =
    subst (λ (h : Held). Refuses (refusal (history (requests_of h.ledger)) (length h.ledger + 1) c.args.request.now) c.in_err-entry.field-0.0) c.self.view_is
    (c.in_err-entry.ensures.refused no_body c.self.invariant.stands) in
    rw (p.1, p.2) refused
