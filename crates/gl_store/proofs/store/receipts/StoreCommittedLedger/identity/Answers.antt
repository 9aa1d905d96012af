use Rattle.std.proofs.Common.{◌≡◌, ◌≤◌, ◌-◌, ◌∙◌, ℕ, length, take, sym, ap, subst, arith}
use Rattle.gl_ledger.specs.ServiceRow.{identity_in}
use Rattle.gl_ledger.specs.Tree.{tables_of}
use Rattle.gl_snapshot_body.specs.Body.{no_body}
use Rattle.gl_audit.specs.Committed.{Held}
use Rattle.gl_receipt.specs.Made.{Ledger}
use Rattle.gl_store.proofs.KeptEntries.{none_below}
use Rattle.gl_store.proofs.store.receipts.StoreCommittedLedger.identity.Goals as goal

pub identity_at-requires-clause-from_base : goal.identity_at-requires-clause-from_base
identity_at-requires-clause-from_base c = λ body s. let none = none_below c.self.inside.tail _ body c.self.invariant s in omega (arith, none)

pub identity_at-requires-clause-within : goal.identity_at-requires-clause-within
identity_at-requires-clause-within c = λ body s.
    let within : c.args.seqno ≤ length c.self.inside.tail.entries = subst (λ (h : Held). c.args.seqno ≤ length h.ledger) (sym c.self.view_is) c.requires.within in
    omega (arith, within)

pub returns : goal.returns
returns c = λ l s.
    let all : c.args.seqno - 0 ≡ c.args.seqno = omega arith in
    c.identity_at.ensures no_body c.self.invariant.stands ∙ ap (λ (n : ℕ). identity_in (tables_of (take n c.self.inside.tail.entries))) all
    ∙ ap (λ (h : Held). identity_in (tables_of (take c.args.seqno h.ledger))) c.self.view_is ∙ sym (ap (λ (m : Ledger). m.identity c.args.seqno) s)
