use Rattle.std.proofs.Common.{◌≡◌, ◌≤◌, ◌-◌, ◌∙◌, List, length, Option, None, Some, Bor, IfSome, sym, ap, subst, arith}
use Rattle.std.specs.Option.{option_copied}
use Rattle.gl_entry.specs.declared.entry.Entry.{Entry}
use Rattle.gl_snapshot_body.specs.Body.{no_body}
use Rattle.gl_audit.specs.Committed.{Held}
use Rattle.gl_receipt.specs.Made.{Ledger, entry_at, signature_above}
use Rattle.gl_receipt.proofs.MakeLemmas.{within}
use Rattle.gl_store.specs.Tail.{ForBodies, StandsBehind, Tail}
use Rattle.gl_store.proofs.KeptEntries.{none_below}
use Rattle.gl_store.proofs.store.receipts.StoreCommittedLedger.signature_above.Goals as goal

-- what stands at its seqno is among the entries
held : (es : List Entry) (o : Option (Bor Entry)) → IfSome o (λ e. entry_at es e.now.seqno ≡ option_copied o) → IfSome o (λ e. e.now.seqno ≤ length es)
held es None at = tt
held es (Some e) at = (within es e.now.seqno e.now at).1

-- it stands there in the whole ledger
whole : (t : Tail) (o : Option (Bor Entry)) → StandsBehind no_body t → IfSome o (λ e. ForBodies t (λ body. entry_at t.entries (e.now.seqno - body.base) ≡ option_copied o)) →
    IfSome o (λ e. entry_at t.entries e.now.seqno ≡ option_copied o)
whole t None s there = tt
whole t (Some e) s there = let all : e.now.seqno - 0 ≡ e.now.seqno = omega arith in ap (entry_at t.entries) (sym all) ∙ there no_body s

pub first_signature_above-requires : goal.first_signature_above-requires
first_signature_above-requires c = record { from_base = λ body s. let none = none_below c.self.inside.tail _ body c.self.invariant s in omega (arith, none) }

pub returns-clause-first : goal.returns-clause-first
returns-clause-first c = λ l s.
    let all : c.args.seqno - 0 ≡ c.args.seqno = omega arith in
    c.first_signature_above.ensures.first no_body c.self.invariant.stands ∙ ap (signature_above c.self.inside.tail.entries) all
    ∙ ap (λ (h : Held). signature_above h.ledger c.args.seqno) c.self.view_is ∙ sym (ap (λ (m : Ledger). signature_above m.entries c.args.seqno) s)

pub returns-clause-within : goal.returns-clause-within
returns-clause-within c =
    subst (λ (h : Held). IfSome c.first_signature_above.result (λ e. e.now.seqno ≤ length h.ledger)) c.self.view_is
    (held c.self.inside.tail.entries c.first_signature_above.result (whole c.self.inside.tail c.first_signature_above.result c.self.invariant.stands c.first_signature_above.ensures.numbered))

pub returns-clause-numbered : goal.returns-clause-numbered
returns-clause-numbered c = λ l s.
    subst (λ (m : Ledger). IfSome c.first_signature_above.result (λ e. entry_at m.entries e.now.seqno ≡ option_copied c.first_signature_above.result)) (sym s)
    (subst (λ (h : Held). IfSome c.first_signature_above.result (λ e. entry_at h.ledger e.now.seqno ≡ option_copied c.first_signature_above.result)) c.self.view_is
    (whole c.self.inside.tail c.first_signature_above.result c.self.invariant.stands c.first_signature_above.ensures.numbered))
