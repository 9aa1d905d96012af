use Rattle.std.proofs.Common.{◌≡◌, ◌∙◌, ◌-◌, ℕ, true, false, length, take, Err, rules, sym, ap, subst}
use Rattle.gl_ledger.specs.Recordings.{last_entry}
use Rattle.gl_ledger.specs.Past.{is_unopened}
use Rattle.gl_audit.specs.Committed.{Held}
use Rattle.gl_store.specs.Kept.{IsKept}
use Rattle.gl_store.proofs.OpeningLedgers.{not_opening, opening_signed_by, kept_opened}
use Rattle.gl_store.proofs.store.Store.into_opened.Goals as goal

pub returns-then-not-ends_with_opening-clause-refused : goal.returns-then-not-ends_with_opening-clause-refused
returns-then-not-ends_with_opening-clause-refused c =
    let other : c.ends_with_opening.result ≡ false = search rules in
    not_opening c.args.self.ledger c.ledger_len-len.ensures.valid (sym c.ends_with_opening.ensures ∙ other) ∙ ap (λ (n : ℕ). Err n) (sym c.ledger_len-len.ensures.len)

pub invariant_of-self : goal.invariant_of-self
invariant_of-self c =
    let ends : c.ends_with_opening.result ≡ true = search rules in
    let t = c.self.inside.tail in
    let begun : is_unopened (last_entry (take (length t.entries - 1) t.entries)) ≡ true =
    subst (λ (h : Held). is_unopened (last_entry (take (length h.ledger - 1) h.ledger)) ≡ true) (sym c.self.view_is) (sym c.ends_with_opening.ensures ∙ ends) in
    subst (λ (n : ℕ). IsKept t n) (ap (λ (h : Held). length h.ledger) c.self.view_is ∙ sym c.ledger_len-len.ensures.len) (kept_opened t _ c.self.invariant begun)

pub returns-clause-opened : goal.returns-clause-opened
returns-clause-opened c =
    let ends : c.ends_with_opening.result ≡ true = search rules in
    let opened = opening_signed_by c.args.self.ledger c.ledger_len-len.ensures.valid c.ledger_len-len.ensures.sound (sym c.ends_with_opening.ensures ∙ ends) in
    record {
      node = opened.0;
      opened_by = opened.1;
      holds = ap (λ (h : Held). record { ledger = h.ledger; commit = c.ledger_len-len.result }) c.self.view_is
          ∙ ap (λ (n : ℕ). record { ledger = c.args.self.ledger; commit = n }) c.ledger_len-len.ensures.len;
    }
