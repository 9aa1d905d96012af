use Rattle.std.proofs.Common.{◌≡◌, ◌-◌, ◌∙◌, ℕ, List, ap, ap₂}
use Rattle.std.specs.Option.{option_copied}
use Rattle.gl_rules.specs.Log.{entry_at}
use Rattle.gl_entry.specs.declared.entry.Entry.{Entry}
use Rattle.gl_store.proofs.Tails.{base_is, found_fits, found_numbered, fits_each, seen}
use Rattle.gl_store.proofs.ledger_tail.LedgerTail.entry.Goals as goal

pub returns-clause-entry : goal.returns-clause-entry
returns-clause-entry c =
    seen c.self.view_is (λ body t. option_copied c.entry_at.result ≡ entry_at t.entries (c.args.seqno - body.base))
    (λ body s. let base = base_is body _ s in
    let place : c.saturating_sub.result ≡ c.args.seqno - body.base = c.saturating_sub.ensures ∙ ap (λ (n : ℕ). c.args.seqno - n) base in
    c.entry_at.ensures ∙ ap₂ (λ (es : List Entry) (n : ℕ). entry_at es n) c.deref.ensures.value place)

pub returns-clause-fits : goal.returns-clause-fits
returns-clause-fits c =
    let b = c.self.invariant in
    found_fits c.self.inside.entries.items c.saturating_sub.result c.entry_at.result (fits_each b.0 _ b.1.stands.valid) (c.entry_at.ensures ∙ ap (λ (es : List Entry). entry_at es c.saturating_sub.result) c.deref.ensures.value)

pub returns-clause-numbered : goal.returns-clause-numbered
returns-clause-numbered c =
    let b = c.self.invariant in
    let base = base_is b.0 _ b.1 in
    let place : c.saturating_sub.result ≡ c.args.seqno - b.0.base = c.saturating_sub.ensures ∙ ap (λ (n : ℕ). c.args.seqno - n) base in
    found_numbered b.0 c.self.inside.entries.items c.args.seqno c.entry_at.result b.1.stands.valid
    (c.entry_at.ensures ∙ ap₂ (λ (es : List Entry) (n : ℕ). entry_at es n) c.deref.ensures.value place)
