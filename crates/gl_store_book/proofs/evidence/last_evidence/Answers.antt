use Rattle.std.proofs.Common.{◌≡◌, ℕ, ◌+◌, option_map, sym, ap, ◌∙◌, arith}
use Rattle.gl_rules.specs.Replication.{greatest_evidence}
use Rattle.gl_ledger.specs.NodeKeys.{service_layers}
use Rattle.gl_ledger.specs.LedgerBook.{ledger_book}
use Rattle.gl_store_book.proofs.Evidences.{evidence_at, evidence_none, evidence_within}
use Rattle.gl_store_book.proofs.evidence.last_evidence.Goals as goal

pub loop-place-init : goal.loop-place-init
loop-place-init c =
    let es = c.args.entries.now in
    let least = c.min-place.ensures in
    let above = c.saturating_sub.ensures in
    record {
      within = omega (arith, least);
      none = λ keys.
          ap (greatest_evidence (ledger_book service_layers keys) es 0) least ∙ evidence_within (ledger_book service_layers keys) es c.saturating_sub.result
          ∙ ap (greatest_evidence (ledger_book service_layers keys) es 0) above;
    }

pub returns-then-is_evidence : goal.returns-then-is_evidence
returns-then-is_evidence c = λ keys.
    let l = c.loop-place in
    let e = c.index-entries-place.result in
    ap (option_map (λ (n : ℕ). c.args.base + n))
    (sym (evidence_at (ledger_book service_layers keys) c.args.entries.now l.place e _ c.loop-place-test.true l.invariant.within c.index-entries-place.is (sym c.is_evidence.ensures ∙ c.if-is_evidence.true)) ∙ l.invariant.none keys)

pub loop-place-preserved : goal.loop-place-preserved
loop-place-preserved c =
    let l = c.loop-place in
    let low = l.invariant.within in
    let e = c.index-entries-place.result in
    record {
      within = omega (arith, low);
      none = λ keys. sym (evidence_at (ledger_book service_layers keys) c.args.entries.now l.place e _ c.loop-place-test.true low c.index-entries-place.is (sym c.is_evidence.ensures ∙ c.if-is_evidence.false)) ∙ l.invariant.none keys;
    }

pub returns : goal.returns
returns c = λ keys.
    let none : c.loop-place.place ≡ 0 = omega (arith, c.loop-place-test.false) in
    ap (option_map (λ (n : ℕ). c.args.base + n))
    (sym (evidence_none (ledger_book service_layers keys) c.args.entries.now) ∙ ap (greatest_evidence (ledger_book service_layers keys) c.args.entries.now 0) (sym none) ∙ c.loop-place.invariant.none keys)
