-- The row that is found is the first that isn't noted.
use Rattle.std.proofs.Common.{◌≡◌, ℕ, List, Some, true, false, ap, sym, ◌∙◌, rules}
use Rattle.gl_vmaps.specs.Versions.{is_to_map}
use Rattle.gl_attempt.specs.Asks.{is_noted}
use Rattle.gl_attempt.specs.declared.notes.Ask.TheVariants as asks
use Rattle.gl_attempt.proofs.AskLaws.{written_found}
use Rattle.gl_attempt.proofs.asks.written_ask.Goals as goal

pub returns-then-not-has_row : goal.returns-then-not-has_row
returns-then-not-has_row c =
    let to : is_to_map c.args.map.now c.write-item.result ≡ true =
    ap (λ (m : List ℕ). is_to_map m c.write-item.result) (sym c.as_slice.ensures.value) ∙ sym c.is_to_map.ensures ∙ c.if-is_to_map.true in
    let absent : c.has_row.result ≡ false = first_of (cc, search rules) in
    let new : is_noted c.args.overlay.now.base.now (asks.Row c.args.map.now c.write-item.result.key) ≡ false =
    ap (λ (m : List ℕ). is_noted c.args.overlay.now.base.now (asks.Row m c.write-item.result.key)) (sym c.as_slice-then-is_to_map.ensures.value)
    ∙ ap (λ (k : List ℕ). is_noted c.args.overlay.now.base.now (asks.Row c.as_slice-then-is_to_map.result.now k)) (sym c.as_slice-then-is_to_map-2.ensures.value)
    ∙ sym c.has_row.ensures ∙ absent in
    ap (λ (m : List ℕ). Some (asks.Row m c.in_ok-copy-2.field-0)) c.in_ok-copy.ensures
    ∙ ap (λ (k : List ℕ). Some (asks.Row c.args.map.now k)) c.in_ok-copy-2.ensures
    ∙ sym (written_found c.args.overlay.now.base.now c.args.map.now c.as_slice-write-items.result.now c.loop-write.write-index c.write-item.result
    c.loop-write-test.true c.write-item.is to new)
    ∙ c.loop-write.invariant
