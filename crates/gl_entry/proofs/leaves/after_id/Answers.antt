use Rattle.std.proofs.Common.{◌≡◌, ◌≢◌, ℕ, List, [], ◌∷◌, ◌++◌, IfNone, ap, ◌∙◌, subst}
use Rattle.std.specs.Prelude.{decimal}
use Rattle.gl_entry.proofs.Remainders.{not_then, none_is, none_then}
use Rattle.gl_entry.proofs.leaves.after_id.Goals as goal

pub returns-in_err-rest-2-clause-none : goal.returns-in_err-rest-2-clause-none
returns-in_err-rest-2-clause-none c =
    let view = c.as_bytes.ensures.value ∙ c.format.ensures.text in
    let first = c.in_ok-rest.ensures.some ∙ ap (λ (xs : List ℕ). xs ++ c.in_ok-rest.rest.now) view in
    none_is c.from_residual-in_err-rest-2.result _
    (not_then (decimal c.args.id.view) (46 ∷ decimal c.args.id.seqno) c.in_ok-rest.rest.now c.args.text.now first
    (λ rest e. c.in_err-rest-2.ensures.none (decimal c.args.id.seqno ++ rest) e))

pub returns-clause-none : goal.returns-clause-none
returns-clause-none c =
    let view = c.as_bytes.ensures.value ∙ c.format.ensures.text in
    let seqno = c.as_bytes-2.ensures.value ∙ c.format-2.ensures.text in
    let first = c.in_ok-rest.ensures.some ∙ ap (λ (xs : List ℕ). xs ++ c.in_ok-rest.rest.now) view in
    let last = subst (λ (xs : List ℕ). IfNone c.suffix-3.result ((rest : List ℕ) → c.in_ok-rest-2.rest.now ≢ xs ++ rest)) seqno c.suffix-3.ensures.none in
    none_then c.suffix-3.result (decimal c.args.id.view) (46 ∷ decimal c.args.id.seqno) c.in_ok-rest.rest.now c.args.text.now first
    (none_then c.suffix-3.result (46 ∷ []) (decimal c.args.id.seqno) c.in_ok-rest-2.rest.now c.in_ok-rest.rest.now c.in_ok-rest-2.ensures.some last)
