use Rattle.std.proofs.Common.{◌≡◌, ℕ, ◌*◌, ◌∷◌, List, take, drop, get_or, set, bit_xor, refl, ◌∙◌, ap, arith}
use Rattle.std.proofs.lemmas.List.Edits.{fill_by_more}
use Rattle.std.proofs.lemmas.List.{length-set}
use Rattle.gl_shares.specs.Field.{field_product}
use Rattle.gl_shares.specs.Dealing.{value_at}
use Rattle.gl_shares.proofs.Steps.{each_byte-from}
use Rattle.gl_shares.proofs.dealing.values.Goals as goal

pub loop-byte-init : goal.loop-byte-init
loop-byte-init c = (refl, λ k h. absurd (omega arith))

pub loop-byte-preserved : goal.loop-byte-preserved
unfolding value_at
loop-byte-preserved c =
    let f : ℕ → ℕ = λ k. value_at (get_or c.args.secret.now k 0 ∷ take c.args.degree (drop (k * c.args.degree) c.args.above.now)) c.args.member in
    let coefficients : c.split_at-in-loop-byte.result.0.now ≡ take c.args.degree (drop (c.loop-byte.byte * c.args.degree) c.args.above.now) =
    c.split_at-in-loop-byte.ensures.front ∙ ap (take c.args.degree) c.split_at.ensures.back in
    let new : bit_xor (get_or c.args.secret.now c.loop-byte.byte 0) c.gf_mul.result ≡ f c.loop-byte.byte =
    ap (bit_xor (get_or c.args.secret.now c.loop-byte.byte 0))
    (c.gf_mul.ensures ∙ ap (field_product c.args.member) (c.value_at.ensures ∙ ap (λ (cs : List ℕ). value_at cs c.args.member) coefficients)) in (
      length-set c.loop-byte.value c.loop-byte.byte _ ∙ c.loop-byte.invariant.0,
      λ k h. ap (λ (v : ℕ). get_or (set c.loop-byte.value c.loop-byte.byte v) k 0) new
          ∙ fill_by_more f c.loop-byte.value c.loop-byte.byte 0 (omega (arith, c.loop-byte.invariant.0)) c.loop-byte.invariant.1 k h,
    )

pub returns : goal.returns
returns c = each_byte-from _ c.loop-byte.value c.loop-byte.invariant.0 (λ k h. c.loop-byte.invariant.1 k (omega arith))
