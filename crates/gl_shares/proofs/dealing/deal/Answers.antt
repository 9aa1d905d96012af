use Rattle.std.proofs.Common.{◌≡◌, ℕ, ◌-◌, ◌*◌, ◌∷◌, [], ◌++◌, List, length, map, take, drop, get_or, sym, ◌∙◌, ap, ap₂}
use Rattle.std.specs.List.{range_with_len}
use Rattle.std.proofs.lemmas.List.{take_more, map-append}
use Rattle.std.proofs.lemmas.List.FromFn.{length-map-range_with_len}
use Rattle.gl_shares.specs.declared.share.Share.{Share}
use Rattle.gl_shares.specs.Dealing.{each_byte, value_at, drawn, share_of, polynomials_of}
use Rattle.gl_shares.proofs.Steps.{each_byte-values}
use Rattle.gl_shares.proofs.dealing.deal.Goals as goal

pub values-requires : goal.values-requires
values-requires c =
    ap length (c.deref.ensures.value ∙ c.in_ok-above.ensures)
    ∙ length-map-range_with_len (drawn c.args.seed) 0 (32 * (c.from-degree.result - 1))

pub loop-member-preserved : goal.loop-member-preserved
loop-member-preserved c =
    let secret : List ℕ = c.args.secret.now in
    let seed : List ℕ = c.args.seed in
    let k : ℕ = c.args.threshold in
    let members : List ℕ = c.args.members.now in
    let i : ℕ = c.loop-member.member-index in
    let member : ℕ = get_or members i 0 in
    let above : List ℕ = c.deref.result.now in
    let row : above ≡ map (drawn seed) (range_with_len 0 (32 * (k - 1))) =
    c.deref.ensures.value ∙ c.in_ok-above.ensures ∙ ap (λ (n : ℕ). map (drawn seed) (range_with_len 0 (32 * (n - 1)))) c.from-degree.ensures in
    let value : c.values.result ≡ map (λ p. value_at p member) (polynomials_of secret k seed) =
    c.values.ensures
    ∙ ap (λ (n : ℕ). each_byte (λ byte. value_at (get_or secret byte 0 ∷ take (n - 1) (drop (byte * (n - 1)) above)) member)) c.from-degree.ensures
    ∙ each_byte-values secret seed above k member row in
    let share : ℕ → Share = share_of (polynomials_of secret k seed) in
    c.in_ok-push.ensures.items
    ∙ ap₂ (λ (s : List Share) (v : List ℕ). s ++ record { member = member; value = v } ∷ []) c.loop-member.invariant value
    ∙ sym (ap (map share) (take_more members i 0 c.loop-member-test.true) ∙ map-append share (take i members) (member ∷ []))
