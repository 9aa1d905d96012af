use Rattle.std.proofs.Common.{take_all, ℕ, ◌+◌, List, take, get_or, bit_xor, refl, sym, ◌∙◌, ap, ap₂, arith}
use Rattle.gl_shares.specs.declared.share.Share.{Share}
use Rattle.gl_shares.specs.Field.{field_product}
use Rattle.gl_shares.specs.Dealing.{each_byte}
use Rattle.gl_shares.specs.Joining.{weighted_sum, joined, members_of}
use Rattle.gl_shares.proofs.Steps.{weighted_sum-more, each_byte-same, get_or-each_byte}
use Rattle.gl_shares.proofs.joining.join.Goals as goal

pub loop-share-init : goal.loop-share-init
unfolding each_byte weighted_sum
loop-share-init c = refl

pub loop-share-preserved : goal.loop-share-preserved
loop-share-preserved c =
    let shares : List Share = c.args.shares.now in
    let members : List ℕ = members_of shares in
    let i : ℕ = c.loop-share.share-index in
    c.add_weighted.ensures
    ∙ each_byte-same _ (weighted_sum members (take (i + 1) shares)) (λ k h.
    ap₂ bit_xor (ap (λ (s : List ℕ). get_or s k 0) c.loop-share.invariant ∙ get_or-each_byte (weighted_sum members (take i shares)) k h) (ap (field_product _) c.weight.ensures)
    ∙ sym (weighted_sum-more members shares i _ k c.loop-share-test.true))

pub returns : goal.returns
unfolding joined
returns c =
    let shares : List Share = c.args.shares.now in
    c.loop-share.invariant
    ∙ ap (λ (s : List Share). each_byte (weighted_sum (members_of shares) s)) (take_all c.loop-share.share-index shares (omega arith))
