use Rattle.std.proofs.Common.{◌≢◌, All, AllPairs, sym, ◌∙◌, subst, arith}
use Rattle.gl_consortium.proofs.MemberLemmas.{bytes_are, deals, distinct, not_zero}
use Rattle.gl_consortium.proofs.text.dealt.Goals as goal

pub member_bytes-requires : goal.member_bytes-requires
member_bytes-requires c = bytes_are c.args.threshold c.args.numbers.now c.requires

pub overflow_cast-threshold : goal.overflow_cast-threshold
overflow_cast-threshold c = let can = deals c.args.threshold c.args.numbers.now c.requires in omega (arith, can.byte)

pub deal-requires-clause-distinct : goal.deal-requires-clause-distinct
deal-requires-clause-distinct c =
    subst (AllPairs ◌≢◌) (sym (c.deref.ensures.value ∙ c.in_ok-members.ensures)) (distinct c.args.threshold c.args.numbers.now c.requires)

pub deal-requires-clause-not_zero : goal.deal-requires-clause-not_zero
deal-requires-clause-not_zero c =
    subst (All (λ n. n ≢ 0)) (sym (c.deref.ensures.value ∙ c.in_ok-members.ensures)) (not_zero c.args.threshold c.args.numbers.now c.requires)
