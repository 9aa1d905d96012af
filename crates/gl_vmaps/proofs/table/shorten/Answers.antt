use Rattle.std.proofs.Common.{◌≡◌, arith, take, length, ◌-◌, refl, ap, sym, ◌∙◌}
use Rattle.std.proofs.lemmas.Bool.Decides.{nat_tests}
use Rattle.gl_vmaps.specs.Chains.{chains_by}
use Rattle.gl_vmaps.proofs.ChainLaws.{chains_by-through, chain_of-through, nothing_to_take, none_by_length}
use Rattle.gl_vmaps.proofs.table.shorten.Goals as goal

pub returns-in-None-clause-rows : goal.returns-in-None-clause-rows
returns-in-None-clause-rows c =
    ap (λ m. chains_by m.entries) c.get_mut.follows.holds-at-none
    ∙ nothing_to_take c.args.rows.now.entries c.args.key.now (λ vs. take (length vs - 1) vs) refl (sym c.in-None.ensures.value)

pub returns-in-Some-clause-rows : goal.returns-in-Some-clause-rows
returns-in-Some-clause-rows c =
    let w = c.pop_back.new.self in
    chains_by-through c.args.rows.now (c.get_mut.follows.lender w) c.args.key.now c.in-Some.chain.now w (λ vs. take (length vs - 1) vs)
    c.in-Some.ensures.value (c.get_mut.follows.holds w).3
    (c.pop_back.ensures.rest ∙ ap (λ n. take (n - 1) c.in-Some.chain.now.items) c.in-Some.chain.now.ok.0)

pub returns-in-Some-clause-emptied : goal.returns-in-Some-clause-emptied
returns-in-Some-clause-emptied c = λ is.
    let w = c.pop_back.new.self in
    chain_of-through c.args.rows.now (c.get_mut.follows.lender w) c.args.key.now c.in-Some.chain.now w c.in-Some.ensures.value (c.get_mut.follows.holds w).3
    ∙ none_by_length w.items (let none : w.len ≡ 0 = grind (arith, nat_tests, is, c.is_empty.ensures) in sym w.ok.0 ∙ none)
