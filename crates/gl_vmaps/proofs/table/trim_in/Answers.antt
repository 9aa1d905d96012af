use Rattle.std.proofs.Common.{refl, ap, sym, ◌∙◌}
use Rattle.gl_vmaps.specs.Chains.{chains_by, trimmed}
use Rattle.gl_vmaps.proofs.ChainLaws.{chains_by-through, nothing_to_take}
use Rattle.gl_vmaps.proofs.table.trim_in.Goals as goal

pub returns-in-None : goal.returns-in-None
returns-in-None c =
    ap (λ m. chains_by m.entries) c.get_mut.follows.holds-at-none
    ∙ nothing_to_take c.args.rows.now.entries c.args.key.now (trimmed c.args.place) refl (sym c.in-None.ensures.value)

pub returns-in-Some : goal.returns-in-Some
returns-in-Some c =
    let w = c.trim.new.chain in
    chains_by-through c.args.rows.now (c.get_mut.follows.lender w) c.args.key.now c.in-Some.chain.now w (trimmed c.args.place)
    c.in-Some.ensures.value (c.get_mut.follows.holds w).3 c.trim.ensures
