use Rattle.std.proofs.Common.{None, ap, sym, ◌∙◌}
use Rattle.std.specs.List.{last_or}
use Rattle.gl_vmaps.proofs.ChainLaws.{items_of, chain_of-by, back-last}
use Rattle.gl_vmaps.proofs.table.last_of.Goals as goal

pub returns-in-None : goal.returns-in-None
returns-in-None c = ap (λ o. last_or None (items_of o)) c.in-None.ensures.value ∙ ap (last_or None) (sym (chain_of-by c.args.rows.now.entries c.args.key.now))

pub returns-in-Some : goal.returns-in-Some
returns-in-Some c =
    back-last c.back.result c.in-Some.chain.now.items c.in-Some.chain.now.len c.in-Some.chain.now.ok.0 c.back.ensures.variant c.back.ensures.lookup
    ∙ ap (λ o. last_or None (items_of o)) c.in-Some.ensures.value ∙ ap (last_or None) (sym (chain_of-by c.args.rows.now.entries c.args.key.now))
