use Rattle.std.proofs.Common.{None, [], ◌∷◌, ◌++◌, is_some, ap, sym, ◌∙◌}
use Rattle.std.specs.List.{last_or}
use Rattle.std.specs.Option.{option_and_then}
use Rattle.gl_vmaps.specs.Kept.{last_value}
use Rattle.gl_vmaps.specs.declared.table.Version.{Version}
use Rattle.gl_vmaps.proofs.ChainLaws.{items_of, chain_of-by, back-last, chains_by-through, chains_by-same, chains_by-new, on_err}
use Rattle.gl_vmaps.proofs.table.push_into.Goals as goal

pub returns-in_err-push_back-in-Some-clause-err : goal.returns-in_err-push_back-in-Some-clause-err
returns-in_err-push_back-in-Some-clause-err c =
    let w = c.push_back.new.self in
    on_err c.from_residual.result _
    (chains_by-through c.args.rows.now (c.get_mut.follows.lender w) c.args.key.now c.in-Some.chain.now w (λ vs. vs)
    c.in-Some.ensures.value (c.get_mut.follows.holds w).3 c.in_err-push_back-in-Some.ensures.items
    ∙ chains_by-same c.args.rows.now.entries c.args.key.now)

pub returns-in_ok-push_back-in-Some-clause-ok : goal.returns-in_ok-push_back-in-Some-clause-ok
returns-in_ok-push_back-in-Some-clause-ok c =
    let w = c.push_back.new.self in
    chains_by-through c.args.rows.now (c.get_mut.follows.lender w) c.args.key.now c.in-Some.chain.now w (λ vs. vs ++ c.args.version ∷ [])
    c.in-Some.ensures.value (c.get_mut.follows.holds w).3 c.in_ok-push_back-in-Some.ensures.items

pub returns-in_ok-insert-in-None-clause-ok : goal.returns-in_ok-insert-in-None-clause-ok
returns-in_ok-insert-in-None-clause-ok c =
    chains_by-new c.args.rows.now c.get_mut.follows.lender-at-none c.insert.new.self c.args.key.now c.in_ok-from_slice-in-None.field-0 c.in_ok-chain-in-None.chain c.push_back-in-None.new.self c.args.version
    c.get_mut.follows.holds-at-none (sym c.in-None.ensures.value) c.in_ok-insert-in-None.ensures.updates
    c.in_ok-from_slice-in-None.ensures.items c.in_ok-chain-in-None.ensures.items c.in_ok-push_back-in-None.ensures.items

pub returns-in_ok-push_back-in-Some-clause-had : goal.returns-in_ok-push_back-in-Some-clause-had
returns-in_ok-push_back-in-Some-clause-had c =
    let last =
    back-last c.back.result c.in-Some.chain.now.items c.in-Some.chain.now.len c.in-Some.chain.now.ok.0 c.back.ensures.variant c.back.ensures.lookup
    ∙ ap (λ o. last_or None (items_of o)) c.in-Some.ensures.value
    ∙ ap (last_or None) (sym (chain_of-by c.args.rows.now.entries c.args.key.now)) in
    c.has_value-had.ensures ∙ ap (λ o. is_some (option_and_then (λ (v : Version). v.value) o)) last

pub returns-in_ok-insert-in-None-clause-had : goal.returns-in_ok-insert-in-None-clause-had
returns-in_ok-insert-in-None-clause-had c =
    ap (λ o. is_some (last_value (items_of o))) c.in-None.ensures.value
    ∙ ap (λ vs. is_some (last_value vs)) (sym (chain_of-by c.args.rows.now.entries c.args.key.now))
