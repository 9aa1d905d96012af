use Rattle.std.proofs.Common.{◌≡◌, ◌≤◌, arith, [], ◌∷◌, ◌++◌, ap, sym, ◌∙◌, subst}
use Rattle.gl_vmaps.specs.Kept.{Chains}
use Rattle.gl_vmaps.specs.Chains.{maps_by, rows_in, newest_place}
use Rattle.gl_vmaps.proofs.ChainLaws.{on_err, newest-empty}
use Rattle.gl_vmaps.proofs.MapLaws.{maps_by-through, maps_by-new, maps_by-kept, rows_in-by, rows_of}
use Rattle.gl_vmaps.proofs.journal.push_version.Goals as goal

pub push-requires : goal.push-requires
push-requires c =
    let rows : rows_in (maps_by c.args.maps.now.entries) c.args.map.now ≡ c.in-Some.table.now =
    rows_in-by c.args.maps.now.entries c.args.map.now ∙ sym (ap rows_of c.in-Some.ensures.value) in
    subst (λ (t : Chains). newest_place t ≤ c.args.version.place) rows c.requires

pub push-requires-in-None : goal.push-requires-in-None
push-requires-in-None c = let none : newest_place c.new-table.result ≡ 0 = ap newest_place c.new-table.ensures ∙ newest-empty in omega (arith, none)

pub returns-in_err-push-in-Some-clause-err : goal.returns-in_err-push-in-Some-clause-err
returns-in_err-push-in-Some-clause-err c =
    let w = c.push.new.self in
    on_err c.from_residual.result _
    (maps_by-kept c.args.maps.now (c.get_mut.follows.lender w) c.args.map.now c.in-Some.table.now w
    c.in-Some.ensures.value (c.get_mut.follows.holds w).3 c.in_err-push-in-Some.ensures.err)

pub returns-in_ok-push-in-Some-clause-ok : goal.returns-in_ok-push-in-Some-clause-ok
returns-in_ok-push-in-Some-clause-ok c =
    let w = c.push.new.self in
    maps_by-through c.args.maps.now (c.get_mut.follows.lender w) c.args.map.now c.args.key.now c.in-Some.table.now w (λ vs. vs ++ c.args.version ∷ [])
    c.in-Some.ensures.value (c.get_mut.follows.holds w).3 c.in_ok-push-in-Some.ensures.ok

pub returns-in_ok-insert-in-None-clause-ok : goal.returns-in_ok-insert-in-None-clause-ok
returns-in_ok-insert-in-None-clause-ok c =
    maps_by-new c.args.maps.now c.get_mut.follows.lender-at-none c.insert.new.self c.args.map.now c.args.key.now c.in_ok-from_slice-in-None.field-0 c.new-table.result c.push-in-None.new.self c.args.version
    c.get_mut.follows.holds-at-none (sym c.in-None.ensures.value) c.in_ok-insert-in-None.ensures.updates
    c.in_ok-from_slice-in-None.ensures.items c.new-table.ensures c.in_ok-push-in-None.ensures.ok
