use Rattle.std.proofs.Common.{refl, ap, sym, ◌∙◌}
use Rattle.gl_vmaps.specs.Chains.{maps_by, without_last}
use Rattle.gl_vmaps.proofs.MapLaws.{maps_by-through, rows_in-through, no_map, newest-here}
use Rattle.gl_vmaps.proofs.journal.shorten.Goals as goal

pub pop-requires : goal.pop-requires
pop-requires c = newest-here c.args.maps.now.entries c.args.map.now c.args.key.now c.in-Some.table.now c.args.before c.in-Some.ensures.value c.requires

pub returns-in-None-clause-maps : goal.returns-in-None-clause-maps
returns-in-None-clause-maps c =
    ap (λ m. maps_by m.entries) c.get_mut.follows.holds-at-none
    ∙ no_map c.args.maps.now.entries c.args.map.now c.args.key.now without_last refl (sym c.in-None.ensures.value)

pub returns-in-Some-clause-maps : goal.returns-in-Some-clause-maps
returns-in-Some-clause-maps c =
    let w = c.pop.new.self in
    maps_by-through c.args.maps.now (c.get_mut.follows.lender w) c.args.map.now c.args.key.now c.in-Some.table.now w without_last
    c.in-Some.ensures.value (c.get_mut.follows.holds w).3 c.pop.ensures

pub returns-in-Some-clause-emptied : goal.returns-in-Some-clause-emptied
returns-in-Some-clause-emptied c = λ is.
    let w = c.pop.new.self in
    rows_in-through c.args.maps.now (c.get_mut.follows.lender w) c.args.map.now c.in-Some.table.now w c.in-Some.ensures.value (c.get_mut.follows.holds w).3
    ∙ c.is_empty.ensures is
