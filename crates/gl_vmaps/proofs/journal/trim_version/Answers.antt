use Rattle.std.proofs.Common.{refl, ap, sym, ◌∙◌}
use Rattle.gl_vmaps.specs.Chains.{maps_by, trimmed}
use Rattle.gl_vmaps.proofs.MapLaws.{maps_by-through, no_map}
use Rattle.gl_vmaps.proofs.journal.trim_version.Goals as goal

pub returns-in-None : goal.returns-in-None
returns-in-None c =
    ap (λ m. maps_by m.entries) c.get_mut.follows.holds-at-none
    ∙ no_map c.args.maps.now.entries c.args.map.now c.args.key.now (trimmed c.args.place) refl (sym c.in-None.ensures.value)

pub returns-in-Some : goal.returns-in-Some
returns-in-Some c =
    let w = c.trim.new.self in
    maps_by-through c.args.maps.now (c.get_mut.follows.lender w) c.args.map.now c.args.key.now c.in-Some.table.now w (trimmed c.args.place)
    c.in-Some.ensures.value (c.get_mut.follows.holds w).3 c.trim.ensures
