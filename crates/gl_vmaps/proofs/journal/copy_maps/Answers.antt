use Rattle.std.proofs.Common.{◌∙◌}
use Rattle.gl_vmaps.proofs.CopyLaws.{maps-step, maps-end}
use Rattle.gl_vmaps.proofs.journal.copy_maps.Goals as goal

pub loop-map-preserved-in_ok-insert : goal.loop-map-preserved-in_ok-insert
loop-map-preserved-in_ok-insert c =
    maps-step c.args.maps.now.entries c.loop-map.copy c.insert.new.self c.loop-map.map-iterator c.next.new.self c.next.result c.in-Some.map c.in-Some.table c.in_ok-map.map c.in_ok-table.table
    c.loop-map.invariant c.in-Some.is c.next.ensures.steps c.in_ok-insert.ensures.updates (c.in_ok-map.ensures.items ∙ c.deref.ensures.value) c.in_ok-table.ensures

pub loop-map-preserved : goal.loop-map-preserved
loop-map-preserved c =
    maps-step c.args.maps.now.entries c.loop-map.copy c.insert.new.self c.loop-map.map-iterator c.next.new.self c.next.result c.in-Some.map c.in-Some.table c.in_ok-map.map c.in_ok-table.table
    c.loop-map.invariant c.in-Some.is c.next.ensures.steps c.in_ok-insert.ensures.updates (c.in_ok-map.ensures.items ∙ c.deref.ensures.value) c.in_ok-table.ensures

pub returns : goal.returns
returns c = maps-end c.args.maps.now.entries c.loop-map.copy c.loop-map.map-iterator c.next.new.self c.next.result c.loop-map.invariant c.in-None.is c.next.ensures.steps c.into_iter-map-iterator.ensures.into_iter_gives.5
