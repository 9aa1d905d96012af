use Rattle.std.proofs.Common.{[], ◌++◌, refl, subst}
use Rattle.std.specs.FinMap.{entries}
use Rattle.gl_vmaps.specs.RowsUpTo.{rows_up_to}
use Rattle.gl_vmaps.proofs.RowsUpToLaws.{all_rows, maps-begin, maps-first, maps-turn, maps-done, all-ordered, values-all}
use Rattle.gl_vmaps.proofs.journal.put_rows.Goals as goal

pub loop-map-init : goal.loop-map-init
loop-map-init g c = record {
  rows = [];
  taken = g.met.S.RowSink.nothing c.args.sink.now;
  turn = maps-begin c.args.to [] c.args.maps.now.entries c.into_iter-map-iterator.result
      c.into_iter-map-iterator.ensures.into_iter_gives.0 c.into_iter-map-iterator.ensures.into_iter_gives.5 c.requires;
}

pub put_rows-requires : goal.put_rows-requires
put_rows-requires g c =
    let so_far = c.loop-map.invariant in
    maps-first c.args.to so_far.rows _ c.loop-map.map-iterator c.next.new.self c.next.result c.in-Some.map c.in-Some.table c.deref.result.now
    so_far.turn c.in-Some.is c.next.ensures.steps c.deref.ensures.value

pub loop-map-preserved : goal.loop-map-preserved
loop-map-preserved g c =
    let so_far = c.loop-map.invariant in
    let more = rows_up_to c.args.to c.deref.result.now (entries c.in-Some.table.now) in
    record {
      rows = so_far.rows ++ more;
      taken = g.met.S.RowSink.further c.args.sink.now c.loop-map.sink c.put_rows.new.sink so_far.rows more so_far.taken c.in_ok-put_rows.ensures;
      turn = maps-turn c.args.to so_far.rows (so_far.rows ++ more) _ c.loop-map.map-iterator c.next.new.self c.next.result c.in-Some.map c.in-Some.table c.deref.result.now
          so_far.turn c.in-Some.is c.next.ensures.steps c.deref.ensures.value refl;
    }

pub returns : goal.returns
returns g c =
    let so_far = c.loop-map.invariant in
    let ascending = c.into_iter-map-iterator.ensures.into_iter_gives.5 in
    record {
      rows = all_rows c.args.to c.args.maps.now.entries;
      taken = subst (λ rows. g.S.RowSink.took c.args.sink.now rows c.loop-map.sink)
          (maps-done c.args.to so_far.rows _ c.loop-map.map-iterator c.next.new.self c.next.result so_far.turn c.in-None.is c.next.ensures.steps) so_far.taken;
      ascending = all-ordered c.args.to c.args.maps.now.entries ascending;
      values = values-all c.args.to c.args.maps.now.entries ascending;
    }
