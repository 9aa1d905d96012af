use Rattle.std.proofs.Common.{[], ◌++◌, refl, subst}
use Rattle.gl_vmaps.specs.RowsUpTo.{row_up_to}
use Rattle.gl_vmaps.proofs.RowsUpToLaws.{chains-begin, chains-first, chains-turn, chains-done}
use Rattle.gl_vmaps.proofs.table.Table.put_rows.Goals as goal

pub loop-key-init : goal.loop-key-init
loop-key-init g c = record {
  rows = [];
  taken = g.met.S.RowSink.nothing c.args.sink.now;
  turn = chains-begin c.args.to c.args.map.now [] c.self.inside.rows.entries c.into_iter-key-iterator.result c.args.self.now
      c.into_iter-key-iterator.ensures.into_iter_gives.0 c.into_iter-key-iterator.ensures.into_iter_gives.5 c.self.view_is c.requires;
}

pub put_row-requires : goal.put_row-requires
put_row-requires g c =
    let so_far = c.loop-key.invariant in
    chains-first c.args.to c.args.map.now so_far.rows _ c.loop-key.key-iterator c.next.new.self c.next.result c.in-Some.key c.in-Some.chain c.deref.result.now
    so_far.turn c.in-Some.is c.next.ensures.steps c.deref.ensures.value

pub loop-key-preserved : goal.loop-key-preserved
loop-key-preserved g c =
    let so_far = c.loop-key.invariant in
    let more = row_up_to c.args.to c.args.map.now c.deref.result.now c.in-Some.chain.now.items in
    record {
      rows = so_far.rows ++ more;
      taken = g.met.S.RowSink.further c.args.sink.now c.loop-key.sink c.put_row.new.sink so_far.rows more so_far.taken c.in_ok-put_row.ensures;
      turn = chains-turn c.args.to c.args.map.now so_far.rows (so_far.rows ++ more) _ c.loop-key.key-iterator c.next.new.self c.next.result c.in-Some.key c.in-Some.chain c.deref.result.now
          so_far.turn c.in-Some.is c.next.ensures.steps c.deref.ensures.value refl;
    }

pub returns : goal.returns
returns g c =
    let so_far = c.loop-key.invariant in
    subst (λ rows. g.S.RowSink.took c.args.sink.now rows c.loop-key.sink)
    (chains-done c.args.to c.args.map.now so_far.rows _ c.loop-key.key-iterator c.next.new.self c.next.result so_far.turn c.in-None.is c.next.ensures.steps) so_far.taken
