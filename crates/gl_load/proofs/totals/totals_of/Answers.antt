use Rattle.std.proofs.Common.{take}
use Rattle.gl_load.proofs.Auditing.{fits_at, totals_at, unbroken_at}
use Rattle.gl_load.proofs.totals.totals_of.Goals as goal

pub add-requires-clause-next : goal.add-requires-clause-next
add-requires-clause-next c =
    let es = c.args.entries.now in
    let i = c.loop-entry.entry-index in
    (take i es, c.loop-entry.invariant, unbroken_at es i c.entry-item.result c.loop-entry-test.true c.entry-item.is c.requires.valid)

pub add-requires-clause-fits : goal.add-requires-clause-fits
add-requires-clause-fits c = fits_at c.args.entries.now c.loop-entry.entry-index c.entry-item.result c.loop-entry-test.true c.entry-item.is c.requires.fit

pub loop-entry-preserved : goal.loop-entry-preserved
loop-entry-preserved c =
    let es = c.args.entries.now in
    let i = c.loop-entry.entry-index in
    totals_at es i c.entry-item.result c.loop-entry-test.true c.entry-item.is _ (c.in_ok-add.ensures (take i es) c.loop-entry.invariant)
