use Rattle.std.proofs.Common.{◌≡◌, arith}
use Rattle.gl_vmaps.specs.Writes.{write_order}
use Rattle.std.specs.declared.cmp.Ordering.TheVariants.{Equal}
use Rattle.gl_vmaps.proofs.WriteLaws.{put_there}
use Rattle.gl_vmaps.proofs.write.place_of.Goals as goal

pub returns-in-Equal-clause-put : goal.returns-in-Equal-clause-put
returns-in-Equal-clause-put c =
    let there = c.index-items-place.result in
    let order : write_order c.args.write.now there ≡ Equal = cc (c.in-Equal.ensures) in
    put_there c.args.items.now c.args.write.now there c.loop-place.place (omega arith) c.index-items-place.is order c.loop-place.invariant
