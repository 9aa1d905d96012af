use Rattle.std.proofs.Common.{arith}
use Rattle.gl_vmaps.proofs.ChainLaws.{present-few}
use Rattle.gl_vmaps.proofs.table.Table.size.Goals as goal

pub prove-unreachable-requires : goal.prove-unreachable-requires
prove-unreachable-requires c =
    let few = present-few c.self.inside.rows.entries in
    omega (arith, few, c.self.invariant.counted, c.len.ensures.len, c.if-prove.true)
