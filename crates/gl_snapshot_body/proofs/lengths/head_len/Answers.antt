use Rattle.std.proofs.Common.{arith}
use Rattle.gl_snapshot_body.specs.Body.{body_with}
use Rattle.gl_snapshot_body.proofs.Sizes.{length-head_bytes}
use Rattle.gl_snapshot_body.proofs.lengths.head_len.Goals as goal

pub returns-clause-exact : goal.returns-clause-exact
returns-clause-exact c = λ rows. omega (arith, length-head_bytes (body_with c.args.head.now rows), c.peaks_len.ensures.exact)
