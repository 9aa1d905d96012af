use Rattle.std.proofs.Common.{arith}
use Rattle.gl_outside.proofs.Recorded.{as_read}
use Rattle.gl_outside.proofs.sure_disk.SureDiskDisk.len.Goals as goal

pub returns-clause-image : goal.returns-clause-image
returns-clause-image c h =
    as_read _ _ _ _ (omega (arith, c.args.self.now.pieces_there)) c.args.self.now.joined c.args.self.now.reads
