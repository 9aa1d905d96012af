use Rattle.std.proofs.Common.{subst}
use Rattle.gl_outside.specs.Disk.{IsImage}
use Rattle.ccfg.specs.Disk.{HeldDisk}
use Rattle.ccfg.proofs.schedule_nodes.disk.BytesDiskDisk.len.Goals as goal

pub returns-clause-image : goal.returns-clause-image
returns-clause-image c h = subst (λ (d : HeldDisk). IsImage d.past d.bytes) c.self.view_is c.self.invariant.image
