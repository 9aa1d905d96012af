use Rattle.gl_vmaps.proofs.WriteLaws.{list_all-from_writes}
use Rattle.gl_entry.proofs.fits.may_have_writes.Goals as goal

pub returns-then-may_write-clause-limits : goal.returns-then-may_write-clause-limits
returns-then-may_write-clause-limits c = list_all-from_writes c.args.writes.now c.as_slice-writes.ensures.limits

pub returns-else-may_write-clause-limits : goal.returns-else-may_write-clause-limits
returns-else-may_write-clause-limits c = list_all-from_writes c.args.writes.now c.as_slice-writes.ensures.limits
