use Rattle.std.proofs.Common.{◌≡◌, [], arith}
use Rattle.gl_vmaps.specs.Kept.{version_of}
use Rattle.gl_vmaps.proofs.StandingLaws.{version_of-stands}
use Rattle.t_data.proofs.tables.three_writes.Goals as goal

pub apply-requires-clause-above : goal.apply-requires-clause-above
apply-requires-clause-above c = λ map key. let none : version_of c.new-tables.result map key ≡ 0 = version_of-stands c.new-tables.result [] c.new-tables.ensures.stands map key in omega (arith, none)
