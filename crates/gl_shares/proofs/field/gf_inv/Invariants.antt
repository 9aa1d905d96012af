use Rattle.std.proofs.Common.{◌≡◌}
use Rattle.gl_shares.proofs.FieldLaws.{raised}
use Rattle.gl_shares.proofs.field.gf_inv.Given as goal

abbrev pub invariant-loop : goal.invariant-loop
invariant-loop l = l.power ≡ raised l.fn.a l.counter
