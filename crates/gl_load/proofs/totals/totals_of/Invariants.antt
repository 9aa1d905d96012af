use Rattle.std.proofs.Common.{take}
use Rattle.gl_load.specs.Totals.{AreTotalsOf}
use Rattle.gl_load.proofs.totals.totals_of.Given as goal

-- those of the entries so far
abbrev pub invariant-loop-entry : goal.invariant-loop-entry
invariant-loop-entry l = AreTotalsOf (take l.entry-index l.entries) l.totals
