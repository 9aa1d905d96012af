use Rattle.std.proofs.Common.{◌≡◌, drop}
use Rattle.gl_gov_rules.specs.GovernedRows.{no_rows, rows_from}
use Rattle.gl_gov_rows.proofs.read.governed_rows.Given as goal

-- what was read and what is still to be read make the whole
abbrev pub invariant-loop-index : goal.invariant-loop-index
invariant-loop-index l = rows_from l.index l.gathered (drop l.index l.rows) ≡ rows_from 0 (no_rows l.seqno) l.rows
