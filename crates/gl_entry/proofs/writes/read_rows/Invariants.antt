use Rattle.std.proofs.Common.{◌≡◌, None}
use Rattle.gl_entry.specs.Parsing.{writes_from}
use Rattle.gl_entry.proofs.Loop.{suffix}
use Rattle.gl_entry.proofs.writes.read_rows.Given as goal

-- what was read and what is still to be read make the whole
abbrev pub invariant-loop-index : goal.invariant-loop-index
invariant-loop-index l = suffix l.writes.items l.count l.index l.cut ≡ writes_from 1 None l.count l.fn.cut
