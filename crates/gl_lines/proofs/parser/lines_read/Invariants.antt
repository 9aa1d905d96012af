use Rattle.std.proofs.Common.{◌≡◌, ◌+◌, drop}
use Rattle.gl_lines.specs.Parts.{bytes_of}
use Rattle.gl_lines.specs.Parsing.{lines_read}
use Rattle.gl_lines.proofs.ReadingLemmas.{with_lines}
use Rattle.gl_lines.proofs.parser.lines_read.Given as goal

-- the lines so far and what is read of the others are what is read of all
abbrev pub invariant-loop-i : goal.invariant-loop-i
invariant-loop-i l = with_lines l.all.items (lines_read l.ids (2 + l.i) (bytes_of (drop l.i l.lines)) l.is_open) ≡ lines_read l.ids 2 (bytes_of l.lines) l.is_open
