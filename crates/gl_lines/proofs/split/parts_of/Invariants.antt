use Rattle.std.proofs.Common.{◌≡◌, ◌≤◌, map, drop, take}
use Rattle.gl_lines.specs.Parts.{parts_from, parts_of}
use Rattle.gl_lines.proofs.PartLemmas.{with_parts}
use Rattle.gl_lines.proofs.split.parts_of.Given as goal

-- the parts so far, and those of the rest after the part that has begun, are the parts of the text
abbrev pub invariant-loop-i : goal.invariant-loop-i
invariant-loop-i l = record {
  begun : l.start ≤ l.i;
  parts : with_parts (map (λ part. part.now) l.parts.items) (parts_from l.end (drop l.start (take l.i l.text)) (drop l.i l.text)) ≡ parts_of l.end l.text;
}
