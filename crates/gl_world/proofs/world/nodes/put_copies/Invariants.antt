use Rattle.std.proofs.Common.{◌≡◌, ◌++◌, take}
use Rattle.gl_world.proofs.world.nodes.put_copies.Given as goal

-- the entries so far stand after the others
abbrev pub invariant-loop-entry : goal.invariant-loop-entry
invariant-loop-entry l = l.all.items ≡ l.initial.all.items ++ take l.entry-index l.entries
