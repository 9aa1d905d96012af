use Rattle.std.proofs.Common.{◌≡◌, ◌++◌, drop}
use Rattle.gl_index.proofs.copy.copy_all.Given as goal

-- what is copied and what is left to copy make the whole
abbrev pub invariant-loop-item : goal.invariant-loop-item
invariant-loop-item g l = l.out.items ++ drop l.item-index l.items ≡ l.items
