use Rattle.std.proofs.Common.{◌≡◌, take}
use Rattle.gl_index.specs.Lists.{lists_of}
use Rattle.gl_index.proofs.lists.copy_lists.Given as goal

abbrev pub invariant-loop-list : goal.invariant-loop-list
invariant-loop-list g l = lists_of l.copy.items ≡ lists_of (take l.list-index l.lists)
