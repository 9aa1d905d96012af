use Rattle.std.proofs.Common.{◌≡◌, ◌/◌, ◌^◌}
use Rattle.gl_hss.specs.Tree.{climb}
use Rattle.gl_hss.proofs.tree.climb.Given as goal

abbrev pub invariant-loop-i : goal.invariant-loop-i
invariant-loop-i l = (l.value ≡ climb l.identifier l.path l.fn.node l.i l.fn.value) × (l.node ≡ l.fn.node / 2 ^ l.i)
