use Rattle.std.proofs.Common.{◌≡◌, ◌-◌, ◌++◌, suc, map}
use Rattle.gl_world.specs.Founding.{numbers_from, node_of}
use Rattle.gl_world.proofs.node_key.new_nodes.Given as goal

-- those made and those left are all
abbrev pub invariant-loop-i : goal.invariant-loop-i
invariant-loop-i l = l.nodes.items ++ map (node_of l.settings) (numbers_from (suc l.i) (l.count - l.i)) ≡ map (node_of l.settings) (numbers_from 1 l.count)
