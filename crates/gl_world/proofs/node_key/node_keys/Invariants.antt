use Rattle.gl_world.specs.Keyed.{AreKeysOf}
use Rattle.gl_world.proofs.node_key.node_keys.Given as goal

abbrev pub invariant-loop-i : goal.invariant-loop-i
invariant-loop-i l = AreKeysOf l.settings l.i l.keys.items
