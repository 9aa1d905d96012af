use Rattle.std.proofs.Common.{◌≡◌, ◌+◌, ◌-◌, ◌++◌, suc, map}
use Rattle.gl_world.specs.Founding.{numbers_from, id_of, node_ids}
use Rattle.gl_world.proofs.node_key.node_ids.Given as goal

-- those made and those left are all
abbrev pub invariant-loop-i : goal.invariant-loop-i
invariant-loop-i l =
    l.ids.items ++ map (id_of l.settings) (numbers_from (suc l.i) (l.settings.starting + l.settings.joiners - l.i)) ≡ node_ids l.settings
