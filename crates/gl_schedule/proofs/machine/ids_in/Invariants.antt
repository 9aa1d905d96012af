use Rattle.std.proofs.Common.{◌≡◌, ◌+◌, ◌-◌, ◌++◌, suc, map}
use Rattle.gl_world.specs.Founding.{id_of, node_ids, numbers_from}
use Rattle.gl_schedule.proofs.machine.ids_in.Given as goal

-- those read and those left are all
abbrev pub invariant-loop-i : goal.invariant-loop-i
invariant-loop-i g l =
    l.ids.items ++ map (id_of l.settings) (numbers_from (suc l.i) (l.settings.starting + l.settings.joiners - l.i)) ≡ node_ids l.settings
