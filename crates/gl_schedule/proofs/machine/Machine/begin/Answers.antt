use Rattle.gl_schedule.proofs.PlayLemmas.{is_in_at_start}
use Rattle.gl_schedule.proofs.machine.Machine.begin.Goals as goal

pub returns-clause-is_in : goal.returns-clause-is_in
returns-clause-is_in g c =
    is_in_at_start c.args.settings c.in_ok-world.world c.new-3.result.items c.new-4.result c.in_ok-members.members c.in_ok-world.ensures c.new-3.ensures.items c.new-4.ensures c.in_ok-members.ensures.members
