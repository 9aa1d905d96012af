use Rattle.std.proofs.Common.{sym, subst}
use Rattle.gl_lines.proofs.FirstLines.{first_within}
use Rattle.gl_schedule.specs.Playable.{IsPlayable}
use Rattle.gl_schedule.proofs.HeadlineLemmas.{group_of}
use Rattle.gl_schedule.proofs.schedule.read.Goals as goal

pub service_of-requires : goal.service_of-requires
service_of-requires c = first_within c.args.text.now c.in_ok-world.world c.in_ok-world.after.now c.in_ok-world.ensures

pub returns-clause-playable : goal.returns-clause-playable
returns-clause-playable c =
    subst IsPlayable (sym c.service.ensures)
    (group_of c.args.text.now c.in_ok-world.world c.in_ok-world.after.now c.in_ok-settings.settings c.in_ok-world.ensures c.in_ok-settings.ensures.gives, c.in_ok-lines.ensures.fit)
