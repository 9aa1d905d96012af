use Rattle.std.proofs.Common.{◌≡◌, suc}
use Rattle.gl_schedule.specs.Play.{IsIn}
use Rattle.gl_schedule.specs.Output.{Output, reported}
use Rattle.gl_schedule.proofs.PlayLemmas.{nothing_added, prefix_in, whole_in}
use Rattle.gl_schedule.proofs.player.play_line.Goals as goal

pub returns-in-Ok-clause-whole : goal.returns-in-Ok-clause-whole
returns-in-Ok-clause-whole g c =
    whole_in c.write_whole.result _ _ c.in-Ok.text.items (λ (t : Output). IsIn t c.args.machine.now) (λ (t : Output). suc t.lines ≡ c.args.number)
    (λ (t : Output). (reported c.args.machine.now.world.settings t c.args.line).text)
    c.in-Ok.ensures.text (rw c.deref.ensures.value at c.write_whole.ensures.whole)

pub returns-in-Ok-clause-prefix : goal.returns-in-Ok-clause-prefix
returns-in-Ok-clause-prefix g c =
    prefix_in c.write_whole.result _ _ c.in-Ok.text.items (λ (t : Output). IsIn t c.args.machine.now) (λ (t : Output). suc t.lines ≡ c.args.number)
    (λ (t : Output). (reported c.args.machine.now.world.settings t c.args.line).text)
    c.in-Ok.ensures.text (rw c.deref.ensures.value at c.write_whole.ensures.prefix)

pub returns-in-Err-clause-prefix : goal.returns-in-Err-clause-prefix
returns-in-Err-clause-prefix g c = λ t is_in number. nothing_added c.args.machine.now.world.settings t c.args.line _
