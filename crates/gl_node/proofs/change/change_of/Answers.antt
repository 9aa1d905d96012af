use Rattle.std.proofs.Common.{sym, ◌∙◌}
use Rattle.gl_rules.specs.Identity.{same}
use Rattle.gl_node.proofs.Classes.{brings_entry, turns, keeps_all, delivered}
use Rattle.gl_node.proofs.change.change_of.Goals as goal

pub returns-in-Submit-clause-change : goal.returns-in-Submit-clause-change
returns-in-Submit-clause-change g c = brings_entry c.args.me.now c.args.event.now c.in-Submit.is

pub returns-in-Timeout-clause-change : goal.returns-in-Timeout-clause-change
returns-in-Timeout-clause-change g c = turns c.args.me.now c.args.event.now c.in-Timeout.is

pub returns-in-Replicate-clause-change : goal.returns-in-Replicate-clause-change
returns-in-Replicate-clause-change g c = keeps_all c.args.me.now c.args.event.now c.in-Replicate.is

pub returns-then-eq-clause-change : goal.returns-then-eq-clause-change
unfolding same
returns-then-eq-clause-change g c = delivered c.args.me.now c.args.event.now c.in-Message.message c.in-Message.is (sym c.eq.ensures ∙ c.if-eq.true) c.change_by.result (c.change_by.ensures.change c.args.me.now)
