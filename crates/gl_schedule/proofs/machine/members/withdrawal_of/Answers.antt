use Rattle.std.proofs.Common.{rules}
use Rattle.gl_entry.proofs.Fitting.{is_digest-from}
use Rattle.gl_schedule.proofs.machine.members.withdrawal_of.Goals as goal

pub returns-clause-fits : goal.returns-clause-fits
returns-clause-fits c = is_digest-from c.args.proposal (search rules) (λ i. search rules)
