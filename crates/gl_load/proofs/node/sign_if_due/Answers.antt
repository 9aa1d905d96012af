use Rattle.std.proofs.Common.{true, false}
use Rattle.gl_load.proofs.NodeEvents.{due, none_due}
use Rattle.gl_load.proofs.node.sign_if_due.Goals as goal

pub sign-requires-clause-signs : goal.sign-requires-clause-signs
sign-requires-clause-signs g c = due c.args.count c.args.done c.is_due-due.result true c.is_due-due.ensures c.if-due.true

pub returns-else-due : goal.returns-else-due
returns-else-due g c = none_due g.B.Book.stands c.args.seed.now c.args.count c.args.done c.args.node.now (due c.args.count c.args.done c.is_due-due.result false c.is_due-due.ensures c.if-due.false) c.requires.unsigned
