use Rattle.gl_node.proofs.Classes.{hears}
use Rattle.gl_node.proofs.change.change_by.Goals as goal

pub returns-in-RequestVote-clause-change : goal.returns-in-RequestVote-clause-change
returns-in-RequestVote-clause-change g c = hears c.args.message.now c.in-RequestVote.is
