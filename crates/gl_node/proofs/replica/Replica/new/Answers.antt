use Rattle.gl_node.proofs.replica.Replica.new.Goals as goal

pub invariant_of-result : goal.invariant_of-result
invariant_of-result g c = record { settled = λ honest going. c.requires.settled honest; serves = c.requires.serving }
