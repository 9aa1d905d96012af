use Rattle.std.proofs.Common.{◌≡◌, ◌≤◌, length, take}
use Rattle.gl_rules.specs.Replication.{highest_possible_match}
use Rattle.gl_replication.specs.Stands.{Reports}
use Rattle.gl_replication.proofs.node.Core.highest_possible_match.Given as goal

abbrev pub invariant-loop-seqno : goal.invariant-loop-seqno
invariant-loop-seqno g l = (l.seqno ≤ l.upto) × Reports g.B.Book.stands l.self (λ b x n. l.len ≤ length n.log → l.upto ≤ l.len → highest_possible_match b (take l.len n.log) l.view l.upto ≡ highest_possible_match b (take l.len n.log) l.view l.seqno)

abbrev pub decreases-loop-seqno : goal.decreases-loop-seqno
decreases-loop-seqno g l = l.seqno
