use Rattle.std.proofs.Common.{refl, ◌-◌, if◌then◌else◌}
use Rattle.gl_rules.specs.Outcome.{refuse, NotPeer}
use Rattle.gl_rules.specs.Replication.{is_peer, next_of, replicate, send_append}
use Rattle.gl_replication.proofs.Rows.{if_ok, if_err, steps_led, refuses_led, refuses_denied}
use Rattle.gl_replication.proofs.node.Core.replicate.Goals as goal

pub returns-in-Leader-clause-steps : goal.returns-in-Leader-clause-steps
unfolding replicate
returns-in-Leader-clause-steps g c =
    if_ok c.replicate_as_leader.result (λ done k. steps_led g.B.Book.stands (λ b x n. replicate b x c.args.to n) (λ b x n. (if is_peer b x c.args.to n then send_append b x c.args.to (next_of b n c.args.to - 1) n else refuse n NotPeer)) (λ b x n. refl) c.in-Leader.is k) c.replicate_as_leader.ensures.steps

pub returns-in-Leader-clause-refused : goal.returns-in-Leader-clause-refused
unfolding replicate
returns-in-Leader-clause-refused g c =
    if_err c.replicate_as_leader.result (λ why k. refuses_led g.B.Book.stands why (λ b x n. replicate b x c.args.to n) (λ b x n. (if is_peer b x c.args.to n then send_append b x c.args.to (next_of b n c.args.to - 1) n else refuse n NotPeer)) (λ b x n. refl) c.in-Leader.is k) c.replicate_as_leader.ensures.refused

pub returns-in_default : goal.returns-in_default
unfolding replicate
returns-in_default g c = record {
  steps = tt;
  refused = refuses_denied g.B.Book.stands (λ b x n. replicate b x c.args.to n) (λ b x n. (if is_peer b x c.args.to n then send_append b x c.args.to (next_of b n c.args.to - 1) n else refuse n NotPeer)) (λ b x n. refl) c.in_default.not-Leader;
  err = λ b x n s. s;
  few = tt;
  fits = tt;
  snapshot = refl;
}
