use Rattle.std.proofs.Common.{refl}
use Rattle.gl_rules.specs.Requests.{sign, sign_as_leader}
use Rattle.gl_replication.proofs.Rows.{if_ok, if_err, steps_led, refuses_led, refuses_denied}
use Rattle.gl_replication.proofs.node.Core.sign.Goals as goal

pub returns-in-Leader-clause-steps : goal.returns-in-Leader-clause-steps
unfolding sign
returns-in-Leader-clause-steps g c =
    if_ok c.sign_as_leader.result (λ done k. steps_led g.B.Book.stands (λ b x n. sign b x n) (λ b x n. sign_as_leader b x n) (λ b x n. refl) c.in-Leader.is k) c.sign_as_leader.ensures.steps

pub returns-in-Leader-clause-refused : goal.returns-in-Leader-clause-refused
unfolding sign
returns-in-Leader-clause-refused g c =
    if_err c.sign_as_leader.result (λ why k. refuses_led g.B.Book.stands why (λ b x n. sign b x n) (λ b x n. sign_as_leader b x n) (λ b x n. refl) c.in-Leader.is k) c.sign_as_leader.ensures.refused

pub returns-in_default : goal.returns-in_default
unfolding sign
returns-in_default g c = record {
  steps = tt;
  refused = refuses_denied g.B.Book.stands (λ b x n. sign b x n) (λ b x n. sign_as_leader b x n) (λ b x n. refl) c.in_default.not-Leader;
  err = λ b x n s. s;
  quiet = tt;
  snapshot = refl;
}
