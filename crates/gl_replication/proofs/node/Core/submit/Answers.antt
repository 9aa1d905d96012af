use Rattle.std.proofs.Common.{refl}
use Rattle.gl_rules.specs.Requests.{execute_request, submit}
use Rattle.gl_replication.proofs.Rows.{if_ok, if_err, steps_led, refuses_led, refuses_denied}
use Rattle.gl_replication.proofs.node.Core.submit.Goals as goal

pub returns-in-Leader-clause-steps : goal.returns-in-Leader-clause-steps
unfolding submit
returns-in-Leader-clause-steps g c =
    if_ok c.execute_request.result (λ done k. steps_led g.B.Book.stands (λ b x n. submit b c.args.request.now n) (λ b x n. execute_request b c.args.request.now n) (λ b x n. refl) c.in-Leader.is k) c.execute_request.ensures.steps

pub returns-in-Leader-clause-refused : goal.returns-in-Leader-clause-refused
unfolding submit
returns-in-Leader-clause-refused g c =
    if_err c.execute_request.result (λ why k. refuses_led g.B.Book.stands why (λ b x n. submit b c.args.request.now n) (λ b x n. execute_request b c.args.request.now n) (λ b x n. refl) c.in-Leader.is k) c.execute_request.ensures.refused

pub returns-in_default : goal.returns-in_default
unfolding submit
returns-in_default g c = record {
  steps = tt;
  refused = refuses_denied g.B.Book.stands (λ b x n. submit b c.args.request.now n) (λ b x n. execute_request b c.args.request.now n) (λ b x n. refl) c.in_default.not-Leader;
  err = λ b x n s. s;
  quiet = tt;
  accepted = tt;
  snapshot = refl;
}
