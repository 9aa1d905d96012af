use Rattle.std.proofs.Common.{refl}
use Rattle.gl_rules.specs.Requests.{append_evidence, evidence}
use Rattle.gl_replication.proofs.Rows.{if_ok, if_err, steps_led, refuses_led, refuses_denied}
use Rattle.gl_replication.proofs.node.Core.evidence.Goals as goal

pub returns-in-Leader-clause-steps : goal.returns-in-Leader-clause-steps
unfolding evidence
returns-in-Leader-clause-steps g c =
    if_ok c.append_evidence.result (λ done k. steps_led g.B.Book.stands (λ b x n. evidence b n) (λ b x n. append_evidence b n (b.evidence n.log n.view)) (λ b x n. refl) c.in-Leader.is k) c.append_evidence.ensures.steps

pub returns-in-Leader-clause-refused : goal.returns-in-Leader-clause-refused
unfolding evidence
returns-in-Leader-clause-refused g c =
    if_err c.append_evidence.result (λ why k. refuses_led g.B.Book.stands why (λ b x n. evidence b n) (λ b x n. append_evidence b n (b.evidence n.log n.view)) (λ b x n. refl) c.in-Leader.is k) c.append_evidence.ensures.refused

pub returns-in_default : goal.returns-in_default
unfolding evidence
returns-in_default g c = record {
  steps = tt;
  refused = refuses_denied g.B.Book.stands (λ b x n. evidence b n) (λ b x n. append_evidence b n (b.evidence n.log n.view)) (λ b x n. refl) c.in_default.not-Leader;
  err = λ b x n s. s;
  quiet = tt;
  snapshot = refl;
}
