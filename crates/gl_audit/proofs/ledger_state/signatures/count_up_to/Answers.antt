use Rattle.std.proofs.Common.{nat_le, ℕ, rules, of_calls}
use Rattle.std.proofs.lemmas.Fn.{always_returns_same}
use Rattle.gl_audit.proofs.ledger_state.signatures.count_up_to.Goals as goal

pub returns-clause-point : goal.returns-clause-point
returns-clause-point c = λ parts.
    c.partition_point.ensures.partitioned (λ (seqno : ℕ). nat_le seqno c.args.limit) (always_returns_same _ _ _ (λ a r f k. search (rules, of_calls))) parts
