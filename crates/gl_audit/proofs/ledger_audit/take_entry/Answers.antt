use Rattle.std.proofs.Common.{◌≡◌, ℕ, ◌+◌, [], ◌∷◌, ◌++◌, length, subst, arith}
use Rattle.gl_snapshot_body.specs.Body.{no_body}
use Rattle.gl_audit.specs.Kept.{IsSettled}
use Rattle.gl_audit.proofs.ledger_audit.take_entry.Goals as goal

pub returns-in_ok-settle-in-Ok-clause-settled : goal.returns-in_ok-settle-in-Ok-clause-settled
returns-in_ok-settle-in-Ok-clause-settled c = λ done signs ledger k.
    let applied = c.in-Ok.ensures.grown no_body ledger k in
    let all : no_body.base + length (ledger ++ c.args.entry.now ∷ []) ≡ length (ledger ++ c.args.entry.now ∷ []) = omega arith in (
      c.apply.new.self,
      applied,
      subst (λ (n : ℕ). IsSettled n c.apply.new.self c.settle.new.self) all (c.in_ok-settle-in-Ok.ensures.settled no_body (ledger ++ c.args.entry.now ∷ []) applied),
    )
