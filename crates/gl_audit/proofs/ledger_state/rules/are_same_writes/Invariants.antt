use Rattle.std.proofs.Common.{◌≡◌, length}
use Rattle.gl_ledger.specs.Broken as rules
use Rattle.gl_audit.proofs.ledger_state.rules.are_same_writes.Given as goal

-- the sets are the same where those left are
abbrev pub invariant-loop-left : goal.invariant-loop-left
invariant-loop-left l = rules.are_same_writes l.left l.right ≡ rules.are_same_writes l.one l.other

abbrev pub decreases-loop-left : goal.decreases-loop-left
decreases-loop-left l = length l.left
