use Rattle.std.proofs.Common.{[], refl}
use Rattle.gl_store.proofs.Tails.{begun}
use Rattle.gl_store.proofs.ledger_tail.LedgerTail.of_state.Goals as goal

pub invariant_of-result : goal.invariant_of-result
invariant_of-result c = let b = c.requires in (b.0, begun b.0 _ c.new.ensures.items (c.end.ensures b.0 [] b.1) refl b.1 b.2)

pub returns-clause-stands : goal.returns-clause-stands
returns-clause-stands c = λ body k whole. begun body _ c.new.ensures.items (c.end.ensures body [] k) refl k whole
