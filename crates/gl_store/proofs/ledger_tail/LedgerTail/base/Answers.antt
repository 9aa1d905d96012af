use Rattle.std.proofs.Common.{◌≡◌}
use Rattle.gl_store.proofs.Tails.{base_is, seen}
use Rattle.gl_store.proofs.ledger_tail.LedgerTail.base.Goals as goal

pub returns : goal.returns
returns c = record { base = seen c.self.view_is (λ body t. c.self.inside.base_end.len ≡ body.base) (λ body s. base_is body _ s) }
