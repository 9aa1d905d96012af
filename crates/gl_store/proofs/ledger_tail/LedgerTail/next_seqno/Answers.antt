use Rattle.std.proofs.Common.{◌+◌, ap, ℕ}
use Rattle.gl_store.proofs.ledger_tail.LedgerTail.next_seqno.Goals as goal

pub returns : goal.returns
returns c = λ body s. ap (λ (n : ℕ). n + 1) (c.ledger_len.ensures.len body s)
