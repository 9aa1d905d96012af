use Rattle.gl_store.proofs.Keys.{key_is}
use Rattle.gl_store.proofs.ledger_tail.LedgerTail.identity_at.Goals as goal

pub returns : goal.returns
returns c = λ body now. key_is _ c.in-Some.key (c.in-Some.ensures.key body now)
