use Rattle.std.proofs.Common.{◌≡◌, ◌<◌}
use Rattle.gl_ledger.specs.Snapshot.{view_at}
use Rattle.gl_store.proofs.Tails.{seen, viewed}
use Rattle.gl_store.proofs.ledger_tail.LedgerTail.view_at.Goals as goal

pub returns-clause-view : goal.returns-clause-view
returns-clause-view c =
    seen c.self.view_is (λ body t. 0 < c.args.seqno → c.view_at.result ≡ view_at body t.entries c.args.seqno)
    (λ body s some. viewed body _ c.args.seqno c.view_at.result (c.view_at.ensures.entry body _ s.stands some) (c.view_at.ensures.none body _ s.stands))
