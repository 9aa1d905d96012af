use Rattle.std.proofs.Common.{◌∙◌, ap}
use Rattle.gl_store.proofs.Tails.{on_ok}
use Rattle.gl_store_book.specs.BasedLedgers.{BasedLedger, begun_ledger}
use Rattle.gl_store_book.specs.Stands.{NodeStore}
use Rattle.gl_store_book.proofs.ShownSnapshots.{begun_stands, shown_readable}
use Rattle.gl_store_book.proofs.snapshots.StoreBookSnapshots.install.Goals as goal

pub begin-requires : goal.begin-requires
begin-requires c = let shown = c.requires.shown in record { read = shown_readable c.args.body shown.0 shown.1 shown.2 }

pub returns-clause-begun : goal.returns-clause-begun
returns-clause-begun c =
    on_ok c.begin.result (λ is b h s log shows.
    begun_stands c.args.self.now _ c.args.body b h log
    (ap (λ (l : BasedLedger). record { me = c.self.inside.me; key = c.self.inside.key; ledger = l }) is ∙ ap (λ (n : NodeStore). record n { ledger = begun_ledger c.args.body }) c.self.view_is)
    s shows)
    c.begin.ensures.begun
