use Rattle.std.proofs.Common.{[], sym, subst}
use Rattle.gl_ledger.specs.LedgerBook.{ledger_book}
use Rattle.gl_ledger.specs.NodeKeys.{service_layers}
use Rattle.gl_store_book.specs.BasedLedgers.{BasedLedger}
use Rattle.gl_store_book.specs.Stands.{Stands, whole}
use Rattle.gl_store_book.proofs.WholeStands.{whole_stands}
use Rattle.gl_store_book.proofs.store_book.StoreBook.joining.Goals as goal

pub returns-clause-stands : goal.returns-clause-stands
returns-clause-stands c = λ keys has.
    subst (λ (l : BasedLedger). Stands (record { me = c.args.me; key = c.args.key; ledger = l }) (ledger_book service_layers keys) (whole c.args.me [])) (sym c.in_ok-ledger.ensures)
    (whole_stands keys c.args.me c.args.key [] has)
