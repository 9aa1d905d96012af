use Rattle.std.proofs.Common.{ℕ, ◌≤◌, ◌^◌, ◌++◌, length, refl, sym, subst}
use Rattle.gl_hss.specs.Types.{height}
use Rattle.gl_hss.specs.Secrets.{PrivateKey}
use Rattle.gl_rules.specs.World.{joiner}
use Rattle.gl_ledger.specs.LedgerBook.{ledger_book}
use Rattle.gl_ledger.specs.NodeKeys.{service_layers}
use Rattle.gl_store_book.proofs.WholeStands.{behind, stands_behind}
use Rattle.gl_store_book.proofs.node_file.replica.restarted.Goals as goal

pub returns-clause-stands : goal.returns-clause-stands
returns-clause-stands c = λ keys k within below base.
    let a = c.args in
    let b = ledger_book service_layers keys in
    c.reopened.ensures.stands b (behind a.me below a.ledger.entries)
    (stands_behind keys a.me a.key a.ledger below k c.requires base)
    (record joiner { view = a.seat.view; vote = a.seat.vote; log = below ++ a.ledger.entries; base = length below; reserved = a.seat.reserved })
    refl refl refl (sym c.from.ensures)
    (subst (λ (key : PrivateKey). c.from.result ≤ 2 ^ height key.types) (sym k) (subst (λ (n : ℕ). n ≤ 2 ^ height a.key.types) (sym c.from.ensures) within))
