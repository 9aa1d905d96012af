use Rattle.std.proofs.Common.{◌≡◌, ℕ, List, Option, Some, sym, subst}
use Rattle.gl_entry.specs.declared.entry.Entry.{Entry}
use Rattle.gl_ledger.specs.NodeKeys.{service_layers}
use Rattle.gl_ledger_base.specs.Ledgers.{HoldsLedger}
use Rattle.gl_store_book.specs.AtHand.{IsAtHand, IsFileWith}
use Rattle.gl_store_book.specs.BasedLedgers.{base_of, body_of}
use Rattle.gl_store_book.specs.Stands.{NodeStore}
use Rattle.gl_store_book.proofs.store_book.StoreBook.bytes_at_hand.Goals as goal

pub returns-in-Some : goal.returns-in-Some
returns-in-Some c =
    let l = c.self.inside.ledger in
    let file = c.in-Some.file in
    subst (λ (n : NodeStore). (log : List Entry) → HoldsLedger service_layers (body_of n.ledger.snapshot) n.ledger.entries log → (x : ℕ) × IsFileWith (base_of n.ledger) log x c.args.evidence c.deref.result.now) c.self.view_is
    (λ log holds. (
      file.commit,
      subst (λ (bytes : List ℕ). IsFileWith (base_of l) log file.commit c.args.evidence bytes) (sym c.deref.ensures.value)
          (subst (λ (evidence : ℕ). IsFileWith (base_of l) log file.commit evidence file.bytes.items) c.if-file-evidence.true
          (subst (IsAtHand l) c.in-Some.is c.self.invariant log holds)),
    ))
