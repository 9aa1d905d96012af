-- A file takes in the snapshot that a node's store keeps, and reads its base and its view there.
use Rattle.std.proofs.Common.{◌≡◌, ℕ, zero, suc, ◌<◌, List, Option, None, Some, refl, sym, ap, ◌∙◌, arith}
use Rattle.gl_rules.specs.Log as logs
use Rattle.gl_entry.specs.declared.entry.Entry.{Entry}
use Rattle.gl_snapshot_body.specs.declared.body.Body.{Body}
use Rattle.gl_ledger.specs.Behind.{IsBaseBody, IsReadAt, IsReadBody}
use Rattle.gl_ledger.specs.NodeKeys.{NodeKeys, service_layers}
use Rattle.gl_ledger_base.specs.Ledgers.{HoldsLedger}
use Rattle.gl_ledger_base.proofs.LedgersWhole.{base_signed}
use Rattle.gl_node.specs.Offered.{IsTakenIn}
use Rattle.gl_replication.specs.Standing.{At}
use Rattle.gl_store.specs.Tail.{StandsBehind, Tail}
use Rattle.gl_snapshot.specs.Parsing.{body_of as governed_body}
use Rattle.gl_store_book.specs.BasedLedgers.{IsEncoded, body_encoded, body_of}
use Rattle.gl_store_book.specs.Frames.{goes_on_ledger, told_by}
use Rattle.gl_store_book.specs.Stands.{NodeStore, Stands}
use Rattle.gl_store_book.proofs.AllLedgers.{book, reports}
use Rattle.gl_store_book.proofs.HeldLedgers.{spelled_some}
use Rattle.gl_store_book.proofs.InstalledBodies.{told_again}

-- what can be read behind which entries stand is the body of a base
of_base : (body : Body) → IsReadBody body → 0 < body.base → IsBaseBody body
of_base body read some = go body.base refl read
  where
    go : (n : ℕ) → body.base ≡ n → IsReadAt n body → IsBaseBody body
    go zero none is = absurd (omega (arith, none, some))
    go (suc n) at is = is

module _ (keys : NodeKeys) (es log : List Entry) where
  -- its view is that of the entry there
  view_told : (body : Body) → HoldsLedger service_layers body es log → 0 < body.base → logs.view_at (book keys) log body.base ≡ body.view
  view_told body holds some =
      let end = base_signed service_layers body es log holds some in
      ap (logs.view_of_entry (book keys)) end.1 ∙ end.3

  taken : (snapshot : Option (List ℕ)) → IsEncoded snapshot → IsReadBody (body_of snapshot) → HoldsLedger service_layers (body_of snapshot) es log →
      IsTakenIn goes_on_ledger (body_of snapshot).base (logs.view_at (book keys) log (body_of snapshot).base) snapshot
  taken None spelled read holds = refl
  taken (Some bytes) spelled read holds =
      let body = body_encoded bytes in
      let some = spelled_some bytes spelled in
      ap (λ (bs : List ℕ). told_by (governed_body 0 bs)) spelled.1 ∙ told_again body (of_base body read some)
      ∙ ap (λ (v : ℕ). Some (record { base = body.base; view = v })) (sym (view_told body holds some))

pub taken_in : (node : NodeStore) (t : Tail) → StandsBehind (body_of node.ledger.snapshot) t →
    At Stands node (λ b h. IsTakenIn goes_on_ledger h.base (logs.view_at b h.log h.base) node.ledger.snapshot)
taken_in node t stands = reports node (λ b h. IsTakenIn goes_on_ledger h.base (logs.view_at b h.log h.base) node.ledger.snapshot)
    (λ keys has log spelled holds. taken keys node.ledger.entries log node.ledger.snapshot spelled stands.stands.read holds)
