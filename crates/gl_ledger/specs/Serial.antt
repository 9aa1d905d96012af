-- Ledgers in order, and write sets that turn tables into others.
use Rattle.std.specs.Prelude.{◌≡◌, ℕ, suc, ◌≤◌, List, Some, true, slice_get}
use Rattle.gl_entry.specs.Entry.{is_entry}
use Rattle.gl_entry.specs.declared.entry.Entry.{Entry}

-- A list of entries that fit their format, whose i-th has seqno i, and whose views never fall.
pub record IsLedger (ledger : List Entry) : Type 0 where
  pub fits : (i : ℕ) (e : Entry) → slice_get ledger i ≡ Some e → is_entry e ≡ true
  pub seqnos : (i : ℕ) (e : Entry) → slice_get ledger i ≡ Some e → e.seqno ≡ suc i
  pub views : (i j : ℕ) (e f : Entry) → i ≤ j → slice_get ledger i ≡ Some e →
      slice_get ledger j ≡ Some f → e.view ≤ f.view
