-- A snapshot as it is handed on, and the bytes that encode it.
use Rattle.std.specs.Prelude.{◌≡◌, ℕ, suc, ◌^◌, ◌<◌, List, ◌++◌, Option, None, Some, Bool, true, ◌&&◌, Ok, length, nat_eq, nat_le, nat_lt, is_ok, if◌then◌else◌}
use Rattle.serde_json.specs.Written.{compact_text}
use Rattle.gl_base.specs.Field.{with_u32_length}
use Rattle.gl_entry.specs.Entry.{frame_bytes, is_entry, is_evidence}
use Rattle.gl_entry.specs.declared.entry.Entry.{Entry}
use Rattle.gl_gov_rules.specs.GovernedRows.{governed_rows}
use Rattle.gl_receipt.specs.Form.{receipt_from}
use Rattle.gl_receipt.specs.Tree.{receipt_tree}
use Rattle.gl_receipt.specs.declared.components.Receipt.{Receipt}
use Rattle.gl_snapshot_body.specs.Body.{body_bytes, is_body, is_counted, snapshot_limit}
use Rattle.gl_snapshot_body.specs.declared.body.Body.{Body}
use Rattle.gl_snapshot.specs.declared.snapshot.Snapshot.{Snapshot}

-- The text of a receipt: without spaces, each object's members in the order of their names.
abbrev pub receipt_text : Receipt → List ℕ
receipt_text r = compact_text (receipt_tree r)

-- The body, the text of the receipt and the frame of the entry, each after its length in four
-- bytes.
abbrev pub file_bytes : Snapshot → List ℕ
file_bytes s =
    with_u32_length (body_bytes s.body) ++ with_u32_length (receipt_text s.receipt)
    ++ with_u32_length (frame_bytes s.entry)

-- The rows of governance among those of a body spell what they are of, and none lacks.
abbrev pub is_governed : Body → Bool
is_governed b = is_ok (governed_rows b.base b.rows)

-- The entry is the evidence of a snapshot with this base: it stands right after it.
abbrev pub is_evidence_of : ℕ → Entry → Bool
is_evidence_of base e = is_evidence e.content && nat_eq e.seqno (suc base)

-- Which values are snapshots: the parts are what they are alone, the body and the text are within
-- their limits, and the entry is the evidence of a snapshot with the body's base.
pub record IsSnapshot (s : Snapshot) : Type 0 where
  pub body : is_body s.body ≡ true
  pub within : nat_le (length (body_bytes s.body)) snapshot_limit ≡ true
  pub governed : is_governed s.body ≡ true
  pub receipt : receipt_from (receipt_text s.receipt) ≡ Ok s.receipt
  pub text : nat_lt (length (receipt_text s.receipt)) (2 ^ 32) ≡ true
  pub entry : is_entry s.entry ≡ true
  pub evidence : is_evidence_of s.body.base s.entry ≡ true

-- Each part has the form and the size with which it can be encoded.
abbrev pub fits : Snapshot → Bool
fits s =
    is_counted s.body && nat_le (length (body_bytes s.body)) snapshot_limit
    && nat_lt (length (receipt_text s.receipt)) (2 ^ 32) && is_entry s.entry

-- The bytes of a snapshot whose parts can be encoded.
abbrev pub spelled : Snapshot → Option (List ℕ)
spelled s = if fits s then Some (file_bytes s) else None
