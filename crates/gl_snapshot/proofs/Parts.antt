-- The parts of a snapshot: what is read is encoded so, and what is encoded so is read.
use Rattle.std.proofs.Common.{◌≡◌, ℕ, ◌+◌, ◌^◌, ◌<◌, ◌≤◌, ◌==◌, Bool, true, ◌&&◌, List, [], ◌++◌, length, is_ok, Result, Ok, Err, refl, sym, ap, ◌∙◌, subst, length-append, arith}
use Rattle.std.proofs.lemmas.Bool.{eqb-true}
use Rattle.std.proofs.lemmas.List.{append-nil, nil_from_length}
use Rattle.gl_base.specs.Code.{field}
use Rattle.gl_base.specs.Cut.{Unread, string_at}
use Rattle.gl_base.specs.Field.{with_u32_length}
use Rattle.gl_base.proofs.ByteLists.{AreBytes}
use Rattle.gl_base.proofs.RowLaws.{TookString, field_ok, string-took, string-reads}
use Rattle.gl_base.proofs.Steps.{bind_ok}
use Rattle.gl_vmaps.proofs.SameValues.{same_bytes_is, same_bytes_self}
use Rattle.gl_entry.specs.Entry.{frame_bytes, frame_size, is_entry}
use Rattle.gl_entry.specs.Parsing.{entry_at}
use Rattle.gl_entry.specs.declared.entry.Entry.{Entry}
use Rattle.gl_entry.proofs.EntryLaws.{entry_at-encoded, entry_at-reads, length-frame_bytes}
use Rattle.gl_gov_rules.specs.GovernedRows.{governed_rows}
use Rattle.gl_gov_rules.specs.declared.row.GovernedRows.{GovernedRows}
use Rattle.gl_receipt.specs.Form.{receipt_from}
use Rattle.gl_receipt.specs.declared.components.Receipt.{Receipt}
use Rattle.gl_snapshot_body.specs.Body.{body_bytes, is_body}
use Rattle.gl_snapshot_body.specs.Parsing.{shape_of}
use Rattle.gl_snapshot_body.specs.declared.body.Body.{Body}
use Rattle.gl_snapshot_body.specs.declared.fault.ShapeFault.{ShapeFault}
use Rattle.gl_snapshot_body.proofs.BodyLaws.{shape-encoded, shape-read}
use Rattle.gl_snapshot.specs.Parsing.{at_place, by_frame, part_at, governed_by, body_of, receipt_in_text, evidence_in}
use Rattle.gl_snapshot.specs.Snapshot.{is_evidence_of, is_governed, receipt_text}
use Rattle.gl_snapshot.proofs.Steps.{at_place_ok, by_frame_ok, by_place_ok, required_ok}

-- ---- bytes after their length

pub part-took : (limit : ℕ) (old : Unread) (read : List ℕ × Unread) → AreBytes old.bytes → part_at limit old ≡ Ok read → TookString 4 limit read.0 old read.1
unfolding part_at
part-took limit old read all e =
    string-took 4 limit old read.1 read.0 all (field_ok (string_at 4 limit old) read (by_place_ok (field (string_at 4 limit old)) read e))

pub part-reads : (limit at : ℕ) (xs rest : List ℕ) → length xs ≤ limit → length xs < 2 ^ 32
    → part_at limit (record { at = at; bytes = with_u32_length xs ++ rest }) ≡ Ok (xs, record { at = at + length (with_u32_length xs); bytes = rest })
unfolding part_at
part-reads limit at xs rest within small = rw (string-reads 4 limit at xs rest within small) refl

-- ---- the body

pub record IsBodyRead (bytes : List ℕ) (b : Body) : Type 0 where
  pub body : is_body b ≡ true
  pub governed : is_governed b ≡ true
  pub bytes_are : bytes ≡ body_bytes b

governed_ok : (at : ℕ) (b c : Body) (r : Result GovernedRows ℕ) → governed_by at b r ≡ Ok c → (is_ok r ≡ true) × (b ≡ c)
governed_ok at b c (Ok g) e = (refl, cc)
governed_ok at b c (Err index) e = cc

governed_read : (at : ℕ) (b : Body) (r : Result GovernedRows ℕ) → is_ok r ≡ true → governed_by at b r ≡ Ok b
governed_read at b (Ok g) e = refl
governed_read at b (Err index) e = cc

pub body-encoded : (at : ℕ) (bytes : List ℕ) (b : Body) → AreBytes bytes → body_of at bytes ≡ Ok b → IsBodyRead bytes b
unfolding body_of
body-encoded at bytes b all e =
    let shape = bind_ok {E = ShapeFault} (shape_of at bytes) _ b e in
    let rows = governed_ok at shape.0 b (governed_rows shape.0.base shape.0.rows) shape.2 in
    let there = shape-encoded at bytes shape.0 all shape.1 in
    subst (IsBodyRead bytes) rows.1 (record { body = there.0; governed = rows.0; bytes_are = there.1 })

pub body-reads : (at : ℕ) (b : Body) → is_body b ≡ true → is_governed b ≡ true → body_of at (body_bytes b) ≡ Ok b
unfolding body_of
body-reads at b is rows = rw (shape-read at b is) (governed_read at b (governed_rows b.base b.rows) rows)

-- ---- the receipt

pub receipt-encoded : (place : ℕ) (text : List ℕ) (r : Receipt) → receipt_in_text place text ≡ Ok r → (receipt_from (receipt_text r) ≡ Ok r) × (text ≡ receipt_text r)
unfolding receipt_in_text
receipt-encoded place text r e =
    let read = bind_ok {E = ShapeFault} (at_place place (receipt_from text)) _ r e in
    let form = at_place_ok place (receipt_from text) read.0 read.1 in
    let one = required_ok _ place read.0 r read.2 in
    let same : text ≡ receipt_text r = same_bytes_is text (receipt_text read.0) one.0 ∙ ap receipt_text one.1 in
    (ap receipt_from (sym same) ∙ form ∙ ap (λ (x : Receipt). Ok x) one.1, same)

pub receipt-reads : (place : ℕ) (r : Receipt) → receipt_from (receipt_text r) ≡ Ok r → receipt_in_text place (receipt_text r) ≡ Ok r
unfolding receipt_in_text
receipt-reads place r form = rw (form, same_bytes_self (receipt_text r)) refl

-- ---- the entry

pub record IsEvidenceRead (base : ℕ) (bytes : List ℕ) (e : Entry) : Type 0 where
  pub entry : is_entry e ≡ true
  pub evidence : is_evidence_of base e ≡ true
  pub bytes_are : bytes ≡ frame_bytes e

none_after : (bytes front rest : List ℕ) → bytes ≡ front ++ rest → length bytes ≡ length front → bytes ≡ front
none_after bytes front rest parts same =
    let none : length rest ≡ 0 = omega (arith, ap length parts, length-append front rest, same) in
    parts ∙ ap (λ (xs : List ℕ). front ++ xs) (nil_from_length rest none) ∙ append-nil front

pub evidence-encoded : (base place : ℕ) (bytes : List ℕ) (e : Entry) → AreBytes bytes → evidence_in base place bytes ≡ Ok e → IsEvidenceRead base bytes e
unfolding evidence_in
evidence-encoded base place bytes e all h =
    let read = bind_ok {E = ShapeFault} (by_frame place (entry_at (place + 4) bytes)) _ e h in
    let there = entry_at-encoded (place + 4) bytes read.0 all (by_frame_ok place (entry_at (place + 4) bytes) read.0 read.1) in
    let evidence = bind_ok {E = ShapeFault} _ _ e read.2 in
    let kind = required_ok _ place read.0.0 evidence.0 evidence.1 in
    let ends = required_ok _ _ evidence.0 e evidence.2 in
    let size : length bytes ≡ length (frame_bytes read.0.0) =
    eqb-true (length bytes) read.0.1 ends.0 ∙ there.1 ∙ sym (length-frame_bytes read.0.0) in
    subst (IsEvidenceRead base bytes) (kind.1 ∙ ends.1) (record {
      entry = there.0;
      evidence = kind.0;
      bytes_are = none_after bytes (frame_bytes read.0.0) there.2 there.3 size;
    })

pub evidence-reads : (base place : ℕ) (e : Entry) → is_entry e ≡ true → is_evidence_of base e ≡ true → evidence_in base place (frame_bytes e) ≡ Ok e
unfolding evidence_in
evidence-reads base place e is evidence =
    let whole : entry_at (place + 4) (frame_bytes e) ≡ Ok (e, frame_size e) =
    ap (entry_at (place + 4)) (sym (append-nil (frame_bytes e))) ∙ entry_at-reads (place + 4) e [] is in
    let ends : (length (frame_bytes e) == frame_size e) ≡ true = grind (arith, length-frame_bytes e) in
    rw (whole, evidence, ends) refl
