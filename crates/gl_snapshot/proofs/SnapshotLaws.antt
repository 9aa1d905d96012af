-- The bytes of a snapshot are read as it, and what is read is the snapshot of which they are the
-- bytes.
use Rattle.std.proofs.Common.{◌≡◌, ℕ, ◌+◌, ◌^◌, ◌<◌, ◌≤◌, ◌==◌, nat_le, nat_lt, true, false, List, [], ◌++◌, length, Result, Ok, Err, IfOk, ◌⊎◌, inl, inr, refl, sym, ap, ◌∙◌, subst, append_assoc, length-append, arith}
use Rattle.std.proofs.lemmas.Bool.{eqb-true}
use Rattle.std.proofs.lemmas.Bool.Decides.{nat_tests}
use Rattle.std.proofs.lemmas.List.{append-nil, nil_from_length}
use Rattle.gl_base.specs.Answers.{Answers}
use Rattle.gl_base.specs.Code.{ended, unread_of}
use Rattle.gl_base.specs.Cut.{Unread}
use Rattle.gl_base.specs.Field.{with_u32_length}
use Rattle.gl_base.specs.declared.fault.CodeFault.{CodeFault}
use Rattle.gl_base.specs.declared.fault.CodeFault.TheVariants.{Trailing}
use Rattle.gl_base.specs.declared.or_no_memory.OrNoMemory.{OrNoMemory}
use Rattle.gl_base.proofs.ByteLists.{AreBytes}
use Rattle.gl_base.proofs.ParsedBytes.{chosen}
use Rattle.gl_base.proofs.Steps.{bind_ok, ok_injective}
use Rattle.gl_entry.specs.Entry.{frame_bytes}
use Rattle.gl_snapshot_body.specs.Body.{body_bytes, snapshot_limit}
use Rattle.gl_snapshot_body.specs.declared.fault.ShapeFault.{ShapeFault}
use Rattle.gl_snapshot.specs.Parsing.{no_limit, part_at, body_of, receipt_in_text, evidence_in, snapshot_at, decoded}
use Rattle.gl_snapshot.specs.Snapshot.{IsSnapshot, file_bytes, receipt_text}
use Rattle.gl_snapshot.specs.declared.snapshot.GovernedSnapshot.{GovernedSnapshot}
use Rattle.gl_snapshot.specs.declared.snapshot.Snapshot.{Snapshot}
use Rattle.gl_snapshot.proofs.Parts.{part-took, part-reads, body-encoded, body-reads, receipt-encoded, receipt-reads, evidence-encoded, evidence-reads}
use Rattle.gl_snapshot.proofs.Sizes.{frame_small}
use Rattle.gl_snapshot.proofs.Steps.{by_place_ok}

-- ---- what is read is encoded so

-- A snapshot was read from the start of bytes.
record Encoded (old : Unread) (s : Snapshot) (new : Unread) : Type 0 where
  is : IsSnapshot s
  parts : old.bytes ≡ file_bytes s ++ new.bytes

three_parts : (all a m1 b m2 c rest : List ℕ) → all ≡ a ++ m1 → m1 ≡ b ++ m2 → m2 ≡ c ++ rest → all ≡ (a ++ b ++ c) ++ rest
three_parts all a m1 b m2 c rest e1 e2 e3 =
    e1 ∙ ap (λ (x : List ℕ). a ++ x) (e2 ∙ ap (λ (x : List ℕ). b ++ x) e3) ∙ simp append_assoc refl

-- The bytes of a part are those of the value that they encode.
part_is : (all part rest value : List ℕ) → all ≡ with_u32_length part ++ rest → part ≡ value → all ≡ with_u32_length value ++ rest
part_is all part rest value parts is = parts ∙ ap (λ (x : List ℕ). with_u32_length x ++ rest) is

snapshot-encoded : (old new : Unread) (s : Snapshot) → AreBytes old.bytes → snapshot_at old ≡ Ok (s, new) → Encoded old s new
unfolding snapshot_at
snapshot-encoded old new s all e =
    let raw = bind_ok {E = ShapeFault} (part_at snapshot_limit old) _ (s, new) e in
    let body = bind_ok {E = ShapeFault} (body_of (old.at + 4) raw.0.0) _ (s, new) raw.2 in
    let text = bind_ok {E = ShapeFault} (part_at no_limit raw.0.1) _ (s, new) body.2 in
    let receipt = bind_ok {E = ShapeFault} (receipt_in_text raw.0.1.at text.0.0) _ (s, new) text.2 in
    let frame = bind_ok {E = ShapeFault} (part_at no_limit text.0.1) _ (s, new) receipt.2 in
    let entry = bind_ok {E = ShapeFault} (evidence_in body.0.base text.0.1.at frame.0.0) _ (s, new) frame.2 in
    let made : Snapshot = record { body = body.0; receipt = receipt.0; entry = entry.0 } in
    let gave : Snapshot × Unread = (made, frame.0.1) in
    let same : gave ≡ (s, new) = ok_injective {E = ShapeFault} gave (s, new) entry.2 in
    let took1 = part-took snapshot_limit old raw.0 all raw.1 in
    let took2 = part-took no_limit raw.0.1 text.0 took1.rest text.1 in
    let took3 = part-took no_limit text.0.1 frame.0 took2.rest frame.1 in
    let is1 = body-encoded (old.at + 4) raw.0.0 body.0 took1.each body.1 in
    let is2 = receipt-encoded raw.0.1.at text.0.0 receipt.0 receipt.1 in
    let is3 = evidence-encoded body.0.base text.0.1.at frame.0.0 entry.0 took3.each entry.1 in
    let size1 : length (body_bytes body.0) ≤ snapshot_limit = omega (arith, took1.within, ap length is1.bytes_are) in
    let size2 : length (receipt_text receipt.0) < 2 ^ 32 = omega (arith, took2.within, ap length is2.1) in
    let is : IsSnapshot made = record {
      body = is1.body;
      within = grind (arith, nat_tests, size1);
      governed = is1.governed;
      receipt = is2.0;
      text = grind (arith, nat_tests, size2);
      entry = is3.entry;
      evidence = is3.evidence;
    } in
    let parts : old.bytes ≡ file_bytes made ++ frame.0.1.bytes =
    three_parts old.bytes (with_u32_length (body_bytes body.0)) raw.0.1.bytes (with_u32_length (receipt_text receipt.0)) text.0.1.bytes
    (with_u32_length (frame_bytes entry.0)) frame.0.1.bytes
    (part_is old.bytes raw.0.0 raw.0.1.bytes (body_bytes body.0) took1.bytes is1.bytes_are)
    (part_is raw.0.1.bytes text.0.0 text.0.1.bytes (receipt_text receipt.0) took2.bytes is2.1)
    (part_is text.0.1.bytes frame.0.0 frame.0.1.bytes (frame_bytes entry.0) took3.bytes is3.bytes_are) in
    subst (λ (y : Snapshot × Unread). Encoded old y.0 y.1) {x = gave} same (record { is = is; parts = parts })

none_left : {X : Type 0} → (read : X × Unread) (x : X) → ended read ≡ Ok x → (read.1.bytes ≡ []) × (read.0 ≡ x)
none_left {X = X} read x e =
    elim (chosen {A = Result X CodeFault} (length read.1.bytes == 0) (Ok read.0) (Err (Trailing read.1.at)) (Ok x) e) [
      | inl all ↦ (nil_from_length read.1.bytes (eqb-true (length read.1.bytes) 0 all.0), ok_injective {A = X} {E = CodeFault} read.0 x all.1)
      | inr some ↦ cc
    ]

pub decoded-encoded : (bytes : List ℕ) (s : Snapshot) → AreBytes bytes → decoded bytes ≡ Ok s → IsSnapshot s × (bytes ≡ file_bytes s)
decoded-encoded bytes s all e =
    let read = bind_ok {E = ShapeFault} (snapshot_at (unread_of bytes)) _ s e in
    let end = none_left read.0 s (by_place_ok (ended read.0) s read.2) in
    let there = snapshot-encoded (unread_of bytes) read.0.1 read.0.0 all read.1 in
    let parts : bytes ≡ file_bytes read.0.0 =
    there.parts ∙ ap (λ (rest : List ℕ). file_bytes read.0.0 ++ rest) end.0 ∙ append-nil (file_bytes read.0.0) in
    subst (λ (y : Snapshot). IsSnapshot y × (bytes ≡ file_bytes y)) end.1 (there.is, parts)

-- ---- what is encoded so is read

-- The same bytes, each part before all that follows it.
in_order : (a b c : List ℕ) → a ++ b ++ c ≡ a ++ (b ++ (c ++ []))
in_order a b c = simp (append_assoc, append-nil) refl

pub decoded-reads : (s : Snapshot) → IsSnapshot s → decoded (file_bytes s) ≡ Ok s
unfolding snapshot_at
decoded-reads s is =
    let frame = with_u32_length (frame_bytes s.entry) ++ [] in
    let text = with_u32_length (receipt_text s.receipt) ++ frame in
    let at1 = 0 + length (with_u32_length (body_bytes s.body)) in
    let at2 = at1 + length (with_u32_length (receipt_text s.receipt)) in
    let size1 : length (body_bytes s.body) ≤ snapshot_limit = grind (arith, nat_tests, is.within) in
    let size2 : length (receipt_text s.receipt) < 2 ^ 32 = grind (arith, nat_tests, is.text) in
    let size3 = frame_small s.entry is.entry in
    let raw = part-reads snapshot_limit 0 (body_bytes s.body) text size1 (omega (arith, size1)) in
    let body = body-reads 4 s.body is.body is.governed in
    let read = part-reads no_limit at1 (receipt_text s.receipt) frame (omega (arith, size2)) size2 in
    let receipt = receipt-reads at1 s.receipt is.receipt in
    let last = part-reads no_limit at2 (frame_bytes s.entry) [] (omega (arith, size3)) size3 in
    let entry = evidence-reads s.body.base at2 s.entry is.entry is.evidence in
    ap decoded (in_order (with_u32_length (body_bytes s.body)) (with_u32_length (receipt_text s.receipt)) (with_u32_length (frame_bytes s.entry)))
    ∙ rw (raw, body, read, receipt, last, entry) refl

-- ---- what a call gives that reads

pub found : (r : Result GovernedSnapshot (OrNoMemory ShapeFault)) (bytes : List ℕ) → AreBytes bytes → Answers (λ read. read.snapshot) r (decoded bytes)
    → IfOk r (λ read. IsSnapshot read.snapshot × (bytes ≡ file_bytes read.snapshot))
found (Ok read) bytes all given = decoded-encoded bytes read.snapshot all given
found (Err e) bytes all given = tt
