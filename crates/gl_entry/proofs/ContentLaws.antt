-- What an entry records: its encoding reads back, and what reads is encoded so.
use Rattle.std.proofs.Common.{◌≡◌, ℕ, ◌+◌, ◌^◌, ◌≤◌, nat_lt, ◌==◌, Bool, true, false, cond, ◌&&◌, List, [], ◌++◌, length, Result, Ok, Err, refl, sym, ap, ◌∙◌, subst, append-nil, arith}
use Rattle.std.proofs.lemmas.Bool.{and_parts}
use Rattle.std.proofs.lemmas.Bool.Decides.{nat_tests}
use Rattle.std.proofs.lemmas.List.{nil_from_length}
use Rattle.gl_base.specs.Code.{field, ended, whole_at}
use Rattle.gl_base.specs.Cut.{Unread, bytes_at, number_at, string_at}
use Rattle.gl_base.specs.Bytes.{are_bytes, is_digest}
use Rattle.gl_base.specs.Field.{with_u32_length}
use Rattle.gl_base.specs.LittleEndian.{little_endian}
use Rattle.gl_base.proofs.ByteLists.{AreBytes}
use Rattle.gl_base.specs.declared.fault.CodeFault.{CodeFault}
use Rattle.gl_base.specs.declared.fault.CodeFault.TheVariants as codes
use Rattle.gl_base.proofs.Steps.{bind_ok, ok_injective}
use Rattle.gl_base.proofs.ByteLists.{are_bytes-true}
use Rattle.gl_base.proofs.RowLaws.{Took, field_ok}
use Rattle.gl_entry.specs.declared.entry.Signature as signatures
use Rattle.gl_entry.specs.declared.entry.Content.{Content}
use Rattle.gl_entry.specs.declared.entry.Content.TheVariants as content
use Rattle.gl_entry.specs.Entry.{body_limit, kind_tag, signature_bytes, content_bytes, is_recorded_signature, is_content}
use Rattle.gl_entry.specs.Parsing.{is_kind, signature_at, evidence_at, content_of}
use Rattle.gl_entry.proofs.Sizes.{length-signature_bytes}
use Rattle.gl_entry.proofs.Parts.{took_then, number-took, bytes-took, sized-took, Lies, lie_both, number-reads, bytes-reads, sized-reads}

-- ---- all of the bytes

pub ended_ok : {X : Type 0} → (read : X × Unread) (x : X) → ended read ≡ Ok x → (read.0 ≡ x) × (read.1.bytes ≡ [])
ended_ok {X} read x e = by_test (length read.1.bytes == 0) refl e
  where
    by_test : (b : Bool) → (length read.1.bytes == 0) ≡ b → cond b (Ok read.0) (Err (codes.Trailing read.1.at)) ≡ Ok x → (read.0 ≡ x) × (read.1.bytes ≡ [])
    by_test true is e = (ok_injective {E = CodeFault} read.0 x e, nil_from_length read.1.bytes (grind (arith, nat_tests)))
    by_test false is e = absurd cc

pub ended_there : {X : Type 0} → (x : X) (at : ℕ) → ended (x, record { at = at; bytes = [] }) ≡ Ok x
ended_there x at = refl

-- ---- a signature

pub signature-encoded : (old : Unread) (read : Content × Unread) → AreBytes old.bytes → signature_at old ≡ Ok read → Took (content_bytes read.0) (is_content read.0) old read.1
unfolding signature_at
signature-encoded old read all e =
    let node = bind_ok {E = CodeFault} (field (bytes_at 32 old)) _ read e in
    let commit = bind_ok {E = CodeFault} (field (number_at 8 node.0.1)) _ read node.2 in
    let root = bind_ok {E = CodeFault} (field (bytes_at 32 commit.0.1)) _ read commit.2 in
    let signature = bind_ok {E = CodeFault} (field (string_at 4 body_limit root.0.1)) _ read root.2 in
    let s : signatures.Signature = record { node = node.0.0; commit = commit.0.0; root = root.0.0; signature = signature.0.0 } in
    let gave : Content × Unread = (content.Signature s, signature.0.1) in
    let same : gave ≡ read = ok_injective {E = CodeFault} gave read signature.2 in
    let a = bytes-took 32 node.0.0 old node.0.1 all (field_ok (bytes_at 32 old) node.0 node.1) in
    let b = number-took 8 commit.0.0 node.0.1 commit.0.1 a.rest (field_ok (number_at 8 node.0.1) commit.0 commit.1) in
    let c = bytes-took 32 root.0.0 commit.0.1 root.0.1 b.rest (field_ok (bytes_at 32 commit.0.1) root.0 root.1) in
    let d = (sized-took body_limit signature.0.0 root.0.1 signature.0.1 c.rest (field_ok (string_at 4 body_limit root.0.1) signature.0 signature.1)).took in
    let ab = took_then s.node (little_endian 8 s.commit) (is_digest s.node) (nat_lt s.commit (2 ^ 64)) old node.0.1 commit.0.1 a b in
    let abc = took_then (s.node ++ little_endian 8 s.commit) s.root (is_digest s.node && nat_lt s.commit (2 ^ 64)) (is_digest s.root) old commit.0.1 root.0.1 ab c in
    let whole : Took (signature_bytes s) (is_recorded_signature s) old signature.0.1 = took_then (s.node ++ little_endian 8 s.commit ++ s.root) (with_u32_length s.signature) (is_digest s.node && nat_lt s.commit (2 ^ 64) && is_digest s.root) (are_bytes s.signature) old root.0.1 signature.0.1 abc d in
    subst (λ (x : Content × Unread). Took (content_bytes x.0) (is_content x.0) old x.1) same whole

pub signature-reads : (s : signatures.Signature) (old new : Unread) → is_recorded_signature s ≡ true → length (signature_bytes s) ≤ body_limit → Lies (signature_bytes s) old new → signature_at old ≡ Ok (content.Signature s, new)
unfolding signature_at
signature-reads s old new is within there =
    let d = lie_both (s.node ++ little_endian 8 s.commit ++ s.root) (with_u32_length s.signature) old new there in
    let c = lie_both (s.node ++ little_endian 8 s.commit) s.root old d.mid d.first in
    let b = lie_both s.node (little_endian 8 s.commit) old c.mid c.first in
    let p = and_parts (is_digest s.node && nat_lt s.commit (2 ^ 64) && is_digest s.root) (are_bytes s.signature) is in
    let q = and_parts (is_digest s.node && nat_lt s.commit (2 ^ 64)) (is_digest s.root) p.0 in
    let r = and_parts (is_digest s.node) (nat_lt s.commit (2 ^ 64)) q.0 in
    let node = and_parts (length s.node == 32) (are_bytes s.node) r.0 in
    let root = and_parts (length s.root == 32) (are_bytes s.root) q.1 in
    let size = length-signature_bytes s in
    let node_read = bytes-reads 32 s.node old b.mid b.first (grind (arith, nat_tests, node.0)) in
    let commit_read = number-reads 8 s.commit b.mid c.mid b.second (grind (arith, nat_tests, r.1)) in
    let root_read = bytes-reads 32 s.root c.mid d.mid c.second (grind (arith, nat_tests, root.0)) in
    let signature_read = sized-reads body_limit s.signature d.mid new d.second (omega (arith, size, within)) (omega (arith, size, within)) in
    rw (node_read, commit_read, root_read, signature_read) refl

-- ---- evidence

pub evidence-encoded : (old : Unread) (read : Content × Unread) → AreBytes old.bytes → evidence_at old ≡ Ok read → Took (content_bytes read.0) (is_content read.0) old read.1
unfolding evidence_at
evidence-encoded old read all e =
    let digest = bind_ok {E = CodeFault} (field (bytes_at 32 old)) _ read e in
    let gave : Content × Unread = (content.Evidence digest.0.0, digest.0.1) in
    let same : gave ≡ read = ok_injective {E = CodeFault} gave read digest.2 in
    subst (λ (x : Content × Unread). Took (content_bytes x.0) (is_content x.0) old x.1) same (bytes-took 32 digest.0.0 old digest.0.1 all (field_ok (bytes_at 32 old) digest.0 digest.1))

pub evidence-reads : (digest : List ℕ) (old new : Unread) → is_digest digest ≡ true → Lies digest old new → evidence_at old ≡ Ok (content.Evidence digest, new)
unfolding evidence_at
evidence-reads digest old new is there =
    let parts = and_parts (length digest == 32) (are_bytes digest) is in
    let read = bytes-reads 32 digest old new there (grind (arith, nat_tests, parts.0)) in
    rw read refl

-- ---- any of them, from all of its bytes

-- It is what a kind of entry records, and its bytes are these.
pub record IsContentOf (kind : ℕ) (bytes : List ℕ) (recorded : Content) : Type 0 where
  pub bytes_are : bytes ≡ content_bytes recorded
  pub valid : is_content recorded ≡ true
  pub tag : kind ≡ kind_tag recorded

whole_ok : (reading : Unread → Result (Content × Unread) CodeFault) (place : ℕ) (bytes : List ℕ) (recorded : Content) →
    ((read : Content × Unread) → reading (record { at = place; bytes = bytes }) ≡ Ok read → Took (content_bytes read.0) (is_content read.0) (record { at = place; bytes = bytes }) read.1) →
    whole_at reading place bytes ≡ Ok recorded →
    (read : Content × Unread) × (reading (record { at = place; bytes = bytes }) ≡ Ok read) × (read.0 ≡ recorded) × (bytes ≡ content_bytes recorded) × (is_content recorded ≡ true)
whole_ok reading place bytes recorded encoded e =
    let there = bind_ok {A = Content × Unread} {E = CodeFault} (reading (record { at = place; bytes = bytes })) ended recorded e in
    let end = ended_ok there.0 recorded there.2 in
    let took = encoded there.0 there.1 in
    let parts : bytes ≡ content_bytes there.0.0 = took.bytes ∙ ap (λ (xs : List ℕ). content_bytes there.0.0 ++ xs) end.1 ∙ append-nil (content_bytes there.0.0) in
    (there.0, there.1, end.0, parts ∙ ap content_bytes end.0, ap is_content (sym end.0) ∙ took.valid)

signature_tag : (old : Unread) (read : Content × Unread) → signature_at old ≡ Ok read → kind_tag read.0 ≡ 3
unfolding signature_at
signature_tag old read e =
    let node = bind_ok {E = CodeFault} (field (bytes_at 32 old)) _ read e in
    let commit = bind_ok {E = CodeFault} (field (number_at 8 node.0.1)) _ read node.2 in
    let root = bind_ok {E = CodeFault} (field (bytes_at 32 commit.0.1)) _ read commit.2 in
    let signature = bind_ok {E = CodeFault} (field (string_at 4 body_limit root.0.1)) _ read root.2 in
    let gave : Content × Unread = (content.Signature (record { node = node.0.0; commit = commit.0.0; root = root.0.0; signature = signature.0.0 }), signature.0.1) in
    let same : gave ≡ read = ok_injective {E = CodeFault} gave read signature.2 in
    ap (λ (x : Content × Unread). kind_tag x.0) (sym same)

evidence_tag : (old : Unread) (read : Content × Unread) → evidence_at old ≡ Ok read → kind_tag read.0 ≡ 4
unfolding evidence_at
evidence_tag old read e =
    let digest = bind_ok {E = CodeFault} (field (bytes_at 32 old)) _ read e in
    let gave : Content × Unread = (content.Evidence digest.0.0, digest.0.1) in
    let same : gave ≡ read = ok_injective {E = CodeFault} gave read digest.2 in
    ap (λ (x : Content × Unread). kind_tag x.0) (sym same)

content_by : (one two three : Bool) (kind place : ℕ) (bytes : List ℕ) (recorded : Content) → (kind == 1) ≡ one → (kind == 2) ≡ two → (kind == 3) ≡ three → is_kind kind ≡ true → AreBytes bytes →
    cond one (Ok (content.Governance bytes)) (cond two (Ok (content.Application bytes)) (cond three (whole_at signature_at place bytes) (whole_at evidence_at place bytes))) ≡ Ok recorded → IsContentOf kind bytes recorded
content_by true two three kind place bytes recorded a b c is all e =
    let same : content.Governance bytes ≡ recorded = ok_injective {E = CodeFault} (content.Governance bytes) recorded e in
    let tag : kind ≡ 1 = grind (arith, nat_tests) in
    subst (IsContentOf kind bytes) same (record { bytes_are = refl; valid = are_bytes-true bytes all; tag = tag })
content_by false true three kind place bytes recorded a b c is all e =
    let same : content.Application bytes ≡ recorded = ok_injective {E = CodeFault} (content.Application bytes) recorded e in
    let tag : kind ≡ 2 = grind (arith, nat_tests) in
    subst (IsContentOf kind bytes) same (record { bytes_are = refl; valid = are_bytes-true bytes all; tag = tag })
content_by false false true kind place bytes recorded a b c is all e =
    let whole = whole_ok signature_at place bytes recorded (λ read f. signature-encoded (record { at = place; bytes = bytes }) read all f) e in
    let tag : kind ≡ 3 = grind (arith, nat_tests) in
    record { bytes_are = whole.3; valid = whole.4; tag = tag ∙ sym (signature_tag (record { at = place; bytes = bytes }) whole.0 whole.1) ∙ ap kind_tag whole.2 }
content_by false false false kind place bytes recorded a b c is all e =
    let whole = whole_ok evidence_at place bytes recorded (λ read f. evidence-encoded (record { at = place; bytes = bytes }) read all f) e in
    let tag : kind ≡ 4 = grind (arith, nat_tests) in
    record { bytes_are = whole.3; valid = whole.4; tag = tag ∙ sym (evidence_tag (record { at = place; bytes = bytes }) whole.0 whole.1) ∙ ap kind_tag whole.2 }

pub content_of-encoded : (kind place : ℕ) (bytes : List ℕ) (recorded : Content) → is_kind kind ≡ true → AreBytes bytes → content_of kind place bytes ≡ Ok recorded → IsContentOf kind bytes recorded
unfolding content_of
content_of-encoded kind place bytes recorded is all e = content_by (kind == 1) (kind == 2) (kind == 3) kind place bytes recorded refl refl refl is all e

all_of_it : (place : ℕ) (xs : List ℕ) → Lies xs (record { at = place; bytes = xs }) (record { at = place + length xs; bytes = [] })
all_of_it place xs = record { bytes = sym (append-nil xs); place = refl }

pub content_of-reads : (place : ℕ) (recorded : Content) → is_content recorded ≡ true → length (content_bytes recorded) ≤ body_limit → content_of (kind_tag recorded) place (content_bytes recorded) ≡ Ok recorded
unfolding content_of
content_of-reads place (content.Governance bytes) is within = refl
content_of-reads place (content.Application bytes) is within = refl
content_of-reads place (content.Signature s) is within =
    let read = signature-reads s (record { at = place; bytes = signature_bytes s }) (record { at = place + length (signature_bytes s); bytes = [] }) is within (all_of_it place (signature_bytes s)) in
    rw read refl
content_of-reads place (content.Evidence digest) is within =
    let read = evidence-reads digest (record { at = place; bytes = digest }) (record { at = place + length digest; bytes = [] }) is (all_of_it place digest) in
    rw read refl
