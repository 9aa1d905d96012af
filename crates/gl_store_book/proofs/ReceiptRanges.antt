-- The receipt by two entries that fit their format: its parts are in their ranges, and it is short.
use Rattle.std.proofs.Common.{◌≡◌, ℕ, zero, suc, ◌-◌, ◌^◌, ◌<◌, ◌≤◌, List, [], ◌∷◌, ◌++◌, length, take, drop, Bool, true, false, ◌&&◌, ◌==◌, nat_lt, nat_le, slice_index_or, if◌then◌else◌, codes, decimal, refl, sym, subst, arith, length-append, length-drop}
use Rattle.std.specs.List.{AllByRecursion, flat_map}
use Rattle.std.proofs.lemmas.Bool.{and_parts}
use Rattle.std.proofs.lemmas.Bool.Decides.{nat_tests}
use Rattle.std.proofs.lemmas.Fmt.{length-decimal-le}
use Rattle.std.proofs.lemmas.List.{length-take}
use Rattle.sha2.specs.Sha256.{sha256}
use Rattle.sha2.proofs.Facts256.{length-sha256}
use Rattle.hex.specs.Hex.{IsBytes, encode_lower, lower_digits}
use Rattle.hex.proofs.HexLemmas.{length-encode_with}
use Rattle.gl_base.specs.Bytes.{are_bytes, is_digest}
use Rattle.gl_base.specs.Field.{with_u32_length}
use Rattle.gl_base.specs.LittleEndian.{little_endian}
use Rattle.gl_base.specs.TxId.{text_of}
use Rattle.gl_base.specs.declared.tx_id.TxId.{TxId}
use Rattle.gl_base.proofs.ByteLists.{are_bytes-each}
use Rattle.gl_vmaps.specs.Tables.{Tables, wrote_all}
use Rattle.gl_merkle.specs.Path.{path_of, path_within}
use Rattle.gl_merkle.specs.Tree.{inner_of, root_within}
use Rattle.gl_merkle.specs.declared.tree.Step.{Step}
use Rattle.gl_merkle.specs.declared.tree.Step.TheVariants.{Left, Right}
use Rattle.gl_merkle.proofs.TreeLemmas.{path_of-within}
use Rattle.gl_entry.specs.Entry.{body_bytes, body_limit, content_bytes, is_content, is_entry, kind_tag, recorded_commit, write_bytes}
use Rattle.gl_entry.specs.Leaf.{evidence_digest, evidence_text, id_of}
use Rattle.gl_entry.specs.declared.entry.Content.{Content}
use Rattle.gl_entry.specs.declared.entry.Content.TheVariants as content
use Rattle.gl_entry.specs.declared.entry.Entry.{Entry}
use Rattle.gl_entry.proofs.EntryRanges.{fits_parts}
use Rattle.gl_gov_rules.proofs.Digests.{sha256_digest}
use Rattle.gl_ledger.specs.Tree.{leaves_from}
use Rattle.gl_receipt.specs.Made.{Ledger, receipt_by, recorded_signature}
use Rattle.gl_receipt.specs.Ranges.{IsDigest, HasDigest}
use Rattle.gl_receipt.proofs.MakeLemmas.{evidence_utf8}
use Rattle.gl_store_book.proofs.ReceiptTexts.{IsTextual}

-- ---- digests

digest_from : (bytes : List ℕ) → is_digest bytes ≡ true → IsDigest bytes
digest_from bytes is =
    let both = and_parts (length bytes == 32) (are_bytes bytes) is in
    record { size = (let size = both.0 in grind (arith, nat_tests, size)); bytes = are_bytes-each bytes both.1 }

hashed : (message : List ℕ) → IsDigest (sha256 message)
hashed message = digest_from (sha256 message) (sha256_digest message)

pub leaves_digests : (t : Tables) (es : List Entry) → AllByRecursion IsDigest (leaves_from t es)
leaves_digests t [] = tt
leaves_digests t (e ∷ es) = (hashed _, leaves_digests (wrote_all t e.writes) es)

taken : (n : ℕ) (xs : List (List ℕ)) → AllByRecursion IsDigest xs → AllByRecursion IsDigest (take n xs)
taken zero xs all = tt
taken (suc n) [] all = tt
taken (suc n) (x ∷ xs) all = (all.0, taken n xs all.1)

dropped : (n : ℕ) (xs : List (List ℕ)) → AllByRecursion IsDigest xs → AllByRecursion IsDigest (drop n xs)
dropped zero xs all = all
dropped (suc n) [] all = tt
dropped (suc n) (x ∷ xs) all = dropped n xs all.1

first_digest : (xs : List (List ℕ)) → AllByRecursion IsDigest xs → 0 < length xs → IsDigest (slice_index_or xs 0 [])
first_digest [] all some = absurd (omega (arith, some))
first_digest (x ∷ xs) all some = all.0

-- the root of leaves that are digests is one
root_digest : (h : ℕ) (ls : List (List ℕ)) → AllByRecursion IsDigest ls → 0 < length ls → IsDigest (root_within h ls)
unfolding root_within
root_digest zero ls all some = first_digest ls all some
root_digest (suc h) ls all some = go (nat_le (length ls) (2 ^ h)) (root_digest h ls all some)
  where
    go : (b : Bool) → IsDigest (root_within h ls) → IsDigest (if b then root_within h ls else inner_of (root_within h (take (2 ^ h) ls)) (root_within h (drop (2 ^ h) ls)))
    go true low = low
    go false low = hashed _

-- ---- paths

all_joined : (xs ys : List Step) → AllByRecursion HasDigest xs → AllByRecursion HasDigest ys → AllByRecursion HasDigest (xs ++ ys)
all_joined [] ys all more = more
all_joined (x ∷ xs) ys all more = (all.0, all_joined xs ys all.1 more)

pow_some : (h : ℕ) → 0 < 2 ^ h
pow_some zero = omega arith
pow_some (suc h) = let some = pow_some h in omega (arith, some)

abbrev split : ℕ → List (List ℕ) → ℕ → Bool → Bool → List Step
split h ls i low left =
    if low then path_within h ls i
    else (if left
    then path_within h (take (2 ^ h) ls) i ++ Right (root_within h (drop (2 ^ h) ls)) ∷ []
    else path_within h (drop (2 ^ h) ls) (i - 2 ^ h) ++ Left (root_within h (take (2 ^ h) ls)) ∷ [])

path_digests : (h : ℕ) (ls : List (List ℕ)) (i : ℕ) → AllByRecursion IsDigest ls → AllByRecursion HasDigest (path_within h ls i)
unfolding path_within
path_digests zero ls i all = tt
path_digests (suc h) ls i all =
    go (nat_le (length ls) (2 ^ h)) refl (nat_le i (2 ^ h)) (path_digests h ls i all) (path_digests h (take (2 ^ h) ls) i (taken (2 ^ h) ls all))
    (path_digests h (drop (2 ^ h) ls) (i - 2 ^ h) (dropped (2 ^ h) ls all))
  where
    go : (low : Bool) → nat_le (length ls) (2 ^ h) ≡ low → (left : Bool) → AllByRecursion HasDigest (path_within h ls i) → AllByRecursion HasDigest (path_within h (take (2 ^ h) ls) i) →
        AllByRecursion HasDigest (path_within h (drop (2 ^ h) ls) (i - 2 ^ h)) → AllByRecursion HasDigest (split h ls i low left)
    go true is left a b c = a
    go false is true a b c =
        let more : 2 ^ h < length ls = grind (arith, nat_tests, is) in
        let long = length-drop (2 ^ h) ls in
        all_joined (path_within h (take (2 ^ h) ls) i) (Right (root_within h (drop (2 ^ h) ls)) ∷ []) b (root_digest h (drop (2 ^ h) ls) (dropped (2 ^ h) ls all) (omega (arith, more, long)), tt)
    go false is false a b c =
        let more : 2 ^ h < length ls = grind (arith, nat_tests, is) in
        let some = pow_some h in
        let long = length-take (2 ^ h) ls in
        all_joined (path_within h (drop (2 ^ h) ls) (i - 2 ^ h)) (Left (root_within h (take (2 ^ h) ls)) ∷ []) c (root_digest h (take (2 ^ h) ls) (taken (2 ^ h) ls all) (omega (arith, more, long, some)), tt)

path_short : (h : ℕ) (ls : List (List ℕ)) (i : ℕ) → length (path_within h ls i) ≤ h
unfolding path_within
path_short zero ls i = omega arith
path_short (suc h) ls i = go (nat_le (length ls) (2 ^ h)) (nat_le i (2 ^ h)) (path_short h ls i) (path_short h (take (2 ^ h) ls) i) (path_short h (drop (2 ^ h) ls) (i - 2 ^ h))
  where
    go : (low left : Bool) → length (path_within h ls i) ≤ h → length (path_within h (take (2 ^ h) ls) i) ≤ h → length (path_within h (drop (2 ^ h) ls) (i - 2 ^ h)) ≤ h → length (split h ls i low left) ≤ suc h
    go true left a b c = omega (arith, a)
    go false true a b c = let long = length-append (path_within h (take (2 ^ h) ls) i) (Right (root_within h (drop (2 ^ h) ls)) ∷ []) in omega (arith, b, long)
    go false false a b c = let long = length-append (path_within h (drop (2 ^ h) ls) (i - 2 ^ h)) (Left (root_within h (take (2 ^ h) ls)) ∷ []) in omega (arith, c, long)

-- ---- what a signature entry records

record Signs (c : Content) : Type 0 where
  bytes : IsBytes (recorded_signature c)
  commit : recorded_commit c < 2 ^ 64

none_signed : IsBytes []
none_signed i = omega arith

signs_by : (c : Content) → is_content c ≡ true → Signs c
signs_by (content.Governance b) is = record { bytes = none_signed; commit = omega arith }
signs_by (content.Application b) is = record { bytes = none_signed; commit = omega arith }
signs_by (content.Evidence d) is = record { bytes = none_signed; commit = omega arith }
signs_by (content.Signature s) is =
    let bytes = and_parts (is_digest s.node && nat_lt s.commit (2 ^ 64) && is_digest s.root) (are_bytes s.signature) is in
    let root = and_parts (is_digest s.node && nat_lt s.commit (2 ^ 64)) (is_digest s.root) bytes.0 in
    let small = (and_parts (is_digest s.node) (nat_lt s.commit (2 ^ 64)) root.0).1 in
    record { bytes = are_bytes-each s.signature bytes.1; commit = grind (arith, nat_tests, small) }

signed_within : (c : Content) → length (recorded_signature c) ≤ length (content_bytes c)
signed_within (content.Governance b) = omega arith
signed_within (content.Application b) = omega arith
signed_within (content.Evidence d) = omega arith
signed_within (content.Signature s) =
    let a = length-append (s.node ++ little_endian 8 s.commit ++ s.root) (with_u32_length s.signature) in
    let b = length-append (little_endian 4 (length s.signature)) s.signature in
    omega (arith, a, b)

within_body : (e : Entry) → length (content_bytes e.content) ≤ length (body_bytes e)
within_body e =
    let c : List ℕ = content_bytes e.content in
    let head : List ℕ = little_endian 4 e.view ++ little_endian 8 e.seqno in
    let kind : List ℕ = kind_tag e.content ∷ with_u32_length c in
    let count : List ℕ = little_endian 4 (length e.writes) in
    let writes : List ℕ = flat_map write_bytes e.writes in
    let a = length-append (((head ++ kind) ++ count) ++ writes) e.claims in
    let b = length-append ((head ++ kind) ++ count) writes in
    let d = length-append (head ++ kind) count in
    let f = length-append head kind in
    let g = length-append (little_endian 4 (length c)) c in
    omega (arith, a, b, d, f, g)

body_within : (e : Entry) → is_entry e ≡ true → length (body_bytes e) ≤ 1048576
body_within e is = let last = (and_parts _ (nat_le (length (body_bytes e)) body_limit) is).1 in grind (arith, nat_tests, last)

-- ---- the receipt

evidence_short : (identity : List ℕ) (id : TxId) → id.view < 2 ^ 64 → id.seqno < 2 ^ 64 → length (evidence_text identity id) ≤ 1000
evidence_short identity id view seqno =
    let hex : List ℕ = encode_lower (evidence_digest identity id) in
    let twice = length-encode_with lower_digits (evidence_digest identity id) in
    let size = length-sha256 (identity ++ little_endian 4 id.view ++ little_endian 8 id.seqno) in
    let v = length-decimal-le 20 id.view (omega arith) (omega (arith, view)) view in
    let n = length-decimal-le 20 id.seqno (omega arith) (omega (arith, seqno)) seqno in
    let a = length-append ((codes "ce:" ++ text_of id) ++ codes ":") hex in
    let b = length-append (codes "ce:" ++ text_of id) (codes ":") in
    let c = length-append (codes "ce:") (text_of id) in
    let d = length-append (decimal id.view) (46 ∷ decimal id.seqno) in
    omega (arith, twice, size, v, n, a, b, c, d)

module _ (l : Ledger) (digests : AllByRecursion IsDigest l.leaves) (e s : Entry) (fits : is_entry e ≡ true) (signs : is_entry s ≡ true) where
  pub receipt_textual : IsTextual (receipt_by l (id_of e) e s)
  unfolding path_of
  receipt_textual =
      let of = fits_parts e fits in
      let by = fits_parts s signs in
      let recorded = signs_by s.content by.content in
      let view : e.view < 2 ^ 64 = let small = of.view in omega (arith, small) in
      let first : List (List ℕ) = take (s.seqno - 1) l.leaves in
      record {
        ranges = record {
          components = record { claims = digest_from e.claims of.digest; write_set = hashed (body_bytes e) };
          proof = path_digests (length first) first e.seqno (taken (s.seqno - 1) l.leaves digests);
          signature = recorded.bytes;
          view = by.view;
        };
        evidence = evidence_utf8 (l.identity e.seqno) (id_of e) view of.seqno;
        commit = recorded.commit;
        seqno = by.seqno;
      }

  pub receipt_evidence : length (evidence_text (l.identity e.seqno) (id_of e)) ≤ 1000
  receipt_evidence =
      let of = fits_parts e fits in
      evidence_short (l.identity e.seqno) (id_of e) (let small = of.view in omega (arith, small)) of.seqno

  pub receipt_path : length (receipt_by l (id_of e) e s).proof ≤ 64
  receipt_path =
      let by = fits_parts s signs in
      let small = by.seqno in
      let first : List (List ℕ) = take (s.seqno - 1) l.leaves in
      let long = length-take (s.seqno - 1) l.leaves in
      let low : length first ≤ 2 ^ 64 = omega (arith, small, long) in
      subst (λ (steps : List Step). length steps ≤ 64) (sym (path_of-within 64 first e.seqno low)) (path_short 64 first e.seqno)

  pub receipt_signed : length (receipt_by l (id_of e) e s).signature ≤ 1048576
  receipt_signed =
      let a = signed_within s.content in
      let b = within_body s in
      let c = body_within s signs in
      omega (arith, a, b, c)
