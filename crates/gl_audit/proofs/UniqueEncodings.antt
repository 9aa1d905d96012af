-- One text of commit evidence is of one transaction and has one digest, and one message that is
-- signed has one root.
use Rattle.std.proofs.Common.{◌≡◌, ℕ, ◌+◌, ◌*◌, ◌^◌, ◌<◌, true, false, List, ◌∷◌, ◌++◌, length, take, drop, get_or, codes, length-append, append_assoc, refl, sym, ap, ◌∙◌, arith}
use Rattle.std.specs.Fmt.{decimal}
use Rattle.std.specs.List.{position_or_len}
use Rattle.std.proofs.lemmas.Bool.Decides.{nat_tests}
use Rattle.std.proofs.lemmas.Fmt.{digits_decimal, decimal_injective}
use Rattle.std.proofs.lemmas.List.{take_at, drop_at}
use Rattle.std.proofs.lemmas.List.Sums.{position_or_len_is}
use Rattle.std.proofs.Math.ListN.{get_or-append}
use Rattle.std.proofs.Math.Seq.{get_or-append_seam}
use Rattle.sha2.proofs.Facts256.{length-sha256}
use Rattle.hex.specs.Hex.{encode_lower, lower_digits, decode_of, IsBytes}
use Rattle.hex.proofs.HexLemmas.{length-encode_with, decode_of-encode_lower, decode_of-same}
use Rattle.gl_base.specs.LittleEndian.{little_endian}
use Rattle.gl_base.specs.TxId.{text_of, dot, is_dot}
use Rattle.gl_base.specs.declared.tx_id.TxId.{TxId}
use Rattle.gl_base.proofs.ByteLists.{are_bytes-each}
use Rattle.gl_base.proofs.LittleEndianLaws.{length-little_endian}
use Rattle.gl_base.proofs.Numerals.{by_index}
use Rattle.gl_entry.specs.Leaf.{evidence_digest, evidence_text}
use Rattle.gl_entry.specs.SignedMessage.{signed_message}
use Rattle.gl_hss.proofs.Octets.{sha256_bytes}

-- ---- parts of one length are the same where the whole is

same_prefix : (a b x y : List ℕ) → length a ≡ length b → a ++ x ≡ b ++ y → a ≡ b
same_prefix a b x y len e = sym (take_at a x (length a) refl) ∙ ap (take (length a)) e ∙ take_at b y (length a) (sym len)

same_rest : (a b x y : List ℕ) → length a ≡ length b → a ++ x ≡ b ++ y → x ≡ y
same_rest a b x y len e = sym (drop_at a x (length a) refl) ∙ ap (drop (length a)) e ∙ drop_at b y (length a) (sym len)

-- so are they where the last parts have one length
pub same_parts : (a b x y : List ℕ) → length x ≡ length y → a ++ x ≡ b ++ y → (a ≡ b) × (x ≡ y)
same_parts a b x y len e =
    let whole : length a + length x ≡ length b + length y = sym (length-append a x) ∙ ap length e ∙ length-append b y in
    let long : length a ≡ length b = omega (arith, whole, len) in
    (same_prefix a b x y long e, same_rest a b x y long e)

-- ---- an identifier's text

dot_at : (v : ℕ) (rest : List ℕ) → v < 2 ^ 64 → position_or_len is_dot (decimal v ++ dot ∷ rest) ≡ length (decimal v)
dot_at v rest fits =
    let text : List ℕ = decimal v ++ dot ∷ rest in
    let long = length-append (decimal v) (dot ∷ rest) in
    let before : (k : ℕ) → k < length (decimal v) → is_dot (get_or text k 0) ≡ false = λ k below.
    let digit = digits_decimal by_index v fits k below in
    let same = get_or-append (decimal v) (dot ∷ rest) 0 k below in grind (arith, nat_tests) in
    let there : is_dot (get_or text (length (decimal v)) 0) ≡ true = rw (get_or-append_seam (decimal v) dot rest 0) refl in
    position_or_len_is is_dot text (length (decimal v)) 0 (omega arith) before (λ _. there)

-- numbers of 64 bits
abbrev pub IsSmall : TxId → Type 0
IsSmall id = (id.view < 2 ^ 64) × (id.seqno < 2 ^ 64)

abbrev numbered : ℕ → ℕ → TxId
numbered view seqno = record { view = view; seqno = seqno }

same_id : (a b : TxId) → IsSmall a → IsSmall b → text_of a ≡ text_of b → a ≡ b
same_id a b small short e =
    let long : length (decimal a.view) ≡ length (decimal b.view) =
    sym (dot_at a.view (decimal a.seqno) small.0) ∙ ap (position_or_len is_dot) e ∙ dot_at b.view (decimal b.seqno) short.0 in
    let view : a.view ≡ b.view = decimal_injective a.view b.view small.0 short.0 (same_prefix (decimal a.view) (decimal b.view) (dot ∷ decimal a.seqno) (dot ∷ decimal b.seqno) long e) in
    let rest : dot ∷ decimal a.seqno ≡ dot ∷ decimal b.seqno = same_rest (decimal a.view) (decimal b.view) (dot ∷ decimal a.seqno) (dot ∷ decimal b.seqno) long e in
    let seqno : a.seqno ≡ b.seqno = decimal_injective a.seqno b.seqno small.1 short.1 (ap (drop 1) rest) in
    ap (λ (n : ℕ). numbered n a.seqno) view ∙ ap (λ (n : ℕ). numbered b.view n) seqno

-- ---- commit evidence

encoded : (a b : List ℕ) → ((codes "ce:" ++ a) ++ codes ":") ++ b ≡ 99 ∷ 101 ∷ 58 ∷ (a ++ 58 ∷ b)
encoded a b = rw (append_assoc, append_assoc) refl

length-digits : (identity : List ℕ) (id : TxId) → length (encode_lower (evidence_digest identity id)) ≡ 64
length-digits identity id = length-encode_with lower_digits (evidence_digest identity id) ∙ ap (λ (n : ℕ). 2 * n) (length-sha256 _)

same_encoding : (identity other : List ℕ) (a b : TxId) → IsSmall a → IsSmall b → evidence_text identity a ≡ evidence_text other b →
    (a ≡ b) × (encode_lower (evidence_digest identity a) ≡ encode_lower (evidence_digest other b))
same_encoding identity other a b small short e =
    let x : List ℕ = encode_lower (evidence_digest identity a) in
    let y : List ℕ = encode_lower (evidence_digest other b) in
    let flat : text_of a ++ 58 ∷ x ≡ text_of b ++ 58 ∷ y = ap (drop 3) (sym (encoded (text_of a) x) ∙ e ∙ encoded (text_of b) y) in
    let long : length (58 ∷ x) ≡ length (58 ∷ y) = let u = length-digits identity a in let v = length-digits other b in omega (arith, u, v) in
    let both = same_parts (text_of a) (text_of b) (58 ∷ x) (58 ∷ y) long flat in
    (same_id a b small short both.0, ap (drop 1) both.1)

same_digits : (a b : List ℕ) → IsBytes a → IsBytes b → encode_lower a ≡ encode_lower b → a ≡ b
same_digits a b all each e = decode_of-same (encode_lower a) a b (decode_of-encode_lower a all) (ap decode_of e ∙ decode_of-encode_lower b each)

-- one text is of one transaction, and has one digest
pub same_evidence : (identity other : List ℕ) (a b : TxId) → IsSmall a → IsSmall b → evidence_text identity a ≡ evidence_text other b →
    (a ≡ b) × (evidence_digest identity a ≡ evidence_digest other b)
same_evidence identity other a b small short e =
    let both = same_encoding identity other a b small short e in
    (both.0, same_digits (evidence_digest identity a) (evidence_digest other b) (are_bytes-each _ (sha256_bytes _)) (are_bytes-each _ (sha256_bytes _)) both.1)

-- ---- what a node signs

-- one message has one root
pub same_roots : (root other : List ℕ) (view seqno commit v p c : ℕ) → signed_message root view seqno commit ≡ signed_message other v p c → root ≡ other
same_roots root other view seqno commit v p c e =
    let most = same_parts (root ++ little_endian 4 view ++ little_endian 8 seqno) (other ++ little_endian 4 v ++ little_endian 8 p) (little_endian 8 commit) (little_endian 8 c)
    (length-little_endian 8 commit ∙ sym (length-little_endian 8 c)) e in
    let more = same_parts (root ++ little_endian 4 view) (other ++ little_endian 4 v) (little_endian 8 seqno) (little_endian 8 p)
    (length-little_endian 8 seqno ∙ sym (length-little_endian 8 p)) most.0 in
    (same_parts root other (little_endian 4 view) (little_endian 4 v) (length-little_endian 4 view ∙ sym (length-little_endian 4 v)) more.0).0
