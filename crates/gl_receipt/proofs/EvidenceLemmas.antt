-- A text of commit evidence names its transaction, and a receipt is accepted exactly for that.
use Rattle.std.proofs.Common.{◌≡◌, ◌↔◌, ℕ, suc, ◌+◌, ◌-◌, ◌^◌, ◌<◌, Bool, true, false, cond, List, ◌∷◌, ◌++◌, length, drop, get_or, Result, Ok, Err, codes, length-append, append_assoc, refl, ap, ◌∙◌, inl, inr, arith}
use Rattle.std.specs.Fmt.{decimal}
use Rattle.std.specs.List.{position_or_len, before_first}
use Rattle.std.specs.Cmp.Lexicographic.{bytes_decides}
use Rattle.std.proofs.lemmas.Bool.Decides.{nat_tests}
use Rattle.std.proofs.lemmas.Bool.{cases_lt}
use Rattle.std.proofs.lemmas.Fmt.{digits_decimal}
use Rattle.std.proofs.lemmas.List.{get_or-append-add}
use Rattle.std.proofs.lemmas.List.Sums.{position_or_len_is}
use Rattle.std.proofs.Math.ListN.{get_or-append}
use Rattle.std.proofs.Math.Seq.{get_or-append_seam, take-append_seam}
use Rattle.hex.specs.Hex.{encode_lower}
use Rattle.gl_base.specs.Bytes.{same_bytes}
use Rattle.gl_base.specs.TxId.{IsTxId, text_of, parsed}
use Rattle.gl_base.specs.declared.tx_id.TxId.{TxId}
use Rattle.gl_base.specs.declared.tx_id.TxIdFault.{TxIdFault}
use Rattle.gl_base.proofs.Numerals.{by_index}
use Rattle.gl_base.proofs.TxIdText.{parsed-text_of, parsed_ok}
use Rattle.gl_entry.specs.Leaf.{evidence_digest, evidence_text}
use Rattle.gl_receipt.specs.Receipt.{IsEvidence}
use Rattle.gl_receipt.specs.Verdict.{is_colon, named_id, reported_by, transaction_of}
use Rattle.gl_receipt.specs.declared.fault.ReceiptFault.{ReceiptFault}
use Rattle.gl_receipt.specs.declared.fault.ReceiptFault.TheVariants.{Evidence}

-- no byte of an identifier's text is a colon
no_colon : (view seqno k : ℕ) → view < 2 ^ 64 → seqno < 2 ^ 64 → k < length (decimal view ++ 46 ∷ decimal seqno)
    → is_colon (get_or (decimal view ++ 46 ∷ decimal seqno) k 0) ≡ false
no_colon view seqno k small short within =
    let long = length-append (decimal view) (46 ∷ decimal seqno) in
    elim (cases_lt k (length (decimal view))) [
      | inl before ↦ (
          let digit = digits_decimal by_index view small k before in
          let same = get_or-append (decimal view) (46 ∷ decimal seqno) 0 k before in
          grind (arith, nat_tests))
      | inr after ↦ elim (cases_lt (length (decimal view)) k) [
        | inr here ↦ (
            let at : k ≡ length (decimal view) = omega arith in
            rw (at, get_or-append_seam (decimal view) 46 (decimal seqno) 0) refl)
        | inl later ↦ (
            let place : ℕ = k - length (decimal view) - 1 in
            let split : k ≡ length (decimal view) + (1 + place) = omega arith in
            let digit = digits_decimal by_index seqno short place (omega arith) in
            let same = get_or-append-add (decimal view) (46 ∷ decimal seqno) (1 + place) 0 in
            let next : 1 + place ≡ suc place = omega arith in
            let byte : is_colon (get_or (decimal seqno) place 0) ≡ false = grind (arith, nat_tests) in
            ap (λ (n : ℕ). is_colon (get_or (decimal view ++ 46 ∷ decimal seqno) n 0)) split ∙ ap is_colon same ∙ ap (λ (n : ℕ). is_colon (get_or (46 ∷ decimal seqno) n 0)) next ∙ byte)
      ]
    ]

-- what stands before the first colon of an identifier's text, a colon and more
before_colon : (id : TxId) (rest : List ℕ) → IsTxId id → before_first is_colon (text_of id ++ 58 ∷ rest) ≡ text_of id
before_colon id rest is =
    let text : List ℕ = text_of id in
    let long = length-append text (58 ∷ rest) in
    let before : (k : ℕ) → k < length text → is_colon (get_or (text ++ 58 ∷ rest) k 0) ≡ false = λ k below.
    rw (get_or-append text (58 ∷ rest) 0 k below) (no_colon id.view id.seqno k (omega arith) (omega arith) below) in
    let there : is_colon (get_or (text ++ 58 ∷ rest) (length text) 0) ≡ true = rw (get_or-append_seam text 58 rest 0) refl in
    let place : position_or_len is_colon (text ++ 58 ∷ rest) ≡ length text =
    position_or_len_is is_colon (text ++ 58 ∷ rest) (length text) 0 (omega arith) before (λ _. there) in
    rw place (take-append_seam text (58 ∷ rest))

encoded : (a b : List ℕ) → ((codes "ce:" ++ a) ++ codes ":") ++ b ≡ 99 ∷ 101 ∷ 58 ∷ (a ++ 58 ∷ b)
encoded a b = rw (append_assoc, append_assoc) refl

pub named-evidence : (identity : List ℕ) (id : TxId) → IsTxId id → named_id (evidence_text identity id) ≡ Ok id
named-evidence identity id is =
    let digits : List ℕ = encode_lower (evidence_digest identity id) in
    let text : evidence_text identity id ≡ 99 ∷ 101 ∷ 58 ∷ (text_of id ++ 58 ∷ digits) = encoded (text_of id) digits in
    ap (λ (t : List ℕ). parsed (before_first is_colon (drop 3 t))) text
    ∙ ap parsed (before_colon id digits is) ∙ parsed-text_of id is

reported_if : (identity text : List ℕ) (j id : TxId) (b : Bool) → same_bytes text (evidence_text identity j) ≡ b
    → cond {A = Result TxId ReceiptFault} b (Ok j) (Err Evidence) ≡ Ok id → (j ≡ id) × (text ≡ evidence_text identity id)
reported_if identity text j id true same e =
    let one : j ≡ id = cc in
    (one, (bytes_decides text (evidence_text identity j)).0 same ∙ ap (evidence_text identity) one)
reported_if identity text j id false other e = cc

reported_ok : (identity text : List ℕ) (found : Result TxId TxIdFault) (id : TxId) → reported_by identity text found ≡ Ok id
    → (found ≡ Ok id) × (text ≡ evidence_text identity id)
reported_ok identity text (Err fault) id h = cc
reported_ok identity text (Ok j) id h =
    let report = reported_if identity text j id (same_bytes text (evidence_text identity j)) refl h in
    (ap Ok report.0, report.1)

-- the transaction of a text is the one whose evidence it is
pub transaction-evidence : (identity text : List ℕ) (id : TxId) → (transaction_of identity text ≡ Ok id) ↔ IsEvidence identity text id
unfolding transaction_of
transaction-evidence identity text id = (
  λ h.
      let report = reported_ok identity text (named_id text) id h in
      record { named = (parsed_ok _ id report.0).0; encoded = report.1 },
  λ is.
      let found : named_id text ≡ Ok id = ap named_id is.encoded ∙ named-evidence identity id is.named in
      let same : same_bytes text (evidence_text identity id) ≡ true = (bytes_decides text (evidence_text identity id)).1 is.encoded in
      rw (found, same) refl,
)

pub one_transaction : (identity other text : List ℕ) (a b : TxId) → IsEvidence identity text a → IsEvidence other text b → a ≡ b
one_transaction identity other text a b is has =
    let first : named_id text ≡ Ok a = ap named_id is.encoded ∙ named-evidence identity a is.named in
    let second : named_id text ≡ Ok b = ap named_id has.encoded ∙ named-evidence other b has.named in
    cc
