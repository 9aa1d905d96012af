-- What the test of signatures means by RFC 8554.
use Rattle.std.proofs.Common.{◌≡◌, ◌↔◌, ℕ, zero, suc, ◌<◌, List, [], ◌∷◌, length, get_or, None, Some, Result, Ok, Err, Bool, true, false, if◌then◌else◌, refl, sym, ap, ◌∙◌, arith}
use Rattle.std.specs.Cmp.Lexicographic.{bytes_decides}
use Rattle.std.proofs.lemmas.Bool.{and_parts}
use Rattle.std.proofs.lemmas.Bool.Decides.{nat_tests}
use Rattle.sha2.specs.Sha256.{sha256}
use Rattle.gl_base.specs.Bytes.{is_byte, are_bytes, same_bytes}
use Rattle.gl_hss.specs.declared.fault.HssFault.{HssFault}
use Rattle.gl_hss.specs.declared.fault.HssFault.TheVariants as faults
use Rattle.gl_hss.specs.Tree.{key_bytes}
use Rattle.gl_hss.specs.Hss.{last_key}
use Rattle.gl_hss.specs.Order.{verdict, last_key_verdict}
use Rattle.gl_hss.proofs.Verdicts.{verdict_ok, valid_verdict}
use Rattle.gl_hss.proofs.Bounds.{last_key_valid}
use Rattle.gl_rules.specs.Identity.{NodeId}
use Rattle.gl_ledger.specs.NodeKeys.{signer_fault, fault_or_else, node_signature_fault, IsSignedBy}

octets : (xs : List ℕ) → are_bytes xs ≡ true → (i : ℕ) → get_or xs i 0 < 256
octets [] h zero = omega arith
octets [] h (suc i) = omega arith
octets (x ∷ xs) h zero = let parts = and_parts (is_byte x) (are_bytes xs) h in grind (arith, nat_tests, parts.0)
octets (x ∷ xs) h (suc i) = octets xs (and_parts (is_byte x) (are_bytes xs) h).1 i

signed_so : (identity : List ℕ) (x : NodeId) (message signature : List ℕ) → length identity ≡ 60 → are_bytes identity ≡ true → are_bytes signature ≡ true →
    node_signature_fault identity x message signature ≡ None → IsSignedBy identity x message signature
signed_so identity x message signature long bytes signed h = go (verdict identity message signature) refl h
  where
    named : (key : List ℕ) (b : Bool) → same_bytes (sha256 key) x ≡ b → (if b then None else Some (faults.Root x (sha256 key))) ≡ None → x ≡ sha256 key
    named key true is w = sym ((bytes_decides (sha256 key) x).0 is)
    named key false is w = absurd (cc)

    go : (r : Result (Unit {0}) HssFault) → verdict identity message signature ≡ r → fault_or_else r (signer_fault x (last_key_verdict identity signature)) ≡ None → IsSignedBy identity x message signature
    go (Err f) is w = absurd (cc)
    go (Ok u) is w =
        let v = verdict_ok identity message signature (octets identity bytes) long (octets signature signed) is in
        let key = key_bytes (last_key v.top v.upper) in
        record {
          key = key;
          valid = record { valid = v; signer = refl };
          named = named key (same_bytes (sha256 key) x) refl (sym (ap (signer_fault x) (last_key_valid identity message signature v)) ∙ w);
        }

so_signed : (identity : List ℕ) (x : NodeId) (message signature : List ℕ) → IsSignedBy identity x message signature → node_signature_fault identity x message signature ≡ None
so_signed identity x message signature s =
    let v = s.valid.valid in
    ap (λ (r : Result (Unit {0}) HssFault). fault_or_else r (signer_fault x (last_key_verdict identity signature))) (valid_verdict identity message signature v)
    ∙ ap (signer_fault x) (last_key_valid identity message signature v ∙ ap (λ (key : List ℕ). Ok key) s.valid.signer)
    ∙ ap (λ (b : Bool). if b then None else Some (faults.Root x (sha256 s.key))) ((bytes_decides (sha256 s.key) x).1 (sym s.named))

-- no fault is found exactly in what the node signed
pub signature_means : (identity : List ℕ) (x : NodeId) (message signature : List ℕ) → length identity ≡ 60 → are_bytes identity ≡ true → are_bytes signature ≡ true →
    node_signature_fault identity x message signature ≡ None ↔ IsSignedBy identity x message signature
signature_means identity x message signature long bytes signed = (signed_so identity x message signature long bytes signed, so_signed identity x message signature)
