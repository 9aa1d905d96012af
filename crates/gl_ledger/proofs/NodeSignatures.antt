-- What a node signs with one of its leaves is a signature of it, valid after a ledger of its
-- service.
use Rattle.std.proofs.Common.{◌≡◌, ℕ, ◌<◌, ◌≤◌, ◌^◌, List, [], ◌∷◌, ◌++◌, length, Some, None, Result, Ok, Bool, true, if◌then◌else◌, sym, ap, ◌∙◌, append_assoc, arith}
use Rattle.std.specs.Cmp.Lexicographic.{bytes_decides}
use Rattle.sha2.specs.Sha256.{sha256}
use Rattle.gl_hss.specs.declared.fault.HssFault.{HssFault}
use Rattle.gl_hss.specs.declared.fault.HssFault.TheVariants as faults
use Rattle.gl_hss.specs.Bytes.{u32str}
use Rattle.gl_hss.specs.Tree.{PublicKey, Signature, key_bytes, signature_bytes}
use Rattle.gl_hss.specs.Hss.{IsValid, hss_bytes}
use Rattle.gl_hss.specs.Order.{last_key_verdict}
use Rattle.gl_hss.specs.Secrets.{PrivateKey, public_of}
use Rattle.gl_hss.specs.Profile.{signature_by}
use Rattle.gl_hss.specs.Signer.{hss_signature, StandsUnder, levels_above}
use Rattle.gl_hss.proofs.ValidSignatures.{signature_by-IsSigned}
use Rattle.gl_hss.proofs.Verdicts.{valid_verdict}
use Rattle.gl_hss.proofs.Bounds.{last_key_valid, length-valid}
use Rattle.gl_hss.proofs.Octets.{u32str_bytes, signed_bytes}
use Rattle.gl_base.specs.Bytes.{are_bytes}
use Rattle.gl_rules.specs.Identity.{NodeId}
use Rattle.gl_entry.specs.declared.entry.Entry.{Entry}
use Rattle.gl_ledger.specs.ServiceRow.{identity_in}
use Rattle.gl_ledger.specs.Tree.{tables_of}
use Rattle.gl_ledger.specs.Ledger.{message_after}
use Rattle.gl_ledger.specs.Makers.{MakesValid}
use Rattle.gl_ledger.specs.Recordings.{endorsement_in}
use Rattle.gl_gov_rules.proofs.Digests.{bytes-append}
use Rattle.gl_ledger.specs.NodeKeys.{NodeKeys, leaf_count, node_signature, signer_fault, fault_or_else, node_signature_fault, service_layers, IsNodeKey}

-- the bytes of a node's signature, level by level
two_levels : (k : PrivateKey) (e : List ℕ) (q : ℕ) (message : List ℕ) (top : PublicKey) (fields : Signature) → e ≡ signature_bytes top.types fields →
    hss_signature k (Some e) q message ≡ hss_bytes top.types (record { signature = fields; key = public_of k } ∷ []) (signature_by k q message)
unfolding levels_above
two_levels k e q message top fields encoded =
    let key = key_bytes (public_of k) in
    let last = signature_bytes k.types (signature_by k q message) in
    ap (λ (x : List ℕ). u32str 1 ++ x ++ key ++ last) encoded
    ∙ ap (λ (x : List ℕ). x ++ last) (append_assoc (u32str 1) (signature_bytes top.types fields) key)
    ∙ append_assoc (u32str 1) (signature_bytes top.types fields ++ key) last

module _ (keys : NodeKeys) (endorsement identity : List ℕ) (x : NodeId) (leaf : ℕ) (message : List ℕ) (h : IsNodeKey keys endorsement identity x) where
  pub node_bytes : are_bytes (node_signature keys endorsement x leaf message) ≡ true
  unfolding levels_above
  node_bytes =
      let k = keys.key_of x in
      let key = key_bytes (public_of k) in
      let one = u32str 1 in
      bytes-append (one ++ endorsement ++ key) (signature_bytes k.types (signature_by k leaf message))
      (bytes-append (one ++ endorsement) key (bytes-append one endorsement (u32str_bytes 1) h.bytes) h.key)
      (signed_bytes k leaf message)

  module _ (low : leaf < leaf_count keys x) where
    valid : IsValid identity message (node_signature keys endorsement x leaf message)
    unfolding StandsUnder
    valid =
        let k = keys.key_of x in
        let top = h.stands.top in
        let signs = h.stands.signs in
        record {
          top = top;
          upper = record { signature = signs.fields; key = public_of k } ∷ [];
          last = signature_by k leaf message;
          of_key = h.stands.of_key;
          encoded = two_levels k endorsement leaf message top signs.fields signs.encoded;
          signs = (signs.signed, h.form, signature_by-IsSigned k leaf message low);
        }

    -- the key that made its last level is the node's
    signer : last_key_verdict identity (node_signature keys endorsement x leaf message) ≡ Ok (key_bytes (public_of (keys.key_of x)))
    unfolding StandsUnder valid
    signer = last_key_valid identity message (node_signature keys endorsement x leaf message) valid

    pub node_signs : node_signature_fault identity x message (node_signature keys endorsement x leaf message) ≡ None
    node_signs =
        let s = node_signature keys endorsement x leaf message in
        let key = key_bytes (public_of (keys.key_of x)) in
        ap (λ (r : Result (Unit {0}) HssFault). fault_or_else r (signer_fault x (last_key_verdict identity s))) (valid_verdict identity message s valid)
        ∙ ap (signer_fault x) signer
        ∙ ap (λ (b : Bool). if b then None else Some (faults.Root x (sha256 key))) ((bytes_decides (sha256 key) x).1 (sym h.named))

    pub node_short : length (node_signature keys endorsement x leaf message) ≤ 2 ^ 16
    node_short = let most = length-valid identity message (node_signature keys endorsement x leaf message) valid in omega (arith, most)

-- so what it signs after a ledger whose service it is of, with the endorsement in its row, is valid
-- there
pub node_makes : (keys : NodeKeys) (identity : List ℕ) (x : NodeId) (leaf : ℕ) (ledger : List Entry) (view commit : ℕ) →
    IsNodeKey keys (endorsement_in ledger x) identity x → leaf < leaf_count keys x → identity_in (tables_of ledger) ≡ identity → MakesValid service_layers keys x leaf ledger view commit
node_makes keys identity x leaf ledger view commit h low is =
    let e = endorsement_in ledger x in
    let message = message_after ledger view commit in
    record {
      bytes = node_bytes keys e identity x leaf message h;
      short = node_short keys e identity x leaf message h low;
      valid = ap (λ (i : List ℕ). node_signature_fault i x message (node_signature keys e x leaf message)) is ∙ node_signs keys e identity x leaf message h low;
    }
