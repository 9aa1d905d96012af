-- What a signer signs is valid under each key under which its endorsement is, has its leaf, and has
-- so many bytes.
use Rattle.std.proofs.Common.{◌≡◌, ℕ, ◌^◌, ◌<◌, List, [], ◌∷◌, ◌++◌, length, Option, Some, None, ap, ◌∙◌, append_assoc, length-append, arith}
use Rattle.gl_hss.specs.Bytes.{u32str}
use Rattle.gl_hss.specs.Types.{height}
use Rattle.gl_hss.specs.Tree.{Signature, PublicKey, key_bytes, signature_bytes, IsKey}
use Rattle.gl_hss.specs.Hss.{hss_bytes, IsValid, HasLeaf}
use Rattle.gl_hss.specs.Secrets.{PrivateKey, public_of}
use Rattle.gl_hss.specs.Profile.{randomizer_of, signature_by}
use Rattle.gl_hss.specs.Signer.{levels_above, hss_signature, signature_size, StandsUnder}
use Rattle.gl_hss.proofs.Spans.{length-u32str}
use Rattle.gl_hss.proofs.EncodedFields.{length-key_bytes, length-signature_bytes}
use Rattle.gl_hss.proofs.ValidSignatures.{signature_by-IsSigned, leaf_of_signature}

-- the bytes of one level, and of two
one_level_bytes : (k : PrivateKey) (s : List ℕ) (q : ℕ) (message : List ℕ) → s ≡ hss_signature k None q message → s ≡ hss_bytes k.types [] (signature_by k q message)
unfolding levels_above
one_level_bytes k s q message e = e

two_level_bytes : (k : PrivateKey) (e s : List ℕ) (q : ℕ) (message : List ℕ) (top : PublicKey) (fields : Signature) → e ≡ signature_bytes top.types fields → s ≡ hss_signature k (Some e) q message → s ≡ hss_bytes top.types (record { signature = fields; key = public_of k } ∷ []) (signature_by k q message)
unfolding levels_above
two_level_bytes k e s q message top fields encoded is =
    let key = key_bytes (public_of k) in
    let last = signature_bytes k.types (signature_by k q message) in
    is ∙ ap (λ (x : List ℕ). u32str 1 ++ x ++ key ++ last) encoded
    ∙ ap (λ (x : List ℕ). x ++ last) (append_assoc (u32str 1) (signature_bytes top.types fields) key)
    ∙ append_assoc (u32str 1) (signature_bytes top.types fields ++ key) last

-- and how many they are
pub hss_signature_size : (k : PrivateKey) (e : Option (List ℕ)) (q : ℕ) (message : List ℕ) → IsKey (public_of k) → q < 2 ^ height k.types → length (hss_signature k e q message) ≡ signature_size k.types e
unfolding levels_above
hss_signature_size k None q message form leaf =
    let last = signature_bytes k.types (signature_by k q message) in
    omega (arith, length-append (u32str 0) last, length-u32str 0, length-signature_bytes k.types (signature_by k q message) (signature_by-IsSigned k q message leaf).form)
hss_signature_size k (Some e) q message form leaf =
    let key = key_bytes (public_of k) in
    let last = signature_bytes k.types (signature_by k q message) in
    omega (
      arith,
      length-append (u32str 1 ++ e ++ key) last,
      length-append (u32str 1 ++ e) key,
      length-append (u32str 1) e,
      length-u32str 1,
      length-key_bytes (public_of k) form,
      length-signature_bytes k.types (signature_by k q message) (signature_by-IsSigned k q message leaf).form,
    )

pub signer-IsValid : (k : PrivateKey) (e : Option (List ℕ)) (s : List ℕ) (q : ℕ) (message hss_key : List ℕ) → IsKey (public_of k) → q < 2 ^ height k.types → s ≡ hss_signature k e q message → StandsUnder k e hss_key → IsValid hss_key message s
unfolding StandsUnder
signer-IsValid k None s q message hss_key form leaf is stands = record {
  top = public_of k;
  upper = [];
  last = signature_by k q message;
  of_key = record { encoded = stands; form = form; some = omega arith; few = omega arith };
  encoded = one_level_bytes k s q message is;
  signs = signature_by-IsSigned k q message leaf;
}
signer-IsValid k (Some e) s q message hss_key form leaf is stands =
    let top = stands.top in
    let signs = stands.signs in
    record {
      top = top;
      upper = record { signature = signs.fields; key = public_of k } ∷ [];
      last = signature_by k q message;
      of_key = stands.of_key;
      encoded = two_level_bytes k e s q message top signs.fields signs.encoded is;
      signs = (signs.signed, form, signature_by-IsSigned k q message leaf);
    }

pub signer-HasLeaf : (k : PrivateKey) (e : Option (List ℕ)) (s : List ℕ) (q : ℕ) (message hss_key : List ℕ) → IsKey (public_of k) → q < 2 ^ height k.types → s ≡ hss_signature k e q message → StandsUnder k e hss_key → HasLeaf s q
unfolding StandsUnder
signer-HasLeaf k None s q message hss_key form leaf is stands =
    let signed = signature_by-IsSigned k q message leaf in
    record {
      types = k.types;
      upper = [];
      last = signature_by k q message;
      few = omega arith;
      form = signed.form;
      encoded = one_level_bytes k s q message is;
      leaf = leaf_of_signature k q (randomizer_of k q) message;
    }
signer-HasLeaf k (Some e) s q message hss_key form leaf is stands =
    let top = stands.top in
    let signs = stands.signs in
    let signed = signature_by-IsSigned k q message leaf in
    record {
      types = top.types;
      upper = record { signature = signs.fields; key = public_of k } ∷ [];
      last = signature_by k q message;
      few = omega arith;
      form = (signs.signed.form, form, signed.form);
      encoded = two_level_bytes k e s q message top signs.fields signs.encoded is;
      leaf = leaf_of_signature k q (randomizer_of k q) message;
    }
