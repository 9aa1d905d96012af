-- The fields of a key or a signature that are read are the fields that were encoded.
use Rattle.std.proofs.Common.{◌≡◌, ℕ, ◌+◌, ◌*◌, ◌^◌, ◌<◌, ◌≤◌, List, ◌++◌, length, refl, arith}
use Rattle.std.proofs.lemmas.List.{length-append}
use Rattle.gl_hss.specs.declared.types.Types.{Types}
use Rattle.gl_hss.specs.declared.types.Types.TheVariants.{H5W4, H5W8, H10W4, H10W8}
use Rattle.gl_hss.specs.Bytes.{u32str, number_at, bytes_at}
use Rattle.gl_hss.specs.Types.{height, chain_count, lms_code, ots_code, signature_len}
use Rattle.gl_hss.specs.Tree.{Signature, PublicKey, key_bytes, signature_bytes, IsKey, IsSignature}
use Rattle.gl_hss.specs.Lent.{key_fields, signature_fields}
use Rattle.gl_hss.proofs.Spans.{IsBytes, Spans, Spans-append, spans_bytes, spans_number, length-bytes_at, length-Spans, bytes_at-Spans, spans_left, spans_right, length-u32str, number_at-Spans}

-- ---- bounds on the parameters

pub record AreSmall (t : Types) : Type 0 where
  pub lms : lms_code t < 2 ^ 32
  pub ots : ots_code t < 2 ^ 32
  pub leaves : 2 ^ height t < 2 ^ 32
  pub chains : chain_count t ≤ 67
  pub levels : height t ≤ 10

pub are_small : (t : Types) → AreSmall t
are_small H5W4 = record { lms = omega arith; ots = omega arith; leaves = omega arith; chains = omega arith; levels = omega arith }
are_small H5W8 = record { lms = omega arith; ots = omega arith; leaves = omega arith; chains = omega arith; levels = omega arith }
are_small H10W4 = record { lms = omega arith; ots = omega arith; leaves = omega arith; chains = omega arith; levels = omega arith }
are_small H10W8 = record { lms = omega arith; ots = omega arith; leaves = omega arith; chains = omega arith; levels = omega arith }

-- ---- a key

-- the typecodes of a key stand at this place
pub record HasKeyCodes (t : Types) (s : List ℕ) (at : ℕ) : Type 0 where
  pub lms : number_at s at ≡ lms_code t
  pub ots : number_at s (at + 4) ≡ ots_code t

pub key_fields-IsKey : (t : Types) (s : List ℕ) (at : ℕ) → at + 56 ≤ length s → IsKey (key_fields t s at)
key_fields-IsKey t s at room = record {
  identifier = length-bytes_at s (at + 8) 16 (omega arith);
  root = length-bytes_at s (at + 24) 32 (omega arith);
}

pub key_spans : (t : Types) (s : List ℕ) (at to : ℕ) → IsBytes s → at + 56 ≤ length s → at + 56 ≡ to → HasKeyCodes t s at → Spans s at (key_bytes (key_fields t s at)) to
unfolding key_bytes
key_spans t s at to fits room e codes =
    let lms : Spans s at (u32str (lms_code t)) (at + 4) = rw (← codes.lms) (spans_number s at (at + 4) fits (omega arith) refl) in
    let ots : Spans s (at + 4) (u32str (ots_code t)) (at + 8) = rw (← codes.ots) (spans_number s (at + 4) (at + 8) fits (omega arith) (omega arith)) in
    let identifier = spans_bytes s (at + 8) 16 (at + 24) (omega arith) in
    let root = spans_bytes s (at + 24) 32 to (omega arith) in
    Spans-append s at (at + 24) to _ _ (Spans-append s at (at + 8) (at + 24) _ _ (Spans-append s at (at + 4) (at + 8) _ _ lms ots) identifier) root

pub length-key_bytes : (k : PublicKey) → IsKey k → length (key_bytes k) ≡ 56
unfolding key_bytes
length-key_bytes k form =
    let codes = u32str (lms_code k.types) ++ u32str (ots_code k.types) in
    omega (arith, length-append (codes ++ k.identifier) k.root, length-append codes k.identifier, length-append (u32str (lms_code k.types)) (u32str (ots_code k.types)), length-u32str (lms_code k.types), length-u32str (ots_code k.types), form.identifier, form.root)

pub record KeyStands (k : PublicKey) (s : List ℕ) (at : ℕ) : Type 0 where
  pub room : at + 56 ≤ length s
  pub codes : HasKeyCodes k.types s at
  pub fields : key_fields k.types s at ≡ k

pub key_stands : (k : PublicKey) (s : List ℕ) (at to : ℕ) → Spans s at (key_bytes k) to → IsKey k → KeyStands k s at
unfolding key_bytes
key_stands k s at to p form =
    let small = are_small k.types in
    let l = u32str (lms_code k.types) in
    let o = u32str (ots_code k.types) in
    let len = length-key_bytes k form in
    let codes-len : length (l ++ o) ≡ 8 = omega (arith, length-append l o, length-u32str (lms_code k.types), length-u32str (ots_code k.types)) in
    let prefix-len : length (l ++ o ++ k.identifier) ≡ 24 = omega (arith, length-append (l ++ o) k.identifier, form.identifier) in
    let prefix = spans_left s at to 24 (l ++ o ++ k.identifier) k.root p prefix-len in
    let root = spans_right s at to 24 (l ++ o ++ k.identifier) k.root p prefix-len in
    let codes = spans_left s at (at + 24) 8 (l ++ o) k.identifier prefix codes-len in
    let identifier = spans_right s at (at + 24) 8 (l ++ o) k.identifier prefix codes-len in
    let lms = spans_left s at (at + 8) 4 l o codes (length-u32str (lms_code k.types)) in
    let ots = spans_right s at (at + 8) 4 l o codes (length-u32str (lms_code k.types)) in
    let identifier-is : bytes_at s (at + 8) 16 ≡ k.identifier = bytes_at-Spans s (at + 8) (at + 24) 16 k.identifier identifier form.identifier in
    let root-is : bytes_at s (at + 24) 32 ≡ k.root = bytes_at-Spans s (at + 24) to 32 k.root root form.root in
    record {
      room = omega (arith, length-Spans s at to (key_bytes k) p (omega arith));
      codes = record {
        lms = number_at-Spans s at (at + 4) (lms_code k.types) lms small.lms;
        ots = number_at-Spans s (at + 4) (at + 8) (ots_code k.types) ots small.ots;
      };
      fields = rw (identifier-is, root-is) refl;
    }

-- ---- an LMS signature

-- the typecodes of a signature stand in the signature at this place
pub record HasCodes (t : Types) (s : List ℕ) (at : ℕ) : Type 0 where
  pub ots : number_at s (at + 4) ≡ ots_code t
  pub lms : number_at s (at + 40 + 32 * chain_count t) ≡ lms_code t

pub signature_fields-IsSignature : (t : Types) (s : List ℕ) (at : ℕ) → at + signature_len t ≤ length s → number_at s at < 2 ^ height t → IsSignature t (signature_fields t s at)
signature_fields-IsSignature t s at room leaf = record {
  leaf = leaf;
  randomizer = length-bytes_at s (at + 8) 32 (omega arith);
  chains = length-bytes_at s (at + 40) (32 * chain_count t) (omega arith);
  path = length-bytes_at s (at + 44 + 32 * chain_count t) (32 * height t) (omega arith);
}

pub signature_spans : (t : Types) (s : List ℕ) (at to : ℕ) → IsBytes s → at + signature_len t ≤ length s → at + signature_len t ≡ to → HasCodes t s at → Spans s at (signature_bytes t (signature_fields t s at)) to
unfolding signature_bytes
signature_spans t s at to fits room e codes =
    let p = 32 * chain_count t in
    let leaf = spans_number s at (at + 4) fits (omega arith) refl in
    let ots : Spans s (at + 4) (u32str (ots_code t)) (at + 8) = rw (← codes.ots) (spans_number s (at + 4) (at + 8) fits (omega arith) (omega arith)) in
    let randomizer = spans_bytes s (at + 8) 32 (at + 40) (omega arith) in
    let chains = spans_bytes s (at + 40) p (at + 40 + p) refl in
    let lms : Spans s (at + 40 + p) (u32str (lms_code t)) (at + 44 + p) = rw (← codes.lms) (spans_number s (at + 40 + p) (at + 44 + p) fits (omega arith) (omega arith)) in
    let path = spans_bytes s (at + 44 + p) (32 * height t) to (omega arith) in
    Spans-append s at (at + 44 + p) to _ _
    (Spans-append s at (at + 40 + p) (at + 44 + p) _ _
    (Spans-append s at (at + 40) (at + 40 + p) _ _
    (Spans-append s at (at + 8) (at + 40) _ _
    (Spans-append s at (at + 4) (at + 8) _ _ leaf ots) randomizer) chains) lms) path

pub record SignatureStands (t : Types) (g : Signature) (s : List ℕ) (at : ℕ) : Type 0 where
  pub room : at + signature_len t ≤ length s
  pub codes : HasCodes t s at
  pub fields : signature_fields t s at ≡ g

pub length-signature_bytes : (t : Types) (g : Signature) → IsSignature t g → length (signature_bytes t g) ≡ signature_len t
unfolding signature_bytes
length-signature_bytes t g form =
    let a = u32str g.leaf in
    let b = a ++ u32str (ots_code t) in
    let d = b ++ g.randomizer in
    let e = d ++ g.chains in
    let f = e ++ u32str (lms_code t) in
    omega (arith, length-append f g.path, length-append e (u32str (lms_code t)), length-append d g.chains, length-append b g.randomizer, length-append a (u32str (ots_code t)), length-u32str g.leaf, length-u32str (ots_code t), length-u32str (lms_code t), form.randomizer, form.chains, form.path)

pub signature_stands : (t : Types) (g : Signature) (s : List ℕ) (at to : ℕ) → Spans s at (signature_bytes t g) to → IsSignature t g → SignatureStands t g s at
unfolding signature_bytes
signature_stands t g s at to span form =
    let small = are_small t in
    let p = 32 * chain_count t in
    let a = u32str g.leaf in
    let o = u32str (ots_code t) in
    let l = u32str (lms_code t) in
    let b = a ++ o in
    let d = b ++ g.randomizer in
    let e = d ++ g.chains in
    let f = e ++ l in
    let whole = length-signature_bytes t g form in
    let b-len : length b ≡ 8 = omega (arith, length-append a o, length-u32str g.leaf, length-u32str (ots_code t)) in
    let d-len : length d ≡ 40 = omega (arith, length-append b g.randomizer, form.randomizer) in
    let e-len : length e ≡ 40 + p = omega (arith, length-append d g.chains, form.chains) in
    let f-len : length f ≡ 44 + p = omega (arith, length-append e l, length-u32str (lms_code t)) in
    let f-span = spans_left s at to (44 + p) f g.path span f-len in
    let path = spans_right s at to (44 + p) f g.path span f-len in
    let e-span = spans_left s at (at + (44 + p)) (40 + p) e l f-span e-len in
    let lms = spans_right s at (at + (44 + p)) (40 + p) e l f-span e-len in
    let d-span = spans_left s at (at + (40 + p)) 40 d g.chains e-span d-len in
    let chains = spans_right s at (at + (40 + p)) 40 d g.chains e-span d-len in
    let b-span = spans_left s at (at + 40) 8 b g.randomizer d-span b-len in
    let randomizer = spans_right s at (at + 40) 8 b g.randomizer d-span b-len in
    let leaf = spans_left s at (at + 8) 4 a o b-span (length-u32str g.leaf) in
    let ots = spans_right s at (at + 8) 4 a o b-span (length-u32str g.leaf) in
    let path-at : at + (44 + p) ≡ at + 44 + p = omega arith in
    let lms-at : at + (40 + p) ≡ at + 40 + p = omega arith in
    let leaf-is : number_at s at ≡ g.leaf = number_at-Spans s at (at + 4) g.leaf leaf (omega (arith, form.leaf, small.leaves)) in
    let randomizer-is : bytes_at s (at + 8) 32 ≡ g.randomizer = bytes_at-Spans s (at + 8) (at + 40) 32 g.randomizer randomizer form.randomizer in
    let chains-is : bytes_at s (at + 40) p ≡ g.chains = bytes_at-Spans s (at + 40) (at + (40 + p)) p g.chains chains form.chains in
    let path-is : bytes_at s (at + 44 + p) (32 * height t) ≡ g.path = rw (← path-at) (bytes_at-Spans s (at + (44 + p)) to (32 * height t) g.path path form.path) in
    record {
      room = omega (arith, whole, length-Spans s at to (signature_bytes t g) span (omega arith));
      codes = record {
        ots = number_at-Spans s (at + 4) (at + 8) (ots_code t) ots small.ots;
        lms = rw (← lms-at) (number_at-Spans s (at + (40 + p)) (at + (44 + p)) (lms_code t) lms small.lms);
      };
      fields = rw (leaf-is, randomizer-is, chains-is, path-is) refl;
    }
