-- Trees of one-time keys, LMS (RFC 8554, 5).
use Rattle.std.specs.Prelude.{ℕ, ◌≡◌, ◌<◌, zero, suc, ◌+◌, ◌*◌, ◌/◌, ◌%◌, ◌^◌, List, [], ◌∷◌, ◌++◌, length, ◌==◌, if◌then◌else◌}
use Rattle.sha2.specs.Sha256.{sha256}
use Rattle.gl_hss.specs.declared.types.Types.{Types}
use Rattle.gl_hss.specs.Bytes.{u32str, block}
use Rattle.gl_hss.specs.Types.{height, chain_count, lms_code, ots_code}
use Rattle.gl_hss.specs.Ots.{key_candidate}

-- D_LEAF and D_INTR (7.1)
abbrev pub d_leaf : List ℕ
d_leaf = 0x82 ∷ 0x82 ∷ []

abbrev pub d_intr : List ℕ
d_intr = 0x83 ∷ 0x83 ∷ []

-- T[r] of a leaf with the one-time public key K (5.3)
unfoldable pub leaf_node : List ℕ → ℕ → List ℕ → List ℕ
leaf_node identifier r key = sha256 (identifier ++ u32str r ++ d_leaf ++ key)

-- T[r] of an inner node, from T[2r] and T[2r+1] (5.3)
unfoldable pub inner_node : List ℕ → ℕ → List ℕ → List ℕ → List ℕ
inner_node identifier r left right = sha256 (identifier ++ u32str r ++ d_intr ++ left ++ right)

-- the node above node m, which is a right child where m is odd (5.4.2, algorithm 6a)
unfoldable pub parent : List ℕ → ℕ → List ℕ → List ℕ → List ℕ
parent identifier m sibling value =
    if m % 2 == 1 then inner_node identifier (m / 2) sibling value
    else inner_node identifier (m / 2) value sibling

-- the value n levels above node r, whose own value is given, by the first n siblings of a path
unfoldable pub climb : List ℕ → List ℕ → ℕ → ℕ → List ℕ → List ℕ
climb identifier path r zero value = value
climb identifier path r (suc n) value =
    parent identifier (r / 2 ^ n) (block path n) (climb identifier path r n value)

-- an LMS signature: q, C, y and the path from the leaf's sibling up (4.5 and 5.4)
pub record Signature : Type 0 where
  pub leaf : ℕ
  pub randomizer : List ℕ
  pub chains : List ℕ
  pub path : List ℕ

-- an LMS public key (5.3)
pub record PublicKey : Type 0 where
  pub types : Types
  pub identifier : List ℕ
  pub root : List ℕ

-- the bytes of an LMS public key: its typecodes, I and T[1] (5.3)
unfoldable pub key_bytes : PublicKey → List ℕ
key_bytes k = u32str (lms_code k.types) ++ u32str (ots_code k.types) ++ k.identifier ++ k.root

-- the bytes of an LMS signature: q, the LM-OTS signature, the typecode and the path (5.4)
unfoldable pub signature_bytes : Types → Signature → List ℕ
signature_bytes t s =
    u32str s.leaf ++ u32str (ots_code t) ++ s.randomizer ++ s.chains
    ++ u32str (lms_code t) ++ s.path

-- Tc: the root that a signature of the message leads to (5.4.2, algorithm 6a)
unfoldable pub root_candidate : Types → List ℕ → Signature → List ℕ → List ℕ
root_candidate t identifier s message =
    climb identifier s.path (2 ^ height t + s.leaf) (height t)
    (leaf_node identifier (2 ^ height t + s.leaf)
    (key_candidate t identifier s.leaf s.randomizer s.chains message))

-- the fields of an LMS public key have their lengths (5.3)
pub record IsKey (k : PublicKey) : Type 0 where
  pub identifier : length k.identifier ≡ 16
  pub root : length k.root ≡ 32

-- the fields of an LMS signature have their lengths, and the tree has the leaf (5.4)
pub record IsSignature (t : Types) (s : Signature) : Type 0 where
  pub leaf : s.leaf < 2 ^ height t
  pub randomizer : length s.randomizer ≡ 32
  pub chains : length s.chains ≡ 32 * chain_count t
  pub path : length s.path ≡ 32 * height t

-- the signature of the message is valid under the key: it leads to the key's T[1] (5.4.2)
pub record IsSigned (k : PublicKey) (message : List ℕ) (s : Signature) : Type 0 where
  pub form : IsSignature k.types s
  pub root : root_candidate k.types k.identifier s message ≡ k.root

-- the bytes are a signature of the message by leaf q, valid under the LMS public key (5.4)
pub record Signs (k : PublicKey) (q : ℕ) (message bytes : List ℕ) : Type 0 where
  pub fields : Signature
  pub encoded : bytes ≡ signature_bytes k.types fields
  pub leaf : fields.leaf ≡ q
  pub signed : IsSigned k message fields
