-- Keys and signatures made from a seed (RFC 8554, 4.2, 4.5, 5.3, 5.4 and appendix A).
use Rattle.std.specs.Prelude.{ℕ, zero, suc, ◌+◌, ◌-◌, ◌*◌, ◌/◌, ◌%◌, ◌^◌, List, [], ◌++◌, nat_le, ◌==◌, if◌then◌else◌}
use Rattle.sha2.specs.Sha256.{sha256}
use Rattle.gl_hss.specs.declared.types.Types.{Types}
use Rattle.gl_hss.specs.Bytes.{u8str}
use Rattle.gl_hss.specs.Types.{height, width, chain_count}
use Rattle.gl_hss.specs.Ots.{coef, digits, chain_prefix, chain, message_digest, one_time_key}
use Rattle.gl_hss.specs.Tree.{Signature, PublicKey, leaf_node, inner_node}

-- what a key is made from: its parameter set, I and SEED (appendix A)
pub record PrivateKey : Type 0 where
  pub types : Types
  pub identifier : List ℕ
  pub seed : List ℕ

-- x[i] of leaf q: H(I || u32str(q) || u16str(i) || u8str(0xff) || SEED) (appendix A)
unfoldable pub secret : PrivateKey → ℕ → ℕ → List ℕ
secret k q i = sha256 (chain_prefix k.identifier q i ++ u8str 0xff ++ k.seed)

-- the ends of the first n chains of leaf q (4.3)
unfoldable pub whole_chains : PrivateKey → ℕ → ℕ → List ℕ
whole_chains k q zero = []
whole_chains k q (suc n) =
    whole_chains k q n ++ chain k.identifier q n 0 (2 ^ width k.types - 1) (secret k q n)

-- K of leaf q (4.3)
unfoldable pub key_of_leaf : PrivateKey → ℕ → List ℕ
key_of_leaf k q = one_time_key k.identifier q (whole_chains k q (chain_count k.types))

-- y[0] || .. || y[n-1]: the first n chains of leaf q, each up to the place of its digit (4.5)
unfoldable pub shown_chains : PrivateKey → ℕ → List ℕ → ℕ → List ℕ
shown_chains k q ds zero = []
shown_chains k q ds (suc n) =
    shown_chains k q ds n ++ chain k.identifier q n 0 (coef ds n (width k.types)) (secret k q n)

-- T[r], with at most n levels below node r (5.3)
unfoldable pub node_above : PrivateKey → ℕ → ℕ → List ℕ
node_above k zero r = leaf_node k.identifier r (key_of_leaf k (r - 2 ^ height k.types))
node_above k (suc n) r =
    if nat_le (2 ^ height k.types) r
    then leaf_node k.identifier r (key_of_leaf k (r - 2 ^ height k.types))
    else inner_node k.identifier r (node_above k n (2 * r)) (node_above k n (2 * r + 1))

-- T[r] (5.3)
abbrev pub node : PrivateKey → ℕ → List ℕ
node k r = node_above k (height k.types) r

-- the public key: T[1] is its root (5.3)
abbrev pub public_of : PrivateKey → PublicKey
public_of k = record { types = k.types; identifier = k.identifier; root = node k 1 }

-- the other node below the same parent
abbrev pub sibling : ℕ → ℕ
sibling r = if r % 2 == 1 then r - 1 else r + 1

-- the siblings on the way up from node r, the first n of them (5.4.1)
unfoldable pub siblings : PrivateKey → ℕ → ℕ → List ℕ
siblings k r zero = []
siblings k r (suc n) = siblings k r n ++ node k (sibling (r / 2 ^ n))

-- the signature of a message by leaf q with the randomizer C (4.5 and 5.4.1)
unfoldable pub signature_with : PrivateKey → ℕ → List ℕ → List ℕ → Signature
signature_with k q randomizer message = record {
  leaf = q;
  randomizer = randomizer;
  chains = shown_chains k q (digits k.types (message_digest k.identifier q randomizer message))
      (chain_count k.types);
  path = siblings k (2 ^ height k.types + q) (height k.types);
}
