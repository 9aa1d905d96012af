-- Digests, keys and signatures are bytes, and how many of them.
use Rattle.std.proofs.Common.{◌≡◌, ℕ, zero, suc, ◌+◌, ◌-◌, ◌*◌, ◌%◌, ◌/◌, ◌^◌, ◌<◌, Bool, true, false, List, [], ◌∷◌, ◌++◌, length, take, codes, nat_lt, nat_le, if◌then◌else◌, refl, sym, ap, ◌∙◌, add-one, arith}
use Rattle.std.specs.Prelude.{slice_index}
use Rattle.std.specs.Int.{w32, to_be_bytes}
use Rattle.std.specs.List.{list_all}
use Rattle.std.proofs.lemmas.Bool.{and_parts, and_from}
use Rattle.std.proofs.lemmas.Bool.Decides.{nat_tests}
use Rattle.std.proofs.lemmas.List.{length-take-le}
use Rattle.std.proofs.lemmas.List.Folds.{list_all-append}
use Rattle.sha2.specs.Sha256.{sha256, digest_bytes}
use Rattle.sha2.proofs.Facts256.{length-sha256}
use Rattle.gl_hss.specs.declared.types.Types.{Types}
use Rattle.gl_hss.specs.Bytes.{u32str}
use Rattle.gl_hss.specs.Types.{height, chain_count, lms_code, ots_code, signature_len}
use Rattle.gl_hss.specs.Ots.{step, steps, digits, message_digest}
use Rattle.gl_hss.specs.Tree.{leaf_node, inner_node, key_bytes, signature_bytes, IsKey}
use Rattle.gl_hss.specs.Secrets.{PrivateKey, secret, key_of_leaf, node_above, node, public_of, shown_chains, siblings, signature_with}
use Rattle.gl_hss.specs.Profile.{identifier_of, key_of_seed, randomizer_of, signature_by}
use Rattle.gl_hss.proofs.Blocks.{AreBlocks}
use Rattle.gl_hss.proofs.EncodedFields.{length-key_bytes, length-signature_bytes}
use Rattle.gl_hss.proofs.ValidSignatures.{length-node_above, shown_blocks, sibling_blocks, signature_by-IsSigned}

-- each number is a byte
abbrev pub all_bytes : List ℕ → Bool
all_bytes xs = list_all (λ (n : ℕ). nat_lt n 256) xs

pub bytes-append : (xs ys : List ℕ) → all_bytes xs ≡ true → all_bytes ys ≡ true → all_bytes (xs ++ ys) ≡ true
bytes-append xs ys left right = list_all-append (λ (n : ℕ). nat_lt n 256) xs ys ∙ and_from (all_bytes xs) (all_bytes ys) left right

pub bytes-take : (n : ℕ) (xs : List ℕ) → all_bytes xs ≡ true → all_bytes (take n xs) ≡ true
bytes-take zero xs all = refl
bytes-take (suc n) [] all = refl
bytes-take (suc n) (x ∷ xs) all =
    let both = and_parts (nat_lt x 256) (all_bytes xs) all in
    and_from (nat_lt x 256) (all_bytes (take n xs)) both.0 (bytes-take n xs both.1)

below : (n : ℕ) → nat_lt (n % 256) 256 ≡ true
below n = let small : n % 256 < 256 = omega arith in grind (arith, nat_tests)

word_bytes : (n : ℕ) → all_bytes (to_be_bytes w32 n) ≡ true
word_bytes n = rw (below (n / 16777216), below (n / 65536), below (n / 256), below n) refl

pub u32str_bytes : (n : ℕ) → all_bytes (u32str n) ≡ true
unfolding u32str
u32str_bytes n = word_bytes n

digest_bytes-bytes : (h : List ℕ) (n : ℕ) → all_bytes (digest_bytes h n) ≡ true
unfolding digest_bytes
digest_bytes-bytes h zero = refl
digest_bytes-bytes h (suc n) = bytes-append (digest_bytes h n) (to_be_bytes w32 (slice_index h n)) (digest_bytes-bytes h n) (word_bytes (slice_index h n))

pub sha256_bytes : (m : List ℕ) → all_bytes (sha256 m) ≡ true
unfolding sha256
sha256_bytes m = digest_bytes-bytes _ 8

-- ---- chains and nodes

secret_bytes : (k : PrivateKey) (q i : ℕ) → all_bytes (secret k q i) ≡ true
unfolding secret
secret_bytes k q i = sha256_bytes _

steps_bytes : (prefix : List ℕ) (from n : ℕ) (tmp : List ℕ) → all_bytes tmp ≡ true → all_bytes (steps prefix from n tmp) ≡ true
unfolding steps step
steps_bytes prefix from zero tmp h = h
steps_bytes prefix from (suc n) tmp h = sha256_bytes _

either_bytes : (b : Bool) (x y : List ℕ) → all_bytes x ≡ true → all_bytes y ≡ true → all_bytes (if b then x else y) ≡ true
either_bytes true x y h g = h
either_bytes false x y h g = g

leaf_bytes : (identifier : List ℕ) (r : ℕ) (key : List ℕ) → all_bytes (leaf_node identifier r key) ≡ true
unfolding leaf_node
leaf_bytes identifier r key = sha256_bytes _

inner_bytes : (identifier : List ℕ) (r : ℕ) (left right : List ℕ) → all_bytes (inner_node identifier r left right) ≡ true
unfolding inner_node
inner_bytes identifier r left right = sha256_bytes _

node_bytes : (k : PrivateKey) (n r : ℕ) → all_bytes (node_above k n r) ≡ true
unfolding node_above
node_bytes k zero r = leaf_bytes k.identifier r (key_of_leaf k (r - 2 ^ height k.types))
node_bytes k (suc n) r =
    either_bytes (nat_le (2 ^ height k.types) r) (leaf_node k.identifier r (key_of_leaf k (r - 2 ^ height k.types))) (inner_node k.identifier r (node_above k n (2 * r)) (node_above k n (2 * r + 1)))
    (leaf_bytes k.identifier r (key_of_leaf k (r - 2 ^ height k.types)))
    (inner_bytes k.identifier r (node_above k n (2 * r)) (node_above k n (2 * r + 1)))

-- strings of which each is bytes, one after the other
blocks_bytes : (all item : ℕ → List ℕ) → AreBlocks all item → ((n : ℕ) → all_bytes (item n) ≡ true) → (n : ℕ) → all_bytes (all n) ≡ true
blocks_bytes all item h each zero = ap all_bytes h.none
blocks_bytes all item h each (suc n) =
    ap all_bytes (ap all (sym (add-one n)) ∙ h.more n) ∙ bytes-append (all n) (item n) (blocks_bytes all item h each n) (each n)

-- ---- keys and signatures

pub public_bytes : (k : PrivateKey) → all_bytes k.identifier ≡ true → all_bytes (key_bytes (public_of k)) ≡ true
unfolding key_bytes
public_bytes k identifier =
    let lms = u32str (lms_code k.types) in
    let ots = u32str (ots_code k.types) in
    bytes-append (lms ++ ots ++ k.identifier) (node k 1)
    (bytes-append (lms ++ ots) k.identifier (bytes-append lms ots (u32str_bytes (lms_code k.types)) (u32str_bytes (ots_code k.types))) identifier)
    (node_bytes k (height k.types) 1)

pub signed_bytes : (k : PrivateKey) (q : ℕ) (message : List ℕ) → all_bytes (signature_bytes k.types (signature_by k q message)) ≡ true
unfolding signature_bytes signature_with
signed_bytes k q message =
    let ds = digits k.types (message_digest k.identifier q (randomizer_of k q) message) in
    let r = 2 ^ height k.types + q in
    let leaf = u32str q in
    let ots = u32str (ots_code k.types) in
    let chains = shown_chains k q ds (chain_count k.types) in
    let lms = u32str (lms_code k.types) in
    let path = siblings k r (height k.types) in
    bytes-append (leaf ++ ots ++ randomizer_of k q ++ chains ++ lms) path
    (bytes-append (leaf ++ ots ++ randomizer_of k q ++ chains) lms
    (bytes-append (leaf ++ ots ++ randomizer_of k q) chains
    (bytes-append (leaf ++ ots) (randomizer_of k q)
    (bytes-append leaf ots (u32str_bytes q) (u32str_bytes (ots_code k.types))) (secret_bytes k q 0xfffd))
    (blocks_bytes (shown_chains k q ds) _ (shown_blocks k q ds) (λ i. steps_bytes _ 0 _ (secret k q i) (secret_bytes k q i)) (chain_count k.types)))
    (u32str_bytes (lms_code k.types)))
    (blocks_bytes (siblings k r) _ (sibling_blocks k r) (λ i. node_bytes k (height k.types) _) (height k.types))

pub length-signed : (k : PrivateKey) (q : ℕ) (message : List ℕ) → q < 2 ^ height k.types → length (signature_bytes k.types (signature_by k q message)) ≡ signature_len k.types
length-signed k q message leaf = length-signature_bytes k.types (signature_by k q message) (signature_by-IsSigned k q message leaf).form

-- ---- the key of a seed

identifier_bytes : (seed : List ℕ) → all_bytes (identifier_of seed) ≡ true
unfolding identifier_of
identifier_bytes seed = bytes-take 16 (sha256 (codes "gl-id" ++ seed)) (sha256_bytes (codes "gl-id" ++ seed))

length-identifier : (seed : List ℕ) → length (identifier_of seed) ≡ 16
unfolding identifier_of
length-identifier seed = length-take-le 16 (sha256 (codes "gl-id" ++ seed)) (omega (arith, length-sha256 (codes "gl-id" ++ seed)))

pub seed_IsKey : (t : Types) (seed : List ℕ) → IsKey (public_of (key_of_seed t seed))
seed_IsKey t seed = record { identifier = length-identifier seed; root = length-node_above (key_of_seed t seed) (height t) 1 }

pub seed_key_bytes : (t : Types) (seed : List ℕ) → all_bytes (key_bytes (public_of (key_of_seed t seed))) ≡ true
seed_key_bytes t seed = public_bytes (key_of_seed t seed) (identifier_bytes seed)

pub length-seed_key : (t : Types) (seed : List ℕ) → length (key_bytes (public_of (key_of_seed t seed))) ≡ 56
length-seed_key t seed = length-key_bytes (public_of (key_of_seed t seed)) (seed_IsKey t seed)
