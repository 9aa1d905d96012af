-- What RFC 8554 leaves open, as this library has it: I, SEED and C come from one seed.
use Rattle.std.specs.Prelude.{ℕ, List, ◌++◌, take, codes}
use Rattle.sha2.specs.Sha256.{sha256}
use Rattle.gl_hss.specs.declared.types.Types.{Types}
use Rattle.gl_hss.specs.Tree.{Signature}
use Rattle.gl_hss.specs.Secrets.{PrivateKey, secret, signature_with}

-- I: the first 16 bytes of H("gl-id" || seed)
unfoldable pub identifier_of : List ℕ → List ℕ
identifier_of seed = take 16 (sha256 (codes "gl-id" ++ seed))

-- the key of a seed: SEED is the seed itself
abbrev pub key_of_seed : Types → List ℕ → PrivateKey
key_of_seed t seed = record { types = t; identifier = identifier_of seed; seed = seed }

-- C of leaf q: H(I || u32str(q) || u16str(0xfffd) || u8str(0xff) || SEED), as a secret with a
-- number that no chain has. So it stays hidden until the leaf signs, and a leaf has one.
abbrev pub randomizer_of : PrivateKey → ℕ → List ℕ
randomizer_of k q = secret k q 0xfffd

-- the signature of a message by leaf q
abbrev pub signature_by : PrivateKey → ℕ → List ℕ → Signature
signature_by k q message = signature_with k q (randomizer_of k q) message
