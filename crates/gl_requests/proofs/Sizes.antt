-- How many bytes parts have.
use Rattle.std.proofs.Common.{◌≡◌, ℕ, ◌+◌, ◌*◌, List, [], ◌∷◌, ◌++◌, length, true, ◌&&◌, ◌==◌, refl, length-append, arith}
use Rattle.std.specs.List.{list_all, flat_map}
use Rattle.std.proofs.lemmas.Bool.{and_parts}
use Rattle.std.proofs.lemmas.Bool.Decides.{nat_tests}
use Rattle.std.proofs.lemmas.Grind.{common_steps}
use Rattle.gl_base.specs.LittleEndian.{little_endian}
use Rattle.gl_base.specs.Bytes.{is_byte, are_bytes, are_sized, is_digest}
use Rattle.gl_base.proofs.LittleEndianLaws.{length-little_endian}
use Rattle.gl_requests.specs.declared.genesis.ShareDigest.{ShareDigest}
use Rattle.gl_requests.specs.declared.genesis.Dealing.{Dealing}
use Rattle.gl_requests.specs.Encoding.{share_bytes, dealing_bytes}
use Rattle.gl_requests.specs.Ranges.{are_counted, is_member_number, is_share, is_dealing}

pub ruleset sizes = (common_steps, length-append, length-little_endian)

pub sized_length : (n : ℕ) (xs : List ℕ) → are_sized n xs ≡ true → length xs ≡ n
sized_length n xs h = let both = and_parts (length xs == n) (are_bytes xs) h in grind (arith, nat_tests, both.0)

length-shares : (shares : List ShareDigest) → list_all is_share shares ≡ true → length (flat_map share_bytes shares) ≡ 33 * length shares
length-shares [] all = refl
length-shares (s ∷ shares) all =
    let both = and_parts (is_share s) (list_all is_share shares) all in
    let digest = sized_length 32 s.digest (and_parts (is_member_number s.member) (is_digest s.digest) both.0).1 in
    omega (arith, length-append (share_bytes s) (flat_map share_bytes shares), length-shares shares both.1)

-- a dealing takes 34 bytes, and 33 for each share
pub length-dealing_bytes : (d : Dealing) → is_dealing d ≡ true → length (dealing_bytes d) ≡ 34 + 33 * length d.shares
length-dealing_bytes d fits =
    let a = and_parts (is_byte d.threshold && is_digest d.secret_digest) (are_counted is_share d.shares) fits in
    let b = and_parts (is_byte d.threshold) (is_digest d.secret_digest) a.0 in
    let secret = sized_length 32 d.secret_digest b.1 in
    let shares = length-shares d.shares (and_parts _ (list_all is_share d.shares) a.1).1 in
    let count = length-little_endian 1 (length d.shares) in
    let counted = length-append (little_endian 1 (length d.shares)) (flat_map share_bytes d.shares) in
    omega (arith, length-append (d.threshold ∷ d.secret_digest) (little_endian 1 (length d.shares) ++ flat_map share_bytes d.shares))

pub ruleset dealing_sizes = (length-dealing_bytes)
