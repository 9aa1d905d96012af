-- Keys are bytes, so many of them.
use Rattle.std.proofs.Common.{◌≡◌, ℕ, List, length, true, arith, length-append}
use Rattle.gl_hss.specs.declared.types.Types.TheVariants.{H5W4}
use Rattle.gl_hss.specs.Bytes.{u32str}
use Rattle.gl_hss.proofs.Spans.{length-u32str}
use Rattle.gl_hss.proofs.Octets.{u32str_bytes, length-seed_key, seed_key_bytes}
use Rattle.gl_base.specs.Bytes.{are_bytes, are_sized}
use Rattle.gl_gov_rules.proofs.Digests.{bytes-append, are_sized-true}
use Rattle.gl_world.specs.Keys.{lms_key, hss_key}

pub lms_key_bytes : (seed : List ℕ) → are_bytes (lms_key seed) ≡ true
lms_key_bytes seed = seed_key_bytes H5W4 seed

pub lms_key_sized : (seed : List ℕ) → are_sized 56 (lms_key seed) ≡ true
lms_key_sized seed = are_sized-true 56 (lms_key seed) (length-seed_key H5W4 seed) (lms_key_bytes seed)

pub length-hss_key : (levels : ℕ) (seed : List ℕ) → length (hss_key levels seed) ≡ 60
length-hss_key levels seed =
    omega (arith, length-append (u32str levels) (lms_key seed), length-u32str levels, length-seed_key H5W4 seed)

pub hss_key_sized : (levels : ℕ) (seed : List ℕ) → are_sized 60 (hss_key levels seed) ≡ true
hss_key_sized levels seed =
    are_sized-true 60 (hss_key levels seed) (length-hss_key levels seed)
    (bytes-append (u32str levels) (lms_key seed) (u32str_bytes levels) (lms_key_bytes seed))
