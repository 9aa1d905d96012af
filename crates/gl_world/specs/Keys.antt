-- Keys from seeds. All have the types LMS_SHA256_M32_H5 and LMOTS_SHA256_N32_W4 (RFC 8554, sections
-- 5.1 and 4.1).
use Rattle.std.specs.Prelude.{ℕ, List, ◌++◌, codes}
use Rattle.sha2.specs.Sha256.{sha256}
use Rattle.gl_hss.specs.declared.types.Types.TheVariants.{H5W4}
use Rattle.gl_hss.specs.Bytes.{u32str}
use Rattle.gl_hss.specs.Tree.{key_bytes}
use Rattle.gl_hss.specs.Secrets.{PrivateKey, public_of}
use Rattle.gl_hss.specs.Profile.{key_of_seed}
use Rattle.gl_base.specs.LittleEndian.{little_endian}
use Rattle.gl_world.specs.declared.settings.Settings.{Settings}

-- The key that grows from a seed.
abbrev pub private_key : List ℕ → PrivateKey
private_key seed = key_of_seed H5W4 seed

-- Its LMS public key (RFC 8554, section 5.3).
abbrev pub lms_key : List ℕ → List ℕ
lms_key seed = key_bytes (public_of (private_key seed))

-- An HSS public key (RFC 8554, section 6.1): the number of levels, and the LMS key of the first.
abbrev pub hss_key : ℕ → List ℕ → List ℕ
hss_key levels seed = u32str levels ++ lms_key seed

abbrev pub service_seed : Settings → List ℕ
service_seed s = sha256 (codes "svc" ++ s.seed)

abbrev pub node_seed : Settings → ℕ → List ℕ
node_seed s number = sha256 (codes "node" ++ little_endian 4 number ++ s.seed)

abbrev pub member_seed : Settings → ℕ → List ℕ
member_seed s number = sha256 (codes "mem" ++ little_endian 4 number ++ s.seed)

-- The recovery secret.
abbrev pub recovery_secret : Settings → List ℕ
recovery_secret s = sha256 (codes "secret" ++ s.seed)

-- The seed of the generator that it is dealt with.
abbrev pub deal_seed : Settings → List ℕ
deal_seed s = sha256 (codes "deal" ++ s.seed)
