-- What a recovery is made from, as one piece of bytes: the text of the settings after its length,
-- and the old ledger.
use Rattle.std.specs.Prelude.{◌≡◌, ℕ, ◌+◌, List, ◌++◌, Option, Result, Ok, Err, drop, length, nat_lt, take, if◌then◌else◌}
use Rattle.std.specs.Io.KnownBytes.{Consumes}
use Rattle.gl_base.specs.LittleEndian.{from_little_endian}
use Rattle.gl_base.specs.Steps.{◌>>=◌}
use Rattle.gl_recovery.specs.declared.recovering_fault.RecoveringFault.{RecoveringFault}
use Rattle.gl_recovery.specs.declared.recovering_fault.RecoveringFault.TheVariants as faults

-- The text of the settings, and the bytes of the old ledger.
pub record Parts : Type 0 where
  pub settings : List ℕ
  pub ledger : List ℕ

-- The most bytes that the text of the settings has.
abbrev pub settings_limit : ℕ
settings_limit = 1048576

-- A length above the limit is reported also where the bytes aren't there.
abbrev pub len_within : ℕ → Result ℕ RecoveringFault
len_within len = if nat_lt settings_limit len then Err faults.TooMuchJson else Ok len

-- The length of the text stands before it, in four bytes, the least significant first.
abbrev pub settings_len : List ℕ → Result ℕ RecoveringFault
settings_len given =
    if nat_lt (length given) 4 then Err (faults.Short (length given))
    else len_within (from_little_endian (take 4 given))

-- A text of so many bytes, and all that stands after it.
abbrev pub parts_after : List ℕ → ℕ → Result Parts RecoveringFault
parts_after given len =
    if nat_lt (length given) (4 + len) then Err (faults.Short (length given))
    else Ok (record { settings = take len (drop 4 given); ledger = drop (4 + len) given })

-- The parts that bytes are. Bytes that end within the settings, or within their length, are told by
-- how many they are.
unfoldable pub parts_of : List ℕ → Result Parts RecoveringFault
parts_of given = settings_len given >>= parts_after given

-- From the start of the bytes that are still to be read, where they are known, all was taken up to
-- the end of the settings.
abbrev pub TakesSettings : Option (List ℕ) → List ℕ → Option (List ℕ) → Type 0
TakesSettings old settings new =
    (prefix : List ℕ) × Consumes old new prefix
    × ((ledger : List ℕ) →
    parts_of (prefix ++ ledger) ≡ Ok (record { settings = settings; ledger = ledger }))
