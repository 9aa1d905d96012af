-- The records of a journal, and their bytes.
use Rattle.std.specs.Prelude.{◌≡◌, ℕ, ◌^◌, ◌<◌, ◌&&◌, List, [], ◌∷◌, ◌++◌, length, take, drop, Option, None, Some, ◌==◌, nat_lt, if◌then◌else◌}
use Rattle.gl_base.specs.LittleEndian.{little_endian, from_little_endian}
use Rattle.gl_hss.specs.declared.types.Types.{Types}
use Rattle.gl_hss.specs.declared.types.Types.TheVariants.{H5W4, H5W8, H10W4, H10W8}
use Rattle.gl_journal.specs.Gates.{body_of}
use Rattle.gl_journal.specs.declared.key.KeyKind.{KeyKind}
use Rattle.gl_journal.specs.declared.key.KeyKind.TheVariants.{Service, Node, Member}
use Rattle.gl_journal.specs.declared.key.Key.{Key as KeyFields}

-- A record: a key; a view and the vote there, if one was given; the place that a ledger was cut to;
-- the frame of an entry that was appended; how many leaves of the key are spent or reserved; a
-- snapshot's body; how many leaves the start of a service spent.
pub data RecordValue : Type 0 where
  Key : KeyFields → RecordValue
  Vote : ℕ → Option (List ℕ) → RecordValue
  Cut : ℕ → RecordValue
  Append : List ℕ → RecordValue
  Signer : ℕ → RecordValue
  Install : List ℕ → RecordValue
  Start : ℕ → RecordValue

abbrev pub kind_of : RecordValue → ℕ
kind_of (Key key) = 1
kind_of (Vote view vote) = 2
kind_of (Cut to) = 3
kind_of (Append frame) = 4
kind_of (Signer reserved) = 5
kind_of (Install body) = 6
kind_of (Start leaves) = 7

abbrev pub key_kind_tag : KeyKind → ℕ
key_kind_tag Service = 1
key_kind_tag Node = 2
key_kind_tag Member = 3

abbrev pub types_tag : Types → ℕ
types_tag H5W4 = 1
types_tag H5W8 = 2
types_tag H10W4 = 3
types_tag H10W8 = 4

abbrev pub vote_bytes : Option (List ℕ) → List ℕ
vote_bytes None = 0 ∷ []
vote_bytes (Some id) = 1 ∷ id

abbrev pub record_body : RecordValue → List ℕ
record_body (Key key) = key_kind_tag key.kind ∷ types_tag key.types ∷ key.seed
record_body (Vote view vote) = little_endian 4 view ++ vote_bytes vote
record_body (Cut to) = little_endian 8 to
record_body (Append frame) = frame
record_body (Signer reserved) = little_endian 4 reserved
record_body (Install body) = body
record_body (Start leaves) = little_endian 4 leaves

-- A record is its kind, the length of its body in four bytes, and the body.
abbrev pub record_bytes : RecordValue → List ℕ
record_bytes rec = kind_of rec ∷ body_of (record_body rec)

-- Records, one after the other.
abbrev pub records_bytes : List RecordValue → List ℕ
records_bytes [] = []
records_bytes (rec ∷ recs) = record_bytes rec ++ records_bytes recs

-- The fields of a record are in their ranges.
abbrev pub IsId : Option (List ℕ) → Type 0
IsId None = Unit {0}
IsId (Some id) = length id ≡ 32

abbrev pub IsRecord : RecordValue → Type 0
IsRecord (Key key) = length key.seed ≡ 32
IsRecord (Vote view vote) = (view < 2 ^ 32) × IsId vote
IsRecord (Cut to) = to < 2 ^ 64
IsRecord (Append frame) = length frame < 2 ^ 32
IsRecord (Signer reserved) = reserved < 2 ^ 32
IsRecord (Install body) = length body < 2 ^ 32
IsRecord (Start leaves) = leaves < 2 ^ 32

abbrev pub AreRecords : List RecordValue → Type 0
AreRecords [] = Unit {0}
AreRecords (rec ∷ recs) = IsRecord rec × AreRecords recs

-- What bytes are read as

abbrev pub then_some : {A B : Type 0} → Option A → (A → Option B) → Option B
then_some None f = None
then_some (Some a) f = f a

-- A body that is exactly a number of so many bytes.
abbrev pub whole_number : ℕ → List ℕ → Option ℕ
whole_number size body = if length body == size then Some (from_little_endian body) else None

abbrev pub key_kind_in : ℕ → Option KeyKind
key_kind_in tag =
    if tag == 1 then Some Service
    else (if tag == 2 then Some Node else (if tag == 3 then Some Member else None))

abbrev pub types_in : ℕ → Option Types
types_in tag =
    if tag == 1 then Some H5W4
    else (if tag == 2 then Some H5W8
    else (if tag == 3 then Some H10W4 else (if tag == 4 then Some H10W8 else None)))

abbrev pub key_with : Option KeyKind → Option Types → List ℕ → Option RecordValue
key_with None types seed = None
key_with (Some kind) None seed = None
key_with (Some kind) (Some types) seed =
    if length seed == 32 then Some (Key (record { kind = kind; types = types; seed = seed }))
    else None

abbrev pub key_in : List ℕ → Option RecordValue
key_in [] = None
key_in (kind ∷ []) = None
key_in (kind ∷ types ∷ seed) = key_with (key_kind_in kind) (types_in types) seed

abbrev pub vote_in : List ℕ → Option (Option (List ℕ))
vote_in [] = None
vote_in (given ∷ id) =
    if given == 0 && (length id == 0) then Some None
    else (if given == 1 && (length id == 32) then Some (Some id) else None)

abbrev pub vote_record_in : List ℕ → Option RecordValue
vote_record_in body =
    if nat_lt (length body) 5 then None
    else then_some (vote_in (drop 4 body))
    (λ vote. Some (Vote (from_little_endian (take 4 body)) vote))

-- The record of this kind with this body, where there is one.
unfoldable pub record_of : ℕ → List ℕ → Option RecordValue
record_of kind body =
    if kind == 1 then key_in body
    else (if kind == 2 then vote_record_in body
    else (if kind == 3 then then_some (whole_number 8 body) (λ n. Some (Cut n))
    else (if kind == 4 then Some (Append body)
    else (if kind == 5 then then_some (whole_number 4 body) (λ n. Some (Signer n))
    else (if kind == 6 then Some (Install body)
    else (if kind == 7 then then_some (whole_number 4 body) (λ n. Some (Start n)) else None))))))
