-- The durable state that the records of a journal fold into, and what a file opens to.
use Rattle.std.specs.Prelude.{◌≡◌, ◌⊎◌, ℕ, zero, suc, ◌+◌, ◌-◌, ◌^◌, Bool, true, false, ◌||◌, ◌&&◌, List, [], ◌∷◌, ◌++◌, length, take, Option, None, Some, Result, Ok, Err, ◌==◌, nat_lt, if◌then◌else◌}
use Rattle.gl_base.specs.Cut.{Unread}
use Rattle.gl_base.specs.declared.fault.CutFault.{CutFault}
use Rattle.gl_hss.specs.Types.{height}
use Rattle.gl_outside.specs.Disk.{Step, IsImage}
use Rattle.gl_journal.specs.Gates.{payload_at, Opening, payloads_of}
use Rattle.gl_journal.specs.Parts.{HasGate}
use Rattle.gl_journal.specs.Records.{RecordValue, Key, Vote, Cut, Append, Signer, Install, Start, then_some, record_of}
use Rattle.gl_journal.specs.declared.fault.JournalFault.{JournalFault}
use Rattle.gl_journal.specs.declared.fault.JournalFault.TheVariants.{NotJournal, BadRecord}
use Rattle.gl_journal.specs.declared.installed.Installed.{Installed}
use Rattle.gl_journal.specs.declared.key.Key.{Key as KeyFields}

-- What a node, a member or a service keeps.
pub record Durable : Type 0 where
  pub key : KeyFields
  -- the view that it is in, the node that it voted for there, and whether a Vote record was there
  pub view : ℕ
  pub vote : Option (List ℕ)
  pub has_vote_record : Bool
  -- the body of the snapshot that stands for its ledger's entries up to the base, and the frames
  -- of the entries from there on
  pub base : ℕ
  pub snapshot : Option (List ℕ)
  pub log : List (List ℕ)
  -- how many leaves of the key are spent or reserved, and how many the start of a service spent
  pub reserved : ℕ
  pub start : Option ℕ

-- A key alone. The first view is 2.
abbrev pub key_alone : KeyFields → Durable
key_alone key = record {
  key = key;
  view = 2;
  vote = None;
  has_vote_record = false;
  base = 0;
  snapshot = None;
  log = [];
  reserved = 0;
  start = None;
}

-- The number of leaves of its key's tree.
abbrev pub leaf_count : Durable → ℕ
leaf_count state = 2 ^ height state.key.types

-- What a log lets in: a frame after the frames so far, which stand on a snapshot's body where there
-- is one; and bytes as such a body, of which it tells what the fold reads, or nothing where they
-- are none.
pub record LogRules : Type 0 where
  pub appends : Option (List ℕ) → List (List ℕ) → List ℕ → Bool
  pub installs : List ℕ → Option Installed

-- The state in this view, with no vote there, where it was in an earlier one.
abbrev pub raised : ℕ → Durable → Durable
raised view state =
    if nat_lt state.view view then record state { view = view; vote = None } else state

-- The state after a snapshot with this body, where it is one.
abbrev pub installed : Durable → List ℕ → Option Installed → Option Durable
installed state body None = None
installed state body (Some at) =
    Some (record (raised at.view state) { base = at.base; snapshot = Some body })

-- One record more after a key, where it folds. A key is the first record alone, a snapshot comes
-- where the base is 0 and there is no entry, and a view, the count of leaves and a ledger's base
-- never fall.
abbrev pub fold_record : LogRules → Durable → RecordValue → Option Durable
fold_record goes_on state (Key key) = None
fold_record goes_on state (Vote view vote) =
    if nat_lt view state.view then None
    else Some (record state { view = view; vote = vote; has_vote_record = true })
fold_record goes_on state (Cut to) =
    if nat_lt to state.base || nat_lt (state.base + length state.log) to then None
    else Some (record state { log = take (to - state.base) state.log })
fold_record goes_on state (Append frame) =
    if goes_on.appends state.snapshot state.log frame
    then Some (record state { log = state.log ++ frame ∷ [] }) else None
fold_record goes_on state (Signer reserved) =
    if nat_lt reserved state.reserved || nat_lt (leaf_count state) reserved then None
    else Some (record state { reserved = reserved })
fold_record goes_on state (Install body) =
    if (state.base == 0) && (length state.log == 0)
    then installed state body (goes_on.installs body) else None
fold_record goes_on state (Start leaves) =
    if nat_lt (leaf_count state) leaves then None else Some (record state { start = Some leaves })

-- Records, one after the other, where all of them fold.
abbrev pub fold_records : LogRules → Durable → List RecordValue → Option Durable
fold_records goes_on state [] = Some state
fold_records goes_on state (rec ∷ recs) =
    then_some (fold_record goes_on state rec) (λ next. fold_records goes_on next recs)

-- The first record, which is a key.
abbrev pub first_record : RecordValue → Option Durable
first_record (Key key) = Some (key_alone key)
first_record (Vote view vote) = None
first_record (Cut to) = None
first_record (Append frame) = None
first_record (Signer reserved) = None
first_record (Install body) = None
first_record (Start leaves) = None

-- One record more after those before it, if there were any.
unfoldable pub fold_next : LogRules → Option Durable → RecordValue → Option Durable
fold_next goes_on None rec = first_record rec
fold_next goes_on (Some state) rec = fold_record goes_on state rec

-- What records fold into so far, or the place of the first that doesn't parse or fold.
abbrev pub Folding : Type 0
Folding = Result (Option Durable) ℕ

abbrev pub Next : Type 0
Next = ℕ → List ℕ → Option Durable → Folding

abbrev pub after_fold : ℕ → Option Durable → Unread → Next → Folding
after_fold at None new next = Err at
after_fold at (Some state) new next = next new.at new.bytes (Some state)

abbrev pub after_record : LogRules → ℕ → Option RecordValue → Option Durable → Unread → Next
    → Folding
after_record goes_on at None state new next = Err at
after_record goes_on at (Some rec) state new next =
    after_fold at (fold_next goes_on state rec) new next

abbrev pub after_body : LogRules → ℕ → ℕ → Option Durable → Result (List ℕ × Unread) CutFault → Next
    → Folding
after_body goes_on at kind state (Err fault) next = Err at
after_body goes_on at kind state (Ok read) next =
    after_record goes_on at (record_of kind read.0) state read.1 next

-- At most so many records, from a place on.
abbrev pub fold_within : LogRules → ℕ → ℕ → List ℕ → Option Durable → Folding
fold_within goes_on zero at bytes state = Ok state
fold_within goes_on (suc count) at [] state = Ok state
fold_within goes_on (suc count) at (kind ∷ bytes) state =
    after_body goes_on at kind state (payload_at (at + 1) bytes) (fold_within goes_on count)

-- The records of a payload of which the first byte stands at a place. There are at most as many as
-- bytes.
unfoldable pub fold_payload : LogRules → ℕ → List ℕ → Option Durable → Folding
fold_payload goes_on at payload state = fold_within goes_on (length payload) at payload state

abbrev pub then_folding : Folding → (Option Durable → Folding) → Folding
then_folding (Ok state) f = f state
then_folding (Err at) f = Err at

-- The records of payloads, of which the first stands after the gate at a place.
abbrev pub fold_payloads : LogRules → ℕ → List (List ℕ) → Option Durable → Folding
fold_payloads goes_on place [] state = Ok state
fold_payloads goes_on place (payload ∷ payloads) state =
    then_folding (fold_payload goes_on (place + 5) payload state)
    (fold_payloads goes_on (place + 5 + length payload) payloads)

-- The same of the payloads that bytes open to.
abbrev pub fold_opening : LogRules → ℕ → Opening → Option Durable → Folding
fold_opening goes_on place (Ok payloads) state = fold_payloads goes_on place payloads state
fold_opening goes_on place (Err at) state = Err at

-- The first record of the first payload is of the kind of a key.
abbrev pub begins_with_key : List (List ℕ) → Bool
begins_with_key [] = false
begins_with_key ([] ∷ payloads) = false
begins_with_key ((kind ∷ payload) ∷ payloads) = kind == 1

abbrev pub fold_answer : Folding → Result Durable JournalFault
fold_answer (Ok None) = Err (NotJournal 8)
fold_answer (Ok (Some state)) = Ok state
fold_answer (Err at) = Err (BadRecord at)

abbrev pub durable_of : LogRules → Result (List (List ℕ)) JournalFault → Result Durable JournalFault
durable_of goes_on (Err fault) = Err fault
durable_of goes_on (Ok payloads) =
    if begins_with_key payloads then fold_answer (fold_payloads goes_on 8 payloads None)
    else Err (NotJournal 8)

-- GLJOURN1
abbrev pub journal_header : List ℕ
journal_header = 71 ∷ 76 ∷ 74 ∷ 79 ∷ 85 ∷ 82 ∷ 78 ∷ 49 ∷ []

-- The durable state that a file opens to.
unfoldable pub durable : LogRules → List ℕ → Result Durable JournalFault
durable goes_on file = durable_of goes_on (payloads_of journal_header file)

-- An image has its closed gate, and opens to the one state or to the other.
abbrev pub OpensToOneOf : LogRules → Durable → Durable → List ℕ → Type 0
OpensToOneOf goes_on state next image =
    HasGate journal_header image
    × ((durable goes_on image ≡ Ok state) ⊎ (durable goes_on image ≡ Ok next))

-- An image that a stop might have left before, or one that has its closed gate and opens to the
-- state that these bytes open to.
abbrev pub OpensToTheSame : LogRules → List ℕ → List Step → List ℕ → Type 0
OpensToTheSame goes_on bytes past image =
    IsImage past image
    ⊎ (HasGate journal_header image × (durable goes_on image ≡ durable goes_on bytes))

-- An image opens to no state, or to this key alone.
abbrev pub OpensToKeyOrNone : LogRules → KeyFields → List ℕ → Type 0
OpensToKeyOrNone goes_on key image =
    ((fault : JournalFault) × (durable goes_on image ≡ Err fault))
    ⊎ (durable goes_on image ≡ Ok (key_alone key))

-- An image that a stop might have left before, or one that opens to no state or to this key alone.
abbrev pub OpensToKeyAlone : LogRules → KeyFields → List Step → List ℕ → Type 0
OpensToKeyAlone goes_on key past image = IsImage past image ⊎ OpensToKeyOrNone goes_on key image
