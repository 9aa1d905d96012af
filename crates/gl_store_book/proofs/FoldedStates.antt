-- What holds of a key alone and stays with each record that folds holds of each state that a file
-- opens to.
use Rattle.std.proofs.Common.{◌≡◌, ℕ, zero, suc, ◌+◌, ◌<◌, ◌≤◌, Bool, true, false, ◌||◌, ◌&&◌, ◌==◌, nat_lt, if◌then◌else◌, List, [], ◌∷◌, length, Option, None, Some, Result, Ok, Err, refl, subst, arith, ltb-false}
use Rattle.std.proofs.lemmas.Bool.{or_parts}
use Rattle.gl_base.specs.Cut.{Unread}
use Rattle.gl_base.specs.declared.fault.CutFault.{CutFault}
use Rattle.gl_journal.specs.Gates.{payload_at, payloads_of}
use Rattle.gl_journal.specs.Records.{RecordValue, Key, Vote, Cut, Append, Signer, Install, Start, record_of}
use Rattle.gl_journal.specs.Durable.{Durable, LogRules, Folding, Next, leaf_count, key_alone, raised, installed, fold_record, first_record, fold_next, after_fold, after_record, after_body, fold_within, fold_payload, then_folding, fold_payloads, begins_with_key, fold_answer, durable_of, durable, journal_header}
use Rattle.gl_journal.specs.declared.fault.JournalFault.{JournalFault}
use Rattle.gl_journal.specs.declared.installed.Installed.{Installed}
use Rattle.gl_journal.specs.declared.key.Key.{Key as KeyFields}
use Rattle.gl_store_book.specs.BasedLedgers.{body_encoded, body_of}
use Rattle.gl_store_book.specs.Frames.{goes_on_ledger}
use Rattle.gl_store_book.proofs.InstalledBodies.{told_base}

module _ (P : Durable → Type 0) where
  abbrev pub HoldsAny : Option Durable → Type 0
  HoldsAny None = Unit {0}
  HoldsAny (Some s) = P s

  abbrev HoldsEach : Folding → Type 0
  HoldsEach (Ok state) = HoldsAny state
  HoldsEach (Err at) = Unit {0}

  abbrev HoldsAll : Result Durable JournalFault → Type 0
  HoldsAll (Ok s) = P s
  HoldsAll (Err fault) = Unit {0}

  pub holds_unless : (b : Bool) (next : Durable) → (b ≡ false → P next) → HoldsAny (if b then None else Some next)
  holds_unless true next here = tt
  holds_unless false next here = here refl

  pub holds_if : (b : Bool) (next : Durable) → P next → HoldsAny (if b then Some next else None)
  holds_if true next here = here
  holds_if false next here = tt

  module _ (goes_on : LogRules) (alone : (key : KeyFields) → P (key_alone key)) (stays : (s : Durable) (rec : RecordValue) → P s → HoldsAny (fold_record goes_on s rec)) where
    first_holds : (rec : RecordValue) → HoldsAny (first_record rec)
    first_holds (Key key) = alone key
    first_holds (Vote view vote) = tt
    first_holds (Cut to) = tt
    first_holds (Append frame) = tt
    first_holds (Signer reserved) = tt
    first_holds (Install body) = tt
    first_holds (Start leaves) = tt

    next_holds : (state : Option Durable) (rec : RecordValue) → HoldsAny state → HoldsAny (fold_next goes_on state rec)
    unfolding fold_next
    next_holds None rec here = first_holds rec
    next_holds (Some s) rec here = stays s rec here

    abbrev Follows : Next → Type 0
    Follows next = (at : ℕ) (bytes : List ℕ) (state : Option Durable) → HoldsAny state → HoldsEach (next at bytes state)

    fold_step : (at : ℕ) (folded : Option Durable) (new : Unread) (next : Next) → Follows next → HoldsAny folded → HoldsEach (after_fold at folded new next)
    fold_step at None new next follows here = tt
    fold_step at (Some s) new next follows here = follows new.at new.bytes (Some s) here

    record_step : (at : ℕ) (found : Option RecordValue) (state : Option Durable) (new : Unread) (next : Next) → Follows next → HoldsAny state → HoldsEach (after_record goes_on at found state new next)
    record_step at None state new next follows here = tt
    record_step at (Some rec) state new next follows here = fold_step at (fold_next goes_on state rec) new next follows (next_holds state rec here)

    body_step : (at kind : ℕ) (state : Option Durable) (read : Result (List ℕ × Unread) CutFault) (next : Next) → Follows next → HoldsAny state → HoldsEach (after_body goes_on at kind state read next)
    body_step at kind state (Err fault) next follows here = tt
    body_step at kind state (Ok read) next follows here = record_step at (record_of kind read.0) state read.1 next follows here

    records_hold : (count : ℕ) → Follows (fold_within goes_on count)
    records_hold zero at bytes state here = here
    records_hold (suc count) at [] state here = here
    records_hold (suc count) at (kind ∷ bytes) state here =
        body_step at kind state (payload_at (at + 1) bytes) (fold_within goes_on count) (records_hold count) here

    payload_holds : (at : ℕ) (payload : List ℕ) (state : Option Durable) → HoldsAny state → HoldsEach (fold_payload goes_on at payload state)
    unfolding fold_payload
    payload_holds at payload state here = records_hold (length payload) at payload state here

    then_holds : (folded : Folding) (f : Option Durable → Folding) → HoldsEach folded → ((state : Option Durable) → HoldsAny state → HoldsEach (f state)) → HoldsEach (then_folding folded f)
    then_holds (Ok state) f here each = each state here
    then_holds (Err at) f here each = tt

    payloads_hold : (place : ℕ) (payloads : List (List ℕ)) (state : Option Durable) → HoldsAny state → HoldsEach (fold_payloads goes_on place payloads state)
    payloads_hold place [] state here = here
    payloads_hold place (payload ∷ payloads) state here =
        then_holds (fold_payload goes_on (place + 5) payload state) (fold_payloads goes_on (place + 5 + length payload) payloads)
        (payload_holds (place + 5) payload state here) (payloads_hold (place + 5 + length payload) payloads)

    answer_holds : (folded : Folding) → HoldsEach folded → HoldsAll (fold_answer folded)
    answer_holds (Ok None) here = tt
    answer_holds (Ok (Some s)) here = here
    answer_holds (Err at) here = tt

    begun_holds : (b : Bool) (folded : Folding) (fault : JournalFault) → HoldsEach folded → HoldsAll (if b then fold_answer folded else Err fault)
    begun_holds true folded fault here = answer_holds folded here
    begun_holds false folded fault here = tt

    opening_holds : (opening : Result (List (List ℕ)) JournalFault) → HoldsAll (durable_of goes_on opening)
    opening_holds (Err fault) = tt
    opening_holds (Ok payloads) = begun_holds (begins_with_key payloads) (fold_payloads goes_on 8 payloads None) _ (payloads_hold 8 payloads None tt)

    pub durable_holds : (file : List ℕ) (s : Durable) → durable goes_on file ≡ Ok s → P s
    unfolding durable
    durable_holds file s is = subst HoldsAll is (opening_holds (payloads_of journal_header file))

-- ---- what each file of a node opens to

-- The base is that of the snapshot, which there is none of where it is 0; and no more leaves are
-- spent than there are.
pub record IsOrdered (s : Durable) : Type 0 where
  pub base : s.base ≡ (body_of s.snapshot).base
  pub begun : s.base ≡ 0 → s.snapshot ≡ None
  pub within : s.reserved ≤ leaf_count s

ordered_alone : (key : KeyFields) → IsOrdered (key_alone key)
ordered_alone key = record { base = refl; begun = λ none. refl; within = omega arith }

raised_within : (view : ℕ) (s : Durable) → s.reserved ≤ leaf_count s → (raised view s).reserved ≤ leaf_count (raised view s)
raised_within view s within = go (nat_lt s.view view)
  where
    go : (b : Bool) → let r : Durable = if b then record s { view = view; vote = None } else s in r.reserved ≤ leaf_count r
    go true = within
    go false = within

-- a snapshot that folds tells its base, which is above 0
install_ordered : (s : Durable) (bytes : List ℕ) (first : Bool) (found : Option Installed) → ((at : Installed) → found ≡ Some at → (at.base ≡ (body_encoded bytes).base) × (0 < at.base)) → IsOrdered s →
    HoldsAny IsOrdered (if first then installed s bytes found else None)
install_ordered s bytes true None told here = tt
install_ordered s bytes true (Some at) told here =
    let is = told at refl in
    let above = is.1 in
    record { base = is.0; begun = λ none. absurd (omega (arith, above, none)); within = raised_within at.view s here.within }
install_ordered s bytes false found told here = tt

ordered_stays : (s : Durable) (rec : RecordValue) → IsOrdered s → HoldsAny IsOrdered (fold_record goes_on_ledger s rec)
ordered_stays s (Key key) here = tt
ordered_stays s (Vote view vote) here = holds_unless IsOrdered (nat_lt view s.view) _ (λ is. record { base = here.base; begun = here.begun; within = here.within })
ordered_stays s (Cut to) here = holds_unless IsOrdered (nat_lt to s.base || nat_lt (s.base + length s.log) to) _ (λ is. record { base = here.base; begun = here.begun; within = here.within })
ordered_stays s (Append frame) here = holds_if IsOrdered (goes_on_ledger.appends s.snapshot s.log frame) _ (record { base = here.base; begun = here.begun; within = here.within })
ordered_stays s (Signer reserved) here = holds_unless IsOrdered (nat_lt reserved s.reserved || nat_lt (leaf_count s) reserved) _
    (λ is. record { base = here.base; begun = here.begun; within = ltb-false (leaf_count s) reserved (or_parts (nat_lt reserved s.reserved) (nat_lt (leaf_count s) reserved) is).1 })
ordered_stays s (Install bytes) here = install_ordered s bytes ((s.base == 0) && (length s.log == 0)) (goes_on_ledger.installs bytes) (told_base bytes) here
ordered_stays s (Start leaves) here = holds_unless IsOrdered (nat_lt (leaf_count s) leaves) _ (λ is. record { base = here.base; begun = here.begun; within = here.within })

pub durable_ordered : (file : List ℕ) (s : Durable) → durable goes_on_ledger file ≡ Ok s → IsOrdered s
durable_ordered file s is = durable_holds IsOrdered goes_on_ledger ordered_alone ordered_stays file s is
