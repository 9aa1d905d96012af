-- What a file opens to has at most as many leaves spent as its key has.
use Rattle.std.proofs.Common.{◌≡◌, ℕ, zero, suc, ◌+◌, ◌≤◌, Bool, true, false, ◌||◌, ◌&&◌, ◌==◌, nat_lt, if◌then◌else◌, List, [], ◌∷◌, length, Option, None, Some, Result, Ok, Err, refl, subst, arith, ltb-false}
use Rattle.gl_base.specs.Cut.{Unread}
use Rattle.gl_base.specs.declared.fault.CutFault.{CutFault}
use Rattle.gl_journal.specs.Gates.{payload_at, payloads_of}
use Rattle.gl_journal.specs.Records.{RecordValue, Key, Vote, Cut, Append, Signer, Install, Start, record_of}
use Rattle.gl_journal.specs.Durable.{Durable, LogRules, Folding, Next, leaf_count, raised, installed, fold_record, first_record, fold_next, after_fold, after_record, after_body, fold_within, fold_payload, then_folding, fold_payloads, begins_with_key, fold_answer, durable_of, durable, journal_header}
use Rattle.gl_journal.specs.declared.installed.Installed.{Installed}
use Rattle.gl_journal.specs.declared.fault.JournalFault.{JournalFault}

-- No more leaves are spent than there are.
abbrev pub Within : Durable → Type 0
Within s = s.reserved ≤ leaf_count s

abbrev WithinAny : Option Durable → Type 0
WithinAny None = Unit {0}
WithinAny (Some s) = Within s

abbrev WithinEach : Folding → Type 0
WithinEach (Ok state) = WithinAny state
WithinEach (Err at) = Unit {0}

abbrev WithinAll : Result Durable JournalFault → Type 0
WithinAll (Ok s) = Within s
WithinAll (Err fault) = Unit {0}

if_none : (b : Bool) (next : Durable) → (b ≡ false → Within next) → WithinAny (if b then None else Some next)
if_none true next here = tt
if_none false next here = here refl

if_some : (b : Bool) (next : Durable) → Within next → WithinAny (if b then Some next else None)
if_some true next here = here
if_some false next here = tt

if_any : (b : Bool) (next : Option Durable) → WithinAny next → WithinAny (if b then next else None)
if_any true next here = here
if_any false next here = tt

raised_within : (view : ℕ) (s : Durable) → Within s → Within (raised view s)
raised_within view s here = go (nat_lt s.view view)
  where
    go : (b : Bool) → Within (if b then record s { view = view; vote = None } else s)
    go true = here
    go false = here

installed_within : (s : Durable) (body : List ℕ) (at : Option Installed) → Within s → WithinAny (installed s body at)
installed_within s body None here = tt
installed_within s body (Some at) here = raised_within at.view s here

not_second : (a b : Bool) → (a || b) ≡ false → b ≡ false
not_second true b is = cc
not_second false b is = is

module _ (goes_on : LogRules) where
  record_within : (s : Durable) (rec : RecordValue) → Within s → WithinAny (fold_record goes_on s rec)
  record_within s (Key key) here = tt
  record_within s (Vote view vote) here = if_none (nat_lt view s.view) _ (λ is. here)
  record_within s (Cut to) here = if_none (nat_lt to s.base || nat_lt (s.base + length s.log) to) _ (λ is. here)
  record_within s (Append frame) here = if_some (goes_on.appends s.snapshot s.log frame) _ here
  record_within s (Signer reserved) here = if_none (nat_lt reserved s.reserved || nat_lt (leaf_count s) reserved) _
      (λ is. ltb-false (leaf_count s) reserved (not_second (nat_lt reserved s.reserved) (nat_lt (leaf_count s) reserved) is))
  record_within s (Install body) here = if_any ((s.base == 0) && (length s.log == 0)) _ (installed_within s body (goes_on.installs body) here)
  record_within s (Start leaves) here = if_none (nat_lt (leaf_count s) leaves) _ (λ is. here)

  first_within : (rec : RecordValue) → WithinAny (first_record rec)
  first_within (Key key) = omega arith
  first_within (Vote view vote) = tt
  first_within (Cut to) = tt
  first_within (Append frame) = tt
  first_within (Signer reserved) = tt
  first_within (Install body) = tt
  first_within (Start leaves) = tt

  next_within : (state : Option Durable) (rec : RecordValue) → WithinAny state → WithinAny (fold_next goes_on state rec)
  unfolding fold_next
  next_within None rec here = first_within rec
  next_within (Some s) rec here = record_within s rec here

  abbrev Follows : Next → Type 0
  Follows next = (at : ℕ) (bytes : List ℕ) (state : Option Durable) → WithinAny state → WithinEach (next at bytes state)

  fold_step : (at : ℕ) (folded : Option Durable) (new : Unread) (next : Next) → Follows next → WithinAny folded → WithinEach (after_fold at folded new next)
  fold_step at None new next follows here = tt
  fold_step at (Some s) new next follows here = follows new.at new.bytes (Some s) here

  record_step : (at : ℕ) (found : Option RecordValue) (state : Option Durable) (new : Unread) (next : Next) → Follows next → WithinAny state → WithinEach (after_record goes_on at found state new next)
  record_step at None state new next follows here = tt
  record_step at (Some rec) state new next follows here = fold_step at (fold_next goes_on state rec) new next follows (next_within state rec here)

  body_step : (at kind : ℕ) (state : Option Durable) (read : Result (List ℕ × Unread) CutFault) (next : Next) → Follows next → WithinAny state → WithinEach (after_body goes_on at kind state read next)
  body_step at kind state (Err fault) next follows here = tt
  body_step at kind state (Ok read) next follows here = record_step at (record_of kind read.0) state read.1 next follows here

  records_within : (count : ℕ) → Follows (fold_within goes_on count)
  records_within zero at bytes state here = here
  records_within (suc count) at [] state here = here
  records_within (suc count) at (kind ∷ bytes) state here =
      body_step at kind state (payload_at (at + 1) bytes) (fold_within goes_on count) (records_within count) here

  payload_within : (at : ℕ) (payload : List ℕ) (state : Option Durable) → WithinAny state → WithinEach (fold_payload goes_on at payload state)
  unfolding fold_payload
  payload_within at payload state here = records_within (length payload) at payload state here

  then_within : (folded : Folding) (f : Option Durable → Folding) → WithinEach folded → ((state : Option Durable) → WithinAny state → WithinEach (f state)) → WithinEach (then_folding folded f)
  then_within (Ok state) f here each = each state here
  then_within (Err at) f here each = tt

  payloads_within : (place : ℕ) (payloads : List (List ℕ)) (state : Option Durable) → WithinAny state → WithinEach (fold_payloads goes_on place payloads state)
  payloads_within place [] state here = here
  payloads_within place (payload ∷ payloads) state here =
      then_within (fold_payload goes_on (place + 5) payload state) (fold_payloads goes_on (place + 5 + length payload) payloads)
      (payload_within (place + 5) payload state here) (payloads_within (place + 5 + length payload) payloads)

  answer_within : (folded : Folding) → WithinEach folded → WithinAll (fold_answer folded)
  answer_within (Ok None) here = tt
  answer_within (Ok (Some s)) here = here
  answer_within (Err at) here = tt

  begun_within : (b : Bool) (folded : Folding) (fault : JournalFault) → WithinEach folded → WithinAll (if b then fold_answer folded else Err fault)
  begun_within true folded fault here = answer_within folded here
  begun_within false folded fault here = tt

  opening_within : (opening : Result (List (List ℕ)) JournalFault) → WithinAll (durable_of goes_on opening)
  opening_within (Err fault) = tt
  opening_within (Ok payloads) = begun_within (begins_with_key payloads) (fold_payloads goes_on 8 payloads None) _ (payloads_within 8 payloads None tt)

  pub durable_within : (file : List ℕ) (s : Durable) → durable goes_on file ≡ Ok s → Within s
  unfolding durable
  durable_within file s is = subst WithinAll is (opening_within (payloads_of journal_header file))
