-- How payloads fold, record by record.
use Rattle.std.proofs.Common.{◌≡◌, ℕ, zero, suc, ◌+◌, ◌≤◌, List, [], ◌∷◌, ◌++◌, length, Option, None, Some, IsSome, Result, Ok, Err, IsOk, refl, ◌∙◌, ap, arith}
use Rattle.gl_base.specs.Cut.{Unread}
use Rattle.gl_base.specs.declared.fault.CutFault.{CutFault}
use Rattle.gl_journal.specs.Gates.{body_of, payload_at, Opening, with_first}
use Rattle.gl_journal.specs.Records.{RecordValue, then_some, kind_of, record_body, record_bytes, records_bytes, record_of, IsRecord, AreRecords}
use Rattle.gl_journal.specs.Durable.{Durable, LogRules, Folding, Next, fold_record, fold_records, fold_next, after_fold, after_record, after_body, fold_within, fold_payload, then_folding, fold_payloads, fold_opening, begins_with_key}
use Rattle.gl_journal.proofs.Openings.{after_shorter, payload_at-body}
use Rattle.gl_journal.proofs.RecordLaws.{record_of-encoded, body_fits}

module _ (goes_on : LogRules) where
  same_fold : (at : ℕ) (folded : Option Durable) (new : Unread) (f g : Next) → ((state : Option Durable) → f new.at new.bytes state ≡ g new.at new.bytes state) → after_fold at folded new f ≡ after_fold at folded new g
  same_fold at None new f g same = refl
  same_fold at (Some state) new f g same = same (Some state)

  same_record : (at : ℕ) (rec : Option RecordValue) (state : Option Durable) (new : Unread) (f g : Next) → ((state : Option Durable) → f new.at new.bytes state ≡ g new.at new.bytes state) → after_record goes_on at rec state new f ≡ after_record goes_on at rec state new g
  same_record at None state new f g same = refl
  same_record at (Some rec) state new f g same = same_fold at (fold_next goes_on state rec) new f g same

  same_body : (at kind : ℕ) (state : Option Durable) (read : Result (List ℕ × Unread) CutFault) (f g : Next) → ((it : List ℕ × Unread) (state : Option Durable) → read ≡ Ok it → f it.1.at it.1.bytes state ≡ g it.1.at it.1.bytes state)
      → after_body goes_on at kind state read f ≡ after_body goes_on at kind state read g
  same_body at kind state (Err fault) f g same = refl
  same_body at kind state (Ok it) f g same = same_record at (record_of kind it.0) state it.1 f g (λ next. same it next refl)

  same_count : (n m at : ℕ) (bytes : List ℕ) (state : Option Durable) → length bytes ≤ n → length bytes ≤ m → fold_within goes_on n at bytes state ≡ fold_within goes_on m at bytes state
  same_count zero zero at bytes state p q = refl
  same_count zero (suc m) at [] state p q = refl
  same_count zero (suc m) at (kind ∷ bytes) state p q = absurd (omega arith)
  same_count (suc n) zero at [] state p q = refl
  same_count (suc n) zero at (kind ∷ bytes) state p q = absurd (omega arith)
  same_count (suc n) (suc m) at [] state p q = refl
  same_count (suc n) (suc m) at (kind ∷ bytes) state p q = same_body at kind state (payload_at (at + 1) bytes) (fold_within goes_on n) (fold_within goes_on m)
      (λ it next is. same_count n m it.1.at it.1.bytes next (omega (arith, after_shorter (at + 1) bytes it.0 it.1 is)) (omega (arith, after_shorter (at + 1) bytes it.0 it.1 is)))

  pub fold_end : (at : ℕ) (state : Option Durable) → fold_payload goes_on at [] state ≡ Ok state
  unfolding fold_payload
  fold_end at state = refl

  -- one record that folds
  pub fold_read : (at kind : ℕ) (bytes body : List ℕ) (new : Unread) (rec : RecordValue) (state : Option Durable) (next : Durable) → payload_at (at + 1) bytes ≡ Ok (body, new) → record_of kind body ≡ Some rec → fold_next goes_on state rec ≡ Some next
      → fold_payload goes_on at (kind ∷ bytes) state ≡ fold_payload goes_on new.at new.bytes (Some next)
  unfolding fold_payload
  fold_read at kind bytes body new rec state next read is folds =
      ap (λ (r : Result (List ℕ × Unread) CutFault). after_body goes_on at kind state r (fold_within goes_on (length bytes))) read
      ∙ ap (λ (o : Option RecordValue). after_record goes_on at o state new (fold_within goes_on (length bytes))) is
      ∙ ap (λ (o : Option Durable). after_fold at o new (fold_within goes_on (length bytes))) folds
      ∙ same_count (length bytes) (length new.bytes) new.at new.bytes (Some next) (after_shorter (at + 1) bytes body new read) (omega arith)

  pub fold_on : (at kind : ℕ) (bytes body : List ℕ) (new : Unread) (rec : RecordValue) (state next : Option Durable) → payload_at (at + 1) bytes ≡ Ok (body, new) → record_of kind body ≡ Some rec → fold_next goes_on state rec ≡ next → IsSome next
      → fold_payload goes_on at (kind ∷ bytes) state ≡ fold_payload goes_on new.at new.bytes next
  fold_on at kind bytes body new rec state None read is folds some = cc
  fold_on at kind bytes body new rec state (Some next) read is folds some = fold_read at kind bytes body new rec state next read is folds

  -- a body that isn't whole
  pub fold_cut : (at kind : ℕ) (bytes : List ℕ) (fault : CutFault) (state : Option Durable) → payload_at (at + 1) bytes ≡ Err fault → fold_payload goes_on at (kind ∷ bytes) state ≡ Err at
  unfolding fold_payload
  fold_cut at kind bytes fault state read = ap (λ (r : Result (List ℕ × Unread) CutFault). after_body goes_on at kind state r (fold_within goes_on (length bytes))) read

  -- a body that is no record
  pub fold_no_record : (at kind : ℕ) (bytes body : List ℕ) (new : Unread) (state : Option Durable) → payload_at (at + 1) bytes ≡ Ok (body, new) → record_of kind body ≡ None → fold_payload goes_on at (kind ∷ bytes) state ≡ Err at
  unfolding fold_payload
  fold_no_record at kind bytes body new state read is =
      ap (λ (r : Result (List ℕ × Unread) CutFault). after_body goes_on at kind state r (fold_within goes_on (length bytes))) read
      ∙ ap (λ (o : Option RecordValue). after_record goes_on at o state new (fold_within goes_on (length bytes))) is

  -- a record that doesn't fold
  pub fold_refused : (at kind : ℕ) (bytes body : List ℕ) (new : Unread) (rec : RecordValue) (state : Option Durable) → payload_at (at + 1) bytes ≡ Ok (body, new) → record_of kind body ≡ Some rec → fold_next goes_on state rec ≡ None
      → fold_payload goes_on at (kind ∷ bytes) state ≡ Err at
  unfolding fold_payload
  fold_refused at kind bytes body new rec state read is folds =
      ap (λ (r : Result (List ℕ × Unread) CutFault). after_body goes_on at kind state r (fold_within goes_on (length bytes))) read
      ∙ ap (λ (o : Option RecordValue). after_record goes_on at o state new (fold_within goes_on (length bytes))) is
      ∙ ap (λ (o : Option Durable). after_fold at o new (fold_within goes_on (length bytes))) folds

  -- a record as it is encoded, which folds
  pub fold_encoded : (at : ℕ) (rec : RecordValue) (rest : List ℕ) (state : Option Durable) (next : Durable) → IsRecord rec → fold_next goes_on state rec ≡ Some next
      → fold_payload goes_on at (record_bytes rec ++ rest) state ≡ fold_payload goes_on (at + 1 + 4 + length (record_body rec)) rest (Some next)
  fold_encoded at rec rest state next is folds =
      fold_read at (kind_of rec) (body_of (record_body rec) ++ rest) (record_body rec) (record { at = at + 1 + 4 + length (record_body rec); bytes = rest }) rec state next
      (payload_at-body (at + 1) (record_body rec) rest (body_fits rec is)) (record_of-encoded rec is) folds

  after_key : (state : Durable) (rec : RecordValue) (next : Option Durable) → fold_record goes_on state rec ≡ next → fold_next goes_on (Some state) rec ≡ next
  unfolding fold_next
  after_key state rec next is = is

  some_first : (folded : Option Durable) (recs : List RecordValue) (state' : Durable) → then_some folded (λ next. fold_records goes_on next recs) ≡ Some state' → (next : Durable) × (folded ≡ Some next) × (fold_records goes_on next recs ≡ Some state')
  some_first None recs state' is = cc
  some_first (Some next) recs state' is = (next, refl, is)

  -- a payload of records is read as their fold
  pub fold_payload-encoded : (at : ℕ) (recs : List RecordValue) (state state' : Durable) → AreRecords recs → fold_records goes_on state recs ≡ Some state' → fold_payload goes_on at (records_bytes recs) (Some state) ≡ Ok (Some state')
  fold_payload-encoded at [] state state' are is = let same : state ≡ state' = cc in fold_end at (Some state) ∙ ap (λ (s : Durable). Ok (Some s)) same
  fold_payload-encoded at (rec ∷ recs) state state' are is =
      let first = some_first (fold_record goes_on state rec) recs state' is in
      fold_encoded at rec (records_bytes recs) (Some state) first.0 are.0 (after_key state rec (Some first.0) first.1)
      ∙ fold_payload-encoded (at + 1 + 4 + length (record_body rec)) recs first.0 state' are.1 first.2

  ok_last : (first : Folding) (state state' : Durable) (f g : Option Durable → Folding)
      → then_folding first f ≡ Ok (Some state) → ((next : Option Durable) → f next ≡ Ok (Some state) → g next ≡ Ok (Some state')) → then_folding first g ≡ Ok (Some state')
  ok_last (Ok next) state state' f g is rest = rest next is
  ok_last (Err at) state state' f g is rest = cc

  -- one payload more
  pub fold_payloads-push : (place : ℕ) (payloads : List (List ℕ)) (recs : List RecordValue) (first : Option Durable) (state state' : Durable) → fold_payloads goes_on place payloads first ≡ Ok (Some state) → AreRecords recs → fold_records goes_on state recs ≡ Some state'
      → fold_payloads goes_on place (payloads ++ records_bytes recs ∷ []) first ≡ Ok (Some state')
  fold_payloads-push place [] recs first state state' folds are is =
      let same : first ≡ Some state = cc in
      let folded = ap (fold_payload goes_on (place + 5) (records_bytes recs)) same ∙ fold_payload-encoded (place + 5) recs state state' are is in
      ap (λ (r : Folding). then_folding r (λ s. fold_payloads goes_on (place + 5 + length (records_bytes recs)) [] s)) folded
  fold_payloads-push place (payload ∷ payloads) recs first state state' folds are is =
      ok_last (fold_payload goes_on (place + 5) payload first) state state' (fold_payloads goes_on (place + 5 + length payload) payloads) (fold_payloads goes_on (place + 5 + length payload) (payloads ++ records_bytes recs ∷ [])) folds
      (λ next folds'. fold_payloads-push (place + 5 + length payload) payloads recs next state state' folds' are is)

  -- the first payload of several
  pub payloads_step : (place : ℕ) (payload : List ℕ) (payloads : List (List ℕ)) (state next : Option Durable) (place' : ℕ) → fold_payload goes_on (place + 5) payload state ≡ Ok next → place' ≡ place + (5 + length payload)
      → fold_payloads goes_on place (payload ∷ payloads) state ≡ fold_payloads goes_on place' payloads next
  payloads_step place payload payloads state next place' folds is =
      let same : place + 5 + length payload ≡ place' = omega arith in
      ap (λ (r : Folding). then_folding r (fold_payloads goes_on (place + 5 + length payload) payloads)) folds ∙ ap (λ (n : ℕ). fold_payloads goes_on n payloads next) same

  pub payloads_stop : (place : ℕ) (payload : List ℕ) (payloads : List (List ℕ)) (state : Option Durable) (at : ℕ) → fold_payload goes_on (place + 5) payload state ≡ Err at
      → fold_payloads goes_on place (payload ∷ payloads) state ≡ Err at
  payloads_stop place payload payloads state at folds = ap (λ (r : Folding). then_folding r (fold_payloads goes_on (place + 5 + length payload) payloads)) folds

  -- the first payload that bytes open to
  pub opening_step : (place : ℕ) (payload : List ℕ) (opening : Opening) (state next : Option Durable) (place' : ℕ) → fold_payload goes_on (place + 5) payload state ≡ Ok next → place' ≡ place + 5 + length payload
      → fold_opening goes_on place (with_first payload opening) state ≡ fold_opening goes_on place' opening next
  opening_step place payload (Ok payloads) state next place' folds is = payloads_step place payload payloads state next place' folds (omega (arith, is))
  opening_step place payload (Err at) state next place' folds is = refl

  pub opening_stop : (place : ℕ) (payload : List ℕ) (opening : Opening) (state : Option Durable) (at : ℕ) → IsOk opening → fold_payload goes_on (place + 5) payload state ≡ Err at
      → fold_opening goes_on place (with_first payload opening) state ≡ Err at
  opening_stop place payload (Ok payloads) state at opens folds = payloads_stop place payload payloads state at folds
  opening_stop place payload (Err p) state at opens folds = cc

-- the first payload reports whether a key begins them
pub begins_first : (payload : List ℕ) (opening : Opening) (payloads : List (List ℕ)) → with_first payload opening ≡ Ok payloads → begins_with_key (payload ∷ []) ≡ begins_with_key payloads
begins_first [] (Ok more) payloads is = let same : [] ∷ more ≡ payloads = cc in ap begins_with_key same
begins_first (kind ∷ payload) (Ok more) payloads is = let same : (kind ∷ payload) ∷ more ≡ payloads = cc in ap begins_with_key same
begins_first payload (Err at) payloads is = cc

pub first_opens : (payload : List ℕ) (opening : Opening) → IsOk (with_first payload opening) → IsOk opening
first_opens payload (Ok payloads) opens = refl
first_opens payload (Err at) opens = cc
