-- What a batch leaves of the durable state.
use Rattle.std.proofs.Common.{Bool, true, false, if◌then◌else◌, ◌≡◌, ⊎_elim, inl, inr, List, [], ◌∷◌, ◌++◌, Result, OnOk, ℕ, ◌+◌, Ok, Err, ◌==◌, None, Some, refl, sym, ◌∙◌, ap, length, length-append, arith}
use Rattle.std.proofs.lemmas.List.{append-nil}
use Rattle.gl_base.specs.LittleEndian.{little_endian}
use Rattle.gl_base.proofs.LittleEndianLaws.{length-little_endian}
use Rattle.gl_journal.specs.Gates.{payloads_of, with_last}
use Rattle.gl_journal.specs.Stops.{OpensTo}
use Rattle.gl_journal.specs.Records.{RecordValue, Key, record_body, record_bytes, records_bytes, IsRecord, AreRecords}
use Rattle.gl_journal.specs.Durable.{Durable, LogRules, Folding, key_alone, fold_records, fold_next, then_folding, fold_payloads, fold_answer, durable_of, durable, journal_header, OpensToOneOf}
use Rattle.gl_journal.specs.declared.fault.JournalFault.{JournalFault}
use Rattle.gl_journal.specs.declared.fault.JournalFault.TheVariants.{NotJournal}
use Rattle.gl_journal.specs.declared.key.Key.{Key as KeyFields}
use Rattle.gl_journal.proofs.PayloadLaws.{fold_payloads-push, fold_encoded, fold_end}

pub when_ok : {T E A B : Type 0} (result : Result T E) → (A → B) → OnOk result A → OnOk result B
when_ok (Ok x) f a = f a
when_ok (Err e) f a = tt

answer_ok : (folded : Folding) (state : Durable) → fold_answer folded ≡ Ok state → folded ≡ Ok (Some state)
answer_ok (Ok None) state is = cc
answer_ok (Ok (Some s)) state is = let same : s ≡ state = cc in ap (λ (x : Durable). Ok (Some x)) same
answer_ok (Err at) state is = cc

if_ok : (b : Bool) (folded : Folding) (fault : JournalFault) (state : Durable) → (if b then fold_answer folded else Err fault) ≡ Ok state → (b ≡ true) × (folded ≡ Ok (Some state))
if_ok true folded fault state is = (refl, answer_ok folded state is)
if_ok false folded fault state is = cc

pub length_key : (key : KeyFields) → IsRecord (Key key) → length (record_bytes (Key key)) ≡ 39
length_key key is =
    omega (arith, is, length-append (1 ∷ little_endian 4 (length (record_body (Key key)))) (record_body (Key key)), length-little_endian 4 (length (record_body (Key key))))

module _ (goes_on : LogRules) where
  -- Where the records fold on what payloads fold into, the payloads with them fold into that.
  durable_push : (payloads : List (List ℕ)) (recs : List RecordValue) (state next : Durable) → durable_of goes_on (Ok payloads) ≡ Ok state → AreRecords recs → fold_records goes_on state recs ≡ Some next → durable_of goes_on (Ok (payloads ++ records_bytes recs ∷ [])) ≡ Ok next
  durable_push [] recs state next opens are is = cc
  durable_push ([] ∷ payloads) recs state next opens are is = cc
  durable_push ((kind ∷ payload) ∷ payloads) recs state next opens are is =
      let all = (kind ∷ payload) ∷ payloads in
      let both = if_ok (kind == 1) (fold_payloads goes_on 8 all None) (NotJournal 8) state opens in
      ap (λ (b : Bool). if b then fold_answer (fold_payloads goes_on 8 (all ++ records_bytes recs ∷ []) None) else Err (NotJournal 8)) both.0
      ∙ ap fold_answer (fold_payloads-push goes_on 8 all recs None state next both.1 are is)

  with_records : (opening : Result (List (List ℕ)) JournalFault) (recs : List RecordValue) (state next : Durable) → durable_of goes_on opening ≡ Ok state → AreRecords recs → fold_records goes_on state recs ≡ Some next → durable_of goes_on (with_last (records_bytes recs) opening) ≡ Ok next
  with_records (Ok payloads) recs state next opens are folds = durable_push payloads recs state next opens are folds
  with_records (Err fault) recs state next opens are folds = cc

  -- a file with one batch more
  pub durable_after : (bytes bytes' : List ℕ) (recs : List RecordValue) (state next : Durable) → durable goes_on bytes ≡ Ok state → AreRecords recs → fold_records goes_on state recs ≡ Some next
      → payloads_of journal_header bytes' ≡ with_last (records_bytes recs) (payloads_of journal_header bytes) → durable goes_on bytes' ≡ Ok next
  unfolding durable
  durable_after bytes bytes' recs state next opens are folds is = ap (durable_of goes_on) is ∙ with_records (payloads_of journal_header bytes) recs state next opens are folds

  -- an image between
  pub durable_between : (bytes image : List ℕ) (recs : List RecordValue) (state next : Durable) → durable goes_on bytes ≡ Ok state → AreRecords recs → fold_records goes_on state recs ≡ Some next
      → OpensTo journal_header bytes (records_bytes recs) image → OpensToOneOf goes_on state next image
  unfolding durable
  durable_between bytes image recs state next opens are folds opened = (
    opened.0,
    ⊎_elim (λ before. inl (ap (durable_of goes_on) before ∙ opens)) (λ after. inr (durable_after bytes image recs state next opens are folds after)) opened.1,
  )

  first_key : (key : KeyFields) → fold_next goes_on None (Key key) ≡ Some (key_alone key)
  unfolding fold_next
  first_key key = refl

  -- the first batch of a file, with a key alone
  pub durable_first : (bytes bytes' payload : List ℕ) (key : KeyFields) → payloads_of journal_header bytes ≡ Ok [] → IsRecord (Key key) → payload ≡ record_bytes (Key key)
      → payloads_of journal_header bytes' ≡ with_last payload (payloads_of journal_header bytes) → durable goes_on bytes' ≡ Ok (key_alone key)
  unfolding durable
  durable_first bytes bytes' payload key none is encoded kept =
      let whole : payload ≡ record_bytes (Key key) ++ [] = encoded ∙ sym (append-nil (record_bytes (Key key))) in
      let one : payloads_of journal_header bytes' ≡ Ok ((record_bytes (Key key) ++ []) ∷ []) =
      kept ∙ ap (with_last payload) none ∙ ap (λ (l : List ℕ). Ok (l ∷ [])) whole in
      let folds = fold_encoded goes_on 13 (Key key) [] None (key_alone key) is (first_key key) ∙ fold_end goes_on (13 + 1 + 4 + length (record_body (Key key))) (Some (key_alone key)) in
      ap (durable_of goes_on) one ∙ ap (λ (r : Folding). fold_answer (then_folding r (λ s. Ok s))) folds

  -- what the payloads of a file fold into
  pub durable_opened : (bytes : List ℕ) (opening : Result (List (List ℕ)) JournalFault) → payloads_of journal_header bytes ≡ opening → durable goes_on bytes ≡ durable_of goes_on opening
  unfolding durable
  durable_opened bytes opening is = ap (durable_of goes_on) is

  pub durable_same : (bytes bytes' : List ℕ) → payloads_of journal_header bytes ≡ payloads_of journal_header bytes' → durable goes_on bytes ≡ durable goes_on bytes'
  unfolding durable
  durable_same bytes bytes' is = ap (durable_of goes_on) is
