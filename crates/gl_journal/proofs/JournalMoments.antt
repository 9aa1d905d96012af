-- What a stop leaves while a journal begins, and while it is opened.
use Rattle.std.proofs.Common.{◌≡◌, ⊎_elim, inl, inr, ℕ, ◌≤◌, List, [], ◌∷◌, length, drop, Option, None, Some, Ok, Err, refl, ◌∙◌, ap, subst, arith, length-append}
use Rattle.std.proofs.lemmas.Bool.{cases_eq}
use Rattle.gl_base.specs.Cut.{bytes_at, number_at, string_at}
use Rattle.gl_base.specs.declared.fault.CutFault.TheVariants.{Short}
use Rattle.gl_outside.specs.Disk.{Step, IsImage, Torn, Leaves}
use Rattle.gl_outside.proofs.Moments.{so_too, then_too}
use Rattle.gl_journal.specs.Gates.{payload_at, Opening, opening_answer, payloads_from, payloads_of, mismatch}
use Rattle.gl_journal.specs.Parts.{HasGate}
use Rattle.gl_journal.specs.Stops.{IsBegun, OpensTo}
use Rattle.gl_journal.specs.Records.{Key, record_bytes, IsRecord}
use Rattle.gl_journal.specs.Durable.{LogRules, durable_of, durable, journal_header, OpensToTheSame, OpensToKeyOrNone, OpensToKeyAlone}
use Rattle.gl_journal.specs.declared.fault.JournalFault.{JournalFault}
use Rattle.gl_journal.specs.declared.fault.JournalFault.TheVariants.{NotJournal, BadRecord}
use Rattle.gl_journal.specs.declared.key.Key.{Key as KeyFields}
use Rattle.gl_journal.proofs.DurableLaws.{durable_first, durable_opened, durable_same}
use Rattle.gl_journal.proofs.Headers.{begins_with}
use Rattle.gl_journal.proofs.Openings.{opened_closed, opened_cut, opened_end}
use Rattle.gl_journal.proofs.PartLaws.{file_differs, file_opens}
use Rattle.gl_journal.proofs.Settling.{torn_end}

-- nothing stands where a length belongs
no_length : payload_at 9 [] ≡ Err (Short 9)
unfolding bytes_at number_at string_at
no_length = refl

module _ (goes_on : LogRules) where
  abbrev folded : Opening → Type 0
  folded opening = (fault : JournalFault) × (durable_of goes_on (opening_answer None opening) ≡ Err fault)

  -- a header with at most a gate after it
  gate_fails : (tail : List ℕ) → length tail ≤ 1 → folded (payloads_from 8 tail)
  gate_fails [] small = (NotJournal 8, ap (λ (o : Opening). durable_of goes_on (opening_answer None o)) (opened_end 8))
  gate_fails (gate ∷ []) small = elim (cases_eq gate 1) [
    | inl is_open ↦ (
      BadRecord 9,
      ap (λ (g : ℕ). durable_of goes_on (opening_answer None (payloads_from 8 (g ∷ [])))) is_open
          ∙ ap (λ (o : Opening). durable_of goes_on (opening_answer None o)) (opened_cut 8 [] (Short 9) no_length),
    )
    | inr shut ↦ (NotJournal 8, ap (λ (o : Opening). durable_of goes_on (opening_answer None o)) (opened_closed 8 gate [] shut))
  ]
  gate_fails (gate ∷ next ∷ tail) small = absurd (omega arith)

  header_fails : (image : List ℕ) (differs : Option ℕ) → mismatch journal_header image ≡ differs → length image ≤ 9 → (fault : JournalFault) × (durable goes_on image ≡ Err fault)
  header_fails image (Some at) is small = (NotJournal at, durable_opened goes_on image (Err (NotJournal at)) (file_differs journal_header image at is))
  header_fails image None is small =
      let tail = drop (length journal_header) image in
      let failed = gate_fails tail (omega (arith, ap length (begins_with journal_header image is), length-append journal_header tail)) in
      (failed.0, durable_opened goes_on image (opening_answer None (payloads_from 8 tail)) (file_opens journal_header image (payloads_from 8 tail) is refl) ∙ failed.1)

  -- no state has so few bytes
  pub short_fails : (image : List ℕ) → length image ≤ 9 → (fault : JournalFault) × (durable goes_on image ≡ Err fault)
  short_fails image small = header_fails image (mismatch journal_header image) refl small

  -- a file that is begun, before its key
  pub begun_leaves : (key : KeyFields) (past after : List Step) → Leaves (IsBegun past) past after → Leaves (OpensToKeyAlone goes_on key past) past after
  begun_leaves key past after = so_too (IsBegun past) (OpensToKeyAlone goes_on key past) past after
      (λ image begun. ⊎_elim (λ was. inl was) (λ small. inr (inl (short_fails image small))) begun)

  -- and then its key
  pub key_leaves : (key : KeyFields) (past mid mid' after : List Step) → Leaves (IsBegun past) past mid → mid' ≡ mid → Leaves (OpensToKeyOrNone goes_on key) mid' after → Leaves (OpensToKeyAlone goes_on key past) past after
  key_leaves key past mid mid' after first same second =
      let P = OpensToKeyAlone goes_on key past in
      let later = so_too (OpensToKeyOrNone goes_on key) P mid' after (λ image opens. inr opens) second in
      then_too P past mid after (begun_leaves key past mid first) (subst (λ (p : List Step). Leaves P p after) same later)

  -- an image while the key is kept
  pub key_between : (bytes image payload : List ℕ) (key : KeyFields) → payloads_of journal_header bytes ≡ Ok [] → IsRecord (Key key) → payload ≡ record_bytes (Key key) → OpensTo journal_header bytes payload image → OpensToKeyOrNone goes_on key image
  key_between bytes image payload key none is encoded opens = ⊎_elim
      (λ before. inl (NotJournal 8, durable_opened goes_on image (Ok []) (before ∙ none)))
      (λ after. inr (durable_first goes_on bytes image payload key none is encoded after))
      opens.1

  -- reading what is kept
  pub read_leaves : (bytes : List ℕ) (past after : List Step) → Leaves (IsImage past) past after → Leaves (OpensToTheSame goes_on bytes past) past after
  read_leaves bytes past after = so_too (IsImage past) (OpensToTheSame goes_on bytes past) past after (λ image was. inl was)

  -- and then seeing to its end
  pub end_leaves : (bytes bytes' : List ℕ) (len : ℕ) (past mid after : List Step) → HasGate journal_header bytes → len ≡ length bytes → bytes' ≡ bytes → Leaves (IsImage past) past mid → Leaves (Torn len 1 bytes') mid after
      → Leaves (OpensToTheSame goes_on bytes past) past after
  end_leaves bytes bytes' len past mid after has size same first second =
      let P = OpensToTheSame goes_on bytes past in
      let one : (image : List ℕ) → Torn len 1 bytes' image → P image = λ image torn.
      let is = torn_end journal_header bytes image len has size (subst (λ (b : List ℕ). Torn len 1 b image) same torn) in
      inr (is.0, durable_same goes_on image bytes is.1) in
      then_too P past mid after (read_leaves bytes past mid first) (so_too (Torn len 1 bytes') P mid after one second)
