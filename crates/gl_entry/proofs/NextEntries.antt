-- Taking the next entry from the bytes that are kept, whatever stands after them.
use Rattle.std.proofs.Common.{◌≡◌, inl, inr, ℕ, ◌≤◌, Bool, true, List, [], ◌∷◌, ◌++◌, length, drop, Option, None, Some, Result, Ok, Err, IfOk, IfSome, refl, sym, ap, ◌∙◌, subst, append-nil, length-append, arith}
use Rattle.std.specs.Io.KnownBytes.{Keeps}
use Rattle.std.proofs.Math.Seq.{drop-append_seam}
use Rattle.gl_base.specs.Code.{unread_of}
use Rattle.gl_base.specs.Cut.{Unread}
use Rattle.gl_base.proofs.ByteLists.{AreBytes}
use Rattle.gl_base.specs.Steps.{◌>>=◌}
use Rattle.gl_base.proofs.Steps.{bind_ok, ok_injective}
use Rattle.gl_entry.specs.declared.entry.Entry.{Entry}
use Rattle.gl_entry.specs.declared.fault.EntryFault.{EntryFault}
use Rattle.gl_entry.specs.declared.fault.LedgerFault.{LedgerFault}
use Rattle.gl_entry.specs.declared.fault.LedgerFault.TheVariants as ledgers
use Rattle.gl_base.specs.Answers.{Answers, Widens}
use Rattle.gl_base.specs.declared.or_no_memory.OrNoMemory.{OrNoMemory}
use Rattle.gl_base.specs.declared.or_no_memory.OrNoMemory.TheVariants as errors
use Rattle.gl_entry.specs.Entry.{is_entry, frame_bytes, frame_size}
use Rattle.gl_entry.specs.Parsing.{frame_at, first_entry, size_at}
use Rattle.gl_entry.specs.Stream.{next_entry, to_read, GivesNext, wanted, IsSettled, TakesNext}
use Rattle.gl_entry.proofs.EntryLaws.{frame-encoded, length-frame_bytes}
use Rattle.gl_entry.proofs.Growing.{next_leaving, next_entry-more, head_wanted}

-- ---- the first entry of bytes, of which there are some

-- A frame that begins the bytes is within them.
pub frame_within : (e : Entry) (n : ℕ) (xs : List ℕ) → (is_entry e ≡ true) × (n ≡ frame_size e) × (rest : List ℕ) × (xs ≡ frame_bytes e ++ rest) → n ≤ length xs
frame_within e n xs found =
    let whole : length xs ≡ length (frame_bytes e ++ found.2) = ap length found.3 in
    omega (arith, found.1, length-frame_bytes e, length-append (frame_bytes e) found.2, whole)

some_next : (read : Result (Entry × Unread) EntryFault) (new : Entry × Unread) → read ≡ Ok new → ◌≡◌ {A = Result (Option (Entry × List ℕ)) EntryFault} (read >>= λ next. Ok (Some (next.0, next.1.bytes))) (Ok (Some (new.0, new.1.bytes)))
some_next read new e = ap (λ (r : Result (Entry × Unread) EntryFault). r >>= λ next. Ok (Some (next.0, next.1.bytes))) e

next_found-some : (byte : ℕ) (bytes : List ℕ) (e : Entry) (n : ℕ) → AreBytes (byte ∷ bytes) → first_entry (byte ∷ bytes) ≡ Ok (e, n) → next_entry (byte ∷ bytes) ≡ Ok (Some (e, drop n (byte ∷ bytes)))
unfolding next_entry
next_found-some byte bytes e n all h =
    let there = bind_ok {E = EntryFault} (frame_at (unread_of (byte ∷ bytes))) _ (e, n) h in
    let gave : Entry × ℕ = (there.0.0, frame_size there.0.0) in
    let same : gave ≡ (e, n) = ok_injective {E = EntryFault} gave (e, n) there.2 in
    let took = frame-encoded (unread_of (byte ∷ bytes)) there.0 all there.1 in
    let counted : n ≡ length (frame_bytes there.0.0) = ap (λ (p : Entry × ℕ). p.1) (sym same) ∙ sym (length-frame_bytes there.0.0) in
    let suffix : there.0.1.bytes ≡ drop n (byte ∷ bytes) =
    sym (drop-append_seam (frame_bytes there.0.0) there.0.1.bytes) ∙ ap (drop (length (frame_bytes there.0.0))) (sym took.bytes) ∙ ap (λ (k : ℕ). drop k (byte ∷ bytes)) (sym counted) in
    let entry : there.0.0 ≡ e = ap (λ (p : Entry × ℕ). p.0) same in
    some_next (frame_at (unread_of (byte ∷ bytes))) there.0 there.1
    ∙ ap (λ (x : Entry). Ok (Some (x, there.0.1.bytes))) entry ∙ ap (λ (xs : List ℕ). Ok (Some (e, xs))) suffix

pub next_found : (xs : List ℕ) (e : Entry) (n : ℕ) → 1 ≤ length xs → AreBytes xs → first_entry xs ≡ Ok (e, n) → next_entry xs ≡ Ok (Some (e, drop n xs))
next_found [] e n some all h = absurd (omega arith)
next_found (byte ∷ bytes) e n some all h = next_found-some byte bytes e n all h

next_failed-at : (read : Result (Entry × Unread) EntryFault) (f : EntryFault) → ◌≡◌ {A = Result (Entry × ℕ) EntryFault} (read >>= λ entry. Ok (entry.0, frame_size entry.0)) (Err f)
    → ◌≡◌ {A = Result (Option (Entry × List ℕ)) EntryFault} (read >>= λ read. Ok (Some (read.0, read.1.bytes))) (Err f)
next_failed-at (Ok read) f h = absurd cc
next_failed-at (Err fault) f h = let same : fault ≡ f = cc in ap (λ (x : EntryFault). Err x) same

pub next_failed : (xs : List ℕ) (f : EntryFault) → 1 ≤ length xs → first_entry xs ≡ Err f → next_entry xs ≡ Err f
unfolding next_entry
next_failed [] f some h = absurd (omega arith)
next_failed (byte ∷ bytes) f some h = next_failed-at (frame_at (unread_of (byte ∷ bytes))) f h

-- What a call gave that read the first entry.
pub found_next : (xs : List ℕ) (r : Result (Entry × ℕ) (OrNoMemory EntryFault)) → 1 ≤ length xs → AreBytes xs → Answers (λ read. read) r (first_entry xs) → IfOk r (λ read. next_entry xs ≡ Ok (Some (read.0, drop read.1 xs)))
found_next xs (Ok read) some all given = next_found xs read.0 read.1 some all given
found_next xs (Err e) some all given = tt

pub within_next : (xs : List ℕ) (r : Result (Entry × ℕ) (OrNoMemory EntryFault)) → IfOk r (λ read. (is_entry read.0 ≡ true) × (read.1 ≡ frame_size read.0) × (rest : List ℕ) × (xs ≡ frame_bytes read.0 ++ rest)) → IfOk r (λ read. read.1 ≤ length xs)
within_next xs (Ok read) found = frame_within read.0 read.1 xs found
within_next xs (Err e) found = tt

pub failed_next : (xs : List ℕ) (r : Result (Entry × ℕ) (OrNoMemory EntryFault)) → 1 ≤ length xs → Answers (λ read. read) r (first_entry xs) → (f : EntryFault) → r ≡ Err (errors.Fault f) → next_entry xs ≡ Err f
failed_next xs r some given f e = next_failed xs f some (subst (λ (s : Result (Entry × ℕ) (OrNoMemory EntryFault)). Answers (λ read. read) s (first_entry xs)) e given)

-- ---- with what the source has left

nothing_enough : wanted [] ≤ length {A = ℕ} [] → ⊥
nothing_enough enough = omega (arith, head_wanted (size_at (unread_of [])))

-- What is still to be read doesn't change the next entry, but stands after it.
settled : (kept left : List ℕ) (ended : Bool) → IsSettled kept (Some left) ended → next_entry (kept ++ left) ≡ next_leaving left (next_entry kept)
settled kept left ended (inr end) = at_end (next_entry kept) end.0 refl
  where
    at_end : (read : Result (Option (Entry × List ℕ)) EntryFault) → left ≡ [] → next_entry kept ≡ read → next_entry (kept ++ left) ≡ next_leaving left read
    at_end (Ok None) none e = ap (λ (xs : List ℕ). next_entry (kept ++ xs)) none ∙ ap next_entry (append-nil kept) ∙ e
    at_end (Ok (Some next)) none e =
        ap (λ (xs : List ℕ). next_entry (kept ++ xs)) none ∙ ap next_entry (append-nil kept) ∙ e
        ∙ ap (λ (xs : List ℕ). Ok (Some (next.0, xs))) (sym (append-nil next.1)) ∙ ap (λ (xs : List ℕ). Ok (Some (next.0, next.1 ++ xs))) (sym none)
    at_end (Err fault) none e = ap (λ (xs : List ℕ). next_entry (kept ++ xs)) none ∙ ap next_entry (append-nil kept) ∙ e
settled [] left ended (inl enough) = absurd (nothing_enough enough)
settled (byte ∷ bytes) left ended (inl enough) = next_entry-more left byte bytes enough

-- The entry that was taken is the next of all the bytes that were to be read.
pub gives : (before : Option (List ℕ)) (kept after : List ℕ) (left : Option (List ℕ)) (ended : Bool) (read : Option Entry) → Keeps before (to_read kept left) → IsSettled kept left ended → TakesNext kept read after
    → IfSome before (λ bytes. GivesNext bytes read (to_read after left))
gives None kept after left ended read keeps is took = tt
gives (Some bytes) kept after None ended read keeps is took = absurd keeps
gives (Some bytes) kept after (Some left) ended None keeps (inl enough) took =
    absurd (nothing_enough (subst (λ (xs : List ℕ). wanted xs ≤ length xs) took.0 enough))
gives (Some bytes) kept after (Some left) ended None keeps (inr end) took =
    sym keeps ∙ ap (λ (xs : List ℕ). xs ++ left) took.0 ∙ end.0
gives (Some bytes) kept after (Some left) ended (Some e) keeps is took =
    (after ++ left, ap next_entry (sym keeps) ∙ settled kept left ended is ∙ ap (next_leaving left) took, refl)

-- The fault that was found is that of all the bytes that were to be read, and they are to be read
-- again.
pub fails : (before : Option (List ℕ)) (kept after : List ℕ) (left : Option (List ℕ)) (ended : Bool) (f : EntryFault) → Keeps before (to_read kept left) → IsSettled kept left ended → next_entry kept ≡ Err f → after ≡ kept
    → IfSome before (λ bytes. (next_entry bytes ≡ Err f) × (to_read after left ≡ Some bytes))
fails None kept after left ended f keeps is e same = tt
fails (Some bytes) kept after None ended f keeps is e same = absurd keeps
fails (Some bytes) kept after (Some left) ended f keeps is e same =
    (ap next_entry (sym keeps) ∙ settled kept left ended is ∙ ap (next_leaving left) e, ap (λ (xs : List ℕ). Some (xs ++ left)) same ∙ ap (λ (xs : List ℕ). Some xs) keeps)

-- A reader's fault is that of the bytes.
pub widened-entry : (e : OrNoMemory EntryFault) (w : OrNoMemory LedgerFault) (f : EntryFault) → Widens (λ fault x. x ≡ ledgers.Entry fault) e w
    → w ≡ errors.Fault (ledgers.Entry f) → e ≡ errors.Fault f
widened-entry errors.NoMemory w f is h = absurd cc
widened-entry (errors.Fault g) w f is h =
    let fault = is.1 in
    let held = is.2 in
    let same : g ≡ f = cc in
    ap errors.Fault same
