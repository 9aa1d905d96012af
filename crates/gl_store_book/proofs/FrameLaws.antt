-- The frames of a ledger's entries are those of this ledger and of no other, whatever snapshot it
-- begins behind.
use Rattle.std.proofs.Common.{◌≡◌, ℕ, suc, ◌+◌, ◌-◌, ◌<◌, ◌≤◌, ◌^◌, min, List, [], ◌∷◌, ◌++◌, length, map, take, Option, None, Some, Ok, true, false, slice_get, IfSome, option_map, refl, sym, ap, subst, ◌∙◌, arith}
use Rattle.std.specs.Prelude.{is_none}
use Rattle.std.proofs.lemmas.Option.{slice_get-map}
use Rattle.std.proofs.lemmas.Bool.Decides.{nat_tests}
use Rattle.std.proofs.lemmas.List.{append-nil, length-append, length-map, map-append, take-map}
use Rattle.gl_base.specs.Answers.{Fails}
use Rattle.gl_base.specs.declared.or_no_memory.OrNoMemory.{OrNoMemory}
use Rattle.gl_base.specs.declared.or_no_memory.OrNoMemory.TheVariants.{NoMemory, Fault}
use Rattle.gl_entry.specs.Entry.{frame_bytes, frame_size, is_entry}
use Rattle.gl_entry.specs.Parsing.{entry_at, first_entry}
use Rattle.gl_entry.specs.declared.entry.Entry.{Entry}
use Rattle.gl_entry.specs.declared.fault.EntryFault.{EntryFault}
use Rattle.gl_entry.proofs.EntryLaws.{entry_at-reads, length-frame_bytes}
use Rattle.gl_base.proofs.Lists.{slice_get-of_take}
use Rattle.gl_ledger.specs.Audit.{audited, audited_over}
use Rattle.gl_ledger.specs.NodeKeys.{service_layers}
use Rattle.gl_ledger.specs.declared.breach.Broken.{Broken}
use Rattle.gl_ledger.proofs.EachPassing.{each_over}
use Rattle.gl_ledger.proofs.Passing.{passing_over}
use Rattle.gl_ledger.proofs.Valid.{valid_sound}
use Rattle.gl_node.specs.Frames.{EachGoesOn}
use Rattle.gl_store_book.specs.BasedLedgers.{BasedLedger, IsAudited, base_of, body_of, broken_after, len_of, whole_ledger, with_entries}
use Rattle.gl_store_book.specs.Frames.{whole_entry, entry_of_frame, ledger_of_frames, is_unbroken, frame_goes_on, goes_on_ledger, frames_of, snapshot_in}

-- ---- one frame

pub whole_is : (size : ℕ) (e : Entry) (n : ℕ) → n ≡ size → whole_entry size (Ok (e, n)) ≡ Some e
whole_is size e n same = grind (arith, nat_tests)

pub not_whole : (size : ℕ) (e : Entry) (n : ℕ) → (n ≡ size → ⊥) → whole_entry size (Ok (e, n)) ≡ None
not_whole size e n other = grind (arith, nat_tests)

-- an entry was read that takes all bytes
pub frame_read : (frame : List ℕ) (e : Entry) (n : ℕ) → first_entry frame ≡ Ok (e, n) → n ≡ length frame → entry_of_frame frame ≡ Some e
unfolding entry_of_frame
frame_read frame e n read same = ap (whole_entry (length frame)) read ∙ whole_is (length frame) e n same

-- or that doesn't
pub frame_cut : (frame : List ℕ) (e : Entry) (n : ℕ) → first_entry frame ≡ Ok (e, n) → (n ≡ length frame → ⊥) → entry_of_frame frame ≡ None
unfolding entry_of_frame
frame_cut frame e n read other = ap (whole_entry (length frame)) read ∙ not_whole (length frame) e n other

-- or none was read
pub frame_unread : (frame : List ℕ) (e : OrNoMemory EntryFault) (fault : EntryFault) → e ≡ Fault fault → Fails e (first_entry frame) → entry_of_frame frame ≡ None
unfolding entry_of_frame
frame_unread frame NoMemory fault is fails = absurd (cc)
frame_unread frame (Fault other) fault is fails = ap (whole_entry (length frame)) fails

-- bytes after a frame that takes all of them are none
pub none_over : (frame : List ℕ) (e : Entry) (rest : List ℕ) → frame ≡ frame_bytes e ++ rest → frame_size e ≡ length frame → frame ≡ frame_bytes e
none_over frame e [] is size = is ∙ append-nil (frame_bytes e)
none_over frame e (b ∷ rest) is size = absurd (omega (arith, ap length is, length-frame_bytes e, length-append (frame_bytes e) (b ∷ rest)))

pub entry_of_frame-frame_bytes : (e : Entry) → is_entry e ≡ true → entry_of_frame (frame_bytes e) ≡ Some e
entry_of_frame-frame_bytes e is =
    frame_read (frame_bytes e) e (frame_size e) (ap (entry_at 0) (sym (append-nil (frame_bytes e))) ∙ entry_at-reads 0 e [] is) (sym (length-frame_bytes e))

-- ---- ledgers

-- Each entry fits its format.
abbrev pub AllFit : List Entry → Type 0
AllFit ledger = (i : ℕ) (e : Entry) → slice_get ledger i ≡ Some e → is_entry e ≡ true

-- so it is with those of a valid ledger
pub valid_fit : (ledger : List Entry) → audited service_layers ledger ≡ None → AllFit ledger
valid_fit ledger valid = (valid_sound service_layers ledger valid).in_order.fits

pub ledger_of_frames-map : (ledger : List Entry) → AllFit ledger → ledger_of_frames (map frame_bytes ledger) ≡ Some ledger
unfolding ledger_of_frames
ledger_of_frames-map [] fits = refl
ledger_of_frames-map (e ∷ ledger) fits = rw (entry_of_frame-frame_bytes e (fits 0 e refl), ledger_of_frames-map ledger (λ i f at. fits (suc i) f at)) refl

-- whether a frame goes on those of entries
pub goes_on-ledger : (snapshot : Option (List ℕ)) (log : List (List ℕ)) (ledger : List Entry) (frame : List ℕ) (o : Option Entry) → log ≡ map frame_bytes ledger → AllFit ledger → entry_of_frame frame ≡ o
    → frame_goes_on snapshot log frame ≡ is_unbroken snapshot (Some ledger) o
goes_on-ledger snapshot log ledger frame o same fits is = rw (same, ledger_of_frames-map ledger fits, is) refl

pub frames_push : (ledger : List Entry) (e : Entry) (frame : List ℕ) → frame ≡ frame_bytes e → map frame_bytes (ledger ++ e ∷ []) ≡ map frame_bytes ledger ++ frame ∷ []
frames_push ledger e frame is = map-append frame_bytes ledger (e ∷ []) ∙ ap (λ (f : List ℕ). map frame_bytes ledger ++ f ∷ []) (sym is)

-- what a frame encodes, once one was read
encoded_some : (read : Option Entry) (e : Entry) (frame : List ℕ) → read ≡ Some e → IfSome read (λ x. (is_entry x ≡ true) × (frame ≡ frame_bytes x)) → frame ≡ frame_bytes e
encoded_some read e frame is encoded = let P : Option Entry → Type 0 = λ o. IfSome o (λ x. (is_entry x ≡ true) × (frame ≡ frame_bytes x)) in (subst P is encoded).1

-- ---- entries behind the body of a snapshot

-- each fits its format, where it breaks no rule
pub fit_behind : (snapshot : Option (List ℕ)) (es : List Entry) → audited_over service_layers (body_of snapshot) es ≡ None → AllFit es
fit_behind snapshot es valid i e at =
    let body = body_of snapshot in
    (passing_over service_layers body (take i es) e (each_over service_layers body es valid i e at)).fits

-- the frame of each entry that breaks no rule goes on those before it
pub follow_each : (snapshot : Option (List ℕ)) (es : List Entry) → audited_over service_layers (body_of snapshot) es ≡ None → EachGoesOn goes_on_ledger snapshot (map frame_bytes es)
follow_each snapshot es valid i frame at =
    let there = entry_there (slice_get es i) refl (sym (slice_get-map frame_bytes es i) ∙ at) in
    let fits = fit_behind snapshot es valid in
    goes_on-ledger snapshot (take i (map frame_bytes es)) (take i es) frame (Some there.0) (take-map frame_bytes i es)
    (λ j e is. let r = slice_get-of_take i es j e is in fits j e r.1)
    (ap entry_of_frame (sym there.2) ∙ entry_of_frame-frame_bytes there.0 (fits i there.0 there.1))
    ∙ ap (λ (o : Option Broken). is_none o) (each_over service_layers (body_of snapshot) es valid i there.0 there.1)
  where
    entry_there : (o : Option Entry) → slice_get es i ≡ o → option_map frame_bytes o ≡ Some frame → (e : Entry) × (slice_get es i ≡ Some e) × (frame_bytes e ≡ frame)
    entry_there None is none = absurd (cc)
    entry_there (Some e) is some = let k : frame_bytes e ≡ frame = cc in (e, is, k)

-- ---- a ledger that is read from a file

pub ledger_fit : (l : BasedLedger) → IsAudited l → AllFit l.entries
ledger_fit l valid = fit_behind l.snapshot l.entries valid

-- The ledger that is read so far has these entries behind this snapshot.
pub record IsReadAs (o : Option BasedLedger) (l : BasedLedger) : Type 0 where
  pub log : frames_of o ≡ map frame_bytes l.entries
  pub snapshot : snapshot_in o ≡ l.snapshot

pub read_as_some : (o : Option BasedLedger) (l : BasedLedger) → o ≡ Some l → IsReadAs o l
read_as_some o l is = record { log = ap frames_of is; snapshot = ap snapshot_in is }

-- where there is none yet it is one of no entries
pub read_as_none : (o : Option BasedLedger) (l : BasedLedger) → o ≡ None → l ≡ whole_ledger [] → IsReadAs o l
read_as_none o l none is = record {
  log = ap frames_of none ∙ ap (λ (m : BasedLedger). map frame_bytes m.entries) (sym is);
  snapshot = ap snapshot_in none ∙ ap (λ (m : BasedLedger). m.snapshot) (sym is);
}

pub none_fit : (l : BasedLedger) → l ≡ whole_ledger [] → AllFit l.entries
none_fit l is = subst (λ (m : BasedLedger). AllFit m.entries) (sym is) (λ i e at. absurd (cc))

pub read_entries : (o : Option BasedLedger) (l : BasedLedger) → IsReadAs o l → AllFit l.entries → ledger_of_frames (frames_of o) ≡ Some l.entries
read_entries o l is fits = ap ledger_of_frames is.log ∙ ledger_of_frames-map l.entries fits

-- The frame was read as an entry, and stands after such a ledger.
pub record IsPushed (o : Option BasedLedger) (l : BasedLedger) (frame : List ℕ) (read : Option Entry) (e : Entry) : Type 0 where
  pub old : IsReadAs o l
  pub fits : AllFit l.entries
  pub value : read ≡ entry_of_frame frame
  pub encoded : IfSome read (λ x. (is_entry x ≡ true) × (frame ≡ frame_bytes x))
  pub is : read ≡ Some e

module _ (o : Option BasedLedger) (l : BasedLedger) (frame : List ℕ) (read : Option Entry) (e : Entry) (p : IsPushed o l frame read e) where
  goes_on_here : frame_goes_on (snapshot_in o) (frames_of o) frame ≡ is_none (broken_after l e)
  goes_on_here =
      ap (λ (s : Option (List ℕ)). frame_goes_on s (frames_of o) frame) p.old.snapshot
      ∙ goes_on-ledger l.snapshot (frames_of o) l.entries frame (Some e) p.old.log p.fits (sym p.value ∙ p.is)

  pub pushed : (new : BasedLedger) → broken_after l e ≡ None → new ≡ with_entries l (l.entries ++ e ∷ []) →
      (frame_goes_on (snapshot_in o) (frames_of o) frame ≡ true) × (frames_of (Some new) ≡ frames_of o ++ frame ∷ [])
  pushed new none grown = (
    goes_on_here ∙ ap (λ (x : Option Broken). is_none x) none,
    ap (λ (m : BasedLedger). map frame_bytes m.entries) grown ∙ frames_push l.entries e frame (encoded_some read e frame p.is p.encoded)
        ∙ ap (λ (fs : List (List ℕ)). fs ++ frame ∷ []) (sym p.old.log),
  )

  pub not_pushed : (b : Broken) → broken_after l e ≡ Some b → frame_goes_on (snapshot_in o) (frames_of o) frame ≡ false
  not_pushed b some = goes_on_here ∙ ap (λ (x : Option Broken). is_none x) some

-- where so many of its entries are to stay, it is cut so many above its base
pub cut_above : (n base to : ℕ) (o : Option BasedLedger) (l : BasedLedger) → o ≡ Some l → len_of l < 2 ^ 40 → base ≡ base_of l → n ≤ length (frames_of o) → to ≡ min (base + n) (2 ^ 64 - 1) → to ≡ base_of l + n
cut_above n base to o l is within at low sum =
    let count : length (frames_of o) ≡ length l.entries = ap (λ (x : Option BasedLedger). length (frames_of x)) is ∙ length-map l.entries frame_bytes in
    omega (arith, within, at, low, sum, count)

-- and these are left
pub frames_cut : (n to : ℕ) (o : Option BasedLedger) (l new : BasedLedger) → o ≡ Some l → to ≡ base_of l + n → new ≡ with_entries l (take (to - base_of l) l.entries) → frames_of (Some new) ≡ take n (frames_of o)
frames_cut n to o l new is at cut =
    let left : to - base_of l ≡ n = omega (arith, at) in
    ap (λ (m : BasedLedger). map frame_bytes m.entries) cut ∙ ap (λ (k : ℕ). map frame_bytes (take k l.entries)) left ∙ sym (take-map frame_bytes n l.entries)
    ∙ ap (λ (x : Option BasedLedger). take n (frames_of x)) (sym is)
