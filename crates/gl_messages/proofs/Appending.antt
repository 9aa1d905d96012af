-- Reading entries one after the other, as a loop does.
use Rattle.std.proofs.Common.{◌≡◌, ℕ, suc, ◌-◌, ◌+◌, ◌≤◌, ◌<◌, nat_lt, Bool, true, false, List, [], ◌∷◌, ◌++◌, length, take, drop, Result, Ok, Err, refl, sym, ap, ◌∙◌, append_assoc, arith}
use Rattle.std.specs.List.{list_all}
use Rattle.std.proofs.Math.ListN.{get_or}
use Rattle.std.proofs.lemmas.Bool.Decides.{nat_tests}
use Rattle.std.proofs.lemmas.List.{append-nil}
use Rattle.std.proofs.lemmas.List.Folds.{list_all_at}
use Rattle.gl_base.specs.Answers.{Fails}
use Rattle.gl_base.specs.Cut.{Unread, Gives, bytes_at}
use Rattle.gl_base.specs.Steps.{◌>>=◌}
use Rattle.gl_base.specs.declared.fault.CutFault.{CutFault}
use Rattle.gl_base.specs.declared.or_no_memory.OrNoMemory.{OrNoMemory}
use Rattle.gl_base.specs.declared.or_no_memory.OrNoMemory.TheVariants as errors
use Rattle.gl_base.proofs.Numbers.{bytes_at_ok}
use Rattle.gl_base.proofs.Steps.{ok_injective}
use Rattle.gl_entry.specs.Entry as entries
use Rattle.gl_entry.specs.Entry.{body_limit, is_entry, frame_bytes, frame_size}
use Rattle.gl_entry.specs.Parsing.{frame_at}
use Rattle.gl_entry.specs.declared.entry.Entry.{Entry}
use Rattle.gl_entry.proofs.EntryLaws.{first_frame-reads, length-frame_bytes}
use Rattle.gl_entry.proofs.Parts.{Lies, bytes-reads}
use Rattle.gl_messages.specs.Message.{has_fitting_body}
use Rattle.gl_messages.specs.MessageReading.{entry_at, entries_at, with_entry}
use Rattle.gl_messages.specs.declared.append.Before.{Before}
use Rattle.gl_messages.specs.declared.fault.MessageFault.{MessageFault}

abbrev Reading : Type 0
Reading = Result (List Entry × Unread) MessageFault

-- What was read before, and what is still read.
abbrev with_prefix : List Entry → Reading → Reading
with_prefix prefix read = read >>= λ x. Ok (prefix ++ x.0, x.1)

regroup : (prefix : List Entry) (e : Entry) (read : Reading) → with_prefix prefix (read >>= λ x. Ok (e ∷ x.0, x.1)) ≡ with_prefix (prefix ++ e ∷ []) read
regroup prefix e (Ok x) = ap (λ (es : List Entry). Ok (es, x.1)) (sym (append_assoc prefix (e ∷ []) x.0))
regroup prefix e (Err f) = refl

-- The entries after those that were read.
abbrev pub suffix : ℕ → List Entry → ℕ → ℕ → Before → Unread → Reading
suffix most prefix count i before unread = with_prefix prefix (entries_at most before (count - i) unread)

pub goes_on : (most : ℕ) (prefix : List Entry) (count i : ℕ) (before next : Before) (old new : Unread) (e : Entry) (total : Reading) → i < count → entry_at most before old ≡ Ok (e, new) → next ≡ with_entry before e
    → suffix most prefix count i before old ≡ total → suffix most (prefix ++ e ∷ []) count (i + 1) next new ≡ total
unfolding entries_at
goes_on most prefix count i before next old new e total lt h is so_far =
    let k : count - i ≡ suc (count - (i + 1)) = omega arith in
    let one : suffix most prefix count i before old ≡ suffix most (prefix ++ e ∷ []) count (i + 1) (with_entry before e) new =
    rw (k, h) (regroup prefix e (entries_at most (with_entry before e) (count - (i + 1)) new)) in
    ap (λ (b : Before). suffix most (prefix ++ e ∷ []) count (i + 1) b new) is ∙ sym one ∙ so_far

pub ends : (most : ℕ) (failed : OrNoMemory MessageFault) (prefix : List Entry) (count i : ℕ) (before : Before) (old : Unread) (total : Reading) → i < count → Fails failed (entry_at most before old)
    → suffix most prefix count i before old ≡ total → Fails failed total
unfolding entries_at
ends most errors.NoMemory prefix count i before old total lt h so_far = tt
ends most (errors.Fault f) prefix count i before old total lt h so_far =
    let k : count - i ≡ suc (count - (i + 1)) = omega arith in
    let one : suffix most prefix count i before old ≡ Err f = rw (k, h) refl in
    sym so_far ∙ one

pub is_done : (most : ℕ) (prefix : List Entry) (count i : ℕ) (before : Before) (old : Unread) (total : Reading) → count ≤ i → suffix most prefix count i before old ≡ total → total ≡ Ok (prefix, old)
unfolding entries_at
is_done most prefix count i before old total le so_far =
    let k : count - i ≡ 0 = omega arith in
    let one : suffix most prefix count i before old ≡ Ok (prefix, old) = rw k (ap (λ (es : List Entry). Ok (es, old)) (append-nil prefix)) in
    sym so_far ∙ one

-- ---- the bytes of a frame

bytes_at-enough : (count : ℕ) (old : Unread) → count ≤ length old.bytes → bytes_at count old ≡ Ok (take count old.bytes, record { at = old.at + count; bytes = drop count old.bytes })
unfolding bytes_at
bytes_at-enough count old enough =
    let there : nat_lt (length old.bytes) count ≡ false = grind (arith, nat_tests) in
    rw there refl

-- All bytes can be read.
pub all_read : {X : Type 0} → (view : X → List ℕ) (old new : Unread) (count : ℕ) (r : Result X CutFault) → count ≡ length old.bytes → Gives view r old new (bytes_at count old) → new.at ≡ old.at + count
all_read view old new count (Ok x) all given = (bytes_at_ok count old new (view x) given).place
all_read view old new count (Err fault) all given =
    let there = bytes_at-enough count old (omega arith) in
    let failed = given.0 in
    absurd cc

-- An entry that was read from the start of bytes, and the bytes after its frame.
pub record Framed (old : Unread) (e : Entry) (size : ℕ) : Type 0 where
  pub new : Unread
  pub read : frame_at old ≡ Ok (e, new)
  pub taken : bytes_at size old ≡ Ok (frame_bytes e, new)
  pub size_is : size ≡ frame_size e

pub framed : (old : Unread) (e : Entry) (size : ℕ) (rest : List ℕ) → is_entry e ≡ true → size ≡ frame_size e → old.bytes ≡ frame_bytes e ++ rest → Framed old e size
framed old e size rest is counted parts =
    let new : Unread = record { at = old.at + frame_size e; bytes = rest } in
    let lies : Lies (frame_bytes e) old new = record { bytes = parts; place = ap (λ (n : ℕ). old.at + n) (sym (length-frame_bytes e)) } in
    let taken : bytes_at (frame_size e) old ≡ Ok (frame_bytes e, new) = bytes-reads (frame_size e) (frame_bytes e) old new lies (length-frame_bytes e) in
    record {
      new = new;
      read = ap (λ (bytes : List ℕ). frame_at (record { at = old.at; bytes = bytes })) parts ∙ first_frame-reads old.at e rest is;
      taken = ap (λ (n : ℕ). bytes_at n old) counted ∙ taken;
      size_is = counted;
    }

-- The frame was skipped.
pub skipped : {X : Type 0} → (view : X → List ℕ) (old new : Unread) (e : Entry) (size : ℕ) (x : X) → Framed old e size → bytes_at size old ≡ Ok (view x, new) → frame_at old ≡ Ok (e, new)
skipped view old new e size x there given =
    let pair : ◌≡◌ {A = List ℕ × Unread} (frame_bytes e, there.new) (view x, new) = ok_injective {A = List ℕ × Unread} {E = CutFault} (frame_bytes e, there.new) (view x, new) (sym there.taken ∙ given) in
    there.read ∙ ap (λ (p : List ℕ × Unread). Ok (e, p.1)) pair

pub not_skipped : (old : Unread) (e : Entry) (size : ℕ) (fault : CutFault) → Framed old e size → bytes_at size old ≡ Err fault → ⊥
not_skipped old e size fault there failed = let taken = there.taken in cc

-- ---- the bodies of entries

pub fits_at : (es : List Entry) (i : ℕ) (d : Entry) → i < length es → list_all has_fitting_body es ≡ true → length (entries.body_bytes (get_or es i d)) ≤ body_limit
fits_at es i d within all = by_test (has_fitting_body (get_or es i d)) refl
  where
    by_test : (b : Bool) → has_fitting_body (get_or es i d) ≡ b → length (entries.body_bytes (get_or es i d)) ≤ body_limit
    by_test true is = grind (arith, nat_tests)
    by_test false is = let not = list_all_at has_fitting_body es i d within is in absurd cc
