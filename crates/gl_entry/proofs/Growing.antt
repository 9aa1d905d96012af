-- What is read of enough bytes is read of them with more after it.
use Rattle.std.proofs.Common.{◌≡◌, ℕ, ◌+◌, ◌≤◌, nat_lt, nat_le, ◌==◌, Bool, true, false, List, ◌∷◌, ◌++◌, length, take, drop, Option, None, Some, Result, Ok, Err, refl, sym, ap, ◌∙◌, length-append, length-drop, arith}
use Rattle.std.proofs.lemmas.Bool.Decides.{nat_tests}
use Rattle.std.proofs.lemmas.List.{take-append-le}
use Rattle.std.proofs.Math.Seq.{drop-append-le}
use Rattle.gl_base.specs.Code.{unread_of}
use Rattle.gl_base.specs.Cut.{Unread, bytes_at, number_at}
use Rattle.gl_base.specs.Steps.{◌>>=◌}
use Rattle.gl_base.specs.declared.fault.CutFault.{CutFault}
use Rattle.gl_base.proofs.Numbers.{number_at_ok}
use Rattle.gl_base.proofs.Steps.{bind_ok}
use Rattle.gl_entry.specs.declared.entry.Entry.{Entry}
use Rattle.gl_entry.specs.declared.fault.EntryFault.{EntryFault}
use Rattle.gl_entry.specs.declared.fault.EntryFault.TheVariants as faults
use Rattle.gl_entry.specs.Entry.{body_limit}
use Rattle.gl_entry.specs.Parsing.{entry_field, required, whole_body, size_at, frame_at}
use Rattle.gl_entry.specs.Stream.{next_entry, size_wanted, wanted}
use Rattle.gl_entry.proofs.EntryLaws.{entry_field_ok}
use Rattle.gl_entry.proofs.Ordered.{required_ok}

-- The same bytes to be read, with more after them.
abbrev pub with_more : List ℕ → Unread → Unread
with_more more unread = record { at = unread.at; bytes = unread.bytes ++ more }

-- The same reading, with more bytes after what it leaves.
abbrev pub leaving : {A E : Type 0} → List ℕ → Result (A × Unread) E → Result (A × Unread) E
leaving more (Ok read) = Ok (read.0, with_more more read.1)
leaving more (Err fault) = Err fault

-- ---- steps

bind_more : {A B : Type 0} → (more : List ℕ) (grown read : Result (A × Unread) EntryFault) (next : A × Unread → Result (B × Unread) EntryFault) → grown ≡ leaving more read
    → ((x : A) (new : Unread) → read ≡ Ok (x, new) → next (x, with_more more new) ≡ leaving more (next (x, new))) → (grown >>= next) ≡ leaving more (read >>= next)
bind_more more grown (Ok read) next e step = ap (λ r. r >>= next) e ∙ step read.0 read.1 refl
bind_more more grown (Err fault) next e step = ap (λ r. r >>= next) e

field-more : {A : Type 0} → (more : List ℕ) (grown read : Result (A × Unread) CutFault) → grown ≡ leaving more read → entry_field grown ≡ leaving more (entry_field read)
field-more more grown (Ok read) e = ap entry_field e
field-more more grown (Err fault) e = ap entry_field e

required-more : {A : Type 0} → (more : List ℕ) (holds : Bool) (fault : EntryFault) (x : A) (new : Unread) → required holds fault (x, with_more more new) ≡ leaving more (required holds fault (x, new))
required-more more true fault x new = refl
required-more more false fault x new = refl

-- ---- fields

bytes_at-enough : (count : ℕ) (old : Unread) → count ≤ length old.bytes → bytes_at count old ≡ Ok (take count old.bytes, record { at = old.at + count; bytes = drop count old.bytes })
unfolding bytes_at
bytes_at-enough count old enough =
    let there : nat_lt (length old.bytes) count ≡ false = grind (arith, nat_tests) in
    rw there refl

bytes_at-more : (count : ℕ) (more : List ℕ) (old : Unread) → count ≤ length old.bytes → bytes_at count (with_more more old) ≡ leaving more (bytes_at count old)
bytes_at-more count more old enough =
    let long = length-append old.bytes more in
    let grown = bytes_at-enough count (with_more more old) (omega (arith, long)) in
    let prefix : take count (old.bytes ++ more) ≡ take count old.bytes = take-append-le count old.bytes more enough in
    let back : drop count (old.bytes ++ more) ≡ drop count old.bytes ++ more = drop-append-le count old.bytes more enough in
    grown
    ∙ ap (λ (xs : List ℕ). Ok (xs, record { at = old.at + count; bytes = drop count (old.bytes ++ more) })) prefix
    ∙ ap (λ (xs : List ℕ). Ok (take count old.bytes, record { at = old.at + count; bytes = xs })) back
    ∙ sym (ap (leaving {E = CutFault} more) (bytes_at-enough count old enough))

number_at-more : (size : ℕ) (more : List ℕ) (old : Unread) → size ≤ length old.bytes → number_at size (with_more more old) ≡ leaving more (number_at size old)
unfolding number_at
number_at-more size more old enough = rw (bytes_at-more size more old enough, bytes_at-enough size old enough) refl

number_left : (size n : ℕ) (old new : Unread) → number_at size old ≡ Ok (n, new) → length new.bytes + size ≡ length old.bytes
number_left size n old new e =
    let taken = (number_at_ok size n old new e).taken in
    omega (arith, taken.enough, ap length taken.back, length-drop size old.bytes)

-- ---- the head of a frame

same_left : (holds : Bool) (fault : EntryFault) (old new : ℕ × Unread) → required holds fault old ≡ Ok new → length old.1.bytes ≡ length new.1.bytes
same_left holds fault old new e = ap (λ (p : ℕ × Unread). length p.1.bytes) (required_ok holds fault old new e).1

size_at-more : (more : List ℕ) (old : Unread) → 8 ≤ length old.bytes → size_at (with_more more old) ≡ leaving more (size_at old)
unfolding size_at
size_at-more more old enough =
    bind_more more _ (entry_field (number_at 1 old)) _ (field-more more _ (number_at 1 old) (number_at-more 1 more old (omega (arith, enough)))) (λ version a version_is.
    let left_a = number_left 1 version old a (entry_field_ok (number_at 1 old) (version, a) version_is) in
    bind_more more _ (required (version == 1) faults.Version (version, a)) _ (required-more more (version == 1) faults.Version version a) (λ first b first_is.
    let left_b = same_left (version == 1) faults.Version (version, a) (first, b) first_is in
    bind_more more _ (entry_field (number_at 1 b)) _ (field-more more _ (number_at 1 b) (number_at-more 1 more b (omega (arith, enough, left_a, left_b)))) (λ flags c flags_is.
    let left_c = number_left 1 flags b c (entry_field_ok (number_at 1 b) (flags, c) flags_is) in
    bind_more more _ (required (flags == 0) faults.Flags (flags, c)) _ (required-more more (flags == 0) faults.Flags flags c) (λ second d second_is.
    let left_d = same_left (flags == 0) faults.Flags (flags, c) (second, d) second_is in
    bind_more more _ (entry_field (number_at 6 d)) _ (field-more more _ (number_at 6 d) (number_at-more 6 more d (omega (arith, enough, left_a, left_b, left_c, left_d)))) (λ size f size_is.
    required-more more (nat_le size body_limit) (faults.Size size) size f)))))

size_left : (old : Unread) (read : ℕ × Unread) → size_at old ≡ Ok read → length read.1.bytes + 8 ≡ length old.bytes
unfolding size_at
size_left old read e =
    let version = bind_ok {E = EntryFault} (entry_field (number_at 1 old)) _ read e in
    let first = bind_ok {E = EntryFault} (required (version.0.0 == 1) faults.Version version.0) _ read version.2 in
    let flags = bind_ok {E = EntryFault} (entry_field (number_at 1 first.0.1)) _ read first.2 in
    let second = bind_ok {E = EntryFault} (required (flags.0.0 == 0) faults.Flags flags.0) _ read flags.2 in
    let size = bind_ok {E = EntryFault} (entry_field (number_at 6 second.0.1)) _ read second.2 in
    let a = number_left 1 version.0.0 old version.0.1 (entry_field_ok (number_at 1 old) version.0 version.1) in
    let b = same_left (version.0.0 == 1) faults.Version version.0 first.0 first.1 in
    let c = number_left 1 flags.0.0 first.0.1 flags.0.1 (entry_field_ok (number_at 1 first.0.1) flags.0 flags.1) in
    let d = same_left (flags.0.0 == 0) faults.Flags flags.0 second.0 second.1 in
    let f = number_left 6 size.0.0 second.0.1 size.0.1 (entry_field_ok (number_at 6 second.0.1) size.0 size.1) in
    let g = same_left (nat_le size.0.0 body_limit) (faults.Size size.0.0) size.0 read size.2 in
    omega (arith, a, b, c, d, f, g)

-- ---- a frame

entry-more : (more : List ℕ) (e : Result Entry EntryFault) (new : Unread) → (e >>= λ entry. Ok (entry, with_more more new)) ≡ leaving {E = EntryFault} more (e >>= λ entry. Ok (entry, new))
entry-more more (Ok entry) new = refl
entry-more more (Err fault) new = refl

pub head_wanted : (size : Result (ℕ × Unread) EntryFault) → 8 ≤ size_wanted size
head_wanted (Ok size) = omega arith
head_wanted (Err fault) = omega arith

pub frame_at-more : (more : List ℕ) (old : Unread) → size_wanted (size_at old) ≤ length old.bytes → frame_at (with_more more old) ≡ leaving more (frame_at old)
unfolding frame_at
frame_at-more more old enough =
    let head = head_wanted (size_at old) in
    bind_more more _ (size_at old) _ (size_at-more more old (omega (arith, enough, head))) (λ size a size_is.
    let left = size_left old (size, a) size_is in
    let want : size_wanted (size_at old) ≡ 8 + size = ap size_wanted size_is in
    bind_more more _ (entry_field (bytes_at size a)) _ (field-more more _ (bytes_at size a) (bytes_at-more size more a (omega (arith, enough, want, left)))) (λ body b body_is.
    entry-more more (whole_body (record { at = a.at; bytes = body })) b))

-- ---- the next entry

-- The next entry with more bytes after it.
abbrev pub next_leaving : List ℕ → Result (Option (Entry × List ℕ)) EntryFault → Result (Option (Entry × List ℕ)) EntryFault
next_leaving more (Ok None) = Ok None
next_leaving more (Ok (Some next)) = Ok (Some (next.0, next.1 ++ more))
next_leaving more (Err fault) = Err fault

next-leaving : (more : List ℕ) (read : Result (Entry × Unread) EntryFault) → (leaving more read >>= λ read. Ok (Some (read.0, read.1.bytes))) ≡ next_leaving more (read >>= λ read. Ok (Some (read.0, read.1.bytes)))
next-leaving more (Ok read) = refl
next-leaving more (Err fault) = refl

pub next_entry-more : (more : List ℕ) (byte : ℕ) (bytes : List ℕ) → wanted (byte ∷ bytes) ≤ length (byte ∷ bytes) → next_entry ((byte ∷ bytes) ++ more) ≡ next_leaving more (next_entry (byte ∷ bytes))
unfolding next_entry
next_entry-more more byte bytes enough =
    ap (λ (r : Result (Entry × Unread) EntryFault). r >>= λ read. Ok (Some (read.0, read.1.bytes))) (frame_at-more more (unread_of (byte ∷ bytes)) enough) ∙ next-leaving more (frame_at (unread_of (byte ∷ bytes)))
