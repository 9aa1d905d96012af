-- The entries of a ledger file, frame by frame: more fuel than bytes changes nothing.
use Rattle.std.proofs.Common.{◌≡◌, ℕ, zero, suc, ◌+◌, ◌<◌, ◌≤◌, nat_lt, nat_le, ◌==◌, List, [], ◌∷◌, ◌++◌, Bool, true, false, length, take, drop, Option, None, Some, Result, Ok, Err, if◌then◌else◌, length-drop, append_assoc, refl, ap, ◌∙◌, subst, arith}
use Rattle.std.specs.List.{list_all, flat_map}
use Rattle.std.proofs.lemmas.Bool.{and_parts}
use Rattle.std.proofs.lemmas.Bool.Decides.{nat_tests}
use Rattle.gl_base.specs.Code.{unread_of}
use Rattle.gl_base.specs.Cut.{Unread, bytes_at, number_at}
use Rattle.gl_base.specs.LittleEndian.{from_little_endian}
use Rattle.gl_base.specs.Steps.{◌>>=◌}
use Rattle.gl_base.proofs.Steps.{bind_ok, ok_injective}
use Rattle.gl_base.specs.declared.fault.CutFault.{CutFault}
use Rattle.gl_base.specs.declared.fault.CutFault.TheVariants as cuts
use Rattle.gl_entry.specs.declared.entry.Entry.{Entry}
use Rattle.gl_entry.specs.declared.fault.EntryFault.{EntryFault}
use Rattle.gl_entry.specs.declared.fault.EntryFault.TheVariants as faults
use Rattle.gl_entry.specs.Entry.{body_limit, frame_bytes, is_entry}
use Rattle.gl_entry.specs.Parsing.{entry_field, required, size_at, frame_at, whole_body}
use Rattle.gl_entry.specs.Stream.{next_entry}
use Rattle.gl_entry.proofs.EntryLaws.{entry_field_ok, after_frame, first_frame-reads}
use Rattle.gl_entry.proofs.Ordered.{required_ok}
use Rattle.gl_entry.specs.LedgerFile.{file_after, file_within, ledger_file, no_entries, with_entries, with_entry}

-- ---- how many bytes are taken

bytes-left : (count : ℕ) (old : Unread) (x : List ℕ × Unread) → bytes_at count old ≡ Ok x → count + length x.1.bytes ≡ length old.bytes
unfolding bytes_at
bytes-left count old x e = go (nat_lt (length old.bytes) count) refl e
  where
    go : (b : Bool) → nat_lt (length old.bytes) count ≡ b →
        ◌≡◌ {A = Result (List ℕ × Unread) CutFault} (if b then Err (cuts.Short (old.at + length old.bytes)) else Ok (take count old.bytes, record { at = old.at + count; bytes = drop count old.bytes })) (Ok x)
        → count + length x.1.bytes ≡ length old.bytes
    go true t h = absurd cc
    go false t h =
        let within : count ≤ length old.bytes = grind (arith, nat_tests) in
        let after : drop count old.bytes ≡ x.1.bytes = ap (λ (p : List ℕ × Unread). p.1.bytes) (ok_injective {E = CutFault} (take count old.bytes, record { at = old.at + count; bytes = drop count old.bytes }) x h) in
        omega (arith, within, length-drop count old.bytes, ap length after)

number-left : (size : ℕ) (old : Unread) (x : ℕ × Unread) → number_at size old ≡ Ok x → size + length x.1.bytes ≡ length old.bytes
unfolding number_at
number-left size old x e =
    let field = bind_ok {E = CutFault} (bytes_at size old) _ x e in
    let same : field.0.1 ≡ x.1 = ap (λ (p : ℕ × Unread). p.1) (ok_injective {E = CutFault} (from_little_endian field.0.0, field.0.1) x field.2) in
    subst (λ (u : Unread). size + length u.bytes ≡ length old.bytes) same (bytes-left size old field.0 field.1)

size-left : (old : Unread) (read : ℕ × Unread) → size_at old ≡ Ok read → length read.1.bytes < length old.bytes
unfolding size_at
size-left old read e =
    let version = bind_ok {E = EntryFault} (entry_field (number_at 1 old)) _ read e in
    let first = bind_ok {E = EntryFault} (required (version.0.0 == 1) faults.Version version.0) _ read version.2 in
    let flags = bind_ok {E = EntryFault} (entry_field (number_at 1 first.0.1)) _ read first.2 in
    let second = bind_ok {E = EntryFault} (required (flags.0.0 == 0) faults.Flags flags.0) _ read flags.2 in
    let size = bind_ok {E = EntryFault} (entry_field (number_at 6 second.0.1)) _ read second.2 in
    let is_version = required_ok (version.0.0 == 1) faults.Version version.0 first.0 first.1 in
    let is_flags = required_ok (flags.0.0 == 0) faults.Flags flags.0 second.0 second.1 in
    let is_size = required_ok (nat_le size.0.0 body_limit) (faults.Size size.0.0) size.0 read size.2 in
    let a = number-left 1 old version.0 (entry_field_ok (number_at 1 old) version.0 version.1) in
    let b = number-left 1 first.0.1 flags.0 (entry_field_ok (number_at 1 first.0.1) flags.0 flags.1) in
    let c = number-left 6 second.0.1 size.0 (entry_field_ok (number_at 6 second.0.1) size.0 size.1) in
    omega (arith, a, b, c, ap (λ (x : ℕ × Unread). length x.1.bytes) is_version.1, ap (λ (x : ℕ × Unread). length x.1.bytes) is_flags.1, ap (λ (x : ℕ × Unread). length x.1.bytes) is_size.1)

frame-left : (old : Unread) (read : Entry × Unread) → frame_at old ≡ Ok read → length read.1.bytes < length old.bytes
unfolding frame_at
frame-left old read e =
    let size = bind_ok {E = EntryFault} (size_at old) _ read e in
    let body = bind_ok {E = EntryFault} (entry_field (bytes_at size.0.0 size.0.1)) _ read size.2 in
    let entry = bind_ok {E = EntryFault} (whole_body (record { at = size.0.1.at; bytes = body.0.0 })) _ read body.2 in
    let same = ok_injective {E = EntryFault} (entry.0, body.0.1) read entry.2 in
    let a = size-left old size.0 size.1 in
    let b = bytes-left size.0.0 size.0.1 body.0 (entry_field_ok (bytes_at size.0.0 size.0.1) body.0 body.1) in
    omega (arith, a, b, ap (λ (x : Entry × Unread). length x.1.bytes) same)

after_some : Option (Entry × List ℕ) → List ℕ
after_some None = []
after_some (Some read) = read.1

pub next-left : (bytes : List ℕ) (e : Entry) (rest : List ℕ) → next_entry bytes ≡ Ok (Some (e, rest)) → length rest < length bytes
unfolding next_entry after_some
next-left [] e rest h = absurd cc
next-left (byte ∷ bytes) e rest h =
    let there = bind_ok {E = EntryFault} (frame_at (unread_of (byte ∷ bytes))) _ (Some (e, rest)) h in
    let same = ok_injective {E = EntryFault} (Some (there.0.0, there.0.1.bytes)) (Some (e, rest)) there.2 in
    let after : there.0.1.bytes ≡ rest = ap after_some same in
    omega (arith, frame-left (unread_of (byte ∷ bytes)) there.0 there.1, ap length after)

-- ---- more fuel

fuel_step : (n m : ℕ) (bytes : List ℕ) (next : Result (Option (Entry × List ℕ)) EntryFault) → next_entry bytes ≡ next → length bytes ≤ n → length bytes ≤ m
    → ((rest : List ℕ) → length rest < n → length rest < m → file_within n rest ≡ file_within m rest)
    → file_after next (file_within n) ≡ file_after next (file_within m)
fuel_step n m bytes (Err fault) is a b more = refl
fuel_step n m bytes (Ok None) is a b more = refl
fuel_step n m bytes (Ok (Some read)) is a b more =
    let short = next-left bytes read.0 read.1 is in
    ap (with_entry read.0) (more read.1 (omega (arith, short, a)) (omega (arith, short, b)))

fuel : (n m : ℕ) (bytes : List ℕ) → length bytes < n → length bytes < m → file_within n bytes ≡ file_within m bytes
fuel zero m bytes a b = absurd (omega (arith, a))
fuel (suc n) zero bytes a b = absurd (omega (arith, b))
fuel (suc n) (suc m) bytes a b = fuel_step n m bytes (next_entry bytes) refl (omega (arith, a)) (omega (arith, b)) (λ rest c d. fuel n m rest c d)

-- ---- a file by its first entry

pub file_step : (bytes : List ℕ) (e : Entry) (rest : List ℕ) → next_entry bytes ≡ Ok (Some (e, rest)) → ledger_file bytes ≡ with_entry e (ledger_file rest)
unfolding ledger_file
file_step bytes e rest h =
    let short = next-left bytes e rest h in
    ap (λ next. file_after next (file_within (length bytes))) h
    ∙ ap (with_entry e) (fuel (length bytes) (suc (length rest)) rest short (omega arith))

pub file_end : ledger_file [] ≡ no_entries None
unfolding ledger_file next_entry
file_end = refl

pub file_unread : (bytes : List ℕ) (fault : EntryFault) → next_entry bytes ≡ Err fault → ledger_file bytes ≡ no_entries (Some fault)
unfolding ledger_file
file_unread bytes fault h = ap (λ next. file_after next (file_within (length bytes))) h

-- ---- a file that begins with frames

next_frame-some : (bytes : List ℕ) (e : Entry) (rest : List ℕ) → (some : 1 ≤ length bytes) → frame_at (unread_of bytes) ≡ Ok (e, after_frame 0 e rest) → next_entry bytes ≡ Ok (Some (e, rest))
unfolding next_entry
next_frame-some [] e rest some h = absurd (omega (arith, some))
next_frame-some (byte ∷ bytes) e rest some h = ap (λ (r : Result (Entry × Unread) EntryFault). r >>= λ read. Ok (Some (read.0, read.1.bytes))) h

next_frame : (e : Entry) (rest : List ℕ) → is_entry e ≡ true → next_entry (frame_bytes e ++ rest) ≡ Ok (Some (e, rest))
next_frame e rest is = next_frame-some (frame_bytes e ++ rest) e rest (omega arith) (first_frame-reads 0 e rest is)

file_frame : (e : Entry) (rest : List ℕ) → is_entry e ≡ true → ledger_file (frame_bytes e ++ rest) ≡ with_entry e (ledger_file rest)
file_frame e rest is = file_step (frame_bytes e ++ rest) e rest (next_frame e rest is)

pub file_frames : (taken : List Entry) (rest : List ℕ) → list_all is_entry taken ≡ true → ledger_file (flat_map frame_bytes taken ++ rest) ≡ with_entries taken (ledger_file rest)
file_frames [] rest is = refl
file_frames (e ∷ es) rest is =
    let both = and_parts (is_entry e) (list_all is_entry es) is in
    ap ledger_file (append_assoc (frame_bytes e) (flat_map frame_bytes es) rest)
    ∙ file_frame e (flat_map frame_bytes es ++ rest) both.0
    ∙ ap (with_entry e) (file_frames es rest both.1)
