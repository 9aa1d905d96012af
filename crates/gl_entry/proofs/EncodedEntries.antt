-- The bytes of a ledger file encode its entries.
use Rattle.std.proofs.Common.{◌≡◌, ℕ, zero, suc, ◌<◌, List, [], ◌∷◌, ◌++◌, true, length, Option, None, Some, Result, Ok, Err, append-nil, refl, sym, ap, ◌∙◌, subst, arith}
use Rattle.std.specs.List.{list_all, flat_map}
use Rattle.std.proofs.lemmas.Bool.{and_from}
use Rattle.std.proofs.lemmas.List.Concat.{flat_map-cons}
use Rattle.gl_base.specs.Bytes.{are_bytes}
use Rattle.gl_base.specs.Code.{unread_of}
use Rattle.gl_base.specs.Cut.{Unread}
use Rattle.gl_base.specs.Steps.{◌>>=◌}
use Rattle.gl_base.proofs.ByteLists.{AreBytes, are_bytes-each}
use Rattle.gl_base.proofs.Steps.{bind_ok, ok_injective}
use Rattle.gl_entry.specs.Entry.{frame_bytes, is_entry}
use Rattle.gl_entry.specs.Parsing.{frame_at}
use Rattle.gl_entry.specs.Stream.{next_entry}
use Rattle.gl_entry.specs.declared.entry.Entry.{Entry}
use Rattle.gl_entry.specs.declared.fault.EntryFault.{EntryFault}
use Rattle.gl_entry.proofs.EntryLaws.{frame-encoded}
use Rattle.gl_entry.specs.LedgerFile.{LedgerFile, file_after, file_within, ledger_file, no_entries, with_entries}
use Rattle.gl_entry.proofs.FileLaws.{file_end, file_frames, next-left}

-- ---- the next entry

-- What was taken from the start of the bytes.
record IsTakenFrom (bytes : List ℕ) (e : Entry) (rest : List ℕ) : Type 0 where
  encoded : bytes ≡ frame_bytes e ++ rest
  valid : is_entry e ≡ true
  suffix : AreBytes rest

next-encoded : (bytes : List ℕ) (read : Entry × List ℕ) → AreBytes bytes → next_entry bytes ≡ Ok (Some read) → IsTakenFrom bytes read.0 read.1
unfolding next_entry
next-encoded [] read all h = absurd cc
next-encoded (byte ∷ bytes) read all h =
    let there = bind_ok {E = EntryFault} (frame_at (unread_of (byte ∷ bytes))) _ (Some read) h in
    let took = frame-encoded (unread_of (byte ∷ bytes)) there.0 all there.1 in
    let same : (there.0.0, there.0.1.bytes) ≡ read = some_is (there.0.0, there.0.1.bytes) read (ok_injective {E = EntryFault} (Some (there.0.0, there.0.1.bytes)) (Some read) there.2) in
    subst (λ (x : Entry × List ℕ). IsTakenFrom (byte ∷ bytes) x.0 x.1) same (record { encoded = took.bytes; valid = took.valid; suffix = took.rest })
  where
    some_is : (x y : Entry × List ℕ) → Some x ≡ Some y → x ≡ y
    some_is x y e = cc

-- A file that has no entry and no fault has no bytes.
pub no_bytes : (bytes : List ℕ) → (ledger_file bytes).entries ≡ [] → (ledger_file bytes).fault ≡ None → bytes ≡ []
unfolding ledger_file next_entry
no_bytes [] none whole = refl
no_bytes (byte ∷ bytes) none whole = absurd (go (frame_at (unread_of (byte ∷ bytes))) none whole)
  where
    go : (r : Result (Entry × Unread) EntryFault)
        → (file_after (r >>= λ read. Ok (Some (read.0, read.1.bytes))) (file_within (length (byte ∷ bytes)))).entries ≡ []
        → (file_after (r >>= λ read. Ok (Some (read.0, read.1.bytes))) (file_within (length (byte ∷ bytes)))).fault ≡ None → ⊥
    go (Err fault) a b = cc
    go (Ok read) a b = cc

-- ---- all entries

record IsEncoded (bytes : List ℕ) (file : LedgerFile) : Type 0 where
  valid : list_all is_entry file.entries ≡ true
  encoded : file.fault ≡ None → flat_map frame_bytes file.entries ≡ bytes

none_left : (bytes : List ℕ) → next_entry bytes ≡ Ok None → [] ≡ bytes
unfolding next_entry
none_left [] h = refl
none_left (byte ∷ bytes) h =
    let there = bind_ok {E = EntryFault} (frame_at (unread_of (byte ∷ bytes))) _ None h in
    absurd (other (ok_injective {E = EntryFault} (Some (there.0.0, there.0.1.bytes)) None there.2))
  where
    other : {x : Entry × List ℕ} → Some x ≡ None → ⊥
    other e = cc

encoded_step : (n : ℕ) (bytes : List ℕ) (next : Result (Option (Entry × List ℕ)) EntryFault) → AreBytes bytes → next_entry bytes ≡ next
    → ((e : Entry) (rest : List ℕ) → next_entry bytes ≡ Ok (Some (e, rest)) → AreBytes rest → IsEncoded rest (file_within n rest))
    → IsEncoded bytes (file_after next (file_within n))
encoded_step n bytes (Err fault) all is more = record { valid = refl; encoded = λ none. absurd cc }
encoded_step n bytes (Ok None) all is more = record { valid = refl; encoded = λ none. none_left bytes is }
encoded_step n bytes (Ok (Some read)) all is more =
    let took = next-encoded bytes read all is in
    let suffix = more read.0 read.1 is took.suffix in
    record {
      valid = and_from (is_entry read.0) (list_all is_entry (file_within n read.1).entries) took.valid suffix.valid;
      encoded = λ none.
          flat_map-cons frame_bytes read.0 (file_within n read.1).entries
          ∙ ap (λ (xs : List ℕ). frame_bytes read.0 ++ xs) (suffix.encoded none) ∙ sym took.encoded;
    }

encoded_within : (n : ℕ) (bytes : List ℕ) → length bytes < n → AreBytes bytes → IsEncoded bytes (file_within n bytes)
encoded_within zero bytes short all = absurd (omega (arith, short))
encoded_within (suc n) bytes short all =
    encoded_step n bytes (next_entry bytes) all refl
    (λ e rest is each. encoded_within n rest (let left = next-left bytes e rest is in omega (arith, left, short)) each)

is_encoded : (bytes : List ℕ) → are_bytes bytes ≡ true → IsEncoded bytes (ledger_file bytes)
unfolding ledger_file
is_encoded bytes all = encoded_within (suc (length bytes)) bytes (omega arith) (are_bytes-each bytes all)

pub are_entries : (bytes : List ℕ) → are_bytes bytes ≡ true → list_all is_entry (ledger_file bytes).entries ≡ true
are_entries bytes all = (is_encoded bytes all).valid

pub encoded : (bytes : List ℕ) → are_bytes bytes ≡ true → (ledger_file bytes).fault ≡ None → flat_map frame_bytes (ledger_file bytes).entries ≡ bytes
encoded bytes all = (is_encoded bytes all).encoded

pub file_of_frames : (ledger : List Entry) → list_all is_entry ledger ≡ true → ledger_file (flat_map frame_bytes ledger) ≡ with_entries ledger (no_entries None)
file_of_frames ledger valid =
    ap ledger_file (sym (append-nil (flat_map frame_bytes ledger))) ∙ file_frames ledger [] valid ∙ ap (with_entries ledger) file_end
