-- What is read of a ledger file, step by step.
use Rattle.std.proofs.Common.{◌≡◌, ℕ, List, [], ◌∷◌, ◌++◌, Bool, true, ◌&&◌, Option, None, Some, Err, IfSome, append_assoc, refl, sym, ap, ◌∙◌, subst}
use Rattle.std.specs.List.{list_all, flat_map}
use Rattle.std.proofs.lemmas.Bool.{and_from, and_parts}
use Rattle.gl_entry.specs.Entry.{is_entry, frame_bytes}
use Rattle.gl_entry.specs.Stream.{next_entry, GivesNext}
use Rattle.gl_entry.specs.declared.entry.Entry.{Entry}
use Rattle.gl_entry.specs.declared.fault.EntryFault.{EntryFault}
use Rattle.gl_entry.specs.SourceBytes.{OfBytes}
use Rattle.gl_entry.specs.LedgerFile.{LedgerFile, ledger_file, no_entries, with_entries}
use Rattle.gl_entry.specs.FileReading.{Consumes, Reads}
use Rattle.gl_entry.proofs.FileLaws.{file_end, file_frames, file_step, file_unread}

-- ---- what is read next

next_read : (old new : Option (List ℕ)) (e : Entry) → IfSome old (λ bytes. GivesNext bytes (Some e) new) → Reads old (e ∷ []) new
next_read None new e gives = tt
next_read (Some bytes) new e gives = subst (λ (n : Option (List ℕ)). Reads (Some bytes) (e ∷ []) n) (sym gives.2) (file_step bytes e gives.0 gives.1)

pub next_entry_taken : (old new : Option (List ℕ)) (read : Option Entry) (e : Entry) → read ≡ Some e → IfSome old (λ bytes. GivesNext bytes read new) → IfSome read (λ x. is_entry x ≡ true) → Consumes old (e ∷ []) new
next_entry_taken old new read e is gives fits = (
  ap (λ (b : Bool). b && true) (subst (λ (r : Option Entry). IfSome r (λ x. is_entry x ≡ true)) is fits),
  next_read old new e (subst (λ (r : Option Entry). IfSome old (λ bytes. GivesNext bytes r new)) is gives),
)

end_read : (old new : Option (List ℕ)) → IfSome old (λ bytes. GivesNext bytes None new) → OfBytes old (λ bytes. ledger_file bytes ≡ no_entries None)
end_read None new gives = ([], file_end)
end_read (Some bytes) new gives = ap ledger_file gives ∙ file_end

pub next_is_end : (old new : Option (List ℕ)) (read : Option Entry) → read ≡ None → IfSome old (λ bytes. GivesNext bytes read new) → OfBytes old (λ bytes. ledger_file bytes ≡ no_entries None)
next_is_end old new read is gives = end_read old new (subst (λ (r : Option Entry). IfSome old (λ bytes. GivesNext bytes r new)) is gives)

pub next_is_unread : (old new : Option (List ℕ)) (kept : List ℕ) (fault : EntryFault) → IfSome old (λ bytes. (next_entry bytes ≡ Err fault) × (new ≡ Some bytes)) → next_entry kept ≡ Err fault
    → OfBytes old (λ bytes. (f : EntryFault) × (ledger_file bytes ≡ no_entries (Some f)))
next_is_unread None new kept fault gives here = (kept, (fault, file_unread kept fault here))
next_is_unread (Some bytes) new kept fault gives here = (fault, file_unread bytes fault gives.0)

-- ---- what was taken

list_all-append : (xs ys : List Entry) → list_all is_entry xs ≡ true → list_all is_entry ys ≡ true → list_all is_entry (xs ++ ys) ≡ true
list_all-append [] ys a b = b
list_all-append (x ∷ xs) ys a b =
    let both = and_parts (is_entry x) (list_all is_entry xs) a in
    and_from (is_entry x) (list_all is_entry (xs ++ ys)) both.0 (list_all-append xs ys both.1 b)

reads_then : (a b c : Option (List ℕ)) (xs ys : List Entry) → Reads a xs b → Reads b ys c → Reads a (xs ++ ys) c
reads_then None b c xs ys first second = tt
reads_then (Some bytes) None c xs ys first second = absurd first
reads_then (Some bytes) (Some mid) None xs ys first second = absurd second
reads_then (Some bytes) (Some mid) (Some rest) xs ys first second =
    first ∙ ap (with_entries xs) second ∙ ap (λ (es : List Entry). record (ledger_file rest) { entries = es }) (sym (append_assoc xs ys (ledger_file rest).entries))

pub consumes_none : (a : Option (List ℕ)) → Consumes a [] a
consumes_none None = (refl, tt)
consumes_none (Some bytes) = (refl, refl)

pub consumes_then : (a b c : Option (List ℕ)) (xs ys : List Entry) → Consumes a xs b → Consumes b ys c → Consumes a (xs ++ ys) c
consumes_then a b c xs ys first second = (list_all-append xs ys first.0 second.0, reads_then a b c xs ys first.1 second.1)

-- What holds of the file that is left holds of the whole file with what was taken.
pub of_consumed : (a b : Option (List ℕ)) (taken : List Entry) (Q : LedgerFile → Type 0) → Consumes a taken b → OfBytes b (λ rest. Q (with_entries taken (ledger_file rest))) → OfBytes a (λ bytes. Q (ledger_file bytes))
of_consumed None None taken Q c q = (flat_map frame_bytes taken ++ q.0, subst Q (sym (file_frames taken q.0 c.0)) q.1)
of_consumed None (Some rest) taken Q c q = (flat_map frame_bytes taken ++ rest, subst Q (sym (file_frames taken rest c.0)) q)
of_consumed (Some bytes) None taken Q c q = absurd c.1
of_consumed (Some bytes) (Some rest) taken Q c q = subst Q (sym c.1) q

pub of_map : (a : Option (List ℕ)) (P Q : List ℕ → Type 0) → ((bytes : List ℕ) → P bytes → Q bytes) → OfBytes a P → OfBytes a Q
of_map None P Q f p = (p.0, f p.0 p.1)
of_map (Some bytes) P Q f p = f bytes p

pub of_all : (a : Option (List ℕ)) (Q : List ℕ → Type 0) → ((bytes : List ℕ) → Q bytes) → OfBytes a Q
of_all None Q f = ([], f [])
of_all (Some bytes) Q f = f bytes
