-- What bytes open to, by the parts that they are made of.
use Rattle.std.proofs.Common.{◌≡◌, ℕ, zero, suc, ◌+◌, ◌^◌, ◌<◌, List, [], ◌∷◌, ◌++◌, length, get_or, take, drop, Option, None, Some, Ok, Err, IsOk, Vec, refl, sym, ◌∙◌, ap, arith, append_assoc, length-append}
use Rattle.std.proofs.lemmas.List.{append-nil, drop_more}
use Rattle.std.specs.declared.alloc.Global.{Global}
use Rattle.gl_journal.specs.Gates.{body_of, batches, with_first, Opening, payloads_from, mismatch, opening_answer, payloads_of}
use Rattle.gl_journal.specs.Parts.{FileParts, Parts, IsClosed, items_of}
use Rattle.gl_journal.specs.declared.fault.JournalFault.TheVariants.{NotJournal}
use Rattle.gl_journal.proofs.Headers.{begins_with}
use Rattle.gl_journal.proofs.Openings.{with_prefix, opened_closed, opened_end, opened_batch, opened_batches, payloads_of_file, FitLengths-push, batches-push, length-body}

pub items_of_push : (payloads : List (Vec ℕ Global)) (payload : Vec ℕ Global) → items_of (payloads ++ payload ∷ []) ≡ items_of payloads ++ payload.items ∷ []
items_of_push [] payload = refl
items_of_push (first ∷ payloads) payload = ap (λ (l : List (List ℕ)). first.items ∷ l) (items_of_push payloads payload)

pub opens_to_parts : (at : ℕ) (bytes : List ℕ) (payloads : List (List ℕ)) (place : ℕ) (rest : List ℕ) → Parts at bytes payloads place rest → payloads_from at bytes ≡ with_prefix payloads (payloads_from place rest)
opens_to_parts at bytes payloads place rest parts =
    ap (payloads_from at) parts.split ∙ opened_batches at payloads rest parts.fit ∙ ap (λ (n : ℕ). with_prefix payloads (payloads_from n rest)) (sym parts.current)

pub nothing_open : (place : ℕ) (rest : List ℕ) → IsClosed rest → payloads_from place rest ≡ Ok []
nothing_open place [] shut = opened_end place
nothing_open place (gate ∷ tail) shut = opened_closed place gate tail shut

-- where the next batch isn't whole, its place is reported
pub opens_cut : (at : ℕ) (bytes : List ℕ) (payloads : List (List ℕ)) (place : ℕ) (after : List ℕ) → Parts at bytes payloads place (1 ∷ after) → payloads_from place (1 ∷ after) ≡ Err (place + 1)
    → payloads_from at bytes ≡ Err (place + 1)
opens_cut at bytes payloads place after parts is = opens_to_parts at bytes payloads place (1 ∷ after) parts ∙ ap (with_prefix payloads) is

-- a batch that was read at a place
pub opens_first : (at : ℕ) (bytes after payload : List ℕ) (next : ℕ) (rest : List ℕ) → bytes ≡ 1 ∷ after → after ≡ body_of payload ++ rest → length payload < 2 ^ 32 → next ≡ at + 5 + length payload
    → payloads_from at bytes ≡ with_first payload (payloads_from next rest)
opens_first at bytes after payload next rest is_open encoded small is =
    ap (payloads_from at) (is_open ∙ ap (λ (l : List ℕ). 1 ∷ l) encoded) ∙ opened_batch at payload rest small ∙ ap (λ (n : ℕ). with_first payload (payloads_from n rest)) (sym is)

-- one batch more
pub parts_push : (at : ℕ) (bytes : List ℕ) (payloads : List (List ℕ)) (place : ℕ) (after payload : List ℕ) (place' : ℕ) (rest : List ℕ) → Parts at bytes payloads place (1 ∷ after)
    → after ≡ body_of payload ++ rest → length payload < 2 ^ 32 → place' ≡ place + 5 + length payload → Parts at bytes (payloads ++ payload ∷ []) place' rest
parts_push at bytes payloads place after payload place' rest parts is small next =
    let whole : bytes ≡ batches (payloads ++ payload ∷ []) ++ rest = parts.split ∙ ap (λ (l : List ℕ). batches payloads ++ 1 ∷ l) is ∙ sym (batches-push payloads payload rest) in record {
      split = whole;
      fit = FitLengths-push payloads payload parts.fit small;
      current = omega (arith, parts.current, ap length whole, ap length parts.split, ap length is, length-append (batches payloads) (1 ∷ after), length-append (batches (payloads ++ payload ∷ [])) rest, length-append (body_of payload) rest, length-body payload);
    }

-- a file that begins with its header
pub file_parts : (header bytes : List ℕ) (payloads : List (List ℕ)) (place : ℕ) (rest : List ℕ) → mismatch header bytes ≡ None → Parts (length header) (drop (length header) bytes) payloads place rest → IsClosed rest
    → FileParts header bytes payloads place rest
file_parts header bytes payloads place rest begins parts shut = record {
  split = begins_with header bytes begins ∙ ap (λ (l : List ℕ). header ++ l) parts.split ∙ sym (append_assoc header (batches payloads) rest);
  fit = parts.fit;
  current = omega (arith, parts.current, length-append header (batches payloads));
  closed = shut;
}

pub file_opens : (header bytes : List ℕ) (opening : Opening) → mismatch header bytes ≡ None → payloads_from (length header) (drop (length header) bytes) ≡ opening → payloads_of header bytes ≡ opening_answer None opening
unfolding payloads_of
file_opens header bytes opening begins is = ap (λ (o : Option ℕ). opening_answer o (payloads_from (length header) (drop (length header) bytes))) begins ∙ ap (opening_answer None) is

answer_opened : (differs : Option ℕ) (opening : Opening) → IsOk (opening_answer differs opening) → (differs ≡ None) × IsOk opening
answer_opened (Some at) opening opens = cc
answer_opened None (Ok payloads) opens = (refl, refl)
answer_opened None (Err at) opens = cc

pub file_differs : (header bytes : List ℕ) (at : ℕ) → mismatch header bytes ≡ Some at → payloads_of header bytes ≡ Err (NotJournal at)
unfolding payloads_of
file_differs header bytes at is = ap (λ (o : Option ℕ). opening_answer o (payloads_from (length header) (drop (length header) bytes))) is

-- what the parts of a file open to
pub opens_by_parts : (header bytes : List ℕ) (payloads : List (List ℕ)) (place : ℕ) (rest : List ℕ) → FileParts header bytes payloads place rest → payloads_of header bytes ≡ Ok payloads
opens_by_parts header bytes payloads place rest parts =
    ap (payloads_of header) parts.split ∙ payloads_of_file header payloads rest parts.fit
    ∙ ap (λ (o : Opening). opening_answer None (with_prefix payloads o)) (nothing_open (length (header ++ batches payloads)) rest parts.closed)
    ∙ ap (λ (l : List (List ℕ)). Ok l) (append-nil payloads)

-- a file that opens begins with its header, and what stands after it opens
pub file_opened : (header bytes : List ℕ) → IsOk (payloads_of header bytes)
    → (mismatch header bytes ≡ None) × IsOk (payloads_from (length header) (drop (length header) bytes))
unfolding payloads_of
file_opened header bytes opens = answer_opened (mismatch header bytes) (payloads_from (length header) (drop (length header) bytes)) opens

-- the first of the lists that are left
pub items_of_drop : (lists : List (Vec ℕ Global)) (i : ℕ) (first : Vec ℕ Global) → i < length lists → first ≡ get_or lists i first → items_of (drop i lists) ≡ first.items ∷ items_of (drop (i + 1) lists)
items_of_drop lists i first below is = ap items_of (drop_more lists i first below ∙ ap (λ (v : Vec ℕ Global). v ∷ drop (i + 1) lists) (sym is))

pub length_items_of : (lists : List (Vec ℕ Global)) → length (items_of lists) ≡ length lists
length_items_of [] = refl
length_items_of (first ∷ lists) = ap suc (length_items_of lists)

pub items_of_take : (n : ℕ) (lists : List (Vec ℕ Global)) → items_of (take n lists) ≡ take n (items_of lists)
items_of_take zero lists = refl
items_of_take (suc n) [] = refl
items_of_take (suc n) (first ∷ lists) = ap (λ (l : List (List ℕ)). first.items ∷ l) (items_of_take n lists)
