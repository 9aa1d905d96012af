-- What files of batches open to.
use Rattle.std.proofs.Common.{Bool, ◌==◌, if◌then◌else◌, ◌≡◌, ◌≢◌, ℕ, zero, suc, ◌+◌, ◌^◌, ◌<◌, ◌≤◌, List, [], ◌∷◌, ◌++◌, length, drop, Option, None, Some, Result, Ok, Err, refl, sym, ◌∙◌, ap, arith, append_assoc, length-append, length-drop}
use Rattle.std.proofs.lemmas.Bool.{eq-eqb}
use Rattle.std.proofs.lemmas.Bool.Decides.{nat_tests}
use Rattle.std.proofs.lemmas.List.{drop_at}
use Rattle.gl_base.specs.LittleEndian.{little_endian}
use Rattle.gl_base.specs.Cut.{Unread}
use Rattle.gl_base.specs.declared.fault.CutFault.{CutFault}
use Rattle.gl_base.proofs.Fields.{string_at-encoded}
use Rattle.gl_base.proofs.Numbers.{string_at_ok, number_at_ok, bytes_at_ok, bytes_at_length}
use Rattle.gl_base.proofs.LittleEndianLaws.{length-little_endian}
use Rattle.gl_journal.specs.Gates.{body_of, batches, FitLengths, length_limit, payload_at, Opening, with_first, after_gate, payloads_within, payloads_from, one_on, mismatch, opening_answer, payloads_of}

pub length-body : (payload : List ℕ) → length (body_of payload) ≡ 4 + length payload
length-body payload = omega (arith, length-append (little_endian 4 (length payload)) payload, length-little_endian 4 (length payload))

pub payload_at-body : (at : ℕ) (payload rest : List ℕ) → length payload < 2 ^ 32 → payload_at at (body_of payload ++ rest) ≡ Ok (payload, record { at = at + 4 + length payload; bytes = rest })
payload_at-body at payload rest small =
    ap (payload_at at) (append_assoc (little_endian 4 (length payload)) payload rest) ∙ string_at-encoded 4 length_limit at payload rest (omega arith) (omega arith)

-- what is after a payload is shorter
pub after_shorter : (at : ℕ) (bytes payload : List ℕ) (new : Unread) → payload_at at bytes ≡ Ok (payload, new) → length new.bytes ≤ length bytes
after_shorter at bytes payload new is =
    let string = string_at_ok 4 length_limit (record { at = at; bytes = bytes }) new payload is in
    let len = number_at_ok 4 string.count (record { at = at; bytes = bytes }) string.suffix string.len in
    let body = bytes_at_ok string.count string.suffix new payload string.bytes in
    omega (arith, ap length len.taken.back, ap length body.back, length-drop 4 bytes, length-drop string.count string.suffix.bytes)

-- how long a payload is, and where it ends
pub payload_facts : (at : ℕ) (bytes payload : List ℕ) (new : Unread) → payload_at at bytes ≡ Ok (payload, new) → (length payload < 2 ^ 32) × (new.at ≡ at + 4 + length payload)
payload_facts at bytes payload new is =
    let string = string_at_ok 4 length_limit (record { at = at; bytes = bytes }) new payload is in
    let len = number_at_ok 4 string.count (record { at = at; bytes = bytes }) string.suffix string.len in
    let body = bytes_at_ok string.count string.suffix new payload string.bytes in
    let long = bytes_at_length string.count string.suffix new payload string.bytes in
    (omega (arith, string.within, long), omega (arith, len.taken.place, body.place, long))

same_after : (at : ℕ) (read : Result (List ℕ × Unread) CutFault) (f g : ℕ → List ℕ → Opening)
    → ((it : List ℕ × Unread) → read ≡ Ok it → f it.1.at it.1.bytes ≡ g it.1.at it.1.bytes) → after_gate at read f ≡ after_gate at read g
same_after at (Err fault) f g same = refl
same_after at (Ok it) f g same = ap (with_first it.0) (same it refl)

-- a greater count of batches changes nothing
same_by : (n m at : ℕ) (bytes : List ℕ) → length bytes ≤ n → length bytes ≤ m → payloads_within n at bytes ≡ payloads_within m at bytes
same_by zero zero at bytes p q = refl
same_by zero (suc m) at [] p q = refl
same_by zero (suc m) at (gate ∷ bytes) p q = absurd (omega arith)
same_by (suc n) zero at [] p q = refl
same_by (suc n) zero at (gate ∷ bytes) p q = absurd (omega arith)
same_by (suc n) (suc m) at [] p q = refl
same_by (suc n) (suc m) at (gate ∷ bytes) p q =
    ap (λ (o : Opening). if gate == 1 then o else Ok []) (same_after at (payload_at (at + 1) bytes) (payloads_within n) (payloads_within m)
    (λ it is. same_by n m it.1.at it.1.bytes (omega (arith, after_shorter (at + 1) bytes it.0 it.1 is)) (omega (arith, after_shorter (at + 1) bytes it.0 it.1 is))))

closed_by : (count at gate : ℕ) (rest : List ℕ) → gate ≢ 1 → payloads_within count at (gate ∷ rest) ≡ Ok []
closed_by zero at gate rest shut = refl
closed_by (suc count) at gate rest shut = grind (arith, nat_tests)

-- after a closed gate nothing counts
pub opened_closed : (at gate : ℕ) (rest : List ℕ) → gate ≢ 1 → payloads_from at (gate ∷ rest) ≡ Ok []
unfolding payloads_from
opened_closed at gate rest shut = closed_by (length (gate ∷ rest)) at gate rest shut

-- a payload that was read after an open gate
pub opened_read : (at : ℕ) (bytes payload : List ℕ) (new : Unread) → payload_at (at + 1) bytes ≡ Ok (payload, new) → payloads_from at (1 ∷ bytes) ≡ with_first payload (payloads_from new.at new.bytes)
unfolding payloads_from
opened_read at bytes payload new is =
    let more = after_shorter (at + 1) bytes payload new is in
    ap (λ (r : Result (List ℕ × Unread) CutFault). after_gate at r (payloads_within (length bytes))) is
    ∙ ap (with_first payload) (same_by (length bytes) (length new.bytes) new.at new.bytes more (omega arith))

-- a batch that isn't whole after an open gate
pub opened_cut : (at : ℕ) (bytes : List ℕ) (fault : CutFault) → payload_at (at + 1) bytes ≡ Err fault → payloads_from at (1 ∷ bytes) ≡ Err (at + 1)
unfolding payloads_from
opened_cut at bytes fault is = ap (λ (r : Result (List ℕ × Unread) CutFault). after_gate at r (payloads_within (length bytes))) is

pub opened_end : (at : ℕ) → payloads_from at [] ≡ Ok []
unfolding payloads_from
opened_end at = refl

-- a whole batch after an open gate
pub opened_batch : (at : ℕ) (payload rest : List ℕ) → length payload < 2 ^ 32 → payloads_from at (1 ∷ body_of payload ++ rest) ≡ with_first payload (payloads_from (at + 5 + length payload) rest)
opened_batch at payload rest small =
    let place : at + 1 + 4 + length payload ≡ at + 5 + length payload = omega arith in
    opened_read at (body_of payload ++ rest) payload (record { at = at + 1 + 4 + length payload; bytes = rest }) (payload_at-body (at + 1) payload rest small)
    ∙ ap (λ (n : ℕ). with_first payload (payloads_from n rest)) place

abbrev pub with_prefix : List (List ℕ) → Opening → Opening
with_prefix payloads (Ok more) = Ok (payloads ++ more)
with_prefix payloads (Err at) = Err at

with_first_prefix : (payload : List ℕ) (payloads : List (List ℕ)) (opening : Opening) → with_first payload (with_prefix payloads opening) ≡ with_prefix (payload ∷ payloads) opening
with_first_prefix payload payloads (Ok more) = refl
with_first_prefix payload payloads (Err at) = refl

with_no_prefix : (opening : Opening) → opening ≡ with_prefix [] opening
with_no_prefix (Ok more) = refl
with_no_prefix (Err at) = refl

-- batches, and then what the rest opens to
pub opened_batches : (at : ℕ) (payloads : List (List ℕ)) (rest : List ℕ) → FitLengths payloads → payloads_from at (batches payloads ++ rest) ≡ with_prefix payloads (payloads_from (at + length (batches payloads)) rest)
opened_batches at [] rest fit =
    let place : at ≡ at + length (batches []) = omega arith in
    ap (λ (n : ℕ). payloads_from n rest) place ∙ with_no_prefix (payloads_from (at + length (batches [])) rest)
opened_batches at (payload ∷ payloads) rest fit =
    let split : batches (payload ∷ payloads) ++ rest ≡ 1 ∷ body_of payload ++ (batches payloads ++ rest) = ap (λ (l : List ℕ). 1 ∷ l) (append_assoc (body_of payload) (batches payloads) rest) in
    let place : at + 5 + length payload + length (batches payloads) ≡ at + length (batches (payload ∷ payloads)) = omega (arith, length-append (1 ∷ body_of payload) (batches payloads), length-body payload) in
    ap (payloads_from at) split ∙ opened_batch at payload (batches payloads ++ rest) fit.0
    ∙ ap (with_first payload) (opened_batches (at + 5 + length payload) payloads rest fit.1)
    ∙ with_first_prefix payload payloads (payloads_from (at + 5 + length payload + length (batches payloads)) rest)
    ∙ ap (λ (n : ℕ). with_prefix (payload ∷ payloads) (payloads_from n rest)) place

mismatch-append : (header rest : List ℕ) → mismatch header (header ++ rest) ≡ None
mismatch-append [] rest = refl
mismatch-append (byte ∷ header) rest =
    ap (λ (t : Bool). if t then one_on (mismatch header (header ++ rest)) else Some 0) (eq-eqb byte byte refl) ∙ ap one_on (mismatch-append header rest)

-- a header, batches, and then what the rest opens to
pub payloads_of_file : (header : List ℕ) (payloads : List (List ℕ)) (rest : List ℕ) → FitLengths payloads
    → payloads_of header (header ++ batches payloads ++ rest) ≡ opening_answer None (with_prefix payloads (payloads_from (length (header ++ batches payloads)) rest))
unfolding payloads_of
payloads_of_file header payloads rest fit =
    let split : header ++ batches payloads ++ rest ≡ header ++ (batches payloads ++ rest) = append_assoc header (batches payloads) rest in
    let begins : mismatch header (header ++ batches payloads ++ rest) ≡ None = ap (mismatch header) split ∙ mismatch-append header (batches payloads ++ rest) in
    let suffix : drop (length header) (header ++ batches payloads ++ rest) ≡ batches payloads ++ rest = ap (drop (length header)) split ∙ drop_at header (batches payloads ++ rest) (length header) refl in
    let place : length header + length (batches payloads) ≡ length (header ++ batches payloads) = omega (arith, length-append header (batches payloads)) in
    let opens = ap (payloads_from (length header)) suffix ∙ opened_batches (length header) payloads rest fit ∙ ap (λ (n : ℕ). with_prefix payloads (payloads_from n rest)) place in
    ap (λ (o : Option ℕ). opening_answer o (payloads_from (length header) (drop (length header) (header ++ batches payloads ++ rest)))) begins ∙ ap (opening_answer None) opens

pub FitLengths-push : (payloads : List (List ℕ)) (payload : List ℕ) → FitLengths payloads → length payload < 2 ^ 32 → FitLengths (payloads ++ payload ∷ [])
FitLengths-push [] payload fit small = (small, tt)
FitLengths-push (first ∷ payloads) payload fit small = (fit.0, FitLengths-push payloads payload fit.1 small)

pub batches-push : (payloads : List (List ℕ)) (payload rest : List ℕ) → batches (payloads ++ payload ∷ []) ++ rest ≡ batches payloads ++ (1 ∷ body_of payload ++ rest)
batches-push [] payload rest = ap (λ (l : List ℕ). 1 ∷ l) (append_assoc (body_of payload) [] rest)
batches-push (first ∷ payloads) payload rest = ap (λ (l : List ℕ). 1 ∷ l) (
    append_assoc (body_of first) (batches (payloads ++ payload ∷ [])) rest
    ∙ ap (λ (l : List ℕ). body_of first ++ l) (batches-push payloads payload rest)
    ∙ sym (append_assoc (body_of first) (batches payloads) (1 ∷ body_of payload ++ rest))
    )
