-- The records of an opening, one by one, and how many bytes they have.
use Rattle.std.proofs.Common.{◌≡◌, ℕ, suc, ◌+◌, ◌*◌, ◌<◌, ◌≤◌, List, [], ◌∷◌, ◌++◌, length, map, take, drop, get_or, Bool, true, false, ◌&&◌, ◌||◌, cond, refl, sym, ap, subst, ◌∙◌, arith}
use Rattle.std.specs.List.{AllByRecursion, filter, flat_map, list_any}
use Rattle.std.proofs.lemmas.List.{append_assoc, length-append, map-append}
use Rattle.std.proofs.Math.Seq.{drop-append_seam}
use Rattle.gl_rules.specs.Identity.{NodeId, member, same}
use Rattle.gl_entry.specs.Entry.{frame_bytes, frame_size, is_entry}
use Rattle.gl_entry.specs.declared.entry.Entry.{Entry}
use Rattle.gl_entry.proofs.EntryLaws.{body_within, length-frame_bytes}
use Rattle.gl_gov_rules.specs.declared.change.RecordedNode.{RecordedNode}
use Rattle.gl_journal.specs.Records.{RecordValue, Append, record_bytes, records_bytes}
use Rattle.gl_journal.specs.RecordView.{record_value, record_values}
use Rattle.gl_journal.specs.declared.record.Record.{Record}
use Rattle.gl_journal.proofs.Openings.{length-body}
use Rattle.gl_store_book.specs.AtOpening.{append_records}
use Rattle.gl_store_book.proofs.Batches.{suffix, before, each_at}

-- ---- records

pub record_values-push : (xs : List Record) (y : Record) → record_values (xs ++ y ∷ []) ≡ record_values xs ++ record_value y ∷ []
record_values-push [] y = refl
record_values-push (x ∷ xs) y = ap (λ (l : List RecordValue). record_value x ∷ l) (record_values-push xs y)

pub records_bytes-append : (xs ys : List RecordValue) → records_bytes (xs ++ ys) ≡ records_bytes xs ++ records_bytes ys
records_bytes-append [] ys = refl
records_bytes-append (x ∷ xs) ys = ap (λ (l : List ℕ). record_bytes x ++ l) (records_bytes-append xs ys) ∙ sym (append_assoc (record_bytes x) (records_bytes xs) (records_bytes ys))

-- ---- one entry more

pub appends_next : (es : List Entry) (i : ℕ) (e : Entry) → i < length es → e ≡ get_or es i e → append_records (take (i + 1) es) ≡ append_records (take i es) ++ Append (frame_bytes e) ∷ []
appends_next es i e low is =
    let next : i + 1 ≡ suc i = omega arith in
    ap (λ (n : ℕ). append_records (take n es)) next ∙ ap append_records (before es i e low ∙ ap (λ (x : Entry). take i es ++ x ∷ []) (sym is))
    ∙ map-append (λ (x : Entry). Append (frame_bytes x)) (take i es) (e ∷ [])

pub append_len : (e : Entry) → length (records_bytes (Append (frame_bytes e) ∷ [])) ≡ 5 + frame_size e
append_len e = omega (arith, length-append (record_bytes (Append (frame_bytes e))) [], length-body (frame_bytes e), length-frame_bytes e)

-- its record has 5 bytes more than its frame, which has at most 1 MiB and its head
pub appends_grow : (es : List Entry) (i : ℕ) (e : Entry) (len : ℕ) → AllByRecursion (λ x. is_entry x ≡ true) es → i < length es → e ≡ get_or es i e
    → len ≡ length (records_bytes (append_records (take i es))) → len ≤ i * 1048589
    → (len + (5 + frame_size e) ≡ length (records_bytes (append_records (take (i + 1) es)))) × (len + (5 + frame_size e) ≤ (i + 1) * 1048589)
appends_grow es i e len fit low is so_far small =
    let fits : is_entry e ≡ true = subst (λ (x : Entry). is_entry x ≡ true) (sym is) (each_at (λ (x : Entry). is_entry x ≡ true) es i e fit low) in
    let grown : length (records_bytes (append_records (take (i + 1) es))) ≡ length (records_bytes (append_records (take i es))) + length (records_bytes (Append (frame_bytes e) ∷ [])) =
    ap (λ (l : List RecordValue). length (records_bytes l)) (appends_next es i e low is)
    ∙ ap length (records_bytes-append (append_records (take i es)) (Append (frame_bytes e) ∷ []))
    ∙ length-append (records_bytes (append_records (take i es))) (records_bytes (Append (frame_bytes e) ∷ [])) in
    (omega (arith, grown, append_len e, so_far), omega (arith, small, body_within e fits))

-- What stands before the bytes that are left, and after that.
pub record IsInPrefix (es : List Entry) (i : ℕ) (e : Entry) (rest : List ℕ) (len : ℕ) : Type 0 where
  pub within : len ≤ length rest
  pub prefix : take len rest ≡ frame_bytes e
  pub suffix : drop len rest ≡ flat_map frame_bytes (drop (i + 1) es)

prefix_of : (xs ys : List ℕ) → take (length xs) (xs ++ ys) ≡ xs
prefix_of [] ys = refl
prefix_of (x ∷ xs) ys = ap (λ (l : List ℕ). x ∷ l) (prefix_of xs ys)

pub in_prefix : (es : List Entry) (i : ℕ) (e : Entry) (rest : List ℕ) (len : ℕ) → i < length es → e ≡ get_or es i e → rest ≡ flat_map frame_bytes (drop i es) → len ≡ frame_size e → IsInPrefix es i e rest len
in_prefix es i e rest len low is left size =
    let others = flat_map frame_bytes (drop (suc i) es) in
    let long : len ≡ length (frame_bytes e) = size ∙ sym (length-frame_bytes e) in
    let whole : rest ≡ frame_bytes e ++ others = left ∙ ap (flat_map frame_bytes) (suffix es i e low) ∙ ap (λ (x : Entry). frame_bytes x ++ others) (sym is) in
    let next : suc i ≡ i + 1 = omega arith in
    record {
      within = omega (arith, long, ap length whole, length-append (frame_bytes e) others);
      prefix = ap (λ (n : ℕ). take n rest) long ∙ ap (take (length (frame_bytes e))) whole ∙ prefix_of (frame_bytes e) others;
      suffix = ap (λ (n : ℕ). drop n rest) long ∙ ap (drop (length (frame_bytes e))) whole ∙ drop-append_seam (frame_bytes e) others ∙ ap (λ (n : ℕ). flat_map frame_bytes (drop n es)) next;
    }

-- and its record after those before
pub put_next : (xs : List Record) (one : Record) (new : List Record) (first : List RecordValue) (es : List Entry) (i : ℕ) (e : Entry) (frame : List ℕ)
    → i < length es → e ≡ get_or es i e → new ≡ xs ++ one ∷ [] → record_value one ≡ Append frame → frame ≡ frame_bytes e
    → record_values xs ≡ first ++ append_records (take i es) → record_values new ≡ first ++ append_records (take (i + 1) es)
put_next xs one new first es i e frame low is grown value framed so_far =
    ap record_values grown ∙ record_values-push xs one
    ∙ ap (λ (r : RecordValue). record_values xs ++ r ∷ []) (value ∙ ap (λ (f : List ℕ). Append f) framed)
    ∙ ap (λ (l : List RecordValue). l ++ Append (frame_bytes e) ∷ []) so_far
    ∙ append_assoc first (append_records (take i es)) (Append (frame_bytes e) ∷ [])
    ∙ ap (λ (l : List RecordValue). first ++ l) (sym (appends_next es i e low is))

-- ---- trusted nodes

and_true : (a : Bool) → (a && true) ≡ a
and_true true = refl
and_true false = refl

and_false : (a : Bool) → (a && false) ≡ false
and_false true = refl
and_false false = refl

pub member-chosen : (x : NodeId) (p : RecordedNode → Bool) (ns : List RecordedNode)
    → list_any (λ (n : RecordedNode). same x n.id && p n) ns ≡ member x (map (λ (n : RecordedNode). n.id) (filter p ns))
member-chosen x p [] = refl
member-chosen x p (n ∷ ns) = go (p n) (member-chosen x p ns)
  where
    go : (b : Bool) → list_any (λ (m : RecordedNode). same x m.id && p m) ns ≡ member x (map (λ (m : RecordedNode). m.id) (filter p ns))
        → ((same x n.id && b) || list_any (λ (m : RecordedNode). same x m.id && p m) ns)
        ≡ member x (map (λ (m : RecordedNode). m.id) (cond b (n ∷ filter p ns) (filter p ns)))
    go true again = ap (λ (b : Bool). b || list_any (λ (m : RecordedNode). same x m.id && p m) ns) (and_true (same x n.id)) ∙ ap (λ (b : Bool). same x n.id || b) again
    go false again = ap (λ (b : Bool). b || list_any (λ (m : RecordedNode). same x m.id && p m) ns) (and_false (same x n.id)) ∙ again
