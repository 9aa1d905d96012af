-- The text of an identifier reads back, and what reads is the text of an identifier.
use Rattle.std.proofs.Common.{IfOk, ◌≡◌, ℕ, ◌+◌, ◌^◌, ◌<◌, ◌≤◌, ◌==◌, nat_lt, true, false, cond, ◌&&◌, List, ◌∷◌, ◌++◌, length, take, drop, get_or, Option, Some, None, Result, Ok, Err, suc, length-append, refl, sym, ap, ◌∙◌, subst, arith}
use Rattle.std.specs.Fmt.{decimal}
use Rattle.std.specs.List.{position, position_or_len}
use Rattle.std.specs.Str.Parse.{digits_value}
use Rattle.std.proofs.lemmas.Bool.Decides.{nat_tests}
use Rattle.std.proofs.lemmas.Fmt.{decimal-digits_value, digits_decimal, digits_value-decimal, decimal_nonempty, first_decimal}
use Rattle.std.proofs.lemmas.List.Sums.{position_or_len_is}
use Rattle.std.proofs.lemmas.List.Quantifiers.{position-Some}
use Rattle.std.proofs.Math.ListN.{get_or-append}
use Rattle.std.proofs.Math.Seq.{get_or-append_seam, take-append_seam, drop-append-add, split_at}
use Rattle.gl_base.specs.declared.tx_id.TxIdFault.TheVariants.{Empty, LeadingZero, TooBig, Zero}
use Rattle.gl_base.proofs.Steps.{cond_ok, bind_ok}
use Rattle.gl_base.proofs.Numerals.{DigitsByIndex, by_index, all_digits}
use Rattle.gl_base.specs.declared.tx_id.TxId.{TxId}
use Rattle.gl_base.specs.declared.tx_id.TxIdFault.{TxIdFault}
use Rattle.gl_base.specs.TxId.{last_view, last_seqno, IsTxId, text_of, dot, is_dot, is_no_digit, zero_digit, in_range, digits_read, from_digits, part_read, sides_read, from_dot, parsed}

-- ---- a part

no_digit_none : (ds : List ℕ) → DigitsByIndex ds → position is_no_digit ds ≡ None
no_digit_none ds all =
    let whole : position_or_len is_no_digit ds ≡ length ds =
    position_or_len_is is_no_digit ds (length ds) 0 (omega arith) (λ k below. let d = all k below in grind (arith, nat_tests)) (λ below. absurd (omega arith)) in
    grind (arith, nat_tests)

in_range_in : (limit n : ℕ) → 0 < n → n ≤ limit → in_range limit n ≡ Ok n
in_range_in limit n some within =
    let not_over : nat_lt limit n ≡ false = grind (arith, nat_tests) in
    let not_zero : (n == 0) ≡ false = grind (arith, nat_tests) in
    rw (not_over, not_zero) refl

part_read_gives : (start limit n : ℕ) (ds : List ℕ) → (length ds == 0) ≡ false → position is_no_digit ds ≡ None
    → (get_or ds 0 0 == zero_digit) ≡ false → digits_value 10 ds ≡ n → in_range limit n ≡ Ok n → part_read start limit ds ≡ Ok n
unfolding part_read digits_read
part_read_gives start limit n ds some digits lead value within = rw (some, digits, lead, value) within

part_read-decimal : (start limit n : ℕ) → 0 < n → n ≤ limit → limit < 2 ^ 64 → part_read start limit (decimal n) ≡ Ok n
part_read-decimal start limit n some within fits =
    let small : n < 2 ^ 64 = omega arith in
    let nonempty = decimal_nonempty n small in
    let first = first_decimal n some small in
    part_read_gives start limit n (decimal n) (grind (arith, nat_tests)) (no_digit_none (decimal n) (digits_decimal by_index n small))
    (grind (arith, nat_tests)) (digits_value-decimal by_index n small) (in_range_in limit n some within)

from_digits_ok : (start limit : ℕ) (part : List ℕ) (o : Option ℕ) (n : ℕ) → from_digits start limit part o ≡ Ok n → (o ≡ None) × (digits_read start limit part ≡ Ok n)
from_digits_ok start limit part (Some i) n h = cc
from_digits_ok start limit part None n h = (refl, h)

in_range_ok : (limit value n : ℕ) → in_range limit value ≡ Ok n → (n ≡ value) × (0 < n) × (n ≤ limit)
in_range_ok limit value n h =
    let a = cond_ok (nat_lt limit value) TooBig (cond (value == 0) (Err Zero) (Ok value)) n h in
    let b = cond_ok (value == 0) Zero (Ok value) n a.1 in
    let same : value ≡ n = cc in
    (sym same, grind (arith, nat_tests), grind (arith, nat_tests))

pub part_read_ok : (start limit n : ℕ) (part : List ℕ) → limit < 2 ^ 64 → part_read start limit part ≡ Ok n → (part ≡ decimal n) × (0 < n) × (n ≤ limit)
unfolding part_read digits_read
part_read_ok start limit n part fits h =
    let a = cond_ok (length part == 0) Empty (from_digits start limit part (position is_no_digit part)) n h in
    let b = from_digits_ok start limit part (position is_no_digit part) n a.1 in
    let c = cond_ok ((get_or part 0 0 == zero_digit) && nat_lt 1 (length part)) (LeadingZero start) (in_range limit (digits_value 10 part)) n b.1 in
    let d = in_range_ok limit (digits_value 10 part) n c.1 in
    let nonempty : 0 < length part = grind (arith, nat_tests, a.0) in
    let lead : get_or part 0 0 ≡ 48 → length part ≡ 1 = λ e. grind (arith, nat_tests, c.0) in
    let text : decimal (digits_value 10 part) ≡ part =
    decimal-digits_value by_index part (by_index.from part (all_digits part b.0)) nonempty lead (omega (arith, d.0, d.2)) in
    (sym text ∙ ap decimal (sym d.0), d.1, d.2)

-- ---- both parts

dot_place : (v : ℕ) (rest : List ℕ) → v < 2 ^ 64 → position is_dot (decimal v ++ dot ∷ rest) ≡ Some (length (decimal v))
dot_place v rest fits =
    let text : List ℕ = decimal v ++ dot ∷ rest in
    let long : length text ≡ length (decimal v) + (1 + length rest) = length-append (decimal v) (dot ∷ rest) ∙ grind arith in
    let before : (k : ℕ) → k < length (decimal v) → is_dot (get_or text k 0) ≡ false = λ k below.
    let digit = digits_decimal by_index v fits k below in
    let same = get_or-append (decimal v) (dot ∷ rest) 0 k below in grind (arith, nat_tests) in
    let there : is_dot (get_or text (length (decimal v)) 0) ≡ true =
    rw (get_or-append_seam (decimal v) dot rest 0) refl in
    let place : position_or_len is_dot text ≡ length (decimal v) =
    position_or_len_is is_dot text (length (decimal v)) 0 (omega arith) before (λ _. there) in
    let inside : nat_lt (length (decimal v)) (length text) ≡ true = grind (arith, nat_tests) in
    rw (place, inside) refl

from_dot_ok : (text : List ℕ) (o : Option ℕ) (id : TxId) → from_dot text o ≡ Ok id → (i : ℕ) × (o ≡ Some i) × (sides_read text i ≡ Ok id)
from_dot_ok text None id h = cc
from_dot_ok text (Some i) id h = (i, refl, h)

parsed_gives : (text left right : List ℕ) (i view seqno : ℕ) → (length text == 0) ≡ false → position is_dot text ≡ Some i
    → take i text ≡ left → drop (i + 1) text ≡ right → part_read 0 last_view left ≡ Ok view → part_read (i + 1) last_seqno right ≡ Ok seqno
    → parsed text ≡ Ok (record { view = view; seqno = seqno })
unfolding parsed sides_read
parsed_gives text left right i view seqno some place prefix back v s = rw (some, place, prefix, back, v, s) refl

pub parsed-text_of : (id : TxId) → IsTxId id → parsed (text_of id) ≡ Ok id
parsed-text_of id is =
    let view : List ℕ = decimal id.view in
    let seqno : List ℕ = decimal id.seqno in
    let small : id.view < 2 ^ 64 = omega arith in
    let long = length-append view (dot ∷ seqno) in
    parsed_gives (text_of id) view seqno (length view) id.view id.seqno (grind (arith, nat_tests)) (dot_place id.view seqno small)
    (take-append_seam view (dot ∷ seqno)) (drop-append-add view (dot ∷ seqno) 1)
    (part_read-decimal 0 last_view id.view is.view.0 is.view.1 (omega arith))
    (part_read-decimal (length view + 1) last_seqno id.seqno is.seqno.0 is.seqno.1 (omega arith))

joined : (text left right : List ℕ) (i byte : ℕ) → text ≡ take i text ++ byte ∷ drop (suc i) text
    → take i text ≡ left → drop (i + 1) text ≡ right → byte ≡ dot → text ≡ left ++ dot ∷ right
joined text left right i byte cut e f g =
    let next : suc i ≡ i + 1 = omega arith in
    let after : drop (suc i) text ≡ right = ap (λ (n : ℕ). drop n text) next ∙ f in
    cut ∙ rw (e, after, g) refl

pub parsed_ok : (text : List ℕ) (id : TxId) → parsed text ≡ Ok id → IsTxId id × (text ≡ text_of id)
unfolding parsed sides_read
parsed_ok text id h =
    let a = cond_ok (length text == 0) Empty (from_dot text (position is_dot text)) id h in
    let b = from_dot_ok text (position is_dot text) id a.1 in
    let v = bind_ok (part_read 0 last_view (take b.0 text)) _ id b.2 in
    let s = bind_ok (part_read (b.0 + 1) last_seqno (drop (b.0 + 1) text)) _ id v.2 in
    let left = part_read_ok 0 last_view v.0 (take b.0 text) (omega arith) v.1 in
    let right = part_read_ok (b.0 + 1) last_seqno s.0 (drop (b.0 + 1) text) (omega arith) s.1 in
    let there = position-Some is_dot text b.0 0 b.1 in
    let byte : get_or text b.0 0 ≡ dot = grind (arith, nat_tests, there.1) in
    let cut : text ≡ take b.0 text ++ get_or text b.0 0 ∷ drop (suc b.0) text = split_at text b.0 0 there.0 in
    let read : TxId = record { view = v.0; seqno = s.0 } in
    let same : read ≡ id = cc in
    let within : IsTxId read = record { view = (left.1, left.2); seqno = (right.1, right.2) } in
    let encoded : text ≡ text_of read = joined text (decimal v.0) (decimal s.0) b.0 (get_or text b.0 0) cut left.0 right.0 byte in
    subst (λ (t : TxId). IsTxId t × (text ≡ text_of t)) same (within, encoded)

pub read_encoded : (text : List ℕ) (r : Result TxId TxIdFault) → r ≡ parsed text → IfOk r (λ id. IsTxId id × (text ≡ text_of id))
read_encoded text (Ok id) e = parsed_ok text id (sym e)
read_encoded text (Err fault) e = tt

pub read_only : (text : List ℕ) (r : Result TxId TxIdFault) → r ≡ parsed text → (id : TxId) → IsTxId id → text ≡ text_of id → r ≡ Ok id
read_only text r e id is t = e ∙ ap parsed t ∙ parsed-text_of id is
