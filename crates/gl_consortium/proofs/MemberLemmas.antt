-- Numbers that ascend from 1 to 255: they are bytes, distinct and not 0, and at most 255.
use Rattle.std.proofs.Common.{◌≡◌, ◌≢◌, ℕ, suc, ◌+◌, ◌<◌, ◌≤◌, ◌&&◌, true, List, [], ◌∷◌, length, drop, drop-cons, get_or, nat_le, nat_lt, All, AllPairs, ap, ◌∙◌, arith}
use Rattle.std.proofs.lemmas.Bool.{and_parts}
use Rattle.std.proofs.lemmas.Bool.Decides.{nat_tests}
use Rattle.std.proofs.lemmas.List.Elements.{All-nil, All-cons, All-weaker}
use Rattle.std.proofs.lemmas.List.Kept.{AllPairs-cons}
use Rattle.gl_consortium.specs.Members.{ascend_above, can_deal}

-- the next of them decides, and those after it
pub ascend-next : (least : ℕ) (numbers : List ℕ) (i : ℕ) → i < length numbers →
    ascend_above least (drop i numbers) ≡ (nat_lt least (get_or numbers i 0) && nat_le (get_or numbers i 0) 255 && ascend_above (get_or numbers i 0) (drop (i + 1) numbers))
ascend-next least numbers i within =
    ap (ascend_above least) (drop-cons numbers i 0 within)
    ∙ ap (λ (n : ℕ). nat_lt least (get_or numbers i 0) && nat_le (get_or numbers i 0) 255 && ascend_above (get_or numbers i 0) (drop n numbers)) (let e : suc i ≡ i + 1 = omega arith in e)

-- a number and those after it
record Ascends (least number : ℕ) (numbers : List ℕ) : Type 0 where
  above : least < number
  most : number ≤ 255
  rest : ascend_above number numbers ≡ true

ascends : (least number : ℕ) (numbers : List ℕ) → ascend_above least (number ∷ numbers) ≡ true → Ascends least number numbers
ascends least number numbers h =
    let outer = and_parts (nat_lt least number && nat_le number 255) (ascend_above number numbers) h in
    let inner = and_parts (nat_lt least number) (nat_le number 255) outer.0 in
    record { above = grind (arith, nat_tests, inner.0); most = grind (arith, nat_tests, inner.1); rest = outer.1 }

-- a number above a least one, of one byte
record IsAbove (least number : ℕ) : Type 0 where
  pub above : least < number
  pub byte : number < 256

all_above : (least : ℕ) (numbers : List ℕ) → ascend_above least numbers ≡ true → All (IsAbove least) numbers
all_above least [] h = All-nil (IsAbove least)
all_above least (number ∷ numbers) h =
    let a = ascends least number numbers h in
    All-cons (IsAbove least) number numbers (record { above = a.above; byte = omega (arith, a.most) })
    (All-weaker (IsAbove number) (IsAbove least) (λ n is. record { above = omega (arith, a.above, is.above); byte = is.byte }) numbers (all_above number numbers a.rest))

apart : (least : ℕ) (numbers : List ℕ) → ascend_above least numbers ≡ true → AllPairs ◌≢◌ numbers
apart least [] h = λ i j d before within. absurd (omega arith)
apart least (number ∷ numbers) h =
    let a = ascends least number numbers h in
    AllPairs-cons ◌≢◌ number numbers (All-weaker (IsAbove number) (λ n. number ≢ n) (λ n is. omega (arith, is.above)) numbers (all_above number numbers a.rest))
    (apart number numbers a.rest)

-- there are at most as many as numbers above the least one
few : (least : ℕ) (numbers : List ℕ) → least ≤ 255 → ascend_above least numbers ≡ true → least + length numbers ≤ 255
few least [] low h = omega arith
few least (number ∷ numbers) low h =
    let a = ascends least number numbers h in
    let rest = few number numbers a.most a.rest in
    omega (arith, a.above, rest)

-- what can be dealt
pub record CanDeal (threshold : ℕ) (numbers : List ℕ) : Type 0 where
  pub some : 1 ≤ threshold
  pub enough : threshold ≤ length numbers
  pub ascend : ascend_above 0 numbers ≡ true
  pub byte : threshold < 256
  pub count : length numbers < 256

pub deals : (threshold : ℕ) (numbers : List ℕ) → can_deal threshold numbers ≡ true → CanDeal threshold numbers
deals threshold numbers h =
    let outer = and_parts (nat_le 1 threshold && nat_le threshold (length numbers)) (ascend_above 0 numbers) h in
    let inner = and_parts (nat_le 1 threshold) (nat_le threshold (length numbers)) outer.0 in
    let many = few 0 numbers (omega arith) outer.1 in
    let least : 1 ≤ threshold = grind (arith, nat_tests, inner.0) in
    let enough : threshold ≤ length numbers = grind (arith, nat_tests, inner.1) in
    record { some = least; enough = enough; ascend = outer.1; byte = omega (arith, many, enough); count = omega (arith, many) }

-- The number of a member: not 0, of one byte.
pub record IsMember (number : ℕ) : Type 0 where
  pub least : 1 ≤ number
  pub byte : number < 256

pub members_are : (threshold : ℕ) (numbers : List ℕ) → can_deal threshold numbers ≡ true → All IsMember numbers
members_are threshold numbers h =
    All-weaker (IsAbove 0) IsMember (λ n is. record { least = omega (arith, is.above); byte = is.byte }) numbers (all_above 0 numbers (deals threshold numbers h).ascend)

pub bytes_are : (threshold : ℕ) (numbers : List ℕ) → can_deal threshold numbers ≡ true → All (λ n. n < 256) numbers
bytes_are threshold numbers h =
    All-weaker IsMember (λ n. n < 256) (λ n is. is.byte) numbers (members_are threshold numbers h)

pub not_zero : (threshold : ℕ) (numbers : List ℕ) → can_deal threshold numbers ≡ true → All (λ n. n ≢ 0) numbers
not_zero threshold numbers h =
    All-weaker IsMember (λ n. n ≢ 0) (λ n is. omega (arith, is.least)) numbers (members_are threshold numbers h)

pub distinct : (threshold : ℕ) (numbers : List ℕ) → can_deal threshold numbers ≡ true → AllPairs ◌≢◌ numbers
distinct threshold numbers h = apart 0 numbers (deals threshold numbers h).ascend
