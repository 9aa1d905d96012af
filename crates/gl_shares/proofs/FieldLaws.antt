-- The laws of the field.
use Rattle.std.proofs.Common.{◌≡◌, ◌≢◌, ◌||◌, ℕ, zero, suc, ◌+◌, ◌*◌, ◌/◌, ◌%◌, ◌<◌, ◌≤◌, ◌^◌, bit_xor, nat_eq, nat_lt, Bool, true, refl, sym, ◌∙◌, ap, ap₂, add-one, inl, inr, arith}
use Rattle.std.proofs.lemmas.Bool.{eqb-true, ltb-true, eq-eqb, ne_eqb, cases_eq, or_cases}
use Rattle.std.proofs.lemmas.Nat.{xor_mod, xor_comm}
use lib.Bits.{xor_assoc, xor_self, xor_shifted}
use Rattle.gl_shares.specs.Field.{product, remainder, field_product, inverse_below, inverse_of}
use Rattle.gl_shares.proofs.Decide.{all_below, all_below_at}
use Rattle.gl_shares.proofs.Xor.{moved-xor}
use Rattle.gl_shares.proofs.Bilinear.{IsAdditive, same_below, field_product-xor_left, field_product-xor_right}

-- ---- what is tried on the terms

commutes : ℕ → ℕ → Bool
commutes i j = nat_eq (field_product (2 ^ i) (2 ^ j)) (field_product (2 ^ j) (2 ^ i))

terms_commute : all_below (λ i. all_below (commutes i) 8) 8 ≡ true
unfolding all_below commutes field_product product remainder
terms_commute = refl

associates : ℕ → ℕ → ℕ → Bool
associates i j k = nat_eq (field_product (field_product (2 ^ i) (2 ^ j)) (2 ^ k)) (field_product (2 ^ i) (field_product (2 ^ j) (2 ^ k)))

terms_associate : all_below (λ i. all_below (λ j. all_below (associates i j) 8) 8) 8 ≡ true
unfolding all_below associates field_product product remainder
terms_associate = refl

keeps : ℕ → Bool
keeps i = nat_eq (field_product (2 ^ i) 1) (2 ^ i)

terms_keep : all_below keeps 8 ≡ true
unfolding all_below keeps field_product product remainder
terms_keep = refl

-- ---- the laws

additive_left : (c : ℕ) → IsAdditive (λ a. field_product a c)
additive_left c = record { at = λ x y. field_product-xor_left x y c }

additive_right : (a : ℕ) → IsAdditive (λ c. field_product a c)
additive_right a = record { at = λ x y. field_product-xor_right a x y }

pair_commutes : (i j : ℕ) → i < 8 → j < 8 → field_product (2 ^ i) (2 ^ j) ≡ field_product (2 ^ j) (2 ^ i)
unfolding commutes
pair_commutes i j hi hj = eqb-true _ _ (all_below_at (commutes i) 8 j (all_below_at (λ k. all_below (commutes k) 8) 8 i terms_commute hi) hj)

pub product-comm : (a b : ℕ) → a < 2 ^ 8 → b < 2 ^ 8 → field_product a b ≡ field_product b a
product-comm a b ha hb =
    same_below (λ x. field_product x b) (λ x. field_product b x) (additive_left b) (additive_right b) 8 (λ i hi.
    same_below (λ y. field_product (2 ^ i) y) (λ y. field_product y (2 ^ i)) (additive_right (2 ^ i)) (additive_left (2 ^ i)) 8 (λ j hj. pair_commutes i j hi hj) b hb) a ha

after : (f g : ℕ → ℕ) → IsAdditive f → IsAdditive g → IsAdditive (λ x. g (f x))
after f g hf hg = record { at = λ x y. ap g (hf.at x y) ∙ hg.at (f x) (f y) }

triple_associates : (i j k : ℕ) → i < 8 → j < 8 → k < 8 → field_product (field_product (2 ^ i) (2 ^ j)) (2 ^ k) ≡ field_product (2 ^ i) (field_product (2 ^ j) (2 ^ k))
unfolding associates
triple_associates i j k hi hj hk =
    let first = all_below_at (λ x. all_below (λ y. all_below (associates x y) 8) 8) 8 i terms_associate hi in
    let second = all_below_at (λ y. all_below (associates i y) 8) 8 j first hj in
    eqb-true _ _ (all_below_at (associates i j) 8 k second hk)

pub product-assoc : (a b c : ℕ) → a < 2 ^ 8 → b < 2 ^ 8 → c < 2 ^ 8 → field_product (field_product a b) c ≡ field_product a (field_product b c)
product-assoc a b c ha hb hc =
    same_below (λ x. field_product (field_product x b) c) (λ x. field_product x (field_product b c))
    (after (λ x. field_product x b) (λ x. field_product x c) (additive_left b) (additive_left c)) (additive_left (field_product b c)) 8 (λ i hi.
    same_below (λ y. field_product (field_product (2 ^ i) y) c) (λ y. field_product (2 ^ i) (field_product y c))
    (after (λ y. field_product (2 ^ i) y) (λ x. field_product x c) (additive_right (2 ^ i)) (additive_left c))
    (after (λ y. field_product y c) (λ x. field_product (2 ^ i) x) (additive_left c) (additive_right (2 ^ i))) 8 (λ j hj.
    same_below (λ z. field_product (field_product (2 ^ i) (2 ^ j)) z) (λ z. field_product (2 ^ i) (field_product (2 ^ j) z))
    (additive_right (field_product (2 ^ i) (2 ^ j)))
    (after (λ z. field_product (2 ^ j) z) (λ x. field_product (2 ^ i) x) (additive_right (2 ^ j)) (additive_right (2 ^ i))) 8 (λ k hk. triple_associates i j k hi hj hk) c hc) b hb) a ha

identity : IsAdditive (λ x. x)
identity = record { at = λ x y. refl }

pub product-one_right : (a : ℕ) → a < 2 ^ 8 → field_product a 1 ≡ a
unfolding keeps
product-one_right a ha = same_below (λ x. field_product x 1) (λ x. x) (additive_left 1) identity 8 (λ i hi. eqb-true _ _ (all_below_at keeps 8 i terms_keep hi)) a ha

-- ---- within a byte

small : ℕ → ℕ → Bool
small i j = nat_eq (field_product (2 ^ i) (2 ^ j)) (field_product (2 ^ i) (2 ^ j) % 2 ^ 8)

terms_small : all_below (λ i. all_below (small i) 8) 8 ≡ true
unfolding all_below small field_product product remainder
terms_small = refl

cut : (f : ℕ → ℕ) → IsAdditive f → IsAdditive (λ x. f x % 2 ^ 8)
cut f h = record { at = λ x y. ap (λ (z : ℕ). z % 2 ^ 8) (h.at x y) ∙ xor_mod (f x) (f y) 8 }

pair_small : (i j : ℕ) → i < 8 → j < 8 → field_product (2 ^ i) (2 ^ j) ≡ field_product (2 ^ i) (2 ^ j) % 2 ^ 8
unfolding small
pair_small i j hi hj = eqb-true _ _ (all_below_at (small i) 8 j (all_below_at (λ k. all_below (small k) 8) 8 i terms_small hi) hj)

pub product-lt : (a b : ℕ) → a < 2 ^ 8 → b < 2 ^ 8 → field_product a b < 2 ^ 8
product-lt a b ha hb =
    let same : field_product a b ≡ field_product a b % 2 ^ 8 =
    same_below (λ x. field_product x b) (λ x. field_product x b % 2 ^ 8) (additive_left b) (cut (λ x. field_product x b) (additive_left b)) 8 (λ i hi.
    same_below (λ y. field_product (2 ^ i) y) (λ y. field_product (2 ^ i) y % 2 ^ 8) (additive_right (2 ^ i)) (cut (λ y. field_product (2 ^ i) y) (additive_right (2 ^ i))) 8 (λ j hj. pair_small i j hi hj) b hb) a ha in
    omega arith

-- ---- 0 and 1

pub product-zero_right : (a : ℕ) → field_product a 0 ≡ 0
product-zero_right a = field_product-xor_right a 0 0 ∙ xor_self (field_product a 0)

pub product-zero_left : (a : ℕ) → field_product 0 a ≡ 0
product-zero_left a = field_product-xor_left 0 0 a ∙ xor_self (field_product 0 a)

pub product-one_left : (a : ℕ) → a < 2 ^ 8 → field_product 1 a ≡ a
product-one_left a ha = product-comm 1 a (omega arith) ha ∙ product-one_right a ha

-- ---- the product by x

doubles : ℕ → Bool
doubles i = nat_eq (field_product 2 (2 ^ i)) (2 ^ i * 2 ^ 1)

terms_double : all_below doubles 7 ≡ true
unfolding all_below doubles field_product product remainder
terms_double = refl

pub product-double : (a : ℕ) → a < 2 ^ 7 → field_product 2 a ≡ a * 2
unfolding doubles
product-double a ha =
    same_below (λ x. field_product 2 x) (λ x. x * 2 ^ 1) (additive_right 2) (record { at = λ x y. moved-xor x y 1 }) 7 (λ i hi. eqb-true _ _ (all_below_at doubles 7 i terms_double hi)) a ha

reduces : ℕ → Bool
reduces a = nat_lt a 128 || nat_eq (bit_xor (a * 2 % 256) 0x1b) (field_product 2 a)

all_reduce : all_below reduces 256 ≡ true
unfolding all_below reduces field_product product remainder
all_reduce = refl

pub product-reduced : (a : ℕ) → 128 ≤ a → a < 2 ^ 8 → bit_xor (a * 2 % 256) 0x1b ≡ field_product 2 a
unfolding reduces
product-reduced a low high =
    let test = all_below_at reduces 256 a all_reduce high in
    elim (or_cases (nat_lt a 128) (nat_eq (bit_xor (a * 2 % 256) 0x1b) (field_product 2 a)) test) [
      | inl below ↦ absurd (omega (arith, ltb-true a 128 below))
      | inr same ↦ eqb-true _ _ same
    ]

product-digit : (a d : ℕ) → a < 2 ^ 8 → d < 2 → field_product a d ≡ d * a
product-digit a zero ha hd = product-zero_right a ∙ omega arith
product-digit a (suc d) ha hd =
    let none : d ≡ 0 = omega arith in
    rw none (product-one_right a ha ∙ omega arith)

-- the product by the lowest term, and that by the terms above it
pub product-halved : (a b : ℕ) → a < 2 ^ 8 → b < 2 ^ 8 → field_product a b ≡ bit_xor (b % 2 * a) (field_product (field_product 2 a) (b / 2))
product-halved a b ha hb =
    let whole : b / 2 * 2 ^ 1 + b % 2 ≡ b = omega arith in
    let parts : b ≡ bit_xor (b / 2 * 2 ^ 1) (b % 2) = sym whole ∙ sym (xor_shifted (b / 2) 1 (b % 2) (omega arith)) in
    let twice : b / 2 * 2 ^ 1 ≡ field_product 2 (b / 2) = sym (product-double (b / 2) (omega arith)) in
    let high : field_product a (b / 2 * 2 ^ 1) ≡ field_product (field_product 2 a) (b / 2) =
    ap (field_product a) twice ∙ sym (product-assoc a 2 (b / 2) ha (omega arith) (omega arith))
    ∙ ap (λ (x : ℕ). field_product x (b / 2)) (product-comm a 2 ha (omega arith)) in
    ap (field_product a) parts ∙ field_product-xor_right a (b / 2 * 2 ^ 1) (b % 2)
    ∙ ap₂ bit_xor high (product-digit a (b % 2) ha (omega arith))
    ∙ xor_comm (field_product (field_product 2 a) (b / 2)) (b % 2 * a)

-- one round of the product: what is summed, and the product that is left to add
pub product_round : (sum a b next z : ℕ) → a < 2 ^ 8 → b < 2 ^ 8 → next ≡ bit_xor sum (b % 2 * a) → bit_xor sum (field_product a b) ≡ z
    → bit_xor next (field_product (field_product 2 a) (b / 2)) ≡ z
product_round sum a b next z ha hb step now =
    let rest : ℕ = field_product (field_product 2 a) (b / 2) in
    ap (λ (x : ℕ). bit_xor x rest) step ∙ xor_assoc sum (b % 2 * a) rest ∙ ap (bit_xor sum) (sym (product-halved a b ha hb)) ∙ now

-- ---- the inverse

-- squared and multiplied by a, n times over
unfoldable pub raised : ℕ → ℕ → ℕ
raised a zero = 1
raised a (suc n) = field_product (field_product (raised a n) (raised a n)) a

pub raised-more : (a n : ℕ) → raised a (n + 1) ≡ field_product (field_product (raised a n) (raised a n)) a
unfolding raised
raised-more a n = ap (raised a) (add-one n)

inverts : ℕ → Bool
inverts a = nat_eq a 0 || nat_eq (field_product a (field_product (raised a 7) (raised a 7))) 1

all_invert : all_below inverts 256 ≡ true
unfolding all_below inverts raised field_product product remainder
all_invert = refl

pub product-power : (a : ℕ) → a ≢ 0 → a < 2 ^ 8 → field_product a (field_product (raised a 7) (raised a 7)) ≡ 1
unfolding inverts
product-power a some high =
    elim (or_cases (nat_eq a 0) (nat_eq (field_product a (field_product (raised a 7) (raised a 7))) 1) (all_below_at inverts 256 a all_invert high)) [
      | inl none ↦ absurd (some (eqb-true a 0 none))
      | inr one ↦ eqb-true _ _ one
    ]

raised-lt : (a n : ℕ) → a < 2 ^ 8 → raised a n < 2 ^ 8
unfolding raised
raised-lt a zero ha = omega arith
raised-lt a (suc n) ha = product-lt _ a (product-lt _ _ (raised-lt a n ha) (raised-lt a n ha)) ha

-- there is one inverse at most
inverses_same : (a m n : ℕ) → a < 2 ^ 8 → m < 2 ^ 8 → n < 2 ^ 8 → field_product a m ≡ 1 → field_product a n ≡ 1 → m ≡ n
inverses_same a m n ha hm hn p q =
    sym (product-one_right m hm) ∙ ap (field_product m) (sym q) ∙ sym (product-assoc m a n hm ha hn)
    ∙ ap (λ (x : ℕ). field_product x n) (product-comm m a hm ha ∙ p) ∙ product-one_left n hn

inverse_below-is : (a m n : ℕ) → a < 2 ^ 8 → m < n → n ≤ 256 → field_product a m ≡ 1 → inverse_below a n ≡ m
unfolding inverse_below
inverse_below-is a m zero ha lt le e = absurd (omega arith)
inverse_below-is a m (suc n) ha lt le e =
    elim (cases_eq (field_product a n) 1) [
      | inl one ↦ rw (eq-eqb _ _ one) (inverses_same a n m ha (omega arith) (omega arith) one e)
      | inr other ↦ (
          let less : m < n = elim (cases_eq m n) [
            | inl same ↦ absurd (other (ap (field_product a) (sym same) ∙ e))
            | inr apart ↦ omega arith
          ] in
          rw (ne_eqb _ _ other) (inverse_below-is a m n ha less (omega arith) e))
    ]

inverse_of-zero : inverse_of 0 ≡ 0
unfolding inverse_of inverse_below field_product product remainder
inverse_of-zero = refl

pub inverse_of-is : (a m : ℕ) → a < 2 ^ 8 → m < 2 ^ 8 → field_product a m ≡ 1 → inverse_of a ≡ m
unfolding inverse_of
inverse_of-is a m ha hm e = inverse_below-is a m 256 ha hm (omega arith) e

raised_none : field_product (raised 0 7) (raised 0 7) ≡ 0
unfolding raised field_product product remainder
raised_none = refl

-- the inverse is the power of 254
pub inverse_of-power : (a : ℕ) → a < 2 ^ 8 → field_product (raised a 7) (raised a 7) ≡ inverse_of a
inverse_of-power a ha =
    elim (cases_eq a 0) [
      | inl none ↦ rw none (raised_none ∙ sym inverse_of-zero)
      | inr some ↦ sym (inverse_of-is a _ ha (product-lt _ _ (raised-lt a 7 ha) (raised-lt a 7 ha)) (product-power a some ha))
    ]

pub product-inverse : (a : ℕ) → a < 2 ^ 8 → a ≢ 0 → field_product a (inverse_of a) ≡ 1
product-inverse a ha some = ap (field_product a) (sym (inverse_of-power a ha)) ∙ product-power a some ha

pub inverse_of-lt : (a : ℕ) → a < 2 ^ 8 → inverse_of a < 2 ^ 8
inverse_of-lt a ha = rw (← (inverse_of-power a ha)) (product-lt _ _ (raised-lt a 7 ha) (raised-lt a 7 ha))
