-- Shares join to the same in every order.
use Rattle.std.proofs.Common.{◌≡◌, ℕ, ◌^◌, ◌<◌, List, [], ◌∷◌, ◌++◌, fold, count_by, Bool, true, false, ◌&&◌, ◌||◌, cond, nat_eq, nat_lt, refl, sym, ◌∙◌, ap, subst, append_assoc, arith}
use Rattle.std.specs.Prelude.{bit_xor, slice_index_or}
use Rattle.std.specs.List.{list_any, AllByRecursion}
use Rattle.std.proofs.lemmas.Bool.{and_parts, eqb-true}
use Rattle.std.proofs.lemmas.Bool.Decides.{nat_tests}
use Rattle.gl_base.specs.Bytes.{same_bytes}
use Rattle.gl_base.proofs.Lists.{push-append}
use Rattle.gl_vmaps.proofs.TablesLaws.{same_bytes-eq, same_bytes-itself}
use Rattle.gl_gov_rules.proofs.Counting.{count-cons, count-append}
use Rattle.gl_gov_base.proofs.SameLists.{any_by_count}
use Rattle.std.proofs.lemmas.List.{map-append}
use Rattle.gl_shares.specs.Field.{field_product, inverse_of}
use Rattle.gl_shares.specs.Dealing.{each_byte}
use Rattle.gl_shares.specs.Joining.{quotient, weight, members_of, weighted_sum, joined}
use Rattle.gl_shares.specs.declared.share.Share.{Share}
use Rattle.gl_gov_base.specs.Alike.{AreByteShares}
use Rattle.gl_shares.proofs.FieldLaws.{product-comm, product-assoc, product-lt, inverse_of-lt}
use Rattle.std.proofs.lemmas.Nat.{xor_comm, xor_lt}
use lib.Bits.{xor_assoc}

xor_swap : (a b c : ℕ) → bit_xor a (bit_xor b c) ≡ bit_xor b (bit_xor a c)
xor_swap a b c = sym (xor_assoc a b c) ∙ ap (λ x. bit_xor x c) (xor_comm a b) ∙ xor_assoc b a c

xor_small : (a b : ℕ) → a < 2 ^ 8 → b < 2 ^ 8 → bit_xor a b < 2 ^ 8
xor_small a b ha hb = xor_lt 8 a b ha hb

quotient_small : (point other : ℕ) → point < 2 ^ 8 → other < 2 ^ 8 → quotient point other < 2 ^ 8
unfolding quotient
quotient_small point other hp ho = by (nat_eq other point)
  where
    by : (b : Bool) → cond b 1 (field_product other (inverse_of (bit_xor other point))) < 2 ^ 8
    by true = omega arith
    by false = product-lt other (inverse_of (bit_xor other point)) ho (inverse_of-lt (bit_xor other point) (xor_small other point ho hp))

module _ (point : ℕ) (hp : point < 2 ^ 8) where
  abbrev with_other : ℕ → ℕ → ℕ
  with_other product other = field_product product (quotient point other)

  swapped : (a x m : ℕ) → a < 2 ^ 8 → x < 2 ^ 8 → m < 2 ^ 8 → with_other (with_other a x) m ≡ with_other (with_other a m) x
  swapped a x m ha hx hm =
      let qx = quotient_small point x hp hx in
      let qm = quotient_small point m hp hm in
      product-assoc a (quotient point x) (quotient point m) ha qx qm
      ∙ ap (field_product a) (product-comm (quotient point x) (quotient point m) qx qm)
      ∙ sym (product-assoc a (quotient point m) (quotient point x) ha qm qx)

  small_with : (a x : ℕ) → a < 2 ^ 8 → x < 2 ^ 8 → with_other a x < 2 ^ 8
  small_with a x ha hx = product-lt a (quotient point x) ha (quotient_small point x hp hx)

  to_front : (a : ℕ) (xs : List ℕ) (m : ℕ) (ys : List ℕ) → a < 2 ^ 8 → m < 2 ^ 8 → AllByRecursion (λ (x : ℕ). x < 2 ^ 8) xs → fold with_other a (xs ++ m ∷ ys) ≡ fold with_other (with_other a m) (xs ++ ys)
  to_front a [] m ys ha hm all = refl
  to_front a (x ∷ xs) m ys ha hm all =
      to_front (with_other a x) xs m ys (small_with a x ha all.0) hm all.1 ∙ ap (λ c. fold with_other c (xs ++ ys)) (swapped a x m ha all.0 hm)

  weight_front : (xs : List ℕ) (m : ℕ) (ys : List ℕ) → m < 2 ^ 8 → AllByRecursion (λ (x : ℕ). x < 2 ^ 8) xs → weight point (xs ++ m ∷ ys) ≡ weight point (m ∷ (xs ++ ys))
  unfolding weight
  weight_front xs m ys hm all = to_front 1 xs m ys (omega arith) hm all

sum_alike : (ms ns : List ℕ) → ((point : ℕ) → point < 2 ^ 8 → weight point ms ≡ weight point ns) → (ss : List Share) (byte : ℕ) → AreByteShares ss → weighted_sum ms ss byte ≡ weighted_sum ns ss byte
unfolding weighted_sum
sum_alike ms ns e [] byte all = refl
sum_alike ms ns e (s ∷ ss) byte all = λ i. bit_xor (field_product (slice_index_or s.value byte 0) (e s.member all.0 i)) (sum_alike ms ns e ss byte all.1 i)

sum_front : (ms : List ℕ) (xs : List Share) (s : Share) (ys : List Share) (byte : ℕ) → weighted_sum ms (xs ++ s ∷ ys) byte ≡ weighted_sum ms (s ∷ (xs ++ ys)) byte
unfolding weighted_sum
sum_front ms [] s ys byte = refl
sum_front ms (x ∷ xs) s ys byte =
    ap (bit_xor (field_product (slice_index_or x.value byte 0) (weight x.member ms))) (sum_front ms xs s ys byte)
    ∙ xor_swap (field_product (slice_index_or x.value byte 0) (weight x.member ms)) (field_product (slice_index_or s.value byte 0) (weight s.member ms)) (weighted_sum ms (xs ++ ys) byte)

members_small : (ss : List Share) → AreByteShares ss → AllByRecursion (λ (x : ℕ). x < 2 ^ 8) (members_of ss)
members_small [] all = tt
members_small (s ∷ ss) all = (all.0, members_small ss all.1)

both_small : (xs ys : List Share) → AreByteShares xs → AreByteShares ys → AreByteShares (xs ++ ys)
both_small [] ys one two = two
both_small (x ∷ xs) ys one two = (one.0, both_small xs ys one.1 two)

-- a share may stand first instead
pub joined_front : (xs : List Share) (s : Share) (ys : List Share) → s.member < 2 ^ 8 → AreByteShares xs → AreByteShares ys → joined (xs ++ s ∷ ys) ≡ joined (s ∷ (xs ++ ys))
unfolding joined
joined_front xs s ys hs one two = λ i. each_byte (λ byte. sums byte i)
  where
    members : members_of (xs ++ s ∷ ys) ≡ members_of xs ++ (s.member ∷ members_of ys)
    members = map-append (λ (s : Share). s.member) xs (s ∷ ys)

    front : members_of (s ∷ (xs ++ ys)) ≡ s.member ∷ (members_of xs ++ members_of ys)
    front = ap (λ ms. s.member ∷ ms) (map-append (λ (s : Share). s.member) xs ys)

    weights : (point : ℕ) → point < 2 ^ 8 → weight point (members_of (xs ++ s ∷ ys)) ≡ weight point (members_of (s ∷ (xs ++ ys)))
    weights point hp = ap (weight point) members ∙ weight_front point hp (members_of xs) s.member (members_of ys) hs (members_small xs one) ∙ sym (ap (weight point) front)

    sums : (byte : ℕ) → weighted_sum (members_of (xs ++ s ∷ ys)) (xs ++ s ∷ ys) byte ≡ weighted_sum (members_of (s ∷ (xs ++ ys))) (s ∷ (xs ++ ys)) byte
    sums byte =
        sum_front (members_of (xs ++ s ∷ ys)) xs s ys byte
        ∙ sum_alike (members_of (xs ++ s ∷ ys)) (members_of (s ∷ (xs ++ ys))) weights (s ∷ (xs ++ ys)) byte (hs, both_small xs ys one two)

-- ---- the same shares

-- where one passes, the list has a part before it and one after it
record Split (p : Share → Bool) (xs : List Share) : Type 0 where
  before : List Share
  one : Share
  after : List Share
  passes : p one ≡ true
  is : xs ≡ before ++ one ∷ after

split_at : (p : Share → Bool) (xs : List Share) → list_any p xs ≡ true → Split p xs
split_at p [] e = absurd cc
split_at p (x ∷ xs) e = by (p x) refl e (split_at p xs)
  where
    by : (b : Bool) → p x ≡ b → (b || list_any p xs) ≡ true → (list_any p xs ≡ true → Split p xs) → Split p (x ∷ xs)
    by true is e rest = record { before = []; one = x; after = xs; passes = is; is = refl }
    by false is e rest = let s = rest e in record { before = x ∷ s.before; one = s.one; after = s.after; passes = s.passes; is = ap (λ ys. x ∷ ys) s.is }

abbrev is_it : Share → Share → Bool
is_it y s = nat_eq s.member y.member && same_bytes s.value y.value

it_is : (y x : Share) → is_it y x ≡ true → x ≡ y
it_is y x e =
    let parts = and_parts (nat_eq x.member y.member) (same_bytes x.value y.value) e in
    let member : x.member ≡ y.member = eqb-true x.member y.member parts.0 in
    let value : x.value ≡ y.value = same_bytes-eq x.value y.value parts.1 in
    λ i. record { member = member i; value = value i }

own_it : (y : Share) → is_it y y ≡ true
own_it y = let one : nat_eq y.member y.member ≡ true = grind (arith, nat_tests) in rw (one, same_bytes-itself y.value) refl

bytes_parts : (xs : List Share) (y : Share) (ys : List Share) → AreByteShares (xs ++ y ∷ ys) → AreByteShares xs × (y.member < 2 ^ 8) × AreByteShares ys
bytes_parts [] y ys all = (tt, all.0, all.1)
bytes_parts (x ∷ xs) y ys all = let rest = bytes_parts xs y ys all.1 in ((all.0, rest.0), rest.1, rest.2)

-- one share stands further in front
moved : (pre a : List Share) (y : Share) (b more : List Share) → y.member < 2 ^ 8 → AreByteShares pre → AreByteShares a → AreByteShares b → AreByteShares more →
    joined ((pre ++ (a ++ y ∷ b)) ++ more) ≡ joined (((pre ++ y ∷ []) ++ (a ++ b)) ++ more)
moved pre a y b more hy hp ha hb hm =
    let left : (pre ++ (a ++ y ∷ b)) ++ more ≡ (pre ++ a) ++ y ∷ (b ++ more) = simp append_assoc refl in
    let right : ((pre ++ y ∷ []) ++ (a ++ b)) ++ more ≡ pre ++ y ∷ ((a ++ b) ++ more) = simp append_assoc refl in
    let same : (pre ++ a) ++ (b ++ more) ≡ pre ++ ((a ++ b) ++ more) = simp append_assoc refl in
    ap joined left ∙ joined_front (pre ++ a) y (b ++ more) hy (both_small pre a hp ha) (both_small b more hb hm)
    ∙ ap (λ zs. joined (y ∷ zs)) same ∙ sym (joined_front pre y ((a ++ b) ++ more) hy hp (both_small (a ++ b) more (both_small a b ha hb) hm)) ∙ sym (ap joined right)

joined_after : (pre xs ys more : List Share) → ((p : Share → Bool) → count_by p xs ≡ count_by p ys) → AreByteShares pre → AreByteShares xs → AreByteShares ys → AreByteShares more → joined ((pre ++ xs) ++ more) ≡ joined ((pre ++ ys) ++ more)
joined_after pre [] [] more same hp hx hy hm = refl
joined_after pre (x ∷ xs) [] more same hp hx hy hm = absurd (omega (arith, same (λ s. true), count-cons (λ (s : Share). true) x xs))
joined_after pre xs (y ∷ ys) more same hp hx hy hm =
    let first : list_any (is_it y) (y ∷ ys) ≡ true = ap (λ b. b || list_any (is_it y) ys) (own_it y) in
    let there = split_at (is_it y) xs (any_by_count (is_it y) xs ∙ ap (nat_lt 0) (same (is_it y)) ∙ sym (any_by_count (is_it y) (y ∷ ys)) ∙ first) in
    let whole : xs ≡ there.before ++ y ∷ there.after = there.is ∙ ap (λ x. there.before ++ x ∷ there.after) (it_is y there.one there.passes) in
    let bytes = bytes_parts there.before y there.after (subst AreByteShares whole hx) in
    let counted : (p : Share → Bool) → count_by p (there.before ++ there.after) ≡ count_by p ys = λ p.
    (let e = sym (ap (count_by p) whole) ∙ same p in
    omega (arith, e, count-append p there.before (y ∷ there.after), count-cons p y there.after, count-append p there.before there.after, count-cons p y ys)) in
    ap (λ zs. joined ((pre ++ zs) ++ more)) whole
    ∙ moved pre there.before y there.after more bytes.1 hp bytes.0 bytes.2 hm
    ∙ joined_after (pre ++ y ∷ []) (there.before ++ there.after) ys more counted (both_small pre (y ∷ []) hp (bytes.1, tt)) (both_small there.before there.after bytes.0 bytes.2) hy.1 hm
    ∙ ap (λ zs. joined (zs ++ more)) (push-append pre y ys)

-- shares that are the same, in another order, join to the same
pub joined_same : (xs ys more : List Share) → ((p : Share → Bool) → count_by p xs ≡ count_by p ys) → AreByteShares xs → AreByteShares ys → AreByteShares more → joined (xs ++ more) ≡ joined (ys ++ more)
joined_same xs ys more same hx hy hm = joined_after [] xs ys more same tt hx hy hm
