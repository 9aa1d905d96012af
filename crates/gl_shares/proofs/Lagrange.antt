-- Lagrange's interpolation at 0, over any list of distinct points. Here each operation takes any
-- numbers, by their low bytes, so that its laws have no premises.
use Rattle.std.proofs.Common.{◌≡◌, ◌≢◌, ℕ, suc, ◌%◌, ◌<◌, ◌≤◌, ◌^◌, List, [], ◌∷◌, length, bit_xor, refl, sym, ◌∙◌, ap, ap₂, arith}
use Rattle.std.proofs.lemmas.Bool.{eq-eqb, ne_eqb}
use Rattle.std.proofs.lemmas.Nat.{xor_mod, xor_comm, xor_lt}
use lib.Bits.{xor_assoc, xor_self, xor_zero_l, xor_zero_r}
use Rattle.gl_shares.specs.Field.{field_product, inverse_of}
use Rattle.gl_shares.specs.Joining.{quotient}
use Rattle.gl_shares.proofs.Xor.{xor-middle, xor-twice, same_from_xor}
use Rattle.gl_shares.proofs.Bilinear.{field_product-xor_left}
use Rattle.gl_shares.proofs.FieldLaws.{product-comm, product-assoc, product-lt, product-zero_left, product-one_left, product-inverse, inverse_of-lt}

-- ---- products of low bytes

unfoldable pub times : ℕ → ℕ → ℕ
times a b = field_product (a % 2 ^ 8) (b % 2 ^ 8)

low : (a : ℕ) → a % 2 ^ 8 < 2 ^ 8
low a = omega arith

kept : (a : ℕ) → a < 2 ^ 8 → a % 2 ^ 8 ≡ a
kept a h = omega arith

pub times-is : (a b : ℕ) → a < 2 ^ 8 → b < 2 ^ 8 → field_product a b ≡ times a b
unfolding times
times-is a b ha hb = sym (ap₂ field_product (kept a ha) (kept b hb))

pub times-lt : (a b : ℕ) → times a b < 2 ^ 8
unfolding times
times-lt a b = product-lt _ _ (low a) (low b)

times-comm : (a b : ℕ) → times a b ≡ times b a
unfolding times
times-comm a b = product-comm _ _ (low a) (low b)

pub times-assoc : (a b c : ℕ) → times (times a b) c ≡ times a (times b c)
unfolding times
times-assoc a b c =
    ap (λ (x : ℕ). field_product x (c % 2 ^ 8)) (kept _ (product-lt _ _ (low a) (low b)))
    ∙ product-assoc _ _ _ (low a) (low b) (low c)
    ∙ ap (field_product (a % 2 ^ 8)) (sym (kept _ (product-lt _ _ (low b) (low c))))

times-swap : (a b c : ℕ) → times a (times b c) ≡ times b (times a c)
times-swap a b c = sym (times-assoc a b c) ∙ ap (λ (x : ℕ). times x c) (times-comm a b) ∙ times-assoc b a c

pub times-xor_left : (a b c : ℕ) → times (bit_xor a b) c ≡ bit_xor (times a c) (times b c)
unfolding times
times-xor_left a b c = ap (λ (x : ℕ). field_product x (c % 2 ^ 8)) (xor_mod a b 8) ∙ field_product-xor_left _ _ _

times-xor_right : (a b c : ℕ) → times a (bit_xor b c) ≡ bit_xor (times a b) (times a c)
times-xor_right a b c = times-comm a (bit_xor b c) ∙ times-xor_left b c a ∙ ap₂ bit_xor (times-comm b a) (times-comm c a)

times-zero_left : (a : ℕ) → times 0 a ≡ 0
unfolding times
times-zero_left a = product-zero_left _

times-zero_right : (a : ℕ) → times a 0 ≡ 0
times-zero_right a = times-comm a 0 ∙ times-zero_left a

pub times-one_left : (a : ℕ) → a < 2 ^ 8 → times 1 a ≡ a
unfolding times
times-one_left a ha = product-one_left (a % 2 ^ 8) (low a) ∙ kept a ha

pub times-one_right : (a : ℕ) → a < 2 ^ 8 → times a 1 ≡ a
times-one_right a ha = times-comm a 1 ∙ times-one_left a ha

-- ---- points

-- each is a byte; none is this one; all differ
abbrev pub AreBytes : List ℕ → Type 0
AreBytes [] = Unit {0}
AreBytes (x ∷ xs) = (x < 2 ^ 8) × AreBytes xs

abbrev pub AreOthers : ℕ → List ℕ → Type 0
AreOthers r [] = Unit {0}
AreOthers r (x ∷ xs) = (r ≢ x) × AreOthers r xs

abbrev pub AreDistinct : List ℕ → Type 0
AreDistinct [] = Unit {0}
AreDistinct (x ∷ xs) = AreOthers x xs × AreDistinct xs

-- ---- weights

-- the weight of a point among points
unfoldable pub weight_in : ℕ → List ℕ → ℕ
weight_in x [] = 1
weight_in x (o ∷ os) = times (quotient x o) (weight_in x os)

pub weight_in-lt : (x : ℕ) (os : List ℕ) → weight_in x os < 2 ^ 8
unfolding weight_in
weight_in-lt x [] = omega arith
weight_in-lt x (o ∷ os) = times-lt _ _

weight_in-swap : (x r s : ℕ) (os : List ℕ) → weight_in x (r ∷ s ∷ os) ≡ weight_in x (s ∷ r ∷ os)
unfolding weight_in
weight_in-swap x r s os = times-swap (quotient x r) (quotient x s) (weight_in x os)

pub quotient-own : (x : ℕ) → quotient x x ≡ 1
unfolding quotient
quotient-own x = rw (eq-eqb x x refl)

pub quotient-other : (x r : ℕ) → (r ≡ x → ⊥) → quotient x r ≡ field_product r (inverse_of (bit_xor r x))
unfolding quotient
quotient-other x r other = rw (ne_eqb r x other)

-- the values of f at these points, each times its weight among all
unfoldable pub weighted : (ℕ → ℕ) → List ℕ → List ℕ → ℕ
weighted f all [] = 0
weighted f all (x ∷ xs) = bit_xor (times (f x) (weight_in x all)) (weighted f all xs)

weighted-lt : (f : ℕ → ℕ) (all xs : List ℕ) → weighted f all xs < 2 ^ 8
unfolding weighted
weighted-lt f all [] = omega arith
weighted-lt f all (x ∷ xs) = xor_lt 8 _ _ (times-lt _ _) (weighted-lt f all xs)

weighted-same : (f g : ℕ → ℕ) (all xs : List ℕ) → ((x : ℕ) → f x ≡ g x) → weighted f all xs ≡ weighted g all xs
unfolding weighted
weighted-same f g all [] same = refl
weighted-same f g all (x ∷ xs) same = ap₂ bit_xor (ap (λ (v : ℕ). times v (weight_in x all)) (same x)) (weighted-same f g all xs same)

weighted-xor : (f g : ℕ → ℕ) (all xs : List ℕ) → weighted (λ x. bit_xor (f x) (g x)) all xs ≡ bit_xor (weighted f all xs) (weighted g all xs)
unfolding weighted
weighted-xor f g all [] = refl
weighted-xor f g all (x ∷ xs) =
    ap₂ bit_xor (times-xor_left (f x) (g x) (weight_in x all)) (weighted-xor f g all xs)
    ∙ xor-middle (times (f x) (weight_in x all)) (times (g x) (weight_in x all)) (weighted f all xs) (weighted g all xs)

weighted-times : (c : ℕ) (f : ℕ → ℕ) (all xs : List ℕ) → weighted (λ x. times c (f x)) all xs ≡ times c (weighted f all xs)
unfolding weighted
weighted-times c f all [] = sym (times-zero_right c)
weighted-times c f all (x ∷ xs) =
    ap₂ bit_xor (times-assoc c (f x) (weight_in x all)) (weighted-times c f all xs)
    ∙ sym (times-xor_right c (times (f x) (weight_in x all)) (weighted f all xs))

weighted-swap : (f : ℕ → ℕ) (r s : ℕ) (all xs : List ℕ) → weighted f (r ∷ s ∷ all) xs ≡ weighted f (s ∷ r ∷ all) xs
unfolding weighted
weighted-swap f r s all [] = refl
weighted-swap f r s all (x ∷ xs) = ap₂ bit_xor (ap (times (f x)) (weight_in-swap x r s all)) (weighted-swap f r s all xs)

-- the order of the first two points doesn't count
weighted-first : (f : ℕ → ℕ) (r s : ℕ) (xs : List ℕ) → weighted f (r ∷ s ∷ xs) (r ∷ s ∷ xs) ≡ weighted f (s ∷ r ∷ xs) (s ∷ r ∷ xs)
unfolding weighted
weighted-first f r s xs =
    let a : ℕ = times (f r) (weight_in r (r ∷ s ∷ xs)) in
    let b : ℕ = times (f s) (weight_in s (r ∷ s ∷ xs)) in
    let c : ℕ = weighted f (r ∷ s ∷ xs) xs in
    sym (xor_assoc a b c) ∙ ap (λ (v : ℕ). bit_xor v c) (xor_comm a b) ∙ xor_assoc b a c
    ∙ ap₂ bit_xor (ap (times (f s)) (weight_in-swap s r s xs)) (ap₂ bit_xor (ap (times (f r)) (weight_in-swap r r s xs)) (weighted-swap f r s xs xs))

-- ---- a factor that is 0 at a point takes the point away

differ : (x r : ℕ) → (x ≡ r → ⊥) → bit_xor x r ≡ 0 → ⊥
differ x r apart none = apart (same_from_xor x r none)

-- d and i are inverse: (d g) ((r i) w) is r (g w)
cancelled : (d g r i w : ℕ) → times d i ≡ 1 → times (times d g) (times (times r i) w) ≡ times r (times g w)
cancelled d g r i w one =
    let z : ℕ = times g w in
    times-assoc d g (times (times r i) w)
    ∙ ap (times d) (
    ap (times g) (times-assoc r i w)
    ∙ times-swap g r (times i w)
    ∙ ap (times r) (times-swap g i w))
    ∙ times-swap d r (times i z)
    ∙ ap (times r) (sym (times-assoc d i z) ∙ ap (λ (v : ℕ). times v z) one ∙ times-one_left z (times-lt g w))

factor_at : (g : ℕ → ℕ) (r x : ℕ) (all : List ℕ) → r < 2 ^ 8 → x < 2 ^ 8 → (r ≡ x → ⊥)
    → times (times (bit_xor x r) (g x)) (weight_in x (r ∷ all)) ≡ times r (times (g x) (weight_in x all))
unfolding weight_in
factor_at g r x all hr hx apart =
    let d : ℕ = bit_xor x r in
    let hd : d < 2 ^ 8 = xor_lt 8 x r hx hr in
    let some : d ≡ 0 → ⊥ = differ x r (λ (e : x ≡ r). apart (sym e)) in
    let i : ℕ = inverse_of d in
    let hi : i < 2 ^ 8 = inverse_of-lt d hd in
    let one : times d i ≡ 1 = sym (times-is d i hd hi) ∙ product-inverse d hd some in
    let part : quotient x r ≡ times r i =
    quotient-other x r apart ∙ ap (λ (v : ℕ). field_product r (inverse_of v)) (xor_comm r x) ∙ times-is r i hr hi in
    ap (λ (v : ℕ). times (times d (g x)) (times v (weight_in x all))) part
    ∙ cancelled d (g x) r i (weight_in x all) one

weighted-factor : (g : ℕ → ℕ) (r : ℕ) (all xs : List ℕ) → r < 2 ^ 8 → AreBytes xs → AreOthers r xs
    → weighted (λ x. times (bit_xor x r) (g x)) (r ∷ all) xs ≡ times r (weighted g all xs)
unfolding weighted
weighted-factor g r all [] hr bytes others = sym (times-zero_right r)
weighted-factor g r all (x ∷ xs) hr bytes others =
    ap₂ bit_xor (factor_at g r x all hr bytes.0 others.0) (weighted-factor g r all xs hr bytes.1 others.1)
    ∙ sym (times-xor_right r (times (g x) (weight_in x all)) (weighted g all xs))

weighted-root : (g : ℕ → ℕ) (r : ℕ) (xs : List ℕ) → r < 2 ^ 8 → AreBytes xs → AreOthers r xs
    → weighted (λ x. times (bit_xor x r) (g x)) (r ∷ xs) (r ∷ xs) ≡ times r (weighted g xs xs)
unfolding weighted
weighted-root g r xs hr bytes others =
    let none : times (times (bit_xor r r) (g r)) (weight_in r (r ∷ xs)) ≡ 0 =
    ap (λ (v : ℕ). times (times v (g r)) (weight_in r (r ∷ xs))) (xor_self r)
    ∙ ap (λ (v : ℕ). times v (weight_in r (r ∷ xs))) (times-zero_left (g r)) ∙ times-zero_left (weight_in r (r ∷ xs)) in
    ap₂ bit_xor none (weighted-factor g r xs xs hr bytes others) ∙ xor_zero_l (times r (weighted g xs xs))

-- ---- the weights have the sum 1

weighted-alone : (f : ℕ → ℕ) (r : ℕ) → f r < 2 ^ 8 → weighted f (r ∷ []) (r ∷ []) ≡ f r
unfolding weighted weight_in
weighted-alone f r h =
    let own : times (quotient r r) 1 ≡ 1 = ap (λ (v : ℕ). times v 1) (quotient-own r) ∙ times-one_right 1 (omega arith) in
    xor_zero_r (times (f r) (times (quotient r r) 1)) ∙ ap (times (f r)) own ∙ times-one_right (f r) h

-- of two roots r and s, (x + r) 1 + (x + s) 1 is (r + s) 1
two_roots : (r s x : ℕ) → bit_xor (times (bit_xor x r) 1) (times (bit_xor x s) 1) ≡ times (bit_xor r s) 1
two_roots r s x =
    sym (times-xor_left (bit_xor x r) (bit_xor x s) 1)
    ∙ ap (λ (v : ℕ). times v 1) (xor-middle x r x s ∙ ap (λ (v : ℕ). bit_xor v (bit_xor r s)) (xor_self x) ∙ xor_zero_l (bit_xor r s))

one_from_times : (u v : ℕ) → u < 2 ^ 8 → v < 2 ^ 8 → (u ≡ 0 → ⊥) → times u v ≡ u → v ≡ 1
one_from_times u v hu hv some e =
    let i : ℕ = inverse_of u in
    let one : times u i ≡ 1 = sym (times-is u i hu (inverse_of-lt u hu)) ∙ product-inverse u hu some in
    sym (times-one_left v hv) ∙ ap (λ (w : ℕ). times w v) (sym (times-comm i u ∙ one)) ∙ times-assoc i u v
    ∙ ap (times i) e ∙ times-comm i u ∙ one

weighted-one : (xs : List ℕ) (r : ℕ) → AreBytes (r ∷ xs) → AreDistinct (r ∷ xs) → weighted (λ x. 1) (r ∷ xs) (r ∷ xs) ≡ 1
weighted-one [] r bytes distinct = weighted-alone (λ x. 1) r (omega arith)
weighted-one (s ∷ xs) r bytes distinct =
    let hr : r < 2 ^ 8 = bytes.0 in
    let hs : s < 2 ^ 8 = bytes.1.0 in
    let rest : AreBytes xs = bytes.1.1 in
    let with_s = weighted-one xs s (hs, rest) distinct.1 in
    let with_r = weighted-one xs r (hr, rest) (distinct.0.1, distinct.1.1) in
    let first : weighted (λ x. times (bit_xor x r) 1) (r ∷ s ∷ xs) (r ∷ s ∷ xs) ≡ r =
    weighted-root (λ x. 1) r (s ∷ xs) hr (hs, rest) distinct.0 ∙ ap (times r) with_s ∙ times-one_right r hr in
    let apart : s ≡ r → ⊥ = λ (e : s ≡ r). distinct.0.0 (sym e) in
    let second : weighted (λ x. times (bit_xor x s) 1) (r ∷ s ∷ xs) (r ∷ s ∷ xs) ≡ s =
    weighted-first (λ x. times (bit_xor x s) 1) r s xs
    ∙ weighted-root (λ x. 1) s (r ∷ xs) hs (hr, rest) (apart, distinct.1.0) ∙ ap (times s) with_r ∙ times-one_right s hs in
    let u : ℕ = bit_xor r s in
    let sum : ℕ = weighted (λ x. 1) (r ∷ s ∷ xs) (r ∷ s ∷ xs) in
    let whole : times u sum ≡ u =
    sym (weighted-times u (λ x. 1) (r ∷ s ∷ xs) (r ∷ s ∷ xs))
    ∙ sym (weighted-same (λ x. bit_xor (times (bit_xor x r) 1) (times (bit_xor x s) 1)) (λ x. times u 1) (r ∷ s ∷ xs) (r ∷ s ∷ xs) (two_roots r s))
    ∙ weighted-xor (λ x. times (bit_xor x r) 1) (λ x. times (bit_xor x s) 1) (r ∷ s ∷ xs) (r ∷ s ∷ xs)
    ∙ ap₂ bit_xor first second in
    one_from_times u sum (xor_lt 8 r s hr hs) (weighted-lt _ _ _) (differ r s distinct.0.0) whole

-- ---- polynomials

unfoldable pub value_of : List ℕ → ℕ → ℕ
value_of [] x = 0
value_of (c ∷ cs) x = bit_xor c (times x (value_of cs x))

pub value_of-lt : (cs : List ℕ) (x : ℕ) → AreBytes cs → value_of cs x < 2 ^ 8
unfolding value_of
value_of-lt [] x bytes = omega arith
value_of-lt (c ∷ cs) x bytes = xor_lt 8 _ _ bytes.0 (times-lt _ _)

-- the polynomial divided by x + r: of c + x cs, the values at r of cs and of what follows it
unfoldable pub divided : ℕ → List ℕ → List ℕ
divided r [] = []
divided r (c ∷ cs) = value_of (c ∷ cs) r ∷ divided r cs

length-divided : (r : ℕ) (cs : List ℕ) → length (divided r cs) ≡ length cs
unfolding divided
length-divided r [] = refl
length-divided r (c ∷ cs) = ap suc (length-divided r cs)

AreBytes-divided : (r : ℕ) (cs : List ℕ) → AreBytes cs → AreBytes (divided r cs)
unfolding divided
AreBytes-divided r [] bytes = tt
AreBytes-divided r (c ∷ cs) bytes = (value_of-lt (c ∷ cs) r bytes, AreBytes-divided r cs bytes.1)

-- x ((x + r) q + p) is (x + r) (p + x q) + r p
regrouped : (x r p q : ℕ) → times x (bit_xor (times (bit_xor x r) q) p) ≡ bit_xor (times (bit_xor x r) (bit_xor p (times x q))) (times r p)
regrouped x r p q =
    let d : ℕ = bit_xor x r in
    let high : ℕ = times d (times x q) in
    times-xor_right x (times d q) p
    ∙ ap (λ (v : ℕ). bit_xor v (times x p)) (times-swap x d q)
    ∙ xor_comm high (times x p)
    ∙ sym (
    ap (λ (v : ℕ). bit_xor v (times r p)) (times-xor_right d p (times x q) ∙ ap (λ (v : ℕ). bit_xor v high) (times-xor_left x r p))
    ∙ xor_assoc (bit_xor (times x p) (times r p)) high (times r p)
    ∙ ap (bit_xor (bit_xor (times x p) (times r p))) (xor_comm high (times r p))
    ∙ xor_assoc (times x p) (times r p) (bit_xor (times r p) high)
    ∙ ap (bit_xor (times x p)) (xor-twice (times r p) high))

-- division by x + r, with the value at r as the remainder
value_of-divided : (c : ℕ) (cs : List ℕ) (r x : ℕ) → value_of (c ∷ cs) x ≡ bit_xor (times (bit_xor x r) (value_of (divided r cs) x)) (value_of (c ∷ cs) r)
unfolding value_of divided
value_of-divided c [] r x =
    ap (bit_xor c) (times-zero_right x ∙ sym (times-zero_right r))
    ∙ sym (ap (λ (v : ℕ). bit_xor v (bit_xor c (times r 0))) (times-zero_right (bit_xor x r)) ∙ xor_zero_l (bit_xor c (times r 0)))
value_of-divided c (d ∷ ds) r x =
    let p : ℕ = value_of (d ∷ ds) r in
    let q : ℕ = value_of (divided r ds) x in
    let e : ℕ = times (bit_xor x r) (bit_xor p (times x q)) in
    ap (λ (v : ℕ). bit_xor c (times x v)) (value_of-divided d ds r x)
    ∙ ap (bit_xor c) (regrouped x r p q)
    ∙ sym (xor_assoc c e (times r p))
    ∙ ap (λ (v : ℕ). bit_xor v (times r p)) (xor_comm c e)
    ∙ xor_assoc e c (times r p)

-- ---- the interpolation

weighted-none : (all xs : List ℕ) → weighted (value_of []) all xs ≡ 0
unfolding weighted value_of
weighted-none all [] = refl
weighted-none all (x ∷ xs) = ap₂ bit_xor (times-zero_left (weight_in x all)) (weighted-none all xs)

value_of-constant : (c x : ℕ) → value_of (c ∷ []) x ≡ c
unfolding value_of
value_of-constant c x = ap (bit_xor c) (times-zero_right x) ∙ xor_zero_r c

interpolated : (xs : List ℕ) (r : ℕ) (cs : List ℕ) → AreBytes (r ∷ xs) → AreDistinct (r ∷ xs) → AreBytes cs → length cs ≤ suc (length xs)
    → weighted (value_of cs) (r ∷ xs) (r ∷ xs) ≡ value_of cs 0
unfolding value_of
interpolated [] r [] bytes distinct coefficients fits = weighted-none (r ∷ []) (r ∷ [])
interpolated [] r (c ∷ []) bytes distinct coefficients fits =
    weighted-alone (value_of (c ∷ [])) r (value_of-lt (c ∷ []) r coefficients) ∙ value_of-constant c r ∙ sym (value_of-constant c 0)
interpolated [] r (c ∷ d ∷ cs) bytes distinct coefficients fits = absurd (omega arith)
interpolated (s ∷ xs) r [] bytes distinct coefficients fits = weighted-none (r ∷ s ∷ xs) (r ∷ s ∷ xs)
interpolated (s ∷ xs) r (c ∷ cs) bytes distinct coefficients fits =
    let all : List ℕ = r ∷ s ∷ xs in
    let p : ℕ = value_of (c ∷ cs) r in
    let hp : p < 2 ^ 8 = value_of-lt (c ∷ cs) r coefficients in
    let q : ℕ → ℕ = value_of (divided r cs) in
    let inner = interpolated xs s (divided r cs) bytes.1 distinct.1 (AreBytes-divided r cs coefficients.1) (omega (arith, length-divided r cs)) in
    let each : (x : ℕ) → value_of (c ∷ cs) x ≡ bit_xor (times (bit_xor x r) (q x)) (times p 1) =
    λ x. value_of-divided c cs r x ∙ ap (bit_xor (times (bit_xor x r) (q x))) (sym (times-one_right p hp)) in
    weighted-same (value_of (c ∷ cs)) (λ x. bit_xor (times (bit_xor x r) (q x)) (times p 1)) all all each
    ∙ weighted-xor (λ x. times (bit_xor x r) (q x)) (λ x. times p 1) all all
    ∙ ap₂ bit_xor (weighted-root q r (s ∷ xs) bytes.0 bytes.1 distinct.0 ∙ ap (times r) inner)
    (weighted-times p (λ x. 1) all all ∙ ap (times p) (weighted-one (s ∷ xs) r bytes distinct) ∙ times-one_right p hp)
    ∙ sym (value_of-divided c cs r 0 ∙ ap (λ (v : ℕ). bit_xor (times v (q 0)) p) (xor_zero_l r))

-- at least as many values of a polynomial as it has coefficients give its value at 0
pub weighted-value_of : (xs cs : List ℕ) → AreBytes xs → AreDistinct xs → AreBytes cs → length cs ≤ length xs → weighted (value_of cs) xs xs ≡ value_of cs 0
unfolding weighted value_of
weighted-value_of [] [] bytes distinct coefficients fits = refl
weighted-value_of [] (c ∷ cs) bytes distinct coefficients fits = absurd (omega arith)
weighted-value_of (r ∷ xs) cs bytes distinct coefficients fits = interpolated xs r cs bytes distinct coefficients fits
