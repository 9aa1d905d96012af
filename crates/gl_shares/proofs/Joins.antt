-- Shares of one dealing give what was dealt.
use Rattle.std.proofs.Common.{◌≡◌, ◌≢◌, ℕ, zero, suc, ◌-◌, ◌*◌, ◌<◌, ◌≤◌, ◌^◌, List, [], ◌∷◌, length, map, fold, get_or, bit_xor, refl, sym, ◌∙◌, ap, ap₂, subst, inl, inr, arith}
use Rattle.std.specs.List.{range_with_len, All, AllPairs}
use Rattle.std.proofs.lemmas.Bool.{cases_eq, eq-eqb, ne_eqb}
use Rattle.std.proofs.lemmas.List.{length-map, get_or-map}
use Rattle.std.proofs.lemmas.List.Elements.{All-head, All-tail, All-cons, All-map, All-from_get_or, All-get_or}
use Rattle.std.proofs.lemmas.List.FromFn.{fill_by_all, length-map-range_with_len, get_or-map-range_with_len}
use Rattle.std.proofs.lemmas.Nat.{xor_lt}
use lib.Bits.{xor_zero_r}
use Rattle.gl_shares.specs.declared.share.Share.{Share}
use Rattle.gl_shares.specs.Field.{field_product}
use Rattle.gl_shares.specs.Dealing.{value_at, drawn, polynomial_of, polynomials_of, IsPolynomial, IsShareOf}
use Rattle.gl_shares.specs.Joining.{quotient, weight, members_of, weighted_sum, joined}
use Rattle.gl_shares.proofs.Steps.{each_byte-from}
use Rattle.gl_shares.proofs.FieldLaws.{product-lt, product-zero_left, inverse_of-lt}
use Rattle.gl_shares.proofs.Lagrange.{times, times-is, times-assoc, times-one_left, times-one_right, AreBytes, AreOthers, AreDistinct, weight_in, weight_in-lt, weighted, value_of, value_of-lt, weighted-value_of}

-- ---- the definitions' values, and those of the interpolation

value_at-is : (cs : List ℕ) (x : ℕ) → AreBytes cs → x < 2 ^ 8 → value_at cs x ≡ value_of cs x
unfolding value_at value_of
value_at-is [] x bytes hx = refl
value_at-is (c ∷ cs) x bytes hx = ap (bit_xor c) (ap (field_product x) (value_at-is cs x bytes.1 hx) ∙ times-is x (value_of cs x) hx (value_of-lt cs x bytes.1))

quotient-lt : (x o : ℕ) → x < 2 ^ 8 → o < 2 ^ 8 → quotient x o < 2 ^ 8
unfolding quotient
quotient-lt x o hx ho =
    elim (cases_eq o x) [
      | inl own ↦ rw (eq-eqb o x own) (omega arith)
      | inr other ↦ rw (ne_eqb o x other) (product-lt o _ ho (inverse_of-lt _ (xor_lt 8 o x ho hx)))
    ]

fold-weight_in : (x a : ℕ) (os : List ℕ) → x < 2 ^ 8 → a < 2 ^ 8 → AreBytes os → fold (λ product other. field_product product (quotient x other)) a os ≡ times a (weight_in x os)
unfolding weight_in
fold-weight_in x a [] hx ha bytes = sym (times-one_right a ha)
fold-weight_in x a (o ∷ os) hx ha bytes =
    let hq : quotient x o < 2 ^ 8 = quotient-lt x o hx bytes.0 in
    fold-weight_in x (field_product a (quotient x o)) os hx (product-lt a (quotient x o) ha hq) bytes.1
    ∙ ap (λ (v : ℕ). times v (weight_in x os)) (times-is a (quotient x o) ha hq)
    ∙ times-assoc a (quotient x o) (weight_in x os)

weight-is : (x : ℕ) (os : List ℕ) → x < 2 ^ 8 → AreBytes os → weight x os ≡ weight_in x os
unfolding weight
weight-is x os hx bytes = fold-weight_in x 1 os hx (omega arith) bytes ∙ times-one_left (weight_in x os) (weight_in-lt x os)

weighted_sum-is : (polynomials : List (List ℕ)) (byte : ℕ) (members : List ℕ) (shares : List Share) → byte < length polynomials → AreBytes (get_or polynomials byte []) → AreBytes members
    → All (IsShareOf polynomials) shares → weighted_sum members shares byte ≡ weighted (value_of (get_or polynomials byte [])) members (members_of shares)
unfolding weighted_sum weighted
weighted_sum-is polynomials byte members [] within coefficients bytes dealt = refl
weighted_sum-is polynomials byte members (s ∷ shares) within coefficients bytes dealt =
    let here = All-head (IsShareOf polynomials) s shares dealt in
    let p : List ℕ = get_or polynomials byte [] in
    let m : ℕ = s.member in
    let value : get_or s.value byte 0 ≡ value_of p m =
    ap (λ (t : Share). get_or t.value byte 0) here.value
    ∙ get_or-map (λ q. value_at q m) polynomials byte [] 0 within
    ∙ value_at-is p m coefficients here.member in
    ap₂ bit_xor
    (ap₂ field_product value (weight-is m members here.member bytes) ∙ times-is (value_of p m) (weight_in m members) (value_of-lt p m coefficients) (weight_in-lt m members))
    (weighted_sum-is polynomials byte members shares within coefficients bytes (All-tail (IsShareOf polynomials) s shares dealt))

-- ---- lists of bytes and of distinct members

bytes_from_All : (xs : List ℕ) → All (λ x. x < 2 ^ 8) xs → AreBytes xs
bytes_from_All [] h = tt
bytes_from_All (x ∷ xs) h = (All-head (λ y. y < 2 ^ 8) x xs h, bytes_from_All xs (All-tail (λ y. y < 2 ^ 8) x xs h))

members_bytes : (polynomials : List (List ℕ)) (shares : List Share) → All (IsShareOf polynomials) shares → AreBytes (members_of shares)
members_bytes polynomials [] h = tt
members_bytes polynomials (s ∷ shares) h = ((All-head (IsShareOf polynomials) s shares h).member, members_bytes polynomials shares (All-tail (IsShareOf polynomials) s shares h))

others_from_All : (m : ℕ) (shares : List Share) → All (λ t. m ≢ t.member) shares → AreOthers m (members_of shares)
others_from_All m [] h = tt
others_from_All m (s ∷ shares) h = (All-head (λ t. m ≢ t.member) s shares h, others_from_All m shares (All-tail (λ t. m ≢ t.member) s shares h))

distinct_from_AllPairs : (shares : List Share) → AllPairs (λ s t. s.member ≢ t.member) shares → AreDistinct (members_of shares)
distinct_from_AllPairs [] h = tt
distinct_from_AllPairs (s ∷ shares) h =
    let rest : All (λ t. s.member ≢ t.member) shares = λ j d lt. h 0 (suc j) d (omega arith) (omega arith) in
    (others_from_All s.member shares rest, distinct_from_AllPairs shares (λ i j d low high. h (suc i) (suc j) d (omega arith) (omega arith)))

length-members : (shares : List Share) → length (members_of shares) ≡ length shares
length-members shares = length-map shares (λ (s : Share). s.member)

-- ---- any dealing

byte_joined : (polynomials : List (List ℕ)) (k : ℕ) (shares : List Share) (byte : ℕ) → All (IsPolynomial k) polynomials → All (IsShareOf polynomials) shares → AllPairs (λ s t. s.member ≢ t.member) shares
    → k ≤ length shares → byte < length polynomials → value_at (get_or polynomials byte []) 0 ≡ weighted_sum (members_of shares) shares byte
byte_joined polynomials k shares byte small dealt distinct enough within =
    let p : List ℕ = get_or polynomials byte [] in
    let form : IsPolynomial k p = All-get_or (IsPolynomial k) polynomials byte [] within small in
    let coefficients = bytes_from_All p form.coefficients in
    let members = members_bytes polynomials shares dealt in
    value_at-is p 0 coefficients (omega arith)
    ∙ sym (weighted_sum-is polynomials byte (members_of shares) shares within coefficients members dealt
    ∙ weighted-value_of (members_of shares) p members (distinct_from_AllPairs shares distinct) coefficients (omega (arith, form.degree, length-members shares)))

pub joined-values : (polynomials : List (List ℕ)) (k : ℕ) (shares : List Share) → length polynomials ≡ 32 → All (IsPolynomial k) polynomials → All (IsShareOf polynomials) shares → AllPairs (λ s t. s.member ≢ t.member) shares
    → k ≤ length shares → joined shares ≡ map (λ p. value_at p 0) polynomials
unfolding joined
joined-values polynomials k shares size small dealt distinct enough =
    sym (each_byte-from (weighted_sum (members_of shares) shares) (map (λ p. value_at p 0) polynomials) (length-map polynomials (λ p. value_at p 0) ∙ size) (λ byte h.
    get_or-map (λ p. value_at p 0) polynomials byte [] 0 (omega arith)
    ∙ byte_joined polynomials k shares byte small dealt distinct enough (omega arith)))

-- ---- the dealing of a secret

get_or-byte : (xs : List ℕ) (i : ℕ) → All (λ x. x < 2 ^ 8) xs → get_or xs i 0 < 2 ^ 8
get_or-byte [] i h = omega arith
get_or-byte (x ∷ xs) zero h = All-head (λ y. y < 2 ^ 8) x xs h
get_or-byte (x ∷ xs) (suc i) h = get_or-byte xs i (All-tail (λ y. y < 2 ^ 8) x xs h)

IsPolynomial-of : (secret seed : List ℕ) (k byte : ℕ) → All (λ x. x < 2 ^ 8) secret → 1 ≤ k → IsPolynomial k (polynomial_of secret k seed byte)
IsPolynomial-of secret seed k byte bytes some =
    let above : List ℕ = range_with_len (byte * (k - 1)) (k - 1) in
    record {
      degree = omega (arith, length-map-range_with_len (drawn seed) (byte * (k - 1)) (k - 1));
      coefficients = All-cons (λ c. c < 2 ^ 8) (get_or secret byte 0) (map (drawn seed) above) (get_or-byte secret byte bytes) (All-map (λ c. c < 2 ^ 8) (drawn seed) above (λ i d h. omega arith));
    }

value_at-zero : (c : ℕ) (cs : List ℕ) → value_at (c ∷ cs) 0 ≡ c
unfolding value_at
value_at-zero c cs = ap (bit_xor c) (product-zero_left (value_at cs 0)) ∙ xor_zero_r c

pub joined-secret : (secret seed : List ℕ) (k : ℕ) (shares : List Share) → length secret ≡ 32 → All (λ x. x < 2 ^ 8) secret → 1 ≤ k → All (IsShareOf (polynomials_of secret k seed)) shares → AllPairs (λ s t. s.member ≢ t.member) shares
    → k ≤ length shares → joined shares ≡ secret
unfolding polynomials_of
joined-secret secret seed k shares size bytes some dealt distinct enough =
    let of : ℕ → List ℕ = polynomial_of secret k seed in
    let polynomials : List (List ℕ) = map of (range_with_len 0 32) in
    let count : length polynomials ≡ 32 = length-map-range_with_len of 0 32 in
    let at : (i : ℕ) → i < 32 → get_or polynomials i [] ≡ of i = λ i h. get_or-map-range_with_len of 0 32 i i [] h (omega arith) in
    let small : All (IsPolynomial k) polynomials =
    All-from_get_or (IsPolynomial k) polynomials [] (λ i h. subst (IsPolynomial k) (sym (at i (omega arith))) (IsPolynomial-of secret seed k i bytes some)) in
    joined-values polynomials k shares count small dealt distinct enough
    ∙ fill_by_all (λ i. get_or secret i 0) (map (λ p. value_at p 0) polynomials) 32 0 (length-map polynomials (λ p. value_at p 0) ∙ count) (λ i h.
    get_or-map (λ p. value_at p 0) polynomials i [] 0 (omega arith)
    ∙ ap (λ p. value_at p 0) (at i h) ∙ value_at-zero (get_or secret i 0) _)
    ∙ sym (fill_by_all (λ i. get_or secret i 0) secret 32 0 size (λ i h. refl))
