-- The steps of the loops that deal and join.
use Rattle.std.proofs.Common.{◌≡◌, ℕ, zero, suc, ◌+◌, ◌-◌, ◌*◌, ◌<◌, List, [], ◌∷◌, ◌++◌, length, map, take, drop, reverse, fold, get_or, bit_xor, refl, sym, ◌∙◌, ap, ap₂, add-zero, zero-add, arith}
use Rattle.std.proofs.Math.Nat.{add-mul, suc-mul}
use Rattle.std.specs.List.{range_with_len}
use Rattle.std.proofs.lemmas.List.{take_more, map-append, reverse-append, length-map, get_or-map}
use Rattle.std.proofs.lemmas.List.Sums.{fold_push}
use Rattle.std.proofs.lemmas.List.FromFn.{fill_by_all, length-map-range_with_len, get_or-map-range_with_len, take-map-range_with_len}
use lib.Bits.{xor_assoc, xor_zero_l, xor_zero_r}
use Rattle.gl_shares.specs.declared.share.Share.{Share}
use Rattle.gl_shares.specs.Field.{field_product}
use Rattle.gl_shares.specs.Dealing.{each_byte, value_at, drawn, polynomial_of, polynomials_of}
use Rattle.gl_shares.specs.Joining.{quotient, weight, members_of, weighted_sum}

-- the coefficients taken from the last one on
pub value_at-reverse : (cs : List ℕ) (x : ℕ) → value_at cs x ≡ fold (λ value c. bit_xor c (field_product x value)) 0 (reverse cs)
unfolding value_at
value_at-reverse [] x = refl
value_at-reverse (c ∷ cs) x =
    let f : ℕ → ℕ → ℕ = λ value c. bit_xor c (field_product x value) in
    ap (λ (v : ℕ). bit_xor c (field_product x v)) (value_at-reverse cs x)
    ∙ sym (ap (fold f 0) (reverse-append (c ∷ []) cs) ∙ fold_push f 0 (reverse cs) c)

-- numbers in a row, from place k on
drop-range : (f : ℕ → ℕ) (a k n : ℕ) → drop k (map f (range_with_len a (k + n))) ≡ map f (range_with_len (a + k) n)
drop-range f a zero n = ap₂ (λ (x y : ℕ). map f (range_with_len x y)) (sym (add-zero a)) (zero-add n)
drop-range f a (suc k) n =
    let more : suc k + n ≡ suc (k + n) = omega arith in
    let on : a + 1 + k ≡ a + suc k = omega arith in
    ap (λ (m : ℕ). drop (suc k) (map f (range_with_len a m))) more ∙ drop-range f (a + 1) k n
    ∙ ap (λ (m : ℕ). map f (range_with_len m n)) on

-- of n times d numbers in a row, the d that stand after i times d
pub taken-range : (f : ℕ → ℕ) (d n i : ℕ) → i < n → take d (drop (i * d) (map f (range_with_len 0 (n * d)))) ≡ map f (range_with_len (i * d) d)
taken-range f d n i h =
    let rest : ℕ = n - suc i in
    let whole : i + suc rest ≡ n = omega arith in
    let parts : n * d ≡ i * d + suc rest * d = ap (λ (m : ℕ). m * d) (sym whole) ∙ add-mul i (suc rest) d in
    let one_more : suc rest * d ≡ rest * d + d = suc-mul rest d in
    ap (λ (m : ℕ). take d (drop (i * d) (map f (range_with_len 0 m)))) parts
    ∙ ap (take d) (drop-range f 0 (i * d) (suc rest * d) ∙ ap (λ (m : ℕ). map f (range_with_len m (suc rest * d))) (zero-add (i * d)))
    ∙ take-map-range_with_len f (i * d) (suc rest * d) d (omega arith)

-- ---- 32 bytes

pub each_byte-from : (f : ℕ → ℕ) (xs : List ℕ) → length xs ≡ 32 → ((k : ℕ) → k < 32 → get_or xs k 0 ≡ f k) → xs ≡ each_byte f
unfolding each_byte
each_byte-from f xs size each = fill_by_all f xs 32 0 size each

pub length-each_byte : (f : ℕ → ℕ) → length (each_byte f) ≡ 32
unfolding each_byte
length-each_byte f = length-map-range_with_len f 0 32

pub get_or-each_byte : (f : ℕ → ℕ) (k : ℕ) → k < 32 → get_or (each_byte f) k 0 ≡ f k
unfolding each_byte
get_or-each_byte f k h = get_or-map-range_with_len f 0 32 k k 0 h (zero-add k)

pub each_byte-same : (f g : ℕ → ℕ) → ((k : ℕ) → k < 32 → f k ≡ g k) → each_byte f ≡ each_byte g
each_byte-same f g same = each_byte-from g (each_byte f) (length-each_byte f) (λ k h. get_or-each_byte f k h ∙ same k h)

-- ---- dealing

-- the values of a dealing's polynomials, of coefficients that are drawn in a row
pub each_byte-values : (secret seed above : List ℕ) (k member : ℕ) → above ≡ map (drawn seed) (range_with_len 0 (32 * (k - 1)))
    → each_byte (λ byte. value_at (get_or secret byte 0 ∷ take (k - 1) (drop (byte * (k - 1)) above)) member) ≡ map (λ p. value_at p member) (polynomials_of secret k seed)
unfolding polynomials_of
each_byte-values secret seed above k member e =
    let of : ℕ → List ℕ = polynomial_of secret k seed in
    let polynomials : List (List ℕ) = map of (range_with_len 0 32) in
    let count : length polynomials ≡ 32 = length-map-range_with_len of 0 32 in
    sym (each_byte-from (λ byte. value_at (get_or secret byte 0 ∷ take (k - 1) (drop (byte * (k - 1)) above)) member) (map (λ p. value_at p member) polynomials)
    (length-map polynomials (λ p. value_at p member) ∙ count) (λ byte h.
    get_or-map (λ p. value_at p member) polynomials byte [] 0 (omega arith)
    ∙ ap (λ p. value_at p member) (get_or-map-range_with_len of 0 32 byte byte [] h (zero-add byte)
    ∙ sym (ap (λ r. get_or secret byte 0 ∷ r) (ap (λ a. take (k - 1) (drop (byte * (k - 1)) a)) e ∙ taken-range (drawn seed) (k - 1) 32 byte h)))))

-- ---- joining

-- one more point
pub weight-more : (point : ℕ) (shares : List Share) (i : ℕ) (d : Share) → i < length shares
    → weight point (members_of (take (i + 1) shares)) ≡ field_product (weight point (members_of (take i shares))) (quotient point (get_or shares i d).member)
unfolding weight
weight-more point shares i d h =
    let f : ℕ → ℕ → ℕ = λ product other. field_product product (quotient point other) in
    ap (λ (s : List Share). fold f 1 (members_of s)) (take_more shares i d h)
    ∙ ap (fold f 1) (map-append (λ (s : Share). s.member) (take i shares) (get_or shares i d ∷ []))
    ∙ fold_push f 1 (members_of (take i shares)) (get_or shares i d).member

weighted_sum-push : (members : List ℕ) (shares : List Share) (s : Share) (byte : ℕ)
    → weighted_sum members (shares ++ s ∷ []) byte ≡ bit_xor (weighted_sum members shares byte) (field_product (get_or s.value byte 0) (weight s.member members))
unfolding weighted_sum
weighted_sum-push members [] s byte =
    let v : ℕ = field_product (get_or s.value byte 0) (weight s.member members) in
    xor_zero_r v ∙ sym (xor_zero_l v)
weighted_sum-push members (t ∷ shares) s byte =
    let u : ℕ = field_product (get_or t.value byte 0) (weight t.member members) in
    ap (bit_xor u) (weighted_sum-push members shares s byte)
    ∙ sym (xor_assoc u (weighted_sum members shares byte) (field_product (get_or s.value byte 0) (weight s.member members)))

-- one more share
pub weighted_sum-more : (members : List ℕ) (shares : List Share) (i : ℕ) (d : Share) (byte : ℕ) → i < length shares
    → weighted_sum members (take (i + 1) shares) byte
    ≡ bit_xor (weighted_sum members (take i shares) byte) (field_product (get_or (get_or shares i d).value byte 0) (weight (get_or shares i d).member members))
weighted_sum-more members shares i d byte h =
    ap (λ (s : List Share). weighted_sum members s byte) (take_more shares i d h) ∙ weighted_sum-push members (take i shares) (get_or shares i d) byte
