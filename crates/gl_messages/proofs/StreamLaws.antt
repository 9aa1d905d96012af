-- A stream's payloads, however the stream is cut.
use Rattle.std.proofs.Common.{◌≡◌, ℕ, ◌+◌, ◌*◌, ◌<◌, ◌≤◌, zero, suc, List, [], ◌∷◌, ◌++◌, Bool, true, false, cond, nat_lt, length, take, drop, length-append, length-drop, refl, sym, ap, ◌∙◌, subst, arith}
use Rattle.std.specs.Int.{w32, to_be_bytes, from_be_bytes}
use Rattle.std.proofs.Math.Seq.{take-append_seam, drop-append_seam}
use Rattle.std.proofs.lemmas.Bool.Decides.{nat_tests}
use Rattle.std.proofs.lemmas.List.{take-append-le, drop-append-le, take-append-drop, length-take-le}
use Rattle.std.proofs.lemmas.Nat.{from_be_bytes-to_be_bytes_4}
use Rattle.gl_messages.specs.Frames.{frame_limit, framed, Prefix, whole, too_long, unfinished, after_length, prefix, first_and, after_first, payloads_in, rest_in, payloads, rest, IsNoFrame}

-- ---- the prefix of a stream

-- The same prefix, with more bytes after the stream.
abbrev Grown : Prefix → Prefix → List ℕ → Type 0
Grown (whole payload left) grown more = grown ≡ whole payload (left ++ more)
Grown (too_long len) grown more = grown ≡ too_long len
Grown unfinished grown more = Unit {0}

after_grows : (len : ℕ) (bytes more : List ℕ) (long short : Bool) → nat_lt frame_limit len ≡ long → nat_lt (length bytes) len ≡ short →
    Grown (cond long (too_long len) (cond short unfinished (whole (take len bytes) (drop len bytes)))) (after_length len (bytes ++ more)) more
after_grows len bytes more true short l s = rw l refl
after_grows len bytes more false true l s = tt
after_grows len bytes more false false l s =
    let within : len ≤ length bytes = grind (arith, nat_tests) in
    let still : nat_lt (length (bytes ++ more)) len ≡ false = grind (arith, nat_tests, length-append bytes more) in
    rw (l, still, take-append-le len bytes more within, drop-append-le len bytes more within) refl

prefix_grows : (stream more : List ℕ) → Grown (prefix stream) (prefix (stream ++ more)) more
unfolding prefix
prefix_grows [] more = tt
prefix_grows (a ∷ []) more = tt
prefix_grows (a ∷ b ∷ []) more = tt
prefix_grows (a ∷ b ∷ c ∷ []) more = tt
prefix_grows (a ∷ b ∷ c ∷ d ∷ bytes) more =
    let len = ((a * 256 + b) * 256 + c) * 256 + d in
    after_grows len bytes more (nat_lt frame_limit len) (nat_lt (length bytes) len) refl refl

whole_grows : (stream more payload left : List ℕ) → prefix stream ≡ whole payload left → prefix (stream ++ more) ≡ whole payload (left ++ more)
whole_grows stream more payload left e = subst (λ (f : Prefix). Grown f (prefix (stream ++ more)) more) e (prefix_grows stream more)

-- What is left is shorter.
abbrev Shorter : Prefix → ℕ → Type 0
Shorter (whole payload left) n = length left ≤ n
Shorter (too_long len) n = Unit {0}
Shorter unfinished n = Unit {0}

after_shorter : (len : ℕ) (bytes : List ℕ) (long short : Bool) → Shorter (cond long (too_long len) (cond short unfinished (whole (take len bytes) (drop len bytes)))) (length bytes)
after_shorter len bytes true short = tt
after_shorter len bytes false true = tt
after_shorter len bytes false false = omega (arith, length-drop len bytes)

prefix_shorter : (stream payload left : List ℕ) → prefix stream ≡ whole payload left → length left < length stream
unfolding prefix
prefix_shorter [] payload left e = absurd cc
prefix_shorter (a ∷ []) payload left e = absurd cc
prefix_shorter (a ∷ b ∷ []) payload left e = absurd cc
prefix_shorter (a ∷ b ∷ c ∷ []) payload left e = absurd cc
prefix_shorter (a ∷ b ∷ c ∷ d ∷ bytes) payload left e =
    let len = ((a * 256 + b) * 256 + c) * 256 + d in
    let short : length left ≤ length bytes =
    subst (λ (f : Prefix). Shorter f (length bytes)) e (after_shorter len bytes (nat_lt frame_limit len) (nat_lt (length bytes) len)) in
    omega (arith, short)

prefix_nil : prefix [] ≡ unfinished
unfolding prefix
prefix_nil = refl

-- ---- more fuel than bytes changes nothing

none_in : (n : ℕ) → (payloads_in n [] ≡ []) × (rest_in n [] ≡ [])
none_in zero = (refl, refl)
none_in (suc n) = (ap (λ (f : Prefix). first_and f (payloads_in n)) prefix_nil, ap (λ (f : Prefix). after_first f (rest_in n) []) prefix_nil)

fuel_step : (f : Prefix) (n m : ℕ) (xs : List ℕ) → prefix xs ≡ f → length xs ≤ suc n → length xs ≤ suc m
    → ((ys : List ℕ) → length ys ≤ n → length ys ≤ m → (payloads_in n ys ≡ payloads_in m ys) × (rest_in n ys ≡ rest_in m ys))
    → (first_and f (payloads_in n) ≡ first_and f (payloads_in m)) × (after_first f (rest_in n) xs ≡ after_first f (rest_in m) xs)
fuel_step unfinished n m xs is a b more = (refl, refl)
fuel_step (too_long len) n m xs is a b more = (refl, refl)
fuel_step (whole payload left) n m xs is a b more =
    let short = prefix_shorter xs payload left is in
    let e = more left (omega (arith, short)) (omega (arith, short)) in
    (ap (λ (t : List (List ℕ)). payload ∷ t) e.0, e.1)

fuel : (n m : ℕ) (xs : List ℕ) → length xs ≤ n → length xs ≤ m → (payloads_in n xs ≡ payloads_in m xs) × (rest_in n xs ≡ rest_in m xs)
fuel zero m [] a b = let e = none_in m in (sym e.0, sym e.1)
fuel zero m (x ∷ xs) a b = absurd (omega arith)
fuel (suc n) zero [] a b = none_in (suc n)
fuel (suc n) zero (x ∷ xs) a b = absurd (omega arith)
fuel (suc n) (suc m) xs a b = fuel_step (prefix xs) n m xs refl a b (fuel n m)

pub first_whole : (xs payload left : List ℕ) → prefix xs ≡ whole payload left → (payloads xs ≡ payload ∷ payloads left) × (rest xs ≡ rest left)
unfolding payloads rest
first_whole xs payload left h =
    let short = prefix_shorter xs payload left h in
    let a = fuel (length xs) (suc (length xs)) xs (omega arith) (omega arith) in
    let b = fuel (length xs) (length left) left (omega (arith, short)) (omega arith) in (
      a.0 ∙ ap (λ (f : Prefix). first_and f (payloads_in (length xs))) h ∙ ap (λ (t : List (List ℕ)). payload ∷ t) b.0,
      a.1 ∙ ap (λ (f : Prefix). after_first f (rest_in (length xs)) xs) h ∙ b.1,
    )

no_frame : (f : Prefix) (n : ℕ) (xs : List ℕ) → IsNoFrame f → (first_and f (payloads_in n) ≡ []) × (after_first f (rest_in n) xs ≡ xs)
no_frame (whole payload left) n xs none = absurd none
no_frame (too_long len) n xs none = (refl, refl)
no_frame unfinished n xs none = (refl, refl)

pub first_none : (xs : List ℕ) → IsNoFrame (prefix xs) → (payloads xs ≡ []) × (rest xs ≡ xs)
unfolding payloads rest
first_none xs none =
    let a = fuel (length xs) (suc (length xs)) xs (omega arith) (omega arith) in
    let b = no_frame (prefix xs) (length xs) xs none in
    (a.0 ∙ b.0, a.1 ∙ b.1)

-- ---- what is left holds no whole frame

last_step : (f : Prefix) (n : ℕ) (xs : List ℕ) → prefix xs ≡ f → length xs ≤ suc n → ((ys : List ℕ) → length ys ≤ n → IsNoFrame (prefix (rest ys))) → IsNoFrame (prefix (rest xs))
last_step unfinished n xs is a more =
    let none : IsNoFrame (prefix xs) = subst IsNoFrame (sym is) tt in
    subst (λ (t : List ℕ). IsNoFrame (prefix t)) (sym (first_none xs none).1) none
last_step (too_long len) n xs is a more =
    let none : IsNoFrame (prefix xs) = subst IsNoFrame (sym is) tt in
    subst (λ (t : List ℕ). IsNoFrame (prefix t)) (sym (first_none xs none).1) none
last_step (whole payload left) n xs is a more =
    let short = prefix_shorter xs payload left is in
    subst (λ (t : List ℕ). IsNoFrame (prefix t)) (sym (first_whole xs payload left is).1) (more left (omega (arith, short)))

last_in : (n : ℕ) (xs : List ℕ) → length xs ≤ n → IsNoFrame (prefix (rest xs))
last_in zero [] a =
    let none : IsNoFrame (prefix []) = subst IsNoFrame (sym prefix_nil) tt in
    subst (λ (t : List ℕ). IsNoFrame (prefix t)) (sym (first_none [] none).1) none
last_in zero (x ∷ xs) a = absurd (omega arith)
last_in (suc n) xs a = last_step (prefix xs) n xs refl a (last_in n)

pub nothing_left : (xs : List ℕ) → IsNoFrame (prefix (rest xs))
nothing_left xs = last_in (length xs) xs (omega arith)

-- ---- a stream and what comes after it

abbrev Grows : List ℕ → List ℕ → Type 0
Grows xs ys = (payloads (xs ++ ys) ≡ payloads xs ++ payloads (rest xs ++ ys)) × (rest (xs ++ ys) ≡ rest (rest xs ++ ys))

grows_none : (xs ys : List ℕ) → IsNoFrame (prefix xs) → Grows xs ys
grows_none xs ys none =
    let e = first_none xs none in (
      ap (λ (t : List ℕ). payloads (t ++ ys)) (sym e.1) ∙ ap (λ (t : List (List ℕ)). t ++ payloads (rest xs ++ ys)) (sym e.0),
      ap (λ (t : List ℕ). rest (t ++ ys)) (sym e.1),
    )

grows_step : (f : Prefix) (n : ℕ) (xs ys : List ℕ) → prefix xs ≡ f → length xs ≤ suc n → ((zs : List ℕ) → length zs ≤ n → Grows zs ys) → Grows xs ys
grows_step unfinished n xs ys is a more = grows_none xs ys (subst IsNoFrame (sym is) tt)
grows_step (too_long len) n xs ys is a more = grows_none xs ys (subst IsNoFrame (sym is) tt)
grows_step (whole payload left) n xs ys is a more =
    let short = prefix_shorter xs payload left is in
    let e = first_whole xs payload left is in
    let f = first_whole (xs ++ ys) payload (left ++ ys) (whole_grows xs ys payload left is) in
    let k = more left (omega (arith, short)) in (
      f.0 ∙ ap (λ (t : List (List ℕ)). payload ∷ t) k.0 ∙ ap (λ (t : List (List ℕ)). t ++ payloads (rest left ++ ys)) (sym e.0) ∙ ap (λ (t : List ℕ). payloads xs ++ payloads (t ++ ys)) (sym e.1),
      f.1 ∙ k.1 ∙ ap (λ (t : List ℕ). rest (t ++ ys)) (sym e.1),
    )

grows_in : (n : ℕ) (ys xs : List ℕ) → length xs ≤ n → Grows xs ys
grows_in zero ys [] a = grows_none [] ys (subst IsNoFrame (sym prefix_nil) tt)
grows_in zero ys (x ∷ xs) a = absurd (omega arith)
grows_in (suc n) ys xs a = grows_step (prefix xs) n xs ys refl a (grows_in n ys)

pub grows : (xs ys : List ℕ) → Grows xs ys
grows xs ys = grows_in (length xs) ys xs (omega arith)

-- ---- frames that are sent

-- The length that stands at the start.
pub prefix_head : (xs head bytes : List ℕ) → xs ≡ head ++ bytes → length head ≡ 4 → prefix xs ≡ after_length (from_be_bytes w32 head) bytes
unfolding prefix
prefix_head xs [] bytes e long = absurd (omega arith)
prefix_head xs (a ∷ []) bytes e long = absurd (omega arith)
prefix_head xs (a ∷ b ∷ []) bytes e long = absurd (omega arith)
prefix_head xs (a ∷ b ∷ c ∷ []) bytes e long = absurd (omega arith)
prefix_head xs (a ∷ b ∷ c ∷ d ∷ []) bytes e long =
    let len : ((a * 256 + b) * 256 + c) * 256 + d ≡ from_be_bytes w32 (a ∷ b ∷ c ∷ d ∷ []) = omega arith in
    ap prefix e ∙ ap (λ (n : ℕ). after_length n bytes) len
prefix_head xs (a ∷ b ∷ c ∷ d ∷ f ∷ head) bytes e long = absurd (omega arith)

-- Fewer bytes than a length has.
pub prefix_short : (xs : List ℕ) → length xs < 4 → prefix xs ≡ unfinished
unfolding prefix
prefix_short [] short = refl
prefix_short (a ∷ []) short = refl
prefix_short (a ∷ b ∷ []) short = refl
prefix_short (a ∷ b ∷ c ∷ []) short = refl
prefix_short (a ∷ b ∷ c ∷ d ∷ bytes) short = absurd (omega arith)

-- A length at the start, and what stands after it.
pub record Headed (xs bytes : List ℕ) (len : ℕ) : Type 0 where
  pub is : prefix xs ≡ after_length len bytes

pub headed : (xs slice head bytes : List ℕ) (len : ℕ) → slice ≡ xs → (head ≡ take 4 slice) × (bytes ≡ drop 4 slice) × (length bytes + 4 ≡ length slice) → len ≡ from_be_bytes w32 head → Headed xs bytes len
headed xs slice head bytes len same cases says =
    let parts : slice ≡ head ++ bytes = sym (take-append-drop 4 slice) ∙ ap (λ (h : List ℕ). h ++ drop 4 slice) (sym cases.0) ∙ ap (λ (b : List ℕ). head ++ b) (sym cases.1) in
    let long : length head ≡ 4 = ap length cases.0 ∙ length-take-le 4 slice (omega (arith, cases.2)) in
    record { is = prefix_head xs head bytes (sym same ∙ parts) long ∙ ap (λ (n : ℕ). after_length n bytes) (sym says) }

pub headed_long : (xs bytes : List ℕ) (len : ℕ) → Headed xs bytes len → frame_limit < len → prefix xs ≡ too_long len
headed_long xs bytes len there over =
    let long : nat_lt frame_limit len ≡ true = grind (arith, nat_tests) in
    there.is ∙ rw long refl

pub headed_short : (xs bytes : List ℕ) (len : ℕ) → Headed xs bytes len → len ≤ frame_limit → length bytes < len → prefix xs ≡ unfinished
headed_short xs bytes len there within few =
    let not_long : nat_lt frame_limit len ≡ false = grind (arith, nat_tests) in
    let short : nat_lt (length bytes) len ≡ true = grind (arith, nat_tests) in
    there.is ∙ rw (not_long, short) refl

pub headed_whole : (xs bytes : List ℕ) (len : ℕ) → Headed xs bytes len → len ≤ frame_limit → len ≤ length bytes → prefix xs ≡ whole (take len bytes) (drop len bytes)
headed_whole xs bytes len there within enough =
    let not_long : nat_lt frame_limit len ≡ false = grind (arith, nat_tests) in
    let not_short : nat_lt (length bytes) len ≡ false = grind (arith, nat_tests) in
    there.is ∙ rw (not_long, not_short) refl

after_whole : (payload more : List ℕ) → length payload ≤ frame_limit → after_length (length payload) (payload ++ more) ≡ whole payload more
after_whole payload more within =
    let not_long : nat_lt frame_limit (length payload) ≡ false = grind (arith, nat_tests) in
    let there : nat_lt (length (payload ++ more)) (length payload) ≡ false = grind (arith, nat_tests, length-append payload more) in
    rw (not_long, there, take-append_seam payload more, drop-append_seam payload more) refl

pub framed_back : (payload more : List ℕ) → length payload ≤ frame_limit → prefix (framed payload ++ more) ≡ whole payload more
framed_back payload more within =
    prefix_head (framed payload ++ more) (to_be_bytes w32 (length payload)) (payload ++ more) refl refl
    ∙ ap (λ (n : ℕ). after_length n (payload ++ more)) (from_be_bytes-to_be_bytes_4 (length payload) (omega (arith, within)))
    ∙ after_whole payload more within

payload_of : Prefix → List ℕ
payload_of (whole payload left) = payload
payload_of (too_long len) = []
payload_of unfinished = []

left_of : Prefix → List ℕ
left_of (whole payload left) = left
left_of (too_long len) = []
left_of unfinished = []

pub one_frame : (a b x y : List ℕ) → length a ≤ frame_limit → length b ≤ frame_limit → framed a ++ x ≡ framed b ++ y → (a ≡ b) × (x ≡ y)
unfolding payload_of left_of
one_frame a b x y in_a in_b e =
    let same : whole a x ≡ whole b y = sym (framed_back a x in_a) ∙ ap prefix e ∙ framed_back b y in_b in
    (ap payload_of same, ap left_of same)
