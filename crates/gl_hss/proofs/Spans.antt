-- Which text stands between two places of a string.
use Rattle.std.proofs.Common.{◌≡◌, ℕ, ◌+◌, ◌-◌, ◌^◌, ◌<◌, ◌≤◌, List, ◌++◌, length, get_or, take, drop, refl, sym, ap, subst, ◌∙◌, append_assoc, arith, inl, inr}
use Rattle.std.proofs.lemmas.Bool.{cases_lt}
use Rattle.std.proofs.lemmas.List.{take_at, drop_at, drop_all, append-nil, take-append-drop, length-append, length-take, length-drop, drop-drop, drop-take, take-take, get_or-drop, get_or-take, get_or_past}
use Rattle.std.proofs.lemmas.Nat.{be_bytes_4, from_be_bytes-to_be_bytes_4}
use Rattle.std.specs.Int.{w32, from_be_bytes}
use Rattle.gl_hss.specs.Bytes.{u32str, number_at, bytes_at}

-- each item is a byte
abbrev pub IsBytes : List ℕ → Type 0
IsBytes s = (i : ℕ) → get_or s i 0 < 256

bytes_at-fits : (s : List ℕ) (at n : ℕ) → IsBytes s → IsBytes (bytes_at s at n)
bytes_at-fits s at n h i =
    elim (cases_lt i n) [
      | inl lt ↦ rw (get_or-take n (drop at s) i 0 lt, get_or-drop at s i 0) (h (at + i))
      | inr le ↦ rw (get_or_past (bytes_at s at n) i 0 (omega (arith, length-take n (drop at s)))) (omega arith)
    ]

pub length-bytes_at : (s : List ℕ) (at n : ℕ) → at + n ≤ length s → length (bytes_at s at n) ≡ n
length-bytes_at s at n h = omega (arith, length-take n (drop at s), length-drop at s)

-- the text stands in s from one place to another
pub record Spans (s : List ℕ) (from : ℕ) (text : List ℕ) (to : ℕ) : Type 0 where
  pub parts : drop from s ≡ text ++ drop to s

-- two texts, one after the other
pub Spans-append : (s : List ℕ) (a b c : ℕ) (x y : List ℕ) → Spans s a x b → Spans s b y c → Spans s a (x ++ y) c
Spans-append s a b c x y p q = record {
  parts = p.parts ∙ ap (λ (t : List ℕ). x ++ t) q.parts ∙ sym (append_assoc x y (drop c s));
}

-- the bytes that stand there
pub spans_bytes : (s : List ℕ) (at n to : ℕ) → at + n ≡ to → Spans s at (bytes_at s at n) to
spans_bytes s at n to e = record {
  parts = sym (rw (← e, ← drop-drop n at s) (take-append-drop n (drop at s)));
}

-- the number that stands there
pub spans_number : (s : List ℕ) (at to : ℕ) → IsBytes s → at + 4 ≤ length s → at + 4 ≡ to → Spans s at (u32str (number_at s at)) to
unfolding u32str number_at
spans_number s at to fits room e =
    let encoded = be_bytes_4 (bytes_at s at 4) _ (length-bytes_at s at 4 room) (bytes_at-fits s at 4 fits) refl in
    record { parts = (spans_bytes s at 4 to e).parts ∙ ap (λ (t : List ℕ). t ++ drop to s) (sym encoded) }

-- a text that ends the string
pub spans_all : (s : List ℕ) (x : List ℕ) → Spans s 0 x (length s) → s ≡ x
spans_all s x p = p.parts ∙ ap (λ (t : List ℕ). x ++ t) (drop_all (length s) s (omega arith)) ∙ append-nil x

-- ---- back from the text to what stands there

pub all_spans : (s x : List ℕ) → s ≡ x → Spans s 0 x (length s)
all_spans s x e = record { parts = e ∙ sym (ap (λ (t : List ℕ). x ++ t) (drop_all (length s) s (omega arith)) ∙ append-nil x) }

pub length-Spans : (s : List ℕ) (a b : ℕ) (x : List ℕ) → Spans s a x b → 0 < length x → a + length x ≤ length s
length-Spans s a b x p h = omega (arith, ap length p.parts, length-drop a s, length-append x (drop b s))

pub bytes_at-Spans : (s : List ℕ) (a b n : ℕ) (x : List ℕ) → Spans s a x b → length x ≡ n → bytes_at s a n ≡ x
bytes_at-Spans s a b n x p e = ap (take n) p.parts ∙ take_at x (drop b s) n e

pub spans_left : (s : List ℕ) (a c n : ℕ) (x y : List ℕ) → Spans s a (x ++ y) c → length x ≡ n → Spans s a x (a + n)
spans_left s a c n x y p e = record {
  parts = p.parts ∙ append_assoc x y (drop c s)
      ∙ ap (λ (t : List ℕ). x ++ t) (sym (sym (drop-drop n a s) ∙ ap (drop n) (p.parts ∙ append_assoc x y (drop c s)) ∙ drop_at x (y ++ drop c s) n e));
}

pub spans_right : (s : List ℕ) (a c n : ℕ) (x y : List ℕ) → Spans s a (x ++ y) c → length x ≡ n → Spans s (a + n) y c
spans_right s a c n x y p e = record {
  parts = sym (drop-drop n a s) ∙ ap (drop n) (p.parts ∙ append_assoc x y (drop c s)) ∙ drop_at x (y ++ drop c s) n e;
}

pub length-u32str : (n : ℕ) → length (u32str n) ≡ 4
unfolding u32str
length-u32str n = refl

pub number_at-Spans : (s : List ℕ) (a b n : ℕ) → Spans s a (u32str n) b → n < 2 ^ 32 → number_at s a ≡ n
unfolding u32str number_at
number_at-Spans s a b n p h =
    ap (λ (t : List ℕ). from_be_bytes w32 t) (bytes_at-Spans s a b 4 (u32str n) p refl) ∙ from_be_bytes-to_be_bytes_4 n h

-- the same text, its place written in another way
pub Spans-from : (s : List ℕ) (a b to : ℕ) (x : List ℕ) → a ≡ b → Spans s a x to → Spans s b x to
Spans-from s a b to x e p = subst (λ (n : ℕ). Spans s n x to) e p

-- bytes of a copy of the n bytes from place `at` on
pub bytes_at-bytes_at : (s : List ℕ) (at n from m to : ℕ) → from + m ≤ n → at + from ≡ to → bytes_at (bytes_at s at n) from m ≡ bytes_at s to m
bytes_at-bytes_at s at n from m to h e =
    let rest : from + (n - from) ≡ n = omega arith in
    ap (λ (k : ℕ). take m (drop from (take k (drop at s)))) (sym rest)
    ∙ ap (take m) (drop-take from (n - from) (drop at s))
    ∙ take-take m (n - from) (drop from (drop at s)) (omega arith)
    ∙ ap (take m) (drop-drop from at s)
    ∙ ap (λ (k : ℕ). bytes_at s k m) e

-- the bytes that encode the number that stands there
pub number_encoded : (s : List ℕ) (at : ℕ) → IsBytes s → at + 4 ≤ length s → u32str (number_at s at) ≡ bytes_at s at 4
unfolding u32str number_at
number_encoded s at fits room = be_bytes_4 (bytes_at s at 4) _ (length-bytes_at s at 4 room) (bytes_at-fits s at 4 fits) refl

pub number_read : (s : List ℕ) (at n : ℕ) → bytes_at s at 4 ≡ u32str n → n < 2 ^ 32 → number_at s at ≡ n
unfolding u32str number_at
number_read s at n e h = ap (λ (t : List ℕ). from_be_bytes w32 t) e ∙ from_be_bytes-to_be_bytes_4 n h
