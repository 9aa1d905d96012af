-- Prefixes of a text, one after the other.
use Rattle.std.proofs.Common.{◌≡◌, ℕ, ◌+◌, List, ◌++◌, Option, subst, refl, [], sym, ap, ◌∙◌, append_assoc, append-nil, take, drop, take-append-drop}
use Rattle.std.specs.Io.KnownBytes.{Appends}
use Rattle.std.proofs.KnownBytes.{Appends-nil, Appends-trans}
use Rattle.std.proofs.Math.Seq.{take-add}
use Rattle.gl_outside.specs.Sink.{Begins, AppendsPrefix}

-- A text begins with nothing and with the whole of itself, and what is whole may be followed.
pub Begins-append : (xs ys : List ℕ) → Begins (xs ++ ys) xs
Begins-append xs ys = (ys, refl)

-- first a whole text, and then a prefix of the next
pub prefix_after : (a b c : Option (List ℕ)) (xs ys : List ℕ) → Appends a b xs → AppendsPrefix b c ys → AppendsPrefix a c (xs ++ ys)
prefix_after a b c xs ys p q = (xs ++ q.0, (q.1.0, ap (λ (t : List ℕ). xs ++ t) q.1.1 ∙ sym (append_assoc xs q.0 q.1.0)), Appends-trans a b c xs q.0 p q.2)

-- a prefix of a text is one of a longer text
pub prefix_before : (a b : Option (List ℕ)) (xs ys : List ℕ) → AppendsPrefix a b xs → AppendsPrefix a b (xs ++ ys)
prefix_before a b xs ys p = (p.0, (p.1.0 ++ ys, ap (λ (t : List ℕ). t ++ ys) p.1.1 ∙ append_assoc p.0 p.1.0 ys), p.2)

-- a whole text is a prefix of itself
pub prefix_whole : (a b : Option (List ℕ)) (xs : List ℕ) → Appends a b xs → AppendsPrefix a b xs
prefix_whole a b xs p = (xs, ([], sym (append-nil xs)), p)

-- what was kept grew by a prefix of any text
pub prefix_none : (a : Option (List ℕ)) (xs : List ℕ) → AppendsPrefix a a xs
prefix_none a xs = ([], (xs, refl), Appends-nil a)

-- the first n bytes are a prefix
pub prefix_take : (a b : Option (List ℕ)) (n : ℕ) (xs : List ℕ) → Appends a b (take n xs) → AppendsPrefix a b xs
prefix_take a b n xs p = (take n xs, (drop n xs, sym (take-append-drop n xs)), p)

-- n bytes of a text, and then m of the rest
pub took_more : (a b c : Option (List ℕ)) (n m : ℕ) (xs rest : List ℕ) → rest ≡ drop n xs → Appends a b (take n xs) → Appends b c (take m rest) → Appends a c (take (n + m) xs)
took_more a b c n m xs rest e p q =
    let r : Appends b c (take m (drop n xs)) = subst (λ (t : List ℕ). Appends b c (take m t)) e q in
    subst (λ (t : List ℕ). Appends a c t) (sym (take-add n m xs)) (Appends-trans a b c (take n xs) (take m (drop n xs)) p r)
