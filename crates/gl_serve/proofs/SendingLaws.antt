-- Lines that are sent one after the other.
use Rattle.std.proofs.Common.{◌≡◌, ℕ, List, [], ◌∷◌, ◌++◌, map, Result, Ok, Err, OnOk, OnErr, refl, sym, ap, ◌∙◌, append_assoc, append-nil, Bool, true, false, subst, ◌<◌, ◌+◌, zero, suc, length, take, drop, get_or, take-append-drop, arith}
use Rattle.std.specs.List.{flat_map}
use Rattle.std.proofs.lemmas.Grind.{flat_map-append}
use Rattle.std.proofs.lemmas.List.{map-append}
use Rattle.gl_outside.specs.Fault.{next_call}
use Rattle.gl_outside.specs.Link.{Arrival, Exchange, Gave, Sent, arrivals}
use Rattle.gl_serve.specs.Doing.{Line}
use Rattle.gl_serve.specs.Outbox.{line_of, counted, Sends, SendsSome}

pub on_err : {T E P : Type 0} → (result : Result T E) → P → OnErr result P
on_err (Ok value) p = tt
on_err (Err e) p = p

pub on_ok_so : {T E P Q : Type 0} → (result : Result T E) → (P → Q) → OnOk result P → OnOk result Q
on_ok_so (Ok value) f p = f p
on_ok_so (Err e) f p = tt

pub on_err_so : {T E P Q : Type 0} → (result : Result T E) → (P → Q) → OnErr result P → OnErr result Q
on_err_so (Ok value) f p = tt
on_err_so (Err e) f p = f p

pub counted-append : (n : ℕ) (xs ys : List Exchange) → counted n (xs ++ ys) ≡ counted (counted n xs) ys
counted-append n [] ys = refl
counted-append n (Gave a ∷ xs) ys = counted-append n xs ys
counted-append n (Sent true c f ∷ xs) ys = counted-append n xs ys
counted-append n (Sent false c f ∷ xs) ys = counted-append (next_call n) xs ys

pub arrivals-append : (xs ys : List Exchange) → arrivals (xs ++ ys) ≡ arrivals xs ++ arrivals ys
arrivals-append [] ys = refl
arrivals-append (Gave a ∷ xs) ys = ap (λ (t : List Arrival). a ∷ t) (arrivals-append xs ys)
arrivals-append (Sent t c f ∷ xs) ys = arrivals-append xs ys

-- Nothing was sent.
pub none_sent : (honest : Bool) (past : List Exchange) (lost : ℕ) → Sends honest past lost past lost []
none_sent honest past lost = record { exchanges = []; history = λ h. sym (append-nil past); sent = refl; counts = refl; came = refl }

-- First these lines, then those.
pub sent_then : (honest : Bool) (before mid after : List Exchange) (l m n : ℕ) (xs ys : List Line) → Sends honest before l mid m xs → Sends honest mid m after n ys → Sends honest before l after n (xs ++ ys)
sent_then honest before mid after l m n xs ys p q = record {
  exchanges = p.exchanges ++ q.exchanges;
  history = λ h. q.history h ∙ ap (λ (t : List Exchange). t ++ q.exchanges) (p.history h) ∙ append_assoc before p.exchanges q.exchanges;
  sent = map-append line_of p.exchanges q.exchanges ∙ ap (λ (t : List Line). t ++ map line_of q.exchanges) p.sent ∙ ap (λ (t : List Line). xs ++ t) q.sent;
  counts = q.counts ∙ ap (λ (k : ℕ). counted k q.exchanges) p.counts ∙ sym (counted-append l p.exchanges q.exchanges);
  came = arrivals-append p.exchanges q.exchanges ∙ ap (λ (t : List Arrival). t ++ arrivals q.exchanges) p.came ∙ q.came;
}

-- The same lines, written otherwise.
pub sent_is : (honest : Bool) (before after : List Exchange) (l n : ℕ) (xs ys : List Line) → xs ≡ ys → Sends honest before l after n xs → Sends honest before l after n ys
sent_is honest before after l n xs ys same p = subst (λ (t : List Line). Sends honest before l after n t) same p

-- These lines, and nothing of those after them.
pub sent_prefix : (honest : Bool) (before after : List Exchange) (l n : ℕ) (xs ys all : List Line) → all ≡ xs ++ ys → Sends honest before l after n xs → SendsSome honest before l after n all
sent_prefix honest before after l n xs ys all is p = (xs, ys, is, p)

-- Some of these lines, and nothing of those after them.
pub some_more : (honest : Bool) (before after : List Exchange) (l n : ℕ) (xs ys all : List Line) → all ≡ xs ++ ys → SendsSome honest before l after n xs → SendsSome honest before l after n all
some_more honest before after l n xs ys all is p = (p.0, p.1 ++ ys, is ∙ ap (λ (t : List Line). t ++ ys) p.2 ∙ append_assoc p.0 p.1 ys, p.3)

-- These lines, and then nothing more.
pub sent_no_more : (honest : Bool) (before mid after : List Exchange) (l m n : ℕ) (xs : List Line) → Sends honest before l mid m xs → Sends honest mid m after n [] → Sends honest before l after n xs
sent_no_more honest before mid after l m n xs p q = sent_is honest before after l n (xs ++ []) xs (append-nil xs) (sent_then honest before mid after l m n xs [] p q)

-- The lines of the elements of a list, up to the next one.
pub flat_next : {X : Type 0} (f : X → List Line) (xs : List X) (i : ℕ) (x : X) → i < length xs → x ≡ get_or xs i x → flat_map f (take (i + 1) xs) ≡ flat_map f (take i xs) ++ f x
flat_next f [] i x within is = absurd (omega arith)
flat_next f (y ∷ ys) zero x within is = append-nil (f y) ∙ ap f (sym is)
flat_next {X} f (y ∷ ys) (suc i) x within is =
    let e : suc i + 1 ≡ suc (i + 1) = omega arith in
    ap (λ (k : ℕ). flat_map f (take k (y ∷ ys))) e
    ∙ ap (λ (t : List Line). f y ++ t) (flat_next f ys i x (omega arith) is) ∙ sym (append_assoc (f y) (flat_map f (take i ys)) (f x))

pub flat_parts : {X : Type 0} (f : X → List Line) (xs : List X) (i : ℕ) → flat_map f xs ≡ flat_map f (take i xs) ++ flat_map f (drop i xs)
flat_parts f xs i = ap (flat_map f) (sym (take-append-drop i xs)) ∙ flat_map-append f (take i xs) (drop i xs)
