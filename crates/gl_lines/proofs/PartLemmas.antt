-- Taking a text apart, part by part.
use Rattle.std.proofs.Common.{◌≡◌, ℕ, ◌+◌, ◌<◌, ◌≤◌, List, [], ◌∷◌, ◌++◌, length, take, drop, get_or, Bool, true, false, refl, sym, ◌∙◌, ap, arith, append_assoc, append-nil, add-one, drop-cons, if◌then◌else◌, ◌≢◌, ⊎_elim}
use Rattle.std.proofs.Math.Dec.{eqb}
use Rattle.std.proofs.lemmas.Bool.{eq-eqb}
use Rattle.std.proofs.lemmas.Bool.Decides.{eqb_tells}
use Rattle.std.proofs.lemmas.List.{take_more, take_all, drop-append-le, length-take-le}
use Rattle.std.proofs.Math.ListN.{drop_of_length-le}
use Rattle.gl_lines.specs.Lines.{Split, with_line, is_byte}
use Rattle.gl_lines.specs.Words.{words_from, is_space}
use Rattle.gl_lines.specs.Parts.{parts_from}

-- the parts that were found, and those to be found
abbrev pub with_parts : List (List ℕ) → Split → Split
with_parts prefix split = record { lines = prefix ++ split.lines; open_line = split.open_line }

with_one_more : (prefix : List (List ℕ)) (part : List ℕ) (split : Split) → with_parts prefix (with_line part split) ≡ with_parts (prefix ++ part ∷ []) split
with_one_more prefix part split = ap (λ (parts : List (List ℕ)). record { lines = parts; open_line = split.open_line }) (sym (append_assoc prefix (part ∷ []) split.lines))

-- the byte ends the part
part_ends : (end : ℕ) (prefix : List (List ℕ)) (part : List ℕ) (byte : ℕ) (bytes : List ℕ) → is_byte end byte ≡ true →
    with_parts prefix (parts_from end part (byte ∷ bytes)) ≡ with_parts (prefix ++ part ∷ []) (parts_from end [] bytes)
part_ends end prefix part byte bytes e =
    ap (λ (b : Bool). with_parts prefix (if b then with_line part (parts_from end [] bytes) else parts_from end (part ++ byte ∷ []) bytes)) e
    ∙ with_one_more prefix part (parts_from end [] bytes)

-- any other byte is one more of the part
part_goes_on : (end : ℕ) (prefix : List (List ℕ)) (part : List ℕ) (byte : ℕ) (bytes : List ℕ) → is_byte end byte ≡ false →
    with_parts prefix (parts_from end part (byte ∷ bytes)) ≡ with_parts prefix (parts_from end (part ++ byte ∷ []) bytes)
part_goes_on end prefix part byte bytes e =
    ap (λ (b : Bool). with_parts prefix (if b then with_line part (parts_from end [] bytes) else parts_from end (part ++ byte ∷ []) bytes)) e

is_byte_true : (end byte : ℕ) → byte ≡ end → is_byte end byte ≡ true
is_byte_true end byte e = eq-eqb byte end e

is_byte_false : (end byte : ℕ) → (byte ≡ end → ⊥) → is_byte end byte ≡ false
is_byte_false end byte n = ⊎_elim
    (λ (t : (eqb byte end ≡ true) × (byte ≡ end)). absurd (n t.1))
    (λ (f : (eqb byte end ≡ false) × (byte ≢ end)). f.0)
    (eqb_tells byte end)

-- one turn at the byte, which ends the part that began at a place
pub end_step : (end : ℕ) (R : Split) (prefix prefix' : List (List ℕ)) (text : List ℕ) (start start' i : ℕ) →
    i < length text → get_or text i 0 ≡ end → start' ≡ i + 1 → prefix' ≡ prefix ++ drop start (take i text) ∷ [] →
    with_parts prefix (parts_from end (drop start (take i text)) (drop i text)) ≡ R →
    with_parts prefix' (parts_from end (drop start' (take (i + 1) text)) (drop (i + 1) text)) ≡ R
end_step end R prefix prefix' text start start' i within at begun taken so_far =
    let here : drop i text ≡ get_or text i 0 ∷ drop (i + 1) text = rw add-one (drop-cons text i 0 within) in
    ap (λ (f : List (List ℕ)). with_parts f (parts_from end (drop start' (take (i + 1) text)) (drop (i + 1) text))) taken
    ∙ ap (λ (l : List ℕ). with_parts (prefix ++ drop start (take i text) ∷ []) (parts_from end l (drop (i + 1) text)))
    (ap (λ (n : ℕ). drop n (take (i + 1) text)) begun ∙ drop_of_length-le (take (i + 1) text) (omega (arith, length-take-le (i + 1) text)))
    ∙ sym (part_ends end prefix (drop start (take i text)) (get_or text i 0) (drop (i + 1) text) (is_byte_true end _ at))
    ∙ ap (λ (d : List ℕ). with_parts prefix (parts_from end (drop start (take i text)) d)) (sym here)
    ∙ so_far

-- one turn at any other byte
pub other_step : (end : ℕ) (R : Split) (prefix : List (List ℕ)) (text : List ℕ) (start i : ℕ) →
    i < length text → (get_or text i 0 ≡ end → ⊥) → start ≤ i →
    with_parts prefix (parts_from end (drop start (take i text)) (drop i text)) ≡ R →
    with_parts prefix (parts_from end (drop start (take (i + 1) text)) (drop (i + 1) text)) ≡ R
other_step end R prefix text start i within at begun so_far =
    let here : drop i text ≡ get_or text i 0 ∷ drop (i + 1) text = rw add-one (drop-cons text i 0 within) in
    let len : length (take i text) ≡ i = length-take-le i text (omega arith) in
    ap (λ (l : List ℕ). with_parts prefix (parts_from end l (drop (i + 1) text)))
    (ap (λ (t : List ℕ). drop start t) (take_more text i 0 within) ∙ drop-append-le start (take i text) (get_or text i 0 ∷ []) (omega arith))
    ∙ sym (part_goes_on end prefix (drop start (take i text)) (get_or text i 0) (drop (i + 1) text) (is_byte_false end _ at))
    ∙ ap (λ (d : List ℕ). with_parts prefix (parts_from end (drop start (take i text)) d)) (sym here)
    ∙ so_far

-- and at the end of the text the part that has begun is open
pub last_step : (end : ℕ) (R : Split) (prefix : List (List ℕ)) (text : List ℕ) (start i : ℕ) → length text ≤ i →
    with_parts prefix (parts_from end (drop start (take i text)) (drop i text)) ≡ R → R ≡ record { lines = prefix; open_line = drop start text }
last_step end R prefix text start i past so_far =
    sym so_far
    ∙ ap (λ (d : List ℕ). with_parts prefix (parts_from end (drop start (take i text)) d)) (drop_of_length-le text past)
    ∙ ap (λ (t : List ℕ). with_parts prefix (parts_from end (drop start t) [])) (take_all i text past)
    ∙ ap (λ (parts : List (List ℕ)). record { lines = parts; open_line = drop start text }) (append-nil prefix)

-- the words of a line are the parts that a space ends, and the last
abbrev pub all_parts : Split → List (List ℕ)
all_parts split = split.lines ++ split.open_line ∷ []

all_parts_cond : (b : Bool) (word : List ℕ) (s t : Split) → all_parts (if b then with_line word s else t) ≡ (if b then word ∷ all_parts s else all_parts t)
all_parts_cond true word s t = refl
all_parts_cond false word s t = refl

pub words_are_parts : (word text : List ℕ) → words_from word text ≡ all_parts (parts_from 32 word text)
words_are_parts word [] = refl
words_are_parts word (byte ∷ bytes) =
    ap (λ (ws : List (List ℕ)). if is_space byte then word ∷ ws else words_from (word ++ byte ∷ []) bytes) (words_are_parts [] bytes)
    ∙ ap (λ (ws : List (List ℕ)). if is_space byte then word ∷ all_parts (parts_from 32 [] bytes) else ws) (words_are_parts (word ++ byte ∷ []) bytes)
    ∙ sym (all_parts_cond (is_space byte) word (parts_from 32 [] bytes) (parts_from 32 (word ++ byte ∷ []) bytes))
