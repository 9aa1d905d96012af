-- The levels of a frontier: what a node more, a cut and a base leave, and what is read from them.
use Rattle.std.proofs.Common.{◌≡◌, ℕ, zero, suc, ◌+◌, ◌*◌, ◌-◌, ◌/◌, ◌%◌, ◌^◌, ◌<◌, ◌≤◌, List, [], ◌∷◌, ◌++◌, Option, Some, None, option_to_list, length, take, drop, get_or, refl, sym, ap, ap₂, ◌∙◌, arith, length-drop, length-append, append-nil, inl, inr}
use Rattle.std.proofs.Math.Nat.{pow-suc}
use Rattle.std.proofs.lemmas.Bool.{cases_lt, cases_eq, eq-eqb, ne_eqb, lt-ltb, le-ltb}
use Rattle.std.proofs.lemmas.List.{length-take-le, get_or-take, get_or-drop, drop-append-le, drop-take, get_or_append_left, get_or_at, take_at}
use Rattle.gl_merkle.specs.Tree.{inner_of}
use Rattle.gl_merkle.specs.Path.{path_within}
use Rattle.gl_merkle.specs.Peaks.{peaks_within}
use Rattle.gl_merkle.specs.Levels.{pairs_of, AreSized, Cover, with_node, cut_to, base_levels, last_node, over_tail, next_tail, past_tail, step_at, steps_of}
use Rattle.gl_merkle.proofs.PairLemmas.{pair_all, length-pairs, length-pair_all, pairs_of-take, step_in, path_within-pairs}
use Rattle.gl_merkle.proofs.PeakLemmas.{unpaired-even, unpaired-odd, drop-unpaired, peaks_within-pairs}

-- ---- one node more

pub pairs_of-push_even : (ls : List (List ℕ)) (x : List ℕ) → length ls % 2 ≡ 0 → pairs_of (ls ++ x ∷ []) ≡ pairs_of ls
pairs_of-push_even [] x e = refl
pairs_of-push_even (y ∷ []) x e = absurd (omega arith)
pairs_of-push_even (y ∷ z ∷ ls) x e = ap (λ r. inner_of y z ∷ r) (pairs_of-push_even ls x (omega arith))

pub pairs_of-push_odd : (ls : List (List ℕ)) (x : List ℕ) → length ls % 2 ≡ 1 → pairs_of (ls ++ x ∷ []) ≡ pairs_of ls ++ inner_of (get_or ls (length ls - 1) []) x ∷ []
pairs_of-push_odd [] x e = absurd (omega arith)
pairs_of-push_odd (y ∷ []) x e = refl
pairs_of-push_odd (y ∷ z ∷ ls) x e =
    let some : suc (suc (length ls)) - 1 ≡ suc (suc (length ls - 1)) = omega arith in
    rw some (ap (λ r. inner_of y z ∷ r) (pairs_of-push_odd ls x (omega arith)))

pub Cover-with_node : (rs : List (List (List ℕ))) (b : ℕ) (ls : List (List ℕ)) (x : List ℕ) → b ≤ length ls → Cover b rs ls → Cover b (with_node rs x) (ls ++ x ∷ [])
Cover-with_node [] b ls x le h = tt
Cover-with_node (r ∷ rs) b ls x le h =
    let size = ap length h.0 ∙ length-drop (b / 2 * 2) ls in
    let up = length-pairs ls in
    let here = ap (λ (s : List (List ℕ)). s ++ x ∷ []) h.0 ∙ sym (drop-append-le (b / 2 * 2) ls (x ∷ []) (omega arith)) in
    elim (cases_eq (length r % 2) 0) [
      | inl even ↦ (here, rw (eq-eqb _ _ even, pairs_of-push_even ls x (omega arith)) h.1)
      | inr odd ↦ (
          let at : b / 2 * 2 + (length r - 1) ≡ length ls - 1 = omega arith in
          let last : get_or r (length r - 1) [] ≡ get_or ls (length ls - 1) [] =
          ap (λ (s : List (List ℕ)). get_or s (length r - 1) []) h.0 ∙ get_or-drop (b / 2 * 2) ls (length r - 1) [] ∙ ap (λ k. get_or ls k []) at in
          (here, rw (ne_eqb _ _ odd, pairs_of-push_odd ls x (omega arith), last) (Cover-with_node rs (b / 2) (pairs_of ls) _ (omega arith) h.1)))
    ]

pub AreSized-with_node : (rs : List (List (List ℕ))) (b n : ℕ) (x : List ℕ) → AreSized b n rs → AreSized b (n + 1) (with_node rs x)
AreSized-with_node [] b n x h = tt
AreSized-with_node (r ∷ rs) b n x h =
    let size = length-append r (x ∷ []) in
    elim (cases_eq (length r % 2) 0) [
      | inl even ↦ (
          let same : (n + 1) / 2 ≡ n / 2 = omega arith in
          (omega arith, rw (eq-eqb _ _ even, same) h.1))
      | inr odd ↦ (
          let next : (n + 1) / 2 ≡ n / 2 + 1 = omega arith in
          (omega arith, rw (ne_eqb _ _ odd, next) (AreSized-with_node rs (b / 2) (n / 2) _ h.1)))
    ]

-- ---- a cut

pub Cover-cut_to : (rs : List (List (List ℕ))) (b n : ℕ) (ls : List (List ℕ)) → b ≤ n → Cover b rs ls → Cover b (cut_to b n rs) (take n ls)
Cover-cut_to [] b n ls le h = tt
Cover-cut_to (r ∷ rs) b n ls le h =
    let whole : b / 2 * 2 + (n - b / 2 * 2) ≡ n = omega arith in
    let cut = drop-take (b / 2 * 2) (n - b / 2 * 2) ls in (
      ap (take (n - b / 2 * 2)) h.0 ∙ sym cut ∙ ap (λ k. drop (b / 2 * 2) (take k ls)) whole,
      rw (pairs_of-take n ls) (Cover-cut_to rs (b / 2) (n / 2) (pairs_of ls) (omega arith) h.1),
    )

pub AreSized-cut_to : (rs : List (List (List ℕ))) (b m n : ℕ) → b ≤ n → n ≤ m → AreSized b m rs → AreSized b n (cut_to b n rs)
AreSized-cut_to [] b m n low high h = tt
AreSized-cut_to (r ∷ rs) b m n low high h =
    let size = length-take-le (n - b / 2 * 2) r (omega (arith, h.0)) in
    (omega arith, AreSized-cut_to rs (b / 2) (m / 2) (n / 2) (omega arith) (omega arith) h.1)

-- ---- a base

pub last_of-push : (ps qs : List (List ℕ)) (z : List ℕ) → ps ≡ qs ++ z ∷ [] → (get_or ps (length ps - 1) [] ≡ z) × (take (length ps - 1) ps ≡ qs)
last_of-push ps qs z e =
    let size : length qs ≡ length ps - 1 = omega (arith, ap length e, length-append qs (z ∷ [])) in (
      ap (λ (r : List (List ℕ)). get_or r (length ps - 1) []) e ∙ get_or_at qs z [] [] (length ps - 1) size,
      ap (take (length ps - 1)) e ∙ take_at qs (z ∷ []) (length ps - 1) size,
    )

pub Cover-base_levels : (k b : ℕ) (ps ls : List (List ℕ)) → length ls ≡ b → b < 2 ^ k → peaks_within k ls ≡ ps → Cover b (base_levels k b ps) ls
unfolding base_levels
Cover-base_levels zero b ps ls size fits peaks = tt
Cover-base_levels (suc k) b ps ls size fits peaks =
    let two = pow-suc 2 k in
    let up = length-pairs ls in
    let split = sym peaks ∙ peaks_within-pairs k ls (omega arith) in
    let rest = ap (λ n. drop (n / 2 * 2) ls) (sym size) ∙ drop-unpaired ls in
    elim (cases_eq (b % 2) 0) [
      | inl even ↦ (
          let alone = unpaired-even ls (omega arith) in
          let same : peaks_within k (pairs_of ls) ≡ ps = sym (split ∙ rw alone (append-nil (peaks_within k (pairs_of ls)))) in
          rw (eq-eqb _ _ even) (sym (rest ∙ alone), Cover-base_levels k (b / 2) ps (pairs_of ls) (omega arith) (omega arith) same))
      | inr odd ↦ (
          let last = unpaired-odd ls (omega arith) in
          let ends = last_of-push ps (peaks_within k (pairs_of ls)) (get_or ls (length ls - 1) []) (split ∙ ap (λ (r : List (List ℕ)). peaks_within k (pairs_of ls) ++ r) last) in
          rw (ne_eqb _ _ odd) (rw ends.0 (sym (rest ∙ last)), Cover-base_levels k (b / 2) (take (length ps - 1) ps) (pairs_of ls) (omega arith) (omega arith) (sym ends.1)))
    ]

pub AreSized-base_levels : (k b : ℕ) (ps : List (List ℕ)) → AreSized b b (base_levels k b ps)
unfolding base_levels
AreSized-base_levels zero b ps = tt
AreSized-base_levels (suc k) b ps =
    elim (cases_eq (b % 2) 0) [
      | inl even ↦ rw (eq-eqb _ _ even) (omega arith, AreSized-base_levels k (b / 2) ps)
      | inr odd ↦ rw (ne_eqb _ _ odd) (omega arith, AreSized-base_levels k (b / 2) (take (length ps - 1) ps))
    ]

pub base_levels-even : (k b : ℕ) (ps : List (List ℕ)) → b % 2 ≡ 0 → base_levels (suc k) b ps ≡ [] ∷ base_levels k (b / 2) ps
unfolding base_levels
base_levels-even k b ps even = rw (eq-eqb _ _ even)

pub base_levels-odd : (k b : ℕ) (ps : List (List ℕ)) → b % 2 ≡ 1 → base_levels (suc k) b ps ≡ (get_or ps (length ps - 1) [] ∷ []) ∷ base_levels k (b / 2) (take (length ps - 1) ps)
unfolding base_levels
base_levels-odd k b ps odd = rw (ne_eqb (b % 2) 0 (λ q. omega arith))

-- ---- what is read

-- the incomplete node after these, with the one after the nodes of this level
carry : List (List ℕ) → Option (List ℕ) → Option (List ℕ)
carry [] t = t
carry (x ∷ []) t = Some (over_tail x t)
carry (x ∷ y ∷ rest) t = carry rest t

pair_all-tail : (ls : List (List ℕ)) (t : Option (List ℕ)) → pair_all (ls ++ option_to_list t) ≡ pairs_of ls ++ option_to_list (carry ls t)
unfolding carry
pair_all-tail [] None = refl
pair_all-tail [] (Some x) = refl
pair_all-tail (y ∷ []) None = refl
pair_all-tail (y ∷ []) (Some x) = refl
pair_all-tail (y ∷ z ∷ ls) t = ap (λ r. inner_of y z ∷ r) (pair_all-tail ls t)

carry-even : (ls : List (List ℕ)) (t : Option (List ℕ)) → length ls % 2 ≡ 0 → carry ls t ≡ t
unfolding carry
carry-even [] t e = refl
carry-even (x ∷ []) t e = absurd (omega arith)
carry-even (x ∷ y ∷ ls) t e = carry-even ls t (omega arith)

carry-odd : (ls : List (List ℕ)) (t : Option (List ℕ)) → length ls % 2 ≡ 1 → carry ls t ≡ Some (over_tail (get_or ls (length ls - 1) []) t)
unfolding carry
carry-odd [] t e = absurd (omega arith)
carry-odd (x ∷ []) t e = refl
carry-odd (x ∷ y ∷ ls) t e = let some : suc (suc (length ls)) - 1 ≡ suc (suc (length ls - 1)) = omega arith in rw some (carry-odd ls t (omega arith))

-- the node at a place from the base on, as the level has it
pub at_level : (r ls : List (List ℕ)) (b k : ℕ) → r ≡ drop (b / 2 * 2) ls → b / 2 * 2 ≤ k → get_or r (k - b / 2 * 2) [] ≡ get_or ls k []
at_level r ls b k e le =
    let at : b / 2 * 2 + (k - b / 2 * 2) ≡ k = omega arith in
    ap (λ (s : List (List ℕ)). get_or s (k - b / 2 * 2) []) e ∙ get_or-drop (b / 2 * 2) ls (k - b / 2 * 2) [] ∙ ap (λ i. get_or ls i []) at

-- the last of the first n nodes, as the level has it
pub last-at_level : (r ls : List (List ℕ)) (b n : ℕ) → r ≡ drop (b / 2 * 2) ls → b ≤ n → n ≤ length ls → n % 2 ≡ 1 → last_node r b n ≡ get_or (take n ls) (length (take n ls) - 1) []
last-at_level r ls b n e low high odd =
    let size = length-take-le n ls high in
    at_level r ls b (n - 1) e (omega arith) ∙ sym (get_or-take n ls (n - 1) [] (omega arith)) ∙ ap (λ k. get_or (take n ls) (k - 1) []) (sym size)

next_tail-carry : (r ls : List (List ℕ)) (b n : ℕ) (t : Option (List ℕ)) → r ≡ drop (b / 2 * 2) ls → b ≤ n → n ≤ length ls → next_tail r b n t ≡ carry (take n ls) t
next_tail-carry r ls b n t e low high =
    let size = length-take-le n ls high in
    elim (cases_eq (n % 2) 0) [
      | inl even ↦ rw (eq-eqb _ _ even) (sym (carry-even (take n ls) t (omega arith)))
      | inr odd ↦ rw (ne_eqb _ _ odd, last-at_level r ls b n e low high (omega arith)) (sym (carry-odd (take n ls) t (omega arith)))
    ]

-- the level above, of the first n nodes and the incomplete one after them
pub pair_all-level : (r ls : List (List ℕ)) (b n : ℕ) (t : Option (List ℕ)) → r ≡ drop (b / 2 * 2) ls → b ≤ n → n ≤ length ls → pair_all (take n ls ++ option_to_list t) ≡ take (n / 2) (pairs_of ls) ++ option_to_list (next_tail r b n t)
pair_all-level r ls b n t e low high =
    pair_all-tail (take n ls) t ∙ ap₂ (λ a c. a ++ option_to_list c) (pairs_of-take n ls) (sym (next_tail-carry r ls b n t e low high))

length-tail : (ls : List (List ℕ)) (n : ℕ) (t : Option (List ℕ)) → n ≤ length ls → (n ≤ length (take n ls ++ option_to_list t)) × (length (take n ls ++ option_to_list t) ≤ n + 1)
length-tail ls n None le =
    let size = length-take-le n ls le in
    let whole = length-append (take n ls) [] in
    (omega arith, omega arith)
length-tail ls n (Some x) le =
    let size = length-take-le n ls le in
    let whole = length-append (take n ls) (x ∷ []) in
    (omega arith, omega arith)

get_or-tail : (ls : List (List ℕ)) (n k : ℕ) (t : Option (List ℕ)) → n ≤ length ls → k < n → get_or (take n ls ++ option_to_list t) k [] ≡ get_or ls k []
get_or-tail ls n k t le lt =
    let size = length-take-le n ls le in
    get_or_append_left (take n ls) (option_to_list t) [] k (omega arith) ∙ get_or-take n ls k [] lt

past_tail-last : (ls : List (List ℕ)) (n p : ℕ) (t : Option (List ℕ)) → n ≤ length ls → p % 2 ≡ 0 → p + 1 ≡ n → past_tail t ≡ step_in (take n ls ++ option_to_list t) p
past_tail-last ls n p None le even e =
    let size = length-take-le n ls le in
    let whole = length-append (take n ls) [] in
    rw (ne_eqb (p % 2) 1 (λ q. omega arith), le-ltb (p + 1) (length (take n ls ++ [])) (omega arith))
past_tail-last ls n p (Some x) le even e =
    let size = length-take-le n ls le in
    let whole = length-append (take n ls) (x ∷ []) in
    let at = get_or_at (take n ls) x [] [] (p + 1) (omega arith) in
    rw (ne_eqb (p % 2) 1 (λ q. omega arith), lt-ltb (p + 1) (length (take n ls ++ x ∷ [])) (omega arith), at)

step_at-level : (r ls : List (List ℕ)) (b n p : ℕ) (t : Option (List ℕ)) → r ≡ drop (b / 2 * 2) ls → b ≤ n → n ≤ length ls → b ≤ p → p < length (take n ls ++ option_to_list t) → step_at r b n p t ≡ step_in (take n ls ++ option_to_list t) p
step_at-level r ls b n p t e low high above within =
    let bounds = length-tail ls n t high in
    elim (cases_lt 0 (p % 2)) [
      | inl odd ↦ (
          let test = eq-eqb (p % 2) 1 (omega arith) in
          rw (test, at_level r ls b (p - 1) e (omega arith), get_or-tail ls n (p - 1) t high (omega arith)))
      | inr even ↦ (
          let test = ne_eqb (p % 2) 1 (λ q. omega arith) in
          elim (cases_lt (p + 1) n) [
            | inl more ↦ rw (test, lt-ltb (p + 1) n more, lt-ltb (p + 1) (length (take n ls ++ option_to_list t)) (omega arith), at_level r ls b (p + 1) e (omega arith), get_or-tail ls n (p + 1) t high more)
            | inr end ↦ elim (cases_eq (p + 1) n) [
              | inl last ↦ rw (test, le-ltb (p + 1) n end, eq-eqb (p + 1) n last) (past_tail-last ls n p t high (omega arith) last ∙ rw test)
              | inr past ↦ rw (test, le-ltb (p + 1) n end, ne_eqb (p + 1) n past, le-ltb (p + 1) (length (take n ls ++ option_to_list t)) (omega arith))
            ]
          ])
    ]

path_at_end : (ls : List (List ℕ)) (i : ℕ) → [] ≡ path_within 0 ls i
unfolding path_within
path_at_end ls i = refl

pub steps_of-path : (rs : List (List (List ℕ))) (b n p : ℕ) (t : Option (List ℕ)) (ls : List (List ℕ)) → Cover b rs ls → b ≤ n → n ≤ length ls → b ≤ p → p < length (take n ls ++ option_to_list t) → length (take n ls ++ option_to_list t) ≤ 2 ^ length rs → steps_of rs b n p t ≡ path_within (length rs) (take n ls ++ option_to_list t) (p + 1)
steps_of-path [] b n p t ls h low high above within fits = path_at_end (take n ls ++ option_to_list t) (p + 1)
steps_of-path (r ∷ rs) b n p t ls h low high above within fits =
    let two = pow-suc 2 (length rs) in
    let up = length-pairs ls in
    let over = length-pair_all (take n ls ++ option_to_list t) in
    let level = pair_all-level r ls b n t h.0 low high in
    let size = ap length level in
    let here = step_at-level r ls b n p t h.0 low high above within in
    let rest = steps_of-path rs (b / 2) (n / 2) (p / 2) (next_tail r b n t) (pairs_of ls) h.1 (omega arith) (omega arith) (omega arith) (omega arith) (omega arith) in
    ap₂ (λ s u. option_to_list s ++ u) here (rest ∙ ap (λ a. path_within (length rs) a (p / 2 + 1)) (sym level))
    ∙ sym (path_within-pairs (length rs) (take n ls ++ option_to_list t) p within fits)
