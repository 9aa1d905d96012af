-- The tree of entries behind a base, as a frontier keeps it: with one more leaf, cut, and settled.
use Rattle.std.proofs.Common.{◌≡◌, ℕ, suc, ◌+◌, ◌-◌, ◌≤◌, List, [], ◌∷◌, ◌++◌, length, take, drop, sym, ◌∙◌, ap, ap₂, arith, length-append}
use Rattle.std.proofs.Math.Seq.{take-length}
use Rattle.std.proofs.lemmas.List.{take-append-drop, take-append-le, drop-append-le, take-take, drop-take, length-drop, length-take-le}
use Rattle.std.proofs.Math.ListN.{drop_of_length-le}
use Rattle.gl_base.proofs.Lists.{take-nil, take-past}
use Rattle.gl_merkle.specs.Frontier.{Content, HasLeaves, count_of}
use Rattle.gl_merkle.specs.Peaks.{peaks_over, peaks_with}
use Rattle.gl_snapshot_body.specs.declared.body.Body.{Body}
use Rattle.gl_audit.specs.Kept.{IsTreeOver}

-- ---- lists

-- peaks with more leaves and more after these
pub peaks_over-append : (n : ℕ) (ps xs ys : List (List ℕ)) → peaks_over n ps (xs ++ ys) ≡ peaks_over (n + length xs) (peaks_over n ps xs) ys
peaks_over-append n ps [] ys = ap (λ (k : ℕ). peaks_over k ps ys) (let same : n ≡ n + 0 = omega arith in same)
peaks_over-append n ps (x ∷ xs) ys =
    peaks_over-append (suc n) (peaks_with (suc n) n ps x) xs ys
    ∙ ap (λ (k : ℕ). peaks_over k (peaks_over n ps (x ∷ xs)) ys) (let same : suc n + length xs ≡ n + suc (length xs) = omega arith in same)

take_both : (a m : ℕ) (xs : List (List ℕ)) → take a xs ++ take m (drop a xs) ≡ take (a + m) xs
take_both a m xs =
    ap₂ (λ (ls rs : List (List ℕ)). ls ++ rs) (sym (take-take a (a + m) xs (omega arith))) (sym (drop-take a m xs))
    ∙ take-append-drop a (take (a + m) xs)

drop_nil : (n : ℕ) → drop {A = List ℕ} n [] ≡ []
drop_nil n = drop_of_length-le [] (omega arith)

-- ---- what is kept

module _ (body : Body) (leaves : List (List ℕ)) (f : Content) (t : IsTreeOver body leaves f) where
  below : ℕ
  below = f.base - body.base

  -- it counts all leaves
  pub count_over : count_of f ≡ body.base + length leaves
  unfolding below
  count_over =
      let kept : length f.leaves ≡ length leaves - below = ap length t.leaves_are ∙ length-drop below leaves in
      let from = t.from_base in
      let within = t.within in
      omega (arith, kept, from, within)

  -- the peaks of its first leaves are those of the first ones of all
  pub peaks_up_to : (size : ℕ) → f.base ≤ size → peaks_over f.base f.peaks (take (size - f.base) f.leaves) ≡ peaks_over body.base body.peaks (take (size - body.base) leaves)
  unfolding below
  peaks_up_to size low =
      let more : ℕ = size - f.base in
      let from = t.from_base in
      let within = t.within in
      let long : length (take below leaves) ≡ below = length-take-le below leaves (omega (arith, from, within)) in
      let at : f.base ≡ body.base + length (take below leaves) = omega (arith, from, long) in
      let all : below + more ≡ size - body.base = omega (arith, from, low) in
      ap₂ (λ (ps ls : List (List ℕ)). peaks_over f.base ps (take more ls)) t.peaks t.leaves_are
      ∙ ap (λ (k : ℕ). peaks_over k (peaks_over body.base body.peaks (take below leaves)) (take more (drop below leaves))) at
      ∙ sym (peaks_over-append body.base body.peaks (take below leaves) (take more (drop below leaves)))
      ∙ ap (peaks_over body.base body.peaks) (take_both below more leaves ∙ ap (λ (k : ℕ). take k leaves) all)

  -- and those of all are those of all
  pub all_peaks_over : peaks_over f.base f.peaks f.leaves ≡ peaks_over body.base body.peaks leaves
  all_peaks_over =
      let count = count_over in
      ap (peaks_over f.base f.peaks) (sym (take-length f.leaves) ∙ ap (λ (k : ℕ). take k f.leaves) (let more : length f.leaves ≡ count_of f - f.base = omega arith in more))
      ∙ peaks_up_to (count_of f) (omega arith)
      ∙ ap (peaks_over body.base body.peaks) (take-past leaves (count_of f - body.base) (omega (arith, count)))

  -- ---- what becomes of it

  pub tree-push : (g : Content) (x : List ℕ) → HasLeaves f g (f.leaves ++ x ∷ []) → IsTreeOver body (leaves ++ x ∷ []) g
  unfolding below
  tree-push g x grown =
      let from = t.from_base in
      let within = t.within in
      let long : length (leaves ++ x ∷ []) ≡ length leaves + 1 = length-append leaves (x ∷ []) in
      let same = grown.base in
      let few : below ≤ length leaves = omega (arith, from, within) in
      let at : g.base - body.base ≡ below = omega (arith, same) in
      record {
        from_base = omega (arith, same, from);
        within = omega (arith, same, within, long);
        peaks = grown.peaks ∙ t.peaks ∙ ap (peaks_over body.base body.peaks) (sym (take-append-le below leaves (x ∷ []) few) ∙ ap (λ (k : ℕ). take k (leaves ++ x ∷ [])) (sym at));
        leaves_are =
            grown.leaves_are ∙ ap (λ (ls : List (List ℕ)). ls ++ x ∷ []) t.leaves_are ∙ sym (drop-append-le below leaves (x ∷ []) few)
            ∙ ap (λ (k : ℕ). drop k (leaves ++ x ∷ [])) (sym at);
      }

  pub tree-cut : (g : Content) (to : ℕ) → f.base ≤ to → to ≤ body.base + length leaves → HasLeaves f g (take (to - f.base) f.leaves) → IsTreeOver body (take (to - body.base) leaves) g
  unfolding below
  tree-cut g to low high left =
      let from = t.from_base in
      let base = left.base in
      let at : below ≡ g.base - body.base = omega (arith, base) in
      let long : length (take (to - body.base) leaves) ≡ to - body.base = length-take-le (to - body.base) leaves (omega (arith, high)) in
      let both : below + (to - f.base) ≡ to - body.base = omega (arith, from, low) in
      record {
        from_base = omega (arith, base, from);
        within = omega (arith, base, low, from, long);
        peaks = left.peaks ∙ t.peaks ∙ ap (peaks_over body.base body.peaks) (sym (take-take below (to - body.base) leaves (omega (arith, low, from))) ∙ ap (λ (k : ℕ). take k (take (to - body.base) leaves)) at);
        leaves_are =
            left.leaves_are ∙ ap (take (to - f.base)) t.leaves_are ∙ sym (drop-take below (to - f.base) leaves)
            ∙ ap₂ (λ (k n : ℕ). drop k (take n leaves)) at both;
      }

  -- a frontier that knows all of them by their peaks
  pub tree_settled : (g : Content) (size : ℕ) (peaks : List (List ℕ)) → size ≡ count_of f → peaks ≡ peaks_over f.base f.peaks (take (size - f.base) f.leaves) →
      g.base ≡ size → g.peaks ≡ peaks → g.leaves ≡ [] → IsTreeOver body leaves g
  tree_settled g size peaks all are base known none =
      let count = count_over in
      let at : size - body.base ≡ g.base - body.base = omega (arith, base) in
      record {
        from_base = omega (arith, base, all, count);
        within = omega (arith, base, all, count);
        peaks = known ∙ are ∙ peaks_up_to size (omega (arith, all)) ∙ ap (λ (k : ℕ). peaks_over body.base body.peaks (take k leaves)) at;
        leaves_are = none ∙ sym (drop_of_length-le leaves (omega (arith, base, all, count)));
      }

-- one of no leaves behind the base
pub tree_begun : (body : Body) (f : Content) → f.base ≡ body.base → f.peaks ≡ body.peaks → f.leaves ≡ [] → IsTreeOver body [] f
tree_begun body f base peaks none = record {
  from_base = omega (arith, base);
  within = omega (arith, base);
  peaks = peaks ∙ ap (peaks_over body.base body.peaks) (sym (take-nil (f.base - body.base)));
  leaves_are = none ∙ sym (drop_nil (f.base - body.base));
}
