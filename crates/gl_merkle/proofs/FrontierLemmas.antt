-- What the calls of a frontier keep of its levels, and what they read from them.
use Rattle.std.proofs.Common.{◌≡◌, ℕ, zero, suc, ◌+◌, ◌*◌, ◌-◌, ◌/◌, ◌%◌, ◌^◌, ◌<◌, ◌≤◌, List, [], ◌∷◌, ◌++◌, Some, None, length, take, drop, get_or, refl, sym, ap, ◌∙◌, arith, length-append, append_assoc, append-nil, inl, inr, count_ones}
use Rattle.std.specs.Prelude.{vec_capacity}
use lib.Count.{ones_step}
use Rattle.std.proofs.Math.Nat.{pow-suc}
use Rattle.std.proofs.lemmas.Nat.{ones_le_self}
use Rattle.std.proofs.lemmas.Bool.{cases_lt, cases_eq, eq-eqb, ne_eqb}
use Rattle.std.proofs.lemmas.List.{length-map, drop-append-le, drop-take, take_all, length-drop, length-take-le, take-append-le, take-take}
use Rattle.gl_merkle.specs.Tree.{root_of}
use Rattle.gl_merkle.specs.Path.{path_of}
use Rattle.gl_merkle.specs.Peaks.{peaks_of, peaks_with, peaks_over, root_of_peaks}
use Rattle.gl_merkle.specs.Levels.{Level, nodes_of, rooms_of, AreSized, AreRoomy, HoldFirst, HasRoom, with_node, cut_to, base_levels, tail_of, steps_of, level_peaks}
use Rattle.gl_merkle.specs.Frontier.{leaves_above, AreLevels}
use Rattle.gl_merkle.proofs.TreeLemmas.{below_pow, path_of-within}
use Rattle.gl_merkle.proofs.PeakLemmas.{peaks_of-within}
use Rattle.gl_merkle.proofs.LevelLemmas.{Cover-with_node, AreSized-with_node, Cover-cut_to, AreSized-cut_to, Cover-base_levels, AreSized-base_levels, base_levels-even, base_levels-odd, steps_of-path}
use Rattle.gl_merkle.proofs.MorePeaks.{peaks_of-more, peaks_over-push, root_of-peaks}
use Rattle.gl_merkle.proofs.BasePeaks.{level_peaks-kept, level_peaks-cut, level_peaks-push, level_peaks-base, tail_of-peaks}

-- ---- room

pub AreRoomy-sized : (vs : List Level) (b n : ℕ) → AreSized b n (nodes_of vs) → AreRoomy b n (rooms_of vs)
AreRoomy-sized [] b n h = tt
AreRoomy-sized (v ∷ vs) b n h = let kept = v.ok in (omega (arith, h.0), AreRoomy-sized vs (b / 2) (n / 2) h.1)

pub HasRoom-sized : (vs : List Level) (b n m : ℕ) → AreSized b n (nodes_of vs) → AreRoomy b m (rooms_of vs) → n < m → HasRoom vs
HasRoom-sized [] b n m h r lt = tt
HasRoom-sized (v ∷ vs) b n m h r lt = let kept = v.ok in (omega (arith, h.0, r.0), λ odd. HasRoom-sized vs (b / 2) (n / 2) (m / 2) h.1 r.1 (omega (arith, h.0, odd)))

pub HoldFirst-sized : (rs : List (List (List ℕ))) (b n m : ℕ) → m ≤ n → AreSized b n rs → HoldFirst b m rs
HoldFirst-sized [] b n m le h = tt
HoldFirst-sized (r ∷ rs) b n m le h = (omega (arith, h.0), HoldFirst-sized rs (b / 2) (n / 2) (m / 2) (omega arith) h.1)

-- ---- the leaves above the base

above : ℕ → List (List (List ℕ)) → List (List ℕ)
above b rs = drop (b % 2) (get_or rs 0 [])

count_above : (rs : List (List (List ℕ))) (b n : ℕ) → AreSized b n rs → b ≤ n → 0 < length rs → b + length (above b rs) ≡ n
unfolding above
count_above [] b n h le some = absurd (omega arith)
count_above (r ∷ rs) b n h le some = let size = length-drop (b % 2) r in omega (arith, h.0)

above-with_node : (rs : List (List (List ℕ))) (b n : ℕ) (x : List ℕ) → AreSized b n rs → b ≤ n → 0 < length rs → above b (with_node rs x) ≡ above b rs ++ x ∷ []
unfolding above
above-with_node [] b n x h le some = absurd (omega arith)
above-with_node (r ∷ rs) b n x h le some = drop-append-le (b % 2) r (x ∷ []) (omega (arith, h.0))

above-cut_to : (rs : List (List (List ℕ))) (b n : ℕ) → b ≤ n → 0 < length rs → above b (cut_to b n rs) ≡ take (n - b) (above b rs)
unfolding above
above-cut_to [] b n le some = absurd (omega arith)
above-cut_to (r ∷ rs) b n le some =
    let whole : b % 2 + (n - b) ≡ n - b / 2 * 2 = omega arith in
    ap (λ k. drop (b % 2) (take k r)) (sym whole) ∙ drop-take (b % 2) (n - b) r

above-base : (k b : ℕ) (ps : List (List ℕ)) → above b (base_levels (suc k) b ps) ≡ []
unfolding above
above-base k b ps =
    elim (cases_eq (b % 2) 0) [
      | inl even ↦ rw (base_levels-even k b ps even, even)
      | inr odd ↦ (let one : b % 2 ≡ 1 = omega arith in rw (base_levels-odd k b ps one, one))
    ]

length-nodes_of : (vs : List Level) → length (nodes_of vs) ≡ length vs
length-nodes_of vs = length-map vs (λ (v : Level). v.items)

height_of : (vs ws : List Level) → rooms_of ws ≡ rooms_of vs → length ws ≡ length vs
height_of vs ws e = sym (length-map ws (λ (v : Level). vec_capacity v)) ∙ ap length e ∙ length-map vs (λ (v : Level). vec_capacity v)

pub leaves_above-count : (b : ℕ) (ps : List (List ℕ)) (n m : ℕ) (vs : List Level) → AreLevels b ps n m vs → b + length (leaves_above b vs) ≡ n
unfolding above
leaves_above-count b ps n m vs h = count_above (nodes_of vs) b n h.sized h.from_base (omega (arith, length-nodes_of vs, h.height))

pub leaves_above-push : (b : ℕ) (ps : List (List ℕ)) (n m : ℕ) (vs ws : List Level) (x : List ℕ) → AreLevels b ps n m vs → nodes_of ws ≡ with_node (nodes_of vs) x → leaves_above b ws ≡ leaves_above b vs ++ x ∷ []
unfolding above
leaves_above-push b ps n m vs ws x h e = ap (above b) e ∙ above-with_node (nodes_of vs) b n x h.sized h.from_base (omega (arith, length-nodes_of vs, h.height))

pub leaves_above-cut : (b : ℕ) (ps : List (List ℕ)) (n m k : ℕ) (vs ws : List Level) → AreLevels b ps n m vs → b ≤ k → nodes_of ws ≡ cut_to b k (nodes_of vs) → leaves_above b ws ≡ take (k - b) (leaves_above b vs)
unfolding above
leaves_above-cut b ps n m k vs ws h le e = ap (above b) e ∙ above-cut_to (nodes_of vs) b k le (omega (arith, length-nodes_of vs, h.height))

pub leaves_above-base : (b : ℕ) (ps : List (List ℕ)) (ws : List Level) → nodes_of ws ≡ base_levels 64 b ps → leaves_above b ws ≡ []
unfolding above
leaves_above-base b ps ws e = ap (above b) e ∙ above-base 63 b ps

pub leaves_above-same : (b : ℕ) (vs ws : List Level) → nodes_of ws ≡ nodes_of vs → leaves_above b ws ≡ leaves_above b vs
unfolding above
leaves_above-same b vs ws e = ap (above b) e

pub take_past : (xs ys : List (List ℕ)) (k b : ℕ) → length xs ≡ b → b ≤ k → take k (xs ++ ys) ≡ xs ++ take (k - b) ys
take_past [] ys k b size le = let none : k ≡ k - b = omega arith in ap (λ n. take n ys) none
take_past (x ∷ xs) ys zero b size le = absurd (omega arith)
take_past (x ∷ xs) ys (suc k) b size le =
    let less : k - (b - 1) ≡ suc k - b = omega arith in
    ap (λ r. x ∷ r) (take_past xs ys k (b - 1) (omega arith) (omega arith) ∙ ap (λ n. xs ++ take n ys) less)

-- ---- what the calls keep

-- what one leaf more leaves of the peaks over a base
over-push : (b : ℕ) (ps : List (List ℕ)) (n m k : ℕ) (vs : List Level) (x : List ℕ) → AreLevels b ps n m vs → n + 1 < 2 ^ 64 → b ≤ k → k ≤ n + 1 → level_peaks (with_node (nodes_of vs) x) b k ≡ peaks_over b ps (take (k - b) (leaves_above b vs ++ x ∷ []))
over-push b ps n m k vs x h fits low high =
    let ls = leaves_above b vs in
    let count = leaves_above-count b ps n m vs h in
    let height = length-nodes_of vs ∙ h.height in
    elim (cases_lt n k) [
      | inl new ↦ (
          let two = pow-suc 2 n in
          let next : k ≡ n + 1 = omega arith in
          let all = take_all (n - b) ls (omega arith) in
          let more = take_all (k - b) (ls ++ x ∷ []) (omega (arith, length-append ls (x ∷ []))) in
          ap (level_peaks (with_node (nodes_of vs) x) b) next
          ∙ level_peaks-push (nodes_of vs) b n (suc n) x h.sized (rw height fits) (omega (arith, below_pow n))
          ∙ ap (λ (qs : List (List ℕ)). peaks_with (suc n) n qs x) (h.over n h.from_base (omega arith) ∙ ap (peaks_over b ps) all)
          ∙ ap (λ c. peaks_with (suc c) c (peaks_over b ps ls) x) (sym count)
          ∙ sym (peaks_over-push b ps ls x) ∙ ap (peaks_over b ps) (sym more))
      | inr old ↦ level_peaks-kept (nodes_of vs) b n k x h.sized low old ∙ h.over k low old ∙ ap (peaks_over b ps) (sym (take-append-le (k - b) ls (x ∷ []) (omega arith)))
    ]

pub AreLevels-push : (b : ℕ) (ps : List (List ℕ)) (n m : ℕ) (vs ws : List Level) (x : List ℕ) → AreLevels b ps n m vs → n < m → m < 2 ^ 64 → nodes_of ws ≡ with_node (nodes_of vs) x → rooms_of ws ≡ rooms_of vs → AreLevels b ps (n + 1) m ws
AreLevels-push b ps n m vs ws x h lt fits nodes rooms =
    let leaves = leaves_above-push b ps n m vs ws x h nodes in
    let count = leaves_above-count b ps n m vs h in
    record {
      height = height_of vs ws rooms ∙ h.height;
      from_base = omega (arith, h.from_base);
      within = omega arith;
      sized = rw nodes (AreSized-with_node (nodes_of vs) b n x h.sized);
      roomy = rw rooms h.roomy;
      cover = λ below size peaks.
          rw (leaves, nodes, ← append_assoc)
          (Cover-with_node (nodes_of vs) b (below ++ leaves_above b vs) x (omega (arith, length-append below (leaves_above b vs), size)) (h.cover below size peaks));
      over = λ k low high. rw (leaves, nodes) (over-push b ps n m k vs x h (omega arith) low high);
    }

pub AreLevels-cut : (b : ℕ) (ps : List (List ℕ)) (n m k : ℕ) (vs ws : List Level) → AreLevels b ps n m vs → b ≤ k → k ≤ n → nodes_of ws ≡ cut_to b k (nodes_of vs) → rooms_of ws ≡ rooms_of vs → AreLevels b ps k m ws
AreLevels-cut b ps n m k vs ws h low high nodes rooms =
    let leaves = leaves_above-cut b ps n m k vs ws h low nodes in
    record {
      height = height_of vs ws rooms ∙ h.height;
      from_base = low;
      within = omega (arith, h.within);
      sized = rw nodes (AreSized-cut_to (nodes_of vs) b n k low high h.sized);
      roomy = rw rooms h.roomy;
      cover = λ below size peaks.
          rw (leaves, nodes, ← take_past below (leaves_above b vs) k b size low) (Cover-cut_to (nodes_of vs) b k (below ++ leaves_above b vs) low (h.cover below size peaks));
      over = λ j from to. rw (leaves, nodes, level_peaks-cut (nodes_of vs) b k j from to, take-take (j - b) (k - b) (leaves_above b vs) (omega arith)) (h.over j from (omega arith));
    }

pub AreLevels-room : (b : ℕ) (ps : List (List ℕ)) (n m k : ℕ) (vs ws : List Level) → AreLevels b ps n m vs → n ≤ k → length ws ≡ length vs → nodes_of ws ≡ nodes_of vs → AreRoomy b k (rooms_of ws) → AreLevels b ps n k ws
AreLevels-room b ps n m k vs ws h le size nodes room =
    record {
      height = size ∙ h.height;
      from_base = h.from_base;
      within = le;
      sized = rw nodes h.sized;
      roomy = room;
      cover = λ below count peaks. rw nodes (h.cover below count peaks);
      over = λ j from to. rw nodes (h.over j from to);
    }

pub AreLevels-copy : (b : ℕ) (ps qs : List (List ℕ)) (n m : ℕ) (vs ws : List Level) → AreLevels b ps n m vs → qs ≡ ps → nodes_of ws ≡ nodes_of vs → AreLevels b qs n n ws
AreLevels-copy b ps qs n m vs ws h same nodes =
    let size : length ws ≡ length vs = sym (length-nodes_of ws) ∙ ap length nodes ∙ length-nodes_of vs in
    rw same (AreLevels-room b ps n m n vs ws h (omega arith) size nodes (AreRoomy-sized ws b n (rw nodes h.sized)))

length-base_levels : (k b : ℕ) (ps : List (List ℕ)) → length (base_levels k b ps) ≡ k
unfolding base_levels
length-base_levels zero b ps = refl
length-base_levels (suc k) b ps =
    elim (cases_eq (b % 2) 0) [
      | inl even ↦ rw (eq-eqb _ _ even) (ap suc (length-base_levels k (b / 2) ps))
      | inr odd ↦ rw (ne_eqb _ _ odd) (ap suc (length-base_levels k (b / 2) (take (length ps - 1) ps)))
    ]

pub AreLevels-base : (b : ℕ) (ps qs : List (List ℕ)) (ws : List Level) → b < 2 ^ 64 → length ps ≡ count_ones b → qs ≡ ps → nodes_of ws ≡ base_levels 64 b ps → AreLevels b qs b b ws
AreLevels-base b ps qs ws fits ones same nodes =
    let leaves = leaves_above-base b ps ws nodes in
    let sized : AreSized b b (nodes_of ws) = rw nodes (AreSized-base_levels 64 b ps) in
    record {
      height = sym (length-nodes_of ws) ∙ ap length nodes ∙ length-base_levels 64 b ps;
      from_base = omega arith;
      within = omega arith;
      sized = sized;
      roomy = AreRoomy-sized ws b b sized;
      cover = λ below size peaks.
          rw (leaves, nodes, append-nil)
          (Cover-base_levels 64 b ps below size fits (sym (peaks_of-within 64 below (omega (arith, size, fits))) ∙ peaks ∙ same));
      over = λ k low high.
          let at : k ≡ b = omega arith in
          let none : b - b ≡ 0 = omega arith in
          rw (at, none, nodes, same) (level_peaks-base 64 b ps ones fits);
    }

-- ---- what the calls read

-- the whole list of leaves, of which those below the base are any with these peaks
whole_count : (b : ℕ) (ps : List (List ℕ)) (n m : ℕ) (vs : List Level) (below : List (List ℕ)) → AreLevels b ps n m vs → length below ≡ b → length (below ++ leaves_above b vs) ≡ n
whole_count b ps n m vs below h size =
    let count = leaves_above-count b ps n m vs h in
    omega (arith, length-append below (leaves_above b vs))

-- the peaks over a base of these leaves are those of the whole list
pub over-whole : (b k : ℕ) (ps below ls : List (List ℕ)) → length below ≡ b → peaks_of below ≡ ps → b ≤ k → peaks_over b ps (take (k - b) ls) ≡ peaks_of (take k (below ++ ls))
over-whole b k ps below ls size peaks low =
    rw (take_past below ls k b size low, peaks_of-more below (take (k - b) ls), size, peaks)

pub root-over : (b : ℕ) (ps : List (List ℕ)) (n m : ℕ) (vs : List Level) → AreLevels b ps n m vs → n < 2 ^ 64 → 0 < n → tail_of (nodes_of vs) b n None ≡ Some (root_of_peaks (peaks_over b ps (leaves_above b vs)))
root-over b ps n m vs h fits some =
    let height = length-nodes_of vs ∙ h.height in
    let count = leaves_above-count b ps n m vs h in
    tail_of-peaks (nodes_of vs) b n None (rw height fits) (omega arith)
    ∙ ap (λ (qs : List (List ℕ)). Some (root_of_peaks qs)) (append-nil (level_peaks (nodes_of vs) b n) ∙ h.over n h.from_base (omega arith) ∙ ap (peaks_over b ps) (take_all (n - b) (leaves_above b vs) (omega arith)))

pub root-whole : (b : ℕ) (ps below ls : List (List ℕ)) → length below ≡ b → peaks_of below ≡ ps → root_of_peaks (peaks_over b ps ls) ≡ root_of (below ++ ls)
root-whole b ps below ls size peaks =
    rw (root_of-peaks (below ++ ls), peaks_of-more below ls, size, peaks)

pub path-is : (b : ℕ) (ps : List (List ℕ)) (n m i k : ℕ) (vs : List Level) (below : List (List ℕ)) → AreLevels b ps n m vs → k < 2 ^ 64 → b < i → i ≤ k → k ≤ n → length below ≡ b → peaks_of below ≡ ps → steps_of (nodes_of vs) b k (i - 1) None ≡ path_of (take k (below ++ leaves_above b vs)) i
path-is b ps n m i k vs below h fits low inside high size peaks =
    let ls = below ++ leaves_above b vs in
    let height = length-nodes_of vs ∙ h.height in
    let count = whole_count b ps n m vs below h size in
    let some = length-take-le k ls (omega arith) in
    let all = append-nil (take k ls) in
    let place : i - 1 + 1 ≡ i = omega arith in
    steps_of-path (nodes_of vs) b k (i - 1) None ls (h.cover below size peaks) (omega arith) (omega arith) (omega arith) (rw all (omega arith)) (rw (all, height) (omega arith))
    ∙ rw (all, height, place) (sym (path_of-within 64 (take k ls) i (omega arith)))

length-level_peaks : (rs : List (List (List ℕ))) (b n : ℕ) → n < 2 ^ length rs → length (level_peaks rs b n) ≡ count_ones n
length-level_peaks [] b n fits =
    let none : n ≡ 0 = omega arith in
    let bound = ones_le_self 0 in
    rw none (omega arith)
length-level_peaks (r ∷ rs) b n fits =
    let two = pow-suc 2 (length rs) in
    let here = length-level_peaks rs (b / 2) (n / 2) (omega arith) in
    let step = ones_step n in
    elim (cases_eq (n % 2) 0) [
      | inl even ↦ rw (eq-eqb _ _ even, append-nil) (omega arith)
      | inr odd ↦ rw (ne_eqb _ _ odd, length-append) (omega arith)
    ]

pub peaks-count : (b : ℕ) (ps : List (List ℕ)) (n m k : ℕ) (vs : List Level) → AreLevels b ps n m vs → k < 2 ^ 64 → length (level_peaks (nodes_of vs) b k) ≡ count_ones k
peaks-count b ps n m k vs h fits =
    let height = length-nodes_of vs ∙ h.height in
    length-level_peaks (nodes_of vs) b k (rw height fits)
