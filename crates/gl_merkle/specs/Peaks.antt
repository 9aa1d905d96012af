-- The peaks of a list of leaves: the roots of its complete subtrees, greatest first, of which there
-- are as many as the number of leaves has ones in binary. The root follows from them alone.
use Rattle.std.specs.Prelude.{ℕ, zero, suc, ◌-◌, ◌/◌, ◌%◌, ◌^◌, List, [], ◌∷◌, ◌++◌, length, take, drop, slice_index_or, nat_eq, nat_le, if◌then◌else◌}
use Rattle.gl_merkle.specs.Tree.{inner_of, root_within}

-- the peaks of fewer than 2 ^ h leaves: where there are half of 2 ^ h or more, their root comes
-- first, and then the peaks of the rest
unfoldable pub peaks_within : ℕ → List (List ℕ) → List (List ℕ)
peaks_within zero leaves = []
peaks_within (suc h) leaves =
    if nat_le (2 ^ h) (length leaves)
    then root_within h (take (2 ^ h) leaves) ∷ peaks_within h (drop (2 ^ h) leaves)
    else peaks_within h leaves

-- the peaks of the leaves: n of them are fewer than 2 ^ n
unfoldable pub peaks_of : List (List ℕ) → List (List ℕ)
peaks_of leaves = peaks_within (length leaves) leaves

-- the root of the tree with these peaks: the last two are joined, then the one before with that
-- node, and so on
abbrev pub root_of_peaks : List (List ℕ) → List ℕ
root_of_peaks [] = []
root_of_peaks (peak ∷ []) = peak
root_of_peaks (peak ∷ next ∷ rest) = inner_of peak (root_of_peaks (next ∷ rest))

-- the peaks with one more leaf, where n leaves, fewer than 2 ^ h, have these: two complete subtrees
-- of one size become one
unfoldable pub peaks_with : ℕ → ℕ → List (List ℕ) → List ℕ → List (List ℕ)
peaks_with zero n peaks x = peaks ++ x ∷ []
peaks_with (suc h) n peaks x =
    if nat_eq (n % 2) 0
    then peaks ++ x ∷ []
    else peaks_with h (n / 2) (take (length peaks - 1) peaks)
    (inner_of (slice_index_or peaks (length peaks - 1) []) x)

-- the peaks with more leaves, where n leaves have these: n are fewer than 2 ^ (n + 1)
abbrev pub peaks_over : ℕ → List (List ℕ) → List (List ℕ) → List (List ℕ)
peaks_over n peaks [] = peaks
peaks_over n peaks (x ∷ xs) = peaks_over (suc n) (peaks_with (suc n) n peaks x) xs
