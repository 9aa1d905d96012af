-- What a frontier stands for, and what its calls keep of it.
use Rattle.std.specs.Prelude.{◌≡◌, ℕ, ◌+◌, ◌-◌, ◌%◌, ◌≤◌, List, [], ◌++◌, length, take, drop, slice_index_or}
use Rattle.gl_merkle.specs.Peaks.{peaks_of, peaks_over}
use Rattle.gl_merkle.specs.Levels.{Level, nodes_of, rooms_of, AreSized, AreRoomy, Cover, level_peaks}

-- A list of leaves: `base` of them are known by their `peaks` alone, greatest first, and after
-- these stand `leaves`. So many pushes as `spare` says take no memory.
pub record Content : Type 0 where
  pub base : ℕ
  pub peaks : List (List ℕ)
  pub leaves : List (List ℕ)
  pub spare : ℕ

-- how many leaves there are, with those below the base
abbrev pub count_of : Content → ℕ
count_of f = f.base + length f.leaves

-- these may be the leaves below the base: so many, with these peaks
pub record IsBase (f : Content) (below : List (List ℕ)) : Type 0 where
  pub count : length below ≡ f.base
  pub peaks : peaks_of below ≡ f.peaks

-- the fact holds of the whole list of leaves, whichever are below the base
abbrev pub ForLeaves : Content → (List (List ℕ) → Type 0) → Type 0
ForLeaves f P = (below : List (List ℕ)) → IsBase f below → P (below ++ f.leaves)

-- the new frontier has the old one's base, and these leaves above it
pub record HasLeaves (old new : Content) (leaves : List (List ℕ)) : Type 0 where
  pub base : new.base ≡ old.base
  pub peaks : new.peaks ≡ old.peaks
  pub leaves_are : new.leaves ≡ leaves

-- the new frontier stands for the old one's leaves
abbrev pub IsUnchanged : Content → Content → Type 0
IsUnchanged old new = HasLeaves old new old.leaves

-- the leaves above a base of b leaves, as the lowest level has them
abbrev pub leaves_above : ℕ → List Level → List (List ℕ)
leaves_above b levels = drop (b % 2) (slice_index_or (nodes_of levels) 0 [])

-- These levels, over a base of b leaves with these peaks, are those of len leaves, with room for
-- those up to limit. They hold the tree of the leaves, whichever are below the base; and where no
-- leaves have such peaks, those that follow from them.
pub record AreLevels (b : ℕ) (peaks : List (List ℕ)) (len limit : ℕ)
    (levels : List Level) : Type 0 where
  pub height : length levels ≡ 64
  pub from_base : b ≤ len
  pub within : len ≤ limit
  pub sized : AreSized b len (nodes_of levels)
  pub roomy : AreRoomy b limit (rooms_of levels)
  pub cover : (below : List (List ℕ)) → length below ≡ b → peaks_of below ≡ peaks →
      Cover b (nodes_of levels) (below ++ leaves_above b levels)
  pub over : (size : ℕ) → b ≤ size → size ≤ len → level_peaks (nodes_of levels) b size
      ≡ peaks_over b peaks (take (size - b) (leaves_above b levels))
