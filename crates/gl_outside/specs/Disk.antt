-- What is done to the bytes of a disk, and which bytes a stop may leave.
use Rattle.std.specs.Prelude.{◌≡◌, ℕ, ◌+◌, ◌≤◌, max, List, [], ◌∷◌, ◌++◌, length, take, drop}

-- A step of a disk, as far as a stop can tell it from others.
pub data Step : Type 0 where
  -- a sync that succeeded, with the bytes that reads give then
  Kept : List ℕ → Step
  -- a write at a place, of so many bytes, that was done whole, in part or not at all
  Touched : ℕ → ℕ → Step

-- The bytes with a piece written over them at a place.
abbrev pub written : List ℕ → ℕ → List ℕ → List ℕ
written bytes at piece = take at bytes ++ piece ++ drop (at + length piece) bytes

-- What a write may leave until a sync: any bytes in its range and past the old end, and elsewhere
-- the old ones.
pub record Torn (at count : ℕ) (old new : List ℕ) : Type 0 where
  pub before : take at new ≡ take at old
  pub suffix : drop (at + count) new ≡ drop (at + count) old
  pub no_shorter : length old ≤ length new
  pub no_longer : length new ≤ max (length old) (at + count)

-- An image is what a stop may leave once these steps were done, the newest of which stands first.
-- Before the first sync that is reported, a stop may leave anything.
abbrev pub IsImage : List Step → List ℕ → Type 0
IsImage [] image = Unit {0}
IsImage (Kept bytes ∷ past) image = image ≡ bytes
IsImage (Touched at count ∷ past) image =
    (old : List ℕ) × IsImage past old × Torn at count old image

-- A stop leaves these bytes, and no others.
abbrev pub LeavesOnly : List Step → List ℕ → Type 0
LeavesOnly past bytes = (image : List ℕ) → IsImage past image → image ≡ bytes

-- The fact holds of each image that a stop may leave with none, some or all of the newer steps
-- done.
abbrev pub AtEach : (List ℕ → Type 0) → List Step → List Step → Type 0
AtEach P past [] = (image : List ℕ) → IsImage past image → P image
AtEach P past (step ∷ newer) =
    ((image : List ℕ) → IsImage (step ∷ newer ++ past) image → P image) × AtEach P past newer

-- The later steps go on from the earlier ones, and each image that a stop may leave at a moment
-- between has P.
abbrev pub Leaves : (List ℕ → Type 0) → List Step → List Step → Type 0
Leaves P before after = (newer : List Step) × (after ≡ newer ++ before) × AtEach P before newer
