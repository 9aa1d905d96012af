-- A frontier without a base stands for its leaves alone.
use Rattle.std.proofs.Common.{◌≡◌, ℕ, List, [], refl, sym}
use Rattle.gl_merkle.specs.Peaks.{peaks_within, peaks_of}
use Rattle.gl_merkle.specs.Frontier.{Content, IsBase, ForLeaves}

pub peaks_of-none : peaks_of [] ≡ []
unfolding peaks_of peaks_within
peaks_of-none = refl

pub IsBase-none : (f : Content) → f.base ≡ 0 → f.peaks ≡ [] → IsBase f []
IsBase-none f base peaks = record { count = sym base; peaks = rw peaks peaks_of-none }

pub ForLeaves-all : (f : Content) (P : List (List ℕ) → Type 0) → f.base ≡ 0 → f.peaks ≡ [] → ForLeaves f P → P f.leaves
ForLeaves-all f P base peaks h = h [] (IsBase-none f base peaks)
