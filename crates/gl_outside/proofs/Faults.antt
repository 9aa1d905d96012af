-- Counts of faults over several calls.
use Rattle.std.proofs.Common.{ℕ, ◌<◌, ◌≤◌, inl, inr, arith}
use Rattle.gl_outside.specs.Fault.{Rose, last_count}

-- The count rose in a later call, and fell in none before it.
pub Rose-after : (before mid now : ℕ) → before ≤ mid → Rose mid now → Rose before now
Rose-after before mid now kept rose = elim rose [ inl more ↦ inl (omega arith) | inr last ↦ inr last ]

-- The count rose in an earlier call, and fell in none after it.
pub Rose-before : (before mid now : ℕ) → Rose before mid → mid ≤ now → Rose before now
Rose-before before mid now rose kept = elim rose [ inl more ↦ inl (omega arith) | inr last ↦ inr (omega arith) ]

-- A count that stayed where it was below its last value did not rise.
pub Rose-kept : (count : ℕ) → count < last_count → Rose count count → ⊥
Rose-kept count below rose = elim rose [ inl more ↦ omega arith | inr last ↦ omega arith ]
