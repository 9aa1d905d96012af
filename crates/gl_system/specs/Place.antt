-- What a file gives and takes at a place, as far as it tells of itself by the words of std's
-- readers and writers. A file of the operating system tells nothing, so of one these say nothing.
use Rattle.std.specs.Prelude.{◌≡◌, ℕ, List, Option, Some, length, IfSome}
use Rattle.std.specs.Io.KnownBytes.{Keeps, Appends, Consumes}

-- A file that tells its position and its bytes has so many of them.
abbrev pub IsLength : {F : Type 0} → (F → Option ℕ) → (F → Option (List ℕ)) → ℕ → F → Type 0
IsLength position bytes n file =
    IfSome (position file) (λ _. IfSome (bytes file) (λ known. n ≡ length known))

-- The file was moved to a place, and its bytes stayed.
pub record IsMoved {F : Type 0} (position : F → Option ℕ) (bytes : F → Option (List ℕ)) (at : ℕ)
    (old new : F) : Type 0 where
  pub there : IfSome (position old) (λ _. position new ≡ Some at)
  pub kept : Keeps (bytes old) (bytes new)

-- The file was moved to the place, and then gave these bytes of those that it had left there.
pub record ReadsAt {F : Type 0} (position : F → Option ℕ) (bytes left : F → Option (List ℕ))
    (at : ℕ) (piece : List ℕ) (old new : F) : Type 0 where
  pub moved : F
  pub is_moved : IsMoved position bytes at old moved
  pub given : Consumes (left moved) (left new) piece

-- The file was moved to the place, and then took these bytes after those that it held.
pub record WritesAt {F : Type 0} (position : F → Option ℕ) (bytes held : F → Option (List ℕ))
    (at : ℕ) (piece : List ℕ) (old new : F) : Type 0 where
  pub moved : F
  pub is_moved : IsMoved position bytes at old moved
  pub taken : Appends (held moved) (held new) piece
