-- The parts that a file of payloads is made of.
use Rattle.std.specs.Prelude.{◌≡◌, ◌≢◌, ℕ, ◌+◌, List, [], ◌∷◌, ◌++◌, length, Vec}
use Rattle.std.specs.declared.alloc.Global.{Global}
use Rattle.gl_journal.specs.Gates.{batches, FitLengths}

-- No gate is open here.
abbrev pub IsClosed : List ℕ → Type 0
IsClosed [] = Unit {0}
IsClosed (gate ∷ tail) = gate ≢ 1

-- Bytes from the gate at one place on are batches up to another place, and then a rest.
pub record Parts (at : ℕ) (bytes : List ℕ) (payloads : List (List ℕ)) (place : ℕ)
    (rest : List ℕ) : Type 0 where
  pub split : bytes ≡ batches payloads ++ rest
  pub fit : FitLengths payloads
  pub current : place ≡ at + length (batches payloads)

-- A file is the header, batches up to a place, and after them bytes where no gate is open.
pub record FileParts (header bytes : List ℕ) (payloads : List (List ℕ)) (place : ℕ)
    (rest : List ℕ) : Type 0 where
  pub split : bytes ≡ header ++ batches payloads ++ rest
  pub fit : FitLengths payloads
  pub current : place ≡ length (header ++ batches payloads)
  pub closed : IsClosed rest

-- The file has the closed gate after its payloads.
pub record HasGate (header bytes : List ℕ) : Type 0 where
  pub payloads : List (List ℕ)
  pub place : ℕ
  pub gate : ℕ
  pub tail : List ℕ
  pub parts : FileParts header bytes payloads place (gate ∷ tail)

-- Lists in memory, as lists.
abbrev pub items_of : List (Vec ℕ Global) → List (List ℕ)
items_of [] = []
items_of (first ∷ others) = first.items ∷ items_of others
