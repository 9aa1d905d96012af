-- Which entries stand in the ledgers of a service: those of the opening, and those that the book
-- makes.
use Rattle.std.specs.Prelude.{◌≡◌, ◌⊎◌, ℕ, List, Contains, Some, Ok, slice_get}
use Rattle.gl_rules.specs.Identity.{NodeId}
use Rattle.gl_rules.specs.Book.{Book}
use Rattle.gl_rules.specs.World.{Start}

-- Each entry of a ledger is of this kind.
abbrev pub EachIs : {E : Type 0} → (E → Type 0) → List E → Type 0
EachIs {E} Kind log = (i : ℕ) (e : E) → slice_get log i ≡ Some e → Kind e

module _ {E Q G R A F : Type 0} (book : Book E Q G R A F) where
  -- An entry that the book makes, after whatever ledger.
  pub data IsMade (e : E) : Type 0 where
    Executed : (log : List E) → (view : ℕ) → (q : Q) → (a : A) →
        book.execute log view q ≡ Ok (e, a) → IsMade e
    Governed : (log : List E) → (view : ℕ) → (g : G) → (a : A) →
        book.govern log view g ≡ Ok (e, a) → IsMade e
    Signed : (x : NodeId) → (leaf : ℕ) → (log : List E) → (view commit : ℕ) →
        book.sign x leaf log view commit ≡ Ok e → IsMade e
    Evident : (log : List E) → (view : ℕ) → book.evidence log view ≡ Ok e → IsMade e

  -- Whatever the book makes is an entry of this kind.
  abbrev pub MakesOnly : (E → Type 0) → Type 0
  MakesOnly Kind = (e : E) → IsMade e → Kind e

  -- An entry of the opening ledger, or one that the book makes.
  abbrev pub OpenedOrMade : Start E → E → Type 0
  OpenedOrMade s e = Contains s.opening e ⊎ IsMade e
