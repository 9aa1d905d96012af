-- What a store says of the ledgers that it stands for, of which it needn't know all.
use Rattle.std.specs.Prelude.{List, [], ◌∷◌, ◌++◌}
use Rattle.gl_rules.specs.Book.{Book}
use Rattle.gl_replication.specs.Holding.{Holding, with_log}

module _ {S E Q G R A F : Type 0} (stands : S → Book E Q G R A F → Holding E → Type 0) where
  -- This holds of each ledger that it stands for, under the rules for which it stands for it.
  abbrev pub At : S → (Book E Q G R A F → Holding E → Type 0) → Type 0
  At s P = (b : Book E Q G R A F) (h : Holding E) → stands s b h → P b h

  -- It stands for another ledger then, of which this holds.
  abbrev pub Becomes : S → S → (Book E Q G R A F → Holding E → List E → Type 0) → Type 0
  Becomes old new P =
      (b : Book E Q G R A F) (h : Holding E) → stands old b h →
      (log : List E) × P b h log × stands new b (with_log h log)

  -- It stands for the ledger with one more entry then, of which this holds.
  abbrev pub Enters : S → S → (Book E Q G R A F → Holding E → E → Type 0) → Type 0
  Enters old new P =
      (b : Book E Q G R A F) (h : Holding E) → stands old b h →
      (e : E) × P b h e × stands new b (with_log h (h.log ++ e ∷ []))

  -- It stands for what it stood for.
  abbrev pub Stays : S → S → Type 0
  Stays old new = (b : Book E Q G R A F) (h : Holding E) → stands old b h → stands new b h
