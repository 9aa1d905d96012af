-- The configurations of a ledger with their seqnos, and which of them are active at a commit (CCF's
-- documentation, consensus: reconfiguration).
use Rattle.std.specs.Prelude.{ℕ, zero, suc, List, [], ◌∷◌, ◌++◌, Option, None, Some, length, take, map, filter, nat_le, nat_lt}
use Rattle.gl_rules.specs.Identity.{NodeId}
use Rattle.gl_rules.specs.Book.{Book}
use Rattle.gl_config.specs.declared.configuration.Configuration.{Configuration}

-- the configurations at or below a seqno, and those above it
abbrev pub upto : ℕ → List Configuration → List Configuration
upto seqno cs = filter (λ (c : Configuration). nat_le c.seqno seqno) cs

abbrev pub above : ℕ → List Configuration → List Configuration
above seqno cs = filter (λ (c : Configuration). nat_lt seqno c.seqno) cs

-- the last of some configurations, if there are any
unfoldable pub last_of : List Configuration → List Configuration
last_of [] = []
last_of (c ∷ []) = c ∷ []
last_of (c ∷ d ∷ cs) = last_of (d ∷ cs)

-- active at a commit: the last one at or below it, and all above it
unfoldable pub active_of : List Configuration → ℕ → List Configuration
active_of cs commit = last_of (upto commit cs) ++ above commit cs

-- the sets of nodes of some configurations
abbrev pub sets_of : List Configuration → List (List NodeId)
sets_of cs = map (λ (c : Configuration). c.nodes) cs

-- the configuration at a seqno, if there is one
abbrev pub at_seqno : ℕ → Option (List NodeId) → List Configuration
at_seqno seqno None = []
at_seqno seqno (Some nodes) = record { seqno = seqno; nodes = nodes } ∷ []

module _ {E Q G R A F : Type 0} (book : Book E Q G R A F) where
  -- the configurations of a ledger at or below a seqno: one for each seqno at which its set of
  -- trusted nodes changes
  unfoldable pub configurations_upto : List E → ℕ → List Configuration
  configurations_upto log zero = []
  configurations_upto log (suc seqno) = configurations_upto log seqno
      ++ at_seqno (suc seqno) (book.configuration (take (suc seqno) log))

  -- the configurations of a ledger
  abbrev pub configurations_of : List E → List Configuration
  configurations_of log = configurations_upto log (length log)
