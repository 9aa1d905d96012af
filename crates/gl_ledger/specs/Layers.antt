-- What the ledger takes from the layer of keys: which signatures are valid.
use Rattle.std.specs.Prelude.{ℕ, List, Option}
use Rattle.gl_hss.specs.declared.fault.HssFault.{HssFault}
use Rattle.gl_rules.specs.Identity.{NodeId}

-- The definitions of the ledger take this as it is. The laws hold whatever it is.
pub record Layers : Type 0 where
  -- in a service with this key, why bytes are no signature by a node of a message
  pub signature_fault : List ℕ → NodeId → List ℕ → List ℕ → Option HssFault
