-- What a store holds for a node.
use Rattle.std.specs.Prelude.{ℕ, List, length}
use Rattle.gl_rules.specs.Identity.{NodeId}

pub record Holding (E : Type 0) : Type 0 where
  -- with whose key it signs
  pub me : NodeId
  -- the seqno up to which it came by a snapshot, 0 for none
  pub base : ℕ
  -- the ledger, whole from seqno 1
  pub log : List E

abbrev pub with_log : {E : Type 0} → Holding E → List E → Holding E
with_log h log = record h { log = log }

-- of a ledger that came by a snapshot
abbrev pub from_snapshot : {E : Type 0} → NodeId → List E → Holding E
from_snapshot me log = record { me = me; base = length log; log = log }
