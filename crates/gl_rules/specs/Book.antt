-- What the layer of the ledger tells the rules of consensus: the rules know no more of entries,
-- requests and tables than this record. Seqnos count from 1, and a ledger is the list of its
-- entries from seqno 1 on.
use Rattle.std.specs.Prelude.{ℕ, List, Bool, Option, Result}
use Rattle.gl_rules.specs.Identity.{NodeId}

-- Over entries E, application requests Q, governance requests G, the reads of a transaction R,
-- answers to requests A, and refusals F.
pub record Book (E Q G R A F : Type 0) : Type 0 where
  -- of an entry
  pub view_of : E → ℕ
  pub is_signature : E → Bool
  pub is_evidence : E → Bool
  -- the commit that a signature records
  pub recorded_commit : E → ℕ
  -- in bytes
  pub frame_size : E → ℕ
  -- of a ledger: the set of trusted nodes, where its last entry changes that set
  pub configuration : List E → Option (List NodeId)
  -- the nodes that it records, in the order in which they were recorded
  pub recorded_nodes : List E → List NodeId
  -- the seqno of the entry that removed a node, and the seqno of the mark after its removal
  pub removal : List E → NodeId → Option ℕ
  pub mark : List E → NodeId → Option ℕ
  -- of a node's key: how many one-time leaves it has
  pub leaves : NodeId → ℕ
  -- The entry that a ledger takes in a view, with the answer to who asked for it, or the refusal.
  pub execute : List E → ℕ → Q → Result (E × A) F
  pub govern : List E → ℕ → G → Result (E × A) F
  -- by a node with one of its leaves, recording this commit
  pub sign : NodeId → ℕ → List E → ℕ → ℕ → Result E F
  pub evidence : List E → ℕ → Result E F
  -- which node a governance request marks, if it is a mark, and why that node can't be marked
  pub marked_node : G → Option NodeId
  pub mark_refusal : List E → NodeId → Option F
  -- The seqno that stands first in these two: the entries up to it came by a snapshot, 0 for none.
  -- The node doesn't hold those entries themselves, so less can be asked of what stands there.
  -- the refusal where a read key or map has changed above a length
  pub conflict : ℕ → List E → ℕ → R → Option F
  -- the rule that an entry breaks after a ledger; None: it may follow
  pub breaks : ℕ → List E → E → Option F
