-- What is kept of the nodes of a ledger beside it, so that no answer needs a scan. It is told by
-- the seqno of the ledger's base, the requests of governance behind that, and how many entries
-- stand behind it.
use Rattle.std.specs.Prelude.{◌≡◌, ℕ, zero, suc, ◌+◌, ◌-◌, List, [], ◌∷◌, ◌++◌, Option, None, Some, length, map, slice_get}
use Rattle.gl_rules.specs.Identity.{NodeId}
use Rattle.gl_config.specs.Active.{at_seqno}
use Rattle.gl_config.specs.declared.configuration.Configuration.{Configuration}
use Rattle.gl_gov_rules.specs.declared.change.RecordedNode.{RecordedNode}
use Rattle.gl_gov_rules.specs.Governed.{up_to}
use Rattle.gl_gov_rules.specs.GovernedRows.{IsBelow}
use Rattle.gl_gov_rules.specs.Nodes.{nodes, trusted}
use Rattle.gl_audit.specs.GovState.{Governed, IsGoverned, governed_up_to, history_of}
use Rattle.gl_ledger.specs.Recordings.{changed_set}
use Rattle.gl_store.specs.Tail.{StandsBehind, Tail}
use Rattle.gl_store_book.specs.BasedLedgers.{IsEncoded, body_of}
use Rattle.gl_store_book.specs.declared.node_lists.NodeLists.{NodeLists}

abbrev pub nodes_in : Option Configuration → List NodeId
nodes_in None = []
nodes_in (Some c) = c.nodes

-- The nodes of the last configuration, none where there is none.
abbrev pub last_nodes : List Configuration → List NodeId
last_nodes cs = nodes_in (slice_get cs (length cs - 1))

-- The nodes that are trusted after the requests up to a seqno.
abbrev pub trusted_up_to : Governed → ℕ → List NodeId
trusted_up_to g seqno = trusted (history_of (governed_up_to seqno g))

-- The nodes that are recorded.
abbrev pub nodes_of : Governed → List NodeId
nodes_of g = map (λ (n : RecordedNode). n.id) (nodes (history_of g))

-- The configuration in force at a base, where it is above 0.
abbrev pub configuration_at_base : ℕ → List NodeId → List Configuration
configuration_at_base zero set = []
configuration_at_base (suc n) set = record { seqno = suc n; nodes = set } ∷ []

module _ (base : ℕ) (g : Governed) where
  -- The configuration that begins with the entry at a seqno above the base, if one does.
  abbrev pub begun_at : ℕ → Option (List NodeId)
  begun_at seqno = changed_set (trusted_up_to g (seqno - 1)) (trusted_up_to g seqno)

  -- The one in force at the base, and those that begin with one of the first entries behind it, in
  -- order.
  unfoldable pub configurations_behind : ℕ → List Configuration
  configurations_behind zero = configuration_at_base base (trusted_up_to g base)
  configurations_behind (suc n) =
      configurations_behind n ++ at_seqno (base + suc n) (begun_at (base + suc n))

  -- The requests stand behind the base, in the first so many entries.
  pub record StandBehind (count : ℕ) : Type 0 where
    pub unfounded : base ≡ 0 → g.base ≡ None
    pub below : IsBelow g.base base
    pub governed : IsGoverned g
    pub behind : up_to base g.requests ≡ []
    pub within : up_to (base + count) g.requests ≡ g.requests

  -- These are the configurations and the recorded nodes, where so many entries stand behind the
  -- base.
  pub record AreListsOf (count : ℕ) (lists : NodeLists) : Type 0 where
    pub configured : lists.configurations.items ≡ configurations_behind count
    pub recorded : lists.recorded.items ≡ nodes_of g

-- They were these before the last of so many entries.
pub record AreListsBefore (base count : ℕ) (g : Governed) (lists : NodeLists) : Type 0 where
  pub stand : StandBehind base g (suc count)
  pub listed : AreListsOf base (governed_up_to (base + count) g) count lists

-- What a node keeps of a ledger with a base: entries that stand behind the body of its snapshot,
-- and the configurations and nodes that go with them.
pub record IsBookLedger (snapshot : Option (List ℕ)) (t : Tail) (lists : NodeLists) : Type 0 where
  pub spelled : IsEncoded snapshot
  pub stands : StandsBehind (body_of snapshot) t
  pub listed : AreListsOf t.base_end.len t.state.gov (length t.entries) lists
