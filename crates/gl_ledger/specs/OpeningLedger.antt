-- What opens a service: a ledger that the check of an opening takes, and a genesis that founds one.
use Rattle.std.specs.Prelude.{◌≡◌, [], ◌∷◌, None, Ok, true, map}
use Rattle.gl_rules.specs.Identity.{NodeId, member}
use Rattle.gl_rules.specs.World.{Start, first_view}
use Rattle.gl_entry.specs.declared.entry.Entry.{Entry}
use Rattle.gl_requests.specs.Encoding.{node_id}
use Rattle.gl_requests.specs.Ranges.{is_genesis}
use Rattle.gl_requests.specs.declared.genesis.Genesis as founding
use Rattle.gl_gov_rules.specs.History.{no_history}
use Rattle.gl_gov_rules.specs.Refusals.{genesis_refusal}
use Rattle.gl_ledger.specs.Ledger.{genesis_entry}
use Rattle.gl_ledger.specs.Layers.{Layers}
use Rattle.gl_ledger.specs.NodeKeys.{NodeKeys}
use Rattle.gl_ledger.specs.Makers.{MakesValid}
use Rattle.gl_ledger.specs.Sound.{IsUnrecovered}
use Rattle.gl_ledger.specs.Audit.{opened}

-- The opening ledger is one that the check takes, of a service that was never recovered, and the
-- node that signed it is among those that start.
pub record Begins (layers : Layers) (s : Start Entry) : Type 0 where
  pub checked : opened layers s.opening ≡ Ok s.first
  pub unrecovered : IsUnrecovered s.opening
  pub starts : member s.first s.starting ≡ true

-- The fields of the genesis are in their ranges, it is accepted, and a node that it names signs it
-- validly with its first leaf.
pub record Founds (layers : Layers) (keys : NodeKeys) (g : founding.Genesis) (x : NodeId) :
    Type 0 where
  pub fits : is_genesis g ≡ true
  pub accepted : genesis_refusal no_history g ≡ None
  pub named : member x (map node_id g.nodes) ≡ true
  pub valid : MakesValid layers keys x 0 (genesis_entry g ∷ []) first_view 2
