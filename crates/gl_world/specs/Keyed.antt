-- The keys of a service's nodes, as they are made.
use Rattle.std.specs.Prelude.{◌≡◌, ℕ, suc, ◌+◌, List, Some, length, slice_get}
use Rattle.gl_world.specs.declared.settings.Settings.{Settings}
use Rattle.gl_world.specs.declared.node_key.NodeKey.{NodeKey}
use Rattle.gl_world.specs.declared.service_keys.ServiceKeys.{ServiceKeys}
use Rattle.gl_world.specs.Keys.{private_key, node_seed, service_seed}
use Rattle.gl_world.specs.Founding.{endorsement_of}

-- The key of the node with a number, and its endorsement.
pub record IsKeyOf (s : Settings) (number : ℕ) (k : NodeKey) : Type 0 where
  pub key : k.key ≡ private_key (node_seed s number)
  pub endorsement : k.endorsement.items ≡ endorsement_of s number

-- The keys of the first so many nodes, in the order of their numbers, from 1.
pub record AreKeysOf (s : Settings) (count : ℕ) (keys : List NodeKey) : Type 0 where
  pub counted : length keys ≡ count
  pub each : (i : ℕ) (k : NodeKey) → slice_get keys i ≡ Some k → IsKeyOf s (suc i) k

-- The keys of a service, and of the nodes that start or join.
pub record HasKeysOf (s : Settings) (keys : ServiceKeys) : Type 0 where
  pub service : keys.service ≡ private_key (service_seed s)
  pub nodes : AreKeysOf s (s.starting + s.joiners) keys.nodes.items
