-- The service of a load: one node that starts, and all keys from one seed.
use Rattle.std.specs.Prelude.{ℕ, List, [], ◌∷◌}
use Rattle.gl_hss.specs.declared.types.Types.TheVariants.{H10W4}
use Rattle.gl_hss.specs.Tree.{key_bytes}
use Rattle.gl_hss.specs.Secrets.{PrivateKey, public_of}
use Rattle.gl_hss.specs.Profile.{key_of_seed}
use Rattle.gl_rules.specs.Identity.{NodeId}
use Rattle.gl_rules.specs.World.{Start}
use Rattle.gl_entry.specs.declared.entry.Entry.{Entry}
use Rattle.gl_requests.specs.Encoding.{node_id}
use Rattle.gl_requests.specs.declared.genesis.NewNode.{NewNode}
use Rattle.gl_requests.specs.declared.genesis.Genesis as request
use Rattle.gl_requests.specs.declared.genesis.ServiceState.TheVariants.{Open}
use Rattle.gl_ledger.specs.LedgerBook.{ServiceBook, ledger_book}
use Rattle.gl_ledger.specs.Makers.{opening_of}
use Rattle.gl_ledger.specs.NodeKeys.{NodeKeys, service_layers}
use Rattle.gl_replication.specs.Holding.{Holding}
use Rattle.gl_world.specs.declared.settings.Settings.{Settings}
use Rattle.gl_world.specs.Founding.{endorsement_by, genesis_of}
use Rattle.gl_world.specs.Keys.{node_seed, private_key, service_seed}

-- The settings of a schedule with one node, one member and an open service.
abbrev pub load_settings : List ℕ → Settings
load_settings seed = record { starting = 1; joiners = 0; members = 1; state = Open; seed = seed }

-- The node's key grows from the seed of node 1 of these settings. It has 1,024 leaves: its types
-- are LMS_SHA256_M32_H10 and LMOTS_SHA256_N32_W4 (RFC 8554, sections 5.1 and 4.1).
abbrev pub load_key : List ℕ → PrivateKey
load_key seed = key_of_seed H10W4 (node_seed (load_settings seed) 1)

abbrev pub load_public : List ℕ → List ℕ
load_public seed = key_bytes (public_of (load_key seed))

-- The service's key endorses it, with its first leaf.
abbrev pub load_node : List ℕ → NewNode
load_node seed = record {
  key = load_public seed;
  endorsement =
      endorsement_by (private_key (service_seed (load_settings seed))) 0 (load_public seed);
}

abbrev pub load_id : List ℕ → NodeId
load_id seed = node_id (load_node seed)

-- The genesis of these settings, with this node in place of node 1.
abbrev pub load_genesis : List ℕ → request.Genesis
load_genesis seed = record (genesis_of (load_settings seed)) { nodes = load_node seed ∷ [] }

-- No other node has a key.
abbrev pub load_keys : List ℕ → NodeKeys
load_keys seed = record { key_of = λ x. load_key seed }

-- The ledger of the service as a book.
abbrev pub load_book : List ℕ → ServiceBook
load_book seed = ledger_book service_layers (load_keys seed)

-- It begins with the opening ledger of its genesis, signed by its node.
abbrev pub load_start : List ℕ → Start Entry
load_start seed = record {
  opening = opening_of (load_keys seed) (load_genesis seed) (load_id seed);
  starting = load_id seed ∷ [];
  first = load_id seed;
}

-- What the node's store holds then.
abbrev pub load_holding : List ℕ → Holding Entry
load_holding seed = record { me = load_id seed; base = 0; log = (load_start seed).opening }
