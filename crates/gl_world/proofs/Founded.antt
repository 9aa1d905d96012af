-- A leader of a service that a genesis founds: the identity in force is that of the genesis, and
-- the nodes of the genesis are recorded as it names them. And what a leader signs that is recorded
-- with its own key is valid.
use Rattle.std.proofs.Common.{◌≡◌, ℕ, ◌<◌, List, [], ◌∷◌, Some, true, slice_get, refl, ◌∙◌, ap}
use Rattle.gl_hss.specs.Secrets.{public_of}
use Rattle.gl_hss.specs.Tree.{IsKey, key_bytes}
use Rattle.gl_rules.specs.Identity.{NodeId}
use Rattle.gl_rules.specs.Node.{Node}
use Rattle.gl_rules.specs.World.{Start}
use Rattle.gl_entry.specs.declared.entry.Entry.{Entry}
use Rattle.gl_requests.specs.Ranges.{is_genesis}
use Rattle.gl_requests.specs.Encoding.{node_id}
use Rattle.gl_requests.specs.declared.genesis.NewNode.{NewNode}
use Rattle.gl_requests.specs.declared.genesis.Genesis as request
use Rattle.gl_gov_rules.specs.Refusals.{are_ids_distinct}
use Rattle.gl_ledger.specs.ServiceRow.{identity_in}
use Rattle.gl_ledger.specs.Tree.{tables_of}
use Rattle.gl_ledger.specs.Ledger.{genesis_entry}
use Rattle.gl_ledger.specs.Layers.{Layers}
use Rattle.gl_ledger.specs.NodeKeys.{NodeKeys, leaf_count, service_layers}
use Rattle.gl_ledger.specs.Recordings.{key_in}
use Rattle.gl_ledger.specs.Makers.{signing_result}
use Rattle.gl_ledger.specs.LedgerBook.{ledger_book}
use Rattle.gl_ledger.specs.OpeningLedger.{Begins}
use Rattle.gl_ledger.proofs.Founded.{founded_identity}
use Rattle.gl_ledger.proofs.NodeRows.{genesis_key, row_signs}
use Rattle.gl_ledger.proofs.NodeSignatures.{node_makes}
use Rattle.gl_world.specs.Service.{ServiceEvent, Leads, node_of}
use Rattle.gl_world.proofs.Leading.{recorded, unrecovered, leader_begins, leader_signs, leader_sound}

-- The opening begins with the entry of a genesis whose fields are in their ranges.
pub record IsFoundedBy (layers : Layers) (s : Start Entry) (g : request.Genesis) : Type 0 where
  pub begins : Begins layers s
  pub fits : is_genesis g ≡ true
  pub first : slice_get s.opening 0 ≡ Some (genesis_entry g)

module _ (layers : Layers) (keys : NodeKeys) (s : Start Entry) (g : request.Genesis) (h : IsFoundedBy layers s g) (events : List ServiceEvent) (x : NodeId) (leads : Leads layers keys s events x) where
  abbrev n : Node Entry
  n = node_of layers keys s events x

  starts : slice_get n.log 0 ≡ Some (genesis_entry g)
  starts = leader_begins layers keys s h.begins events x leads (genesis_entry g) h.first

  -- each node of the genesis is recorded with the key that the genesis names
  pub leader_key : (i : ℕ) (node : NewNode) → are_ids_distinct g.nodes ≡ true → slice_get g.nodes i ≡ Some node → key_in n.log (node_id node) ≡ node.key
  leader_key i node apart at = go n.log starts
    where
      go : (log : List Entry) → slice_get log 0 ≡ Some (genesis_entry g) → key_in log (node_id node) ≡ node.key
      go [] first = absurd (cc)
      go (e ∷ es) first =
          let same : e ≡ genesis_entry g = cc in
          ap (λ (f : Entry). key_in (f ∷ es) (node_id node)) same ∙ genesis_key g es i node h.fits apart at

  pub leader_identity : identity_in (tables_of n.log) ≡ g.identity
  leader_identity =
      founded_identity layers g n.log
      (leader_sound layers keys s h.begins events x leads)
      (unrecovered layers keys s h.begins events x leads) starts h.fits

-- a leader signs validly with each leaf that its key has, where it is recorded with this key
pub leader_signs_with_key : (keys : NodeKeys) (s : Start Entry) → Begins service_layers s → (events : List ServiceEvent) (x : NodeId) → Leads service_layers keys s events x →
    IsKey (public_of (keys.key_of x)) → (leaf : ℕ) → leaf < leaf_count keys x →
    let n = node_of service_layers keys s events x in
    key_in n.log x ≡ key_bytes (public_of (keys.key_of x)) →
    (ledger_book service_layers keys).sign x leaf n.log n.view n.commit ≡ signing_result keys x leaf n.log n.view n.commit
leader_signs_with_key keys s h events x leads form leaf low own =
    let n = node_of service_layers keys s events x in
    let sound = leader_sound service_layers keys s h events x leads in
    let recorded = recorded service_layers keys s h events x leads in
    leader_signs service_layers keys s h events x leads leaf
    (node_makes keys (identity_in (tables_of n.log)) x leaf n.log n.view n.commit (row_signs service_layers n.log sound (unrecovered service_layers keys s h events x leads) x recorded keys form own) low refl)
