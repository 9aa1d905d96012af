-- The genesis of a load fits its format and is accepted, and its node founds the service.
use Rattle.std.proofs.Common.{◌≡◌, ℕ, List, [], ◌∷◌, length, None, Ok, true, is_ok, refl, sym, ◌∙◌, ap, ap₂, subst, arith}
use Rattle.std.proofs.lemmas.Bool.{and_parts, and_from}
use Rattle.std.proofs.lemmas.Bool.Decides.{nat_tests}
use Rattle.gl_base.specs.Bytes.{are_bytes, are_sized}
use Rattle.gl_hss.specs.declared.types.Types.TheVariants.{H5W4, H10W4}
use Rattle.gl_hss.specs.Profile.{key_of_seed}
use Rattle.gl_hss.specs.Secrets.{PrivateKey, public_of}
use Rattle.gl_hss.specs.Tree.{key_bytes}
use Rattle.gl_hss.proofs.Octets.{length-seed_key, length-signed, seed_IsKey, seed_key_bytes, signed_bytes}
use Rattle.gl_hss.proofs.ValidSignatures.{signature_by-Signs}
use Rattle.gl_hss.specs.Hss.{IsEndorsed}
use Rattle.gl_hss.specs.Order.{endorsement_verdict}
use Rattle.gl_hss.specs.Signer.{StandsUnder}
use Rattle.gl_hss.proofs.Endorsements.{endorsement_there}
use Rattle.gl_rules.specs.World.{first_view}
use Rattle.gl_requests.specs.Ranges.{is_genesis, is_node}
use Rattle.gl_requests.specs.declared.genesis.Genesis as request
use Rattle.gl_requests.specs.declared.genesis.NewNode.{NewNode}
use Rattle.gl_gov_rules.specs.History.{no_history}
use Rattle.gl_gov_rules.specs.Nodes.{node, nodes}
use Rattle.gl_gov_rules.specs.Refusals.{are_endorsed, genesis_refusal, is_any_recorded, members_refusal, nodes_refusal}
use Rattle.gl_gov_rules.specs.Signatures.{is_endorsed}
use Rattle.gl_gov_rules.proofs.Digests.{are_sized-true}
use Rattle.gl_gov_rules.proofs.FoundingAccepted.{accepted_passes, accepts}
use Rattle.gl_ledger.specs.Ledger.{genesis_entry}
use Rattle.gl_ledger.specs.NodeKeys.{IsNodeKey, service_layers}
use Rattle.gl_ledger.specs.OpeningLedger.{Begins, Founds}
use Rattle.gl_ledger.proofs.NodeRows.{genesis_endorsement}
use Rattle.gl_ledger.proofs.NodeSignatures.{node_makes}
use Rattle.gl_ledger.proofs.Opened.{opening_opened, opening_unrecovered}
use Rattle.gl_ledger.proofs.OpeningLaws.{member_first}
use Rattle.gl_ledger.proofs.Openings.{identity_after_genesis}
use Rattle.gl_world.specs.declared.settings.Settings.{Settings}
use Rattle.gl_world.specs.Founding.{endorsement_by, genesis_of}
use Rattle.gl_world.specs.Group.{IsGroup}
use Rattle.gl_world.specs.Keys.{node_seed, private_key, service_seed}
use Rattle.gl_world.proofs.Acceptable.{group_accepted, group_fits}
use Rattle.gl_load.specs.Founding.{load_genesis, load_id, load_keys, load_node, load_public, load_settings, load_start}

module _ (seed : List ℕ) where
  abbrev s : Settings
  s = load_settings seed

  pub group : IsGroup (load_settings seed)
  group = record {
    first_state = refl;
    first = omega arith;
    starting = omega arith;
    joiners = omega arith;
    some = omega arith;
    few = omega arith;
    distinct = refl;
    apart = refl;
  }

  -- ---- the node

  endorsement_bytes : are_bytes (load_node seed).endorsement ≡ true
  endorsement_bytes = signed_bytes (private_key (service_seed s)) 0 (load_public seed)

  length-endorsement : length (load_node seed).endorsement ≡ 2348
  length-endorsement = length-signed (private_key (service_seed s)) 0 (load_public seed) (omega arith)

  endorsed : IsEndorsed (load_genesis seed).identity (load_public seed) (load_node seed).endorsement
  endorsed = record {
    top = public_of (private_key (service_seed s));
    leaf = 0;
    of_key = record { encoded = refl; form = seed_IsKey H5W4 (service_seed s); some = omega arith; few = omega arith };
    signs = signature_by-Signs (private_key (service_seed s)) 0 (load_public seed) (load_node seed).endorsement (omega arith) refl;
  }

  endorsement_valid : endorsement_verdict (load_genesis seed).identity (load_public seed) (load_node seed).endorsement ≡ Ok tt
  endorsement_valid = endorsement_there (load_genesis seed).identity (load_public seed) (load_node seed).endorsement endorsed

  public_bytes : are_bytes (load_public seed) ≡ true
  public_bytes = seed_key_bytes H10W4 (node_seed s 1)

  public_sized : are_sized 56 (load_public seed) ≡ true
  public_sized = are_sized-true 56 (load_public seed) (length-seed_key H10W4 (node_seed s 1)) public_bytes

  node_fits : is_node (load_node seed) ≡ true
  node_fits = and_from _ _ public_sized (and_from _ _ endorsement_bytes (let long = length-endorsement in grind (arith, nat_tests)))

  has_key : IsNodeKey (load_keys seed) (load_node seed).endorsement (load_genesis seed).identity (load_id seed)
  unfolding StandsUnder
  has_key = record { form = seed_IsKey H10W4 (node_seed s 1); stands = endorsed; named = refl; key = public_bytes; bytes = endorsement_bytes }

  -- ---- the genesis

  pub load_fits : is_genesis (load_genesis seed) ≡ true
  load_fits =
      let all = and_parts _ _ (group_fits s group) in
      let most = and_parts _ _ all.0 in
      let some = and_parts _ _ most.0 in
      and_from _ _ (and_from _ _ (and_from _ _ some.0 (and_from _ _ refl (and_from _ _ node_fits refl))) most.1) all.1

  members_accepted : members_refusal (load_genesis seed) ≡ None
  unfolding members_refusal
  members_accepted = (accepted_passes (genesis_of s) (group_accepted s group)).members

  nodes_accepted : nodes_refusal no_history (load_genesis seed).nodes ≡ None
  unfolding nodes_refusal is_any_recorded nodes node
  nodes_accepted = refl

  nodes_endorsed : are_endorsed (load_genesis seed).identity (load_genesis seed).nodes ≡ true
  unfolding are_endorsed is_endorsed
  nodes_endorsed = and_from _ _ (ap is_ok endorsement_valid) refl

  accepted : genesis_refusal no_history (load_genesis seed) ≡ None
  accepted = accepts (load_genesis seed) members_accepted nodes_accepted nodes_endorsed

  -- ---- the service

  pub load_founds : Founds service_layers (load_keys seed) (load_genesis seed) (load_id seed)
  load_founds = record {
    fits = load_fits;
    accepted = accepted;
    named = member_first (load_id seed) [];
    valid = node_makes (load_keys seed) (load_genesis seed).identity (load_id seed) 0 (genesis_entry (load_genesis seed) ∷ []) first_view 2
        (subst (λ (e : List ℕ). IsNodeKey (load_keys seed) e (load_genesis seed).identity (load_id seed))
        (sym (genesis_endorsement (load_genesis seed) [] 0 (load_node seed) load_fits refl refl)) has_key)
        (omega arith) (identity_after_genesis (load_genesis seed));
  }

  pub load_begins : Begins service_layers (load_start seed)
  load_begins = record {
    checked = opening_opened service_layers (load_keys seed) (load_genesis seed) (load_id seed) load_founds;
    unrecovered = opening_unrecovered service_layers (load_keys seed) (load_genesis seed) (load_id seed) load_founds;
    starts = member_first (load_id seed) [];
  }

-- ---- the calls that make it

abbrev node_with : PrivateKey → PrivateKey → NewNode
node_with service key = record {
  key = key_bytes (public_of key);
  endorsement = endorsement_by service 0 (key_bytes (public_of key));
}

abbrev with_its_node : request.Genesis → NewNode → request.Genesis
with_its_node g n = record g { nodes = n ∷ [] }

module _ (seed : List ℕ) (s : Settings) (is : s ≡ load_settings seed) where
  pub node_made : (service key : PrivateKey) (k : List ℕ) (n : NewNode) → service ≡ private_key (service_seed s) → k ≡ node_seed (load_settings seed) 1 → key ≡ key_of_seed H10W4 k → n ≡ node_with service key → n ≡ load_node seed
  node_made service key k n by own grown made =
      made ∙ ap₂ node_with (by ∙ ap (λ (r : Settings). private_key (service_seed r)) is) (grown ∙ ap (key_of_seed H10W4) own)

  pub genesis_made : (g h : request.Genesis) (n : NewNode) → g ≡ genesis_of s → n ≡ load_node seed → h ≡ with_its_node g n → h ≡ load_genesis seed
  genesis_made g h n of node made = made ∙ ap₂ with_its_node (of ∙ ap genesis_of is) node
