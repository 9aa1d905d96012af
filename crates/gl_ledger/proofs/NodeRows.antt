-- What a ledger records of its nodes: those of a genesis as that names them, and where no recovery
-- stands each with an endorsement by the service's key in force.
use Rattle.std.proofs.Common.{◌≡◌, ℕ, ◌<◌, List, [], ◌∷◌, ◌++◌, length, find, Option, Some, Bool, true, false, ◌||◌, refl, sym, ◌∙◌, ap, subst, arith, slice_get}
use Rattle.std.specs.FinMap as rows
use Rattle.std.proofs.lemmas.Bool.{and_parts, cond-true, cond-false, false≢true}
use Rattle.sha2.specs.Sha256.{sha256}
use Rattle.gl_base.specs.Bytes.{are_bytes, are_sized, same_bytes}
use Rattle.gl_hss.specs.Tree.{key_bytes, IsKey}
use Rattle.gl_hss.specs.Secrets.{public_of}
use Rattle.gl_hss.specs.Hss.{IsEndorsed}
use Rattle.gl_hss.specs.Signer.{StandsUnder}
use Rattle.gl_rules.specs.Identity.{NodeId, same, member}
use Rattle.gl_vmaps.specs.Tables.{Rows}
use Rattle.gl_vmaps.proofs.TablesLaws.{same_bytes-symm}
use Rattle.gl_entry.specs.declared.entry.Entry.{Entry}
use Rattle.gl_requests.specs.Ranges as ranges
use Rattle.gl_requests.specs.Encoding.{node_id}
use Rattle.gl_requests.proofs.Sizes.{sized_length}
use Rattle.gl_requests.specs.declared.genesis.NewNode.{NewNode}
use Rattle.gl_requests.specs.declared.genesis.Genesis as founding
use Rattle.gl_requests.specs.declared.request.GovernanceRequest.{GovernanceRequest}
use Rattle.gl_requests.specs.declared.request.GovernanceRequest.TheVariants as requests
use Rattle.gl_gov_rules.specs.declared.change.Recorded.{Recorded}
use Rattle.gl_gov_rules.specs.declared.change.RecordedNode.{RecordedNode}
use Rattle.gl_gov_rules.specs.Changes.{history}
use Rattle.gl_gov_rules.specs.Governed.{IsGoverned}
use Rattle.gl_gov_rules.specs.Nodes.{has_id, node, nodes, recorded_node}
use Rattle.gl_gov_rules.specs.Refusals.{are_ids_distinct, key_in_force}
use Rattle.gl_gov_rules.specs.Rows.{effect, service_key, service_map}
use Rattle.gl_gov_rules.specs.Service.{identity}
use Rattle.gl_gov_rules.specs.Signatures.{is_endorsed}
use Rattle.gl_gov_rules.proofs.EndorsedNodes.{IsEndorsedBy, endorsed_node, founding_node}
use Rattle.gl_gov_rules.proofs.Endorsements.{endorsement_means}
use Rattle.gl_gov_rules.proofs.FoundingReadings.{founding_recorded}
use Rattle.gl_gov_rules.proofs.RowOfService.{founded_row, identity_reported, service_value}
use Rattle.gl_ledger.specs.ServiceRow.{identity_in, identity_of_value}
use Rattle.gl_ledger.specs.Tree.{tables_of}
use Rattle.gl_ledger.specs.Ledger.{genesis_entry}
use Rattle.gl_ledger.specs.Layers.{Layers}
use Rattle.gl_ledger.specs.NodeKeys.{IsNodeKey, NodeKeys}
use Rattle.gl_ledger.specs.Recordings.{endorsement_found, endorsement_in, key_found, key_in, recorded_at, recorded_nodes, requests_from, requests_of}
use Rattle.gl_ledger.specs.Sound.{IsSound, IsUnrecovered}
use Rattle.gl_ledger.proofs.Founded.{founded_by, founding_requests, identity_sized, none_recover}
use Rattle.gl_ledger.proofs.Governed.{governed}
use Rattle.gl_ledger.proofs.RecordedNodes.{ids, recorded_are}
use Rattle.gl_ledger.proofs.RequestEncodings.{request_in-read}

-- ---- a genesis

-- whatever entries follow, each of its nodes is recorded as it names it
module _ (g : founding.Genesis) (es : List Entry) (i : ℕ) (n : NewNode) (fits : ranges.is_genesis g ≡ true) (apart : are_ids_distinct g.nodes ≡ true) (at : slice_get g.nodes i ≡ Some n) where
  genesis_node : node (history (requests_of (genesis_entry g ∷ es))) (node_id n) ≡ Some (recorded_node 1 true n)
  genesis_node =
      ap (λ (o : Option GovernanceRequest). node (history (recorded_at 1 o ++ requests_from 2 es)) (node_id n)) (request_in-read (requests.Genesis g) fits)
      ∙ founding_node g (requests_from 2 es) i n apart at

  pub genesis_key : key_in (genesis_entry g ∷ es) (node_id n) ≡ n.key
  unfolding key_in
  genesis_key = ap key_found genesis_node

  pub genesis_endorsement : endorsement_in (genesis_entry g ∷ es) (node_id n) ≡ n.endorsement
  unfolding endorsement_in
  genesis_endorsement = ap endorsement_found genesis_node

-- ---- recorded nodes

-- a node that is recorded is found
found_among : (x : NodeId) (ns : List RecordedNode) → member x (ids ns) ≡ true → (n : RecordedNode) × (find (has_id x) ns ≡ Some n)
unfolding same
found_among x [] h = absurd (cc)
found_among x (n ∷ ns) h = go (same_bytes x n.id) refl h (found_among x ns)
  where
    go : (t : Bool) → same_bytes x n.id ≡ t → (t || member x (ids ns)) ≡ true → (member x (ids ns) ≡ true → (m : RecordedNode) × (find (has_id x) ns ≡ Some m)) →
        (m : RecordedNode) × (find (has_id x) (n ∷ ns) ≡ Some m)
    go true is w again = (n, cond-true (same_bytes n.id x) (Some n) (find (has_id x) ns) (same_bytes-symm n.id x ∙ is))
    go false is w again = let r = again w in (r.0, cond-false (same_bytes n.id x) (Some n) (find (has_id x) ns) (same_bytes-symm n.id x ∙ is) ∙ r.1)

-- a ledger that records a node has an entry
some_entry : (ledger : List Entry) (x : NodeId) → member x (recorded_nodes ledger) ≡ true → 0 < length ledger
some_entry [] x h = absurd (false≢true (sym (ap (member x) (recorded_are [])) ∙ h))
some_entry (e ∷ es) x h = omega arith

-- the service's key by the tables is that by the requests
in_force : (layers : Layers) (ledger : List Entry) → IsSound layers ledger → 0 < length ledger → identity_in (tables_of ledger) ≡ key_in_force (identity (history (requests_of ledger)))
in_force layers [] sound some = absurd (omega (arith, some))
in_force layers (e ∷ es) sound some =
    let by = founded_by e (sound.founded.first e refl).0 in
    let are = founding_requests e es by in
    let rs : List Recorded = founding_recorded by.genesis ∷ requests_from 2 es in
    let all : IsGoverned rs = subst IsGoverned are (governed layers (e ∷ es) sound) in
    let row = founded_row (founding_recorded by.genesis) (requests_from 2 es) all in
    ap (λ (r : Rows). identity_of_value (rows.get r service_key)) (sound.governed service_map refl ∙ ap (λ (rs : List Recorded). effect rs service_map) are)
    ∙ ap identity_of_value (service_value rs row.0 row.1)
    ∙ sym (ap (λ (rs : List Recorded). key_in_force (identity (history rs))) are ∙ ap key_in_force (identity_reported rs row.0 row.1))

module _ (layers : Layers) (ledger : List Entry) (sound : IsSound layers ledger) (none : IsUnrecovered ledger) (x : NodeId) (recorded : member x (recorded_nodes ledger) ≡ true) where
  some : 0 < length ledger
  some = some_entry ledger x recorded

  row : (n : RecordedNode) × (node (history (requests_of ledger)) x ≡ Some n)
  unfolding recorded_nodes node
  row = found_among x (nodes (history (requests_of ledger))) recorded

  abbrev of : NewNode
  of = row.0.node

  key_is : key_in ledger x ≡ of.key
  unfolding key_in
  key_is = ap key_found row.1

  endorsement_is : endorsement_in ledger x ≡ of.endorsement
  unfolding endorsement_in
  endorsement_is = ap endorsement_found row.1

  by_key : IsEndorsedBy (key_in_force (identity (history (requests_of ledger)))) row.0 × (row.0.id ≡ x)
  by_key = endorsed_node (requests_of ledger) (governed layers ledger sound) (none_recover 1 ledger none) x row.0 row.1

  -- the digest of the key in its row is its identifier
  pub row_named : x ≡ sha256 (key_in ledger x)
  row_named = sym by_key.1 ∙ by_key.0.named ∙ ap sha256 (sym key_is)

  -- the service's key in force endorses that key, by the endorsement in the row
  row_bytes : are_bytes of.endorsement ≡ true
  row_bytes = (and_parts (are_bytes of.endorsement) _ (and_parts (are_sized 56 of.key) (ranges.is_signature_field of.endorsement) by_key.0.fits).1).0

  row_endorsed : IsEndorsed (identity_in (tables_of ledger)) of.key of.endorsement
  row_endorsed =
      let sized = identity_sized layers ledger sound some in
      let key = identity_in (tables_of ledger) in
      (endorsement_means key of.key of.endorsement (sized_length 60 key sized) (and_parts _ (are_bytes key) sized).1 row_bytes).0
      (ap (λ (k : List ℕ). is_endorsed k of.key of.endorsement) (in_force layers ledger sound some) ∙ by_key.0.endorsed)

  -- so a node whose key is that of its row signs with the endorsement in it
  pub row_signs : (keys : NodeKeys) → IsKey (public_of (keys.key_of x)) → key_in ledger x ≡ key_bytes (public_of (keys.key_of x)) → IsNodeKey keys (endorsement_in ledger x) (identity_in (tables_of ledger)) x
  unfolding StandsUnder
  row_signs keys form own =
      let key = key_bytes (public_of (keys.key_of x)) in
      let same : of.key ≡ key = sym key_is ∙ own in
      let sized = (and_parts (are_sized 56 of.key) (ranges.is_signature_field of.endorsement) by_key.0.fits).0 in
      record {
        form = form;
        stands = subst (IsEndorsed (identity_in (tables_of ledger)) key) (sym endorsement_is) (subst (λ (k : List ℕ). IsEndorsed (identity_in (tables_of ledger)) k of.endorsement) same row_endorsed);
        named = row_named ∙ ap sha256 own;
        key = subst (λ (k : List ℕ). are_bytes k ≡ true) same (and_parts _ (are_bytes of.key) sized).1;
        bytes = subst (λ (e : List ℕ). are_bytes e ≡ true) (sym endorsement_is) row_bytes;
      }
