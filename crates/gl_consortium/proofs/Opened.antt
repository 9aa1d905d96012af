-- The check of an opening takes an opening ledger that is reported, unless two keys have one
-- digest.
use Rattle.std.proofs.Common.{◌≡◌, ◌⊎◌, inl, inr, ℕ, zero, suc, ◌-◌, ◌<◌, ◌^◌, ◌&&◌, ◌||◌, List, [], ◌∷◌, length, map, take, slice_get, Bool, true, false, if◌then◌else◌, Option, Some, None, Ok, Err, refl, sym, ◌∙◌, ap, subst, arith}
use Rattle.std.specs.List.{list_all}
use Rattle.std.specs.Cmp.Lexicographic.{bytes_decides}
use Rattle.std.proofs.lemmas.Bool.{and_parts, true≢false}
use Rattle.sha2.specs.Sha256.{sha256}
use Rattle.gl_base.specs.Bytes.{are_bytes, are_sized, same_bytes}
use Rattle.gl_hss.specs.Types.{height}
use Rattle.gl_hss.proofs.Octets.{seed_IsKey, seed_key_bytes}
use Rattle.gl_hss.specs.Signer.{StandsUnder, hss_signature}
use Rattle.gl_rules.specs.Identity.{NodeId, member}
use Rattle.gl_rules.specs.World.{first_view}
use Rattle.gl_rules.proofs.Ids.{same_self}
use Rattle.gl_entry.specs.Entry.{is_entry}
use Rattle.gl_entry.specs.declared.entry.Entry.{Entry}
use Rattle.gl_requests.specs.Encoding.{node_id}
use Rattle.gl_requests.specs.Ranges as ranges
use Rattle.gl_requests.proofs.Sizes.{sized_length}
use Rattle.gl_requests.specs.declared.genesis.NewNode.{NewNode}
use Rattle.gl_requests.specs.declared.genesis.Genesis as founding
use Rattle.gl_gov_rules.specs.History.{no_history}
use Rattle.gl_gov_rules.specs.Signatures.{is_endorsed}
use Rattle.gl_gov_rules.specs.Refusals.{are_endorsed, genesis_refusal}
use Rattle.gl_gov_rules.proofs.Digests.{sha256_digest}
use Rattle.gl_gov_rules.proofs.Endorsements.{endorsement_means}
use Rattle.gl_gov_rules.proofs.FoundingAccepted.{accepted_parts, accepted_passes}
use Rattle.gl_gov_rules.proofs.NewNodes.{nodes_new}
use Rattle.gl_ledger.specs.Audit.{LedgerFault, audited, opened, opened_unless, opened_where, signer_of}
use Rattle.gl_ledger.specs.Past.{is_unopened}
use Rattle.gl_ledger.specs.Broken.{broken}
use Rattle.gl_ledger.specs.Ledger.{genesis_entry, message_after, signature_entry}
use Rattle.gl_ledger.specs.Makers.{MakesValid, signature_after}
use Rattle.gl_ledger.specs.NodeKeys.{IsNodeKey, NodeKeys, service_layers}
use Rattle.gl_ledger.specs.Recordings.{endorsement_in, founds, last_entry, recovers}
use Rattle.gl_ledger.proofs.Auditing.{audited_all}
use Rattle.gl_ledger.proofs.NodeRows.{genesis_endorsement}
use Rattle.gl_ledger.proofs.NodeSignatures.{node_makes}
use Rattle.gl_ledger.proofs.OpeningLaws.{founded, founding_unbroken, opening_unbroken}
use Rattle.gl_ledger.proofs.Openings.{identity_after_genesis}
use Rattle.gl_ledger.proofs.SignatureEntries.{signed_is_entry}
use Rattle.gl_journal.specs.Durable.{Durable}
use Rattle.gl_journal.specs.declared.key.Key.{Key}
use Rattle.gl_keyfile.specs.Form.{lms_key}
use Rattle.gl_keyfile.specs.declared.signature.Signing.TheVariants.{Opening}
use Rattle.gl_consortium.specs.ExpectedOutput.{expected_for, expected_output, first_endorsement, first_id, id_of, is_first_node, opening_bytes, opening_of, opening_signature, private_key}
use Rattle.gl_consortium.specs.Laws.{HasTwin, IsOpening}
use Rattle.gl_consortium.specs.declared.document.Document.{Document}
use Rattle.gl_consortium.specs.declared.document.Document.TheVariants.{Settings}
use Rattle.gl_consortium.specs.declared.fault.SigningFault.TheVariants as faults
use Rattle.gl_consortium.proofs.ExpectedOutputLaws.{OpeningParts, opening_parts, read_of_reported}
use Rattle.gl_consortium.proofs.TextForms.{settings_read}

-- ---- the fields of a genesis

module _ (g : founding.Genesis) (fits : ranges.is_genesis g ≡ true) where
  parts : (are_sized 60 g.identity ≡ true) × (list_all ranges.is_node g.nodes ≡ true)
  parts =
      let state : Bool = ranges.is_first_state g.state in
      let key : Bool = are_sized 60 g.identity in
      let nodes : Bool = ranges.are_counted ranges.is_node g.nodes in
      let members : Bool = ranges.are_counted ranges.is_member g.members in
      let a = and_parts (state && key && nodes && members) (ranges.is_dealing g.dealing) fits in
      let b = and_parts (state && key && nodes) members a.0 in
      let c = and_parts (state && key) nodes b.0 in
      ((and_parts state key c.0).1, (and_parts _ (list_all ranges.is_node g.nodes) c.1).1)

-- the endorsement of a node is bytes
node_endorsement : (n : NewNode) → ranges.is_node n ≡ true → are_bytes n.endorsement ≡ true
node_endorsement n is = (and_parts (are_bytes n.endorsement) _ (and_parts (are_sized 56 n.key) (ranges.is_signature_field n.endorsement) is).1).0

-- ---- the ledger

-- the first node of the genesis has this key, whose leaf signs
record Signs (key : Key) (leaf : ℕ) (g : founding.Genesis) (n : NewNode) (ns : List NewNode) : Type 0 where
  fits : ranges.is_genesis g ≡ true
  accepted : genesis_refusal no_history g ≡ None
  below : leaf < 2 ^ height key.types
  nodes : g.nodes ≡ n ∷ ns
  same : n.key ≡ lms_key key

module _ (key : Key) (leaf : ℕ) (g : founding.Genesis) (n : NewNode) (ns : List NewNode) (h : Signs key leaf g n ns) where
  abbrev keys : NodeKeys
  keys = record { key_of = λ x. private_key key }

  abbrev node : NodeId
  node = id_of (private_key key)

  abbrev prefix : List Entry
  prefix = genesis_entry g ∷ []

  endorsed : is_endorsed g.identity (lms_key key) n.endorsement ≡ true
  unfolding are_endorsed
  endorsed =
      let all : are_endorsed g.identity (n ∷ ns) ≡ true = subst (λ (l : List NewNode). are_endorsed g.identity l ≡ true) h.nodes (accepted_passes g h.accepted).endorsed in
      subst (λ (k : List ℕ). is_endorsed g.identity k n.endorsement ≡ true) h.same (and_parts (is_endorsed g.identity n.key n.endorsement) _ all).0

  bytes : are_bytes n.endorsement ≡ true
  bytes =
      let all : list_all ranges.is_node (n ∷ ns) ≡ true = subst (λ (l : List NewNode). list_all ranges.is_node l ≡ true) h.nodes (parts g h.fits).1 in
      node_endorsement n (and_parts (ranges.is_node n) _ all).0

  is_node_key : IsNodeKey keys n.endorsement g.identity node
  unfolding StandsUnder
  is_node_key =
      let sized = (parts g h.fits).0 in
      record {
        form = seed_IsKey key.types key.seed;
        stands = (endorsement_means g.identity (lms_key key) n.endorsement (sized_length 60 g.identity sized) (and_parts _ (are_bytes g.identity) sized).1 bytes).0 endorsed;
        named = refl;
        key = seed_key_bytes key.types key.seed;
        bytes = bytes;
      }

  named : member node (map node_id g.nodes) ≡ true
  named =
      subst (λ (l : List NewNode). member (id_of (private_key key)) (map node_id l) ≡ true) (sym h.nodes)
      (subst (λ (k : List ℕ). member (sha256 k) (map node_id (n ∷ ns)) ≡ true) h.same
      (ap (λ (b : Bool). b || member (sha256 n.key) (map node_id ns)) (same_self (sha256 n.key))))

  -- its endorsement is the one in its row
  row : endorsement_in prefix node ≡ n.endorsement
  row =
      let apart = (nodes_new no_history g.nodes (accepted_passes g h.accepted).nodes).apart in
      ap (λ (k : List ℕ). endorsement_in prefix (sha256 k)) (sym h.same) ∙ genesis_endorsement g [] 0 n h.fits apart (ap (λ (l : List NewNode). slice_get l 0) h.nodes)

  makes : (q : ℕ) → q < 2 ^ height key.types → MakesValid service_layers keys node q prefix first_view 2
  makes q low = node_makes keys g.identity node q prefix first_view 2 (subst (λ (e : List ℕ). IsNodeKey keys e g.identity node) (sym row) is_node_key) low (identity_after_genesis g)

  -- the endorsement of the first node is what signs
  with_first : opening_signature (private_key key) leaf g ≡ signature_after keys node leaf prefix first_view 2
  with_first =
      ap (λ (e : List ℕ). hss_signature (private_key key) (Some e) leaf (message_after prefix first_view 2)) (ap first_endorsement h.nodes ∙ sym row)

  abbrev last : List ℕ → Entry
  last signature = signature_entry node signature prefix first_view 2

  -- the signature breaks no rule
  last_unbroken : broken service_layers prefix (last (opening_signature (private_key key) leaf g)) ≡ None
  last_unbroken =
      let valid = makes leaf h.below in
      let signature = signature_after keys node leaf prefix first_view 2 in
      let entry : is_entry (last signature) ≡ true = signed_is_entry service_layers keys node leaf prefix first_view 2 (sha256_digest (lms_key key)) (omega arith) (omega arith) (omega arith) (omega arith) valid in
      subst (λ (s : List ℕ). broken service_layers prefix (last s) ≡ None) (sym with_first)
      (opening_unbroken service_layers g h.fits node signature named entry valid.valid)

  -- nor does the genesis
  first_unbroken : broken service_layers [] (genesis_entry g) ≡ None
  first_unbroken = founding_unbroken service_layers g h.fits h.accepted

  founds_service : founds (genesis_entry g) ≡ true
  founds_service = founded service_layers keys g node (record { fits = h.fits; accepted = h.accepted; named = named; valid = makes 0 (let low = h.below in omega (arith, low)) })

  abbrev ledger : List Entry
  ledger = opening_of (private_key key) leaf g

  each : (i : ℕ) (e : Entry) → slice_get ledger i ≡ Some e → broken service_layers (take i ledger) e ≡ None
  each zero e at = subst (λ (x : Entry). broken service_layers [] x ≡ None) (let same : genesis_entry g ≡ e = cc in same) first_unbroken
  each (suc zero) e at = subst (λ (x : Entry). broken service_layers prefix x ≡ None) (let same : last (opening_signature (private_key key) leaf g) ≡ e = cc in same) last_unbroken
  each (suc (suc i)) e at = absurd (cc)

  -- so the check takes it
  taken : opened service_layers ledger ≡ Ok node
  unfolding opened
  taken =
      let none : audited service_layers ledger ≡ None = audited_all service_layers ledger each in
      let one : length ledger - 1 ≡ 1 = omega arith in
      let none_before : length prefix - 1 ≡ 0 = omega arith in
      ap (λ (o : Option LedgerFault). opened_unless service_layers o ledger) none
      ∙ ap (λ (j : ℕ). opened_where (is_unopened (last_entry (take j ledger))) (signer_of (slice_get ledger j)) (length ledger)) one
      ∙ ap (λ (j : ℕ). opened_where (is_unopened (slice_get prefix j)) (Some node) (length ledger)) none_before
      ∙ ap (λ (b : Bool). opened_where (b || recovers (genesis_entry g)) (Some node) (length ledger)) founds_service

-- ---- what is reported

-- the identifiers are the same where the key is that of the first node
same_id : (key : Key) (ns : List NewNode) → is_first_node (private_key key) ns ≡ Ok tt → first_id ns ≡ id_of (private_key key)
same_id key ns is = go (same_bytes (first_id ns) (id_of (private_key key))) refl is
  where
    go : (b : Bool) → same_bytes (first_id ns) (id_of (private_key key)) ≡ b → (if b then Ok (tt {0}) else Err (faults.NotFirstNode (first_id ns) (id_of (private_key key)))) ≡ Ok tt → first_id ns ≡ id_of (private_key key)
    go true test is = (bytes_decides (first_id ns) (id_of (private_key key))).0 test
    go false test is = absurd cc

opening_opens : (key : Key) (leaf : ℕ) (g : founding.Genesis) (reported : List ℕ) → ranges.is_genesis g ≡ true → OpeningParts key leaf g reported → (ns : List NewNode) → g.nodes ≡ ns →
    (opened service_layers (opening_of (private_key key) leaf g) ≡ Ok (sha256 (lms_key key))) ⊎ HasTwin (lms_key key)
opening_opens key leaf g reported fits parts [] is =
    let some = (accepted_parts g parts.accepted).some_nodes in
    absurd (omega (arith, some, ap length is))
opening_opens key leaf g reported fits parts (n ∷ ns) is = go (same_bytes n.key (lms_key key)) refl
  where
    go : (b : Bool) → same_bytes n.key (lms_key key) ≡ b → (opened service_layers (opening_of (private_key key) leaf g) ≡ Ok (sha256 (lms_key key))) ⊎ HasTwin (lms_key key)
    go true test = inl (taken key leaf g n ns (record { fits = fits; accepted = parts.accepted; below = parts.below; nodes = is; same = (bytes_decides n.key (lms_key key)).0 test }))
    go false test = inr (n.key, sym (ap first_id is) ∙ same_id key g.nodes parts.first, λ (same : n.key ≡ lms_key key). true≢false (sym ((bytes_decides n.key (lms_key key)).1 same) ∙ test))

opening_reported : (key : Key) (leaf : ℕ) (g : founding.Genesis) (reported : List ℕ) → ranges.is_genesis g ≡ true → expected_for key leaf (Settings g) ≡ Ok reported → IsOpening key reported
unfolding expected_for opening_bytes
opening_reported key leaf g reported fits is =
    let parts = opening_parts key leaf g reported is in
    record { ledger = opening_of (private_key key) leaf g; reported_is = parts.reported_is; opens = opening_opens key leaf g reported fits parts g.nodes refl }

pub opens : (state : Durable) (text reported : List ℕ) → expected_output Opening state text ≡ Ok reported → IsOpening state.key reported
opens state text reported is =
    let found = read_of_reported Opening state text reported is in
    let document = settings_read text found.0 found.1 in
    opening_reported state.key state.reserved document.0 reported document.2 (subst (λ (d : Document). expected_for state.key state.reserved d ≡ Ok reported) document.1 found.2)
