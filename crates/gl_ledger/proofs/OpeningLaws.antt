-- The opening ledger of an accepted genesis breaks no rule, whatever nodes it names.
use Rattle.std.proofs.Common.{◌≡◌, ℕ, zero, suc, List, [], ◌∷◌, ◌++◌, map, take, Option, Some, None, Bool, true, false, not, ◌||◌, ◌==◌, if◌then◌else◌, refl, ◌∙◌, ap, ap₂, subst, arith, slice_get}
use Rattle.gl_base.specs.Bytes.{same_bytes}
use Rattle.gl_rules.specs.Identity.{NodeId, same, member}
use Rattle.gl_rules.specs.Safety.{IsOpening, EachFollows}
use Rattle.gl_rules.specs.World.{first_view}
use Rattle.gl_merkle.specs.Tree.{root_of}
use Rattle.gl_vmaps.specs.declared.write.Write.{Write}
use Rattle.gl_entry.specs.Entry.{is_signature, is_entry}
use Rattle.gl_entry.specs.declared.entry.Content.TheVariants as content
use Rattle.gl_entry.specs.declared.entry.Entry.{Entry}
use Rattle.gl_entry.specs.declared.entry.Signature as signatures
use Rattle.gl_requests.specs.Encoding.{node_id, request_bytes}
use Rattle.gl_requests.specs.Ranges.{is_genesis}
use Rattle.gl_requests.specs.declared.genesis.Genesis as founding
use Rattle.gl_requests.specs.declared.request.GovernanceRequest.{GovernanceRequest}
use Rattle.gl_requests.specs.declared.request.GovernanceRequest.TheVariants as requests
use Rattle.gl_gov_rules.specs.declared.change.Recorded.{Recorded}
use Rattle.gl_gov_rules.specs.declared.change.RecordedNode.{RecordedNode}
use Rattle.gl_gov_rules.specs.declared.refusal.GovernanceRefusal.{GovernanceRefusal}
use Rattle.gl_gov_rules.specs.History.{no_history}
use Rattle.gl_gov_rules.specs.Changes.{history}
use Rattle.gl_gov_rules.specs.Nodes as nodes
use Rattle.gl_gov_rules.specs.Refusals.{genesis_refusal}
use Rattle.gl_gov_rules.specs.Rows.{effect_writes}
use Rattle.gl_gov_rules.proofs.FoundingReadings.{founding_recorded, founding_ids, founding_trusted}
use Rattle.gl_gov_rules.proofs.FoundingAccepted.{refusal_of_genesis}
use Rattle.gl_vmaps.proofs.SameValues.{same_bytes_self}
use Rattle.gl_ledger.specs.Tree.{leaves_of}
use Rattle.gl_ledger.specs.Ledger.{genesis_entry, signature_entry}
use Rattle.gl_ledger.specs.Layers.{Layers}
use Rattle.gl_ledger.specs.NodeKeys.{NodeKeys}
use Rattle.gl_ledger.specs.declared.recording.Recording.TheVariants as recordings
use Rattle.gl_ledger.specs.Recordings.{recording_of, governance_recording, records_founding, founds, recovers, begins, requests_of, recorded_at, changed_set, recorded_nodes, trusted_nodes, configuration}
use Rattle.gl_ledger.specs.Past.{past_of}
use Rattle.gl_ledger.specs.Broken.{unless_refused, with_writes, is_later_commit, may_record, fault_of_signature, broken_by_fault, are_same_writes, broken}
use Rattle.gl_ledger.specs.Makers.{signature_after, signed_entry, opening_of}
use Rattle.gl_ledger.specs.LedgerBook.{by_rule, ledger_book}
use Rattle.gl_ledger.specs.OpeningLedger.{Founds}
use Rattle.gl_ledger.proofs.GenesisEntries.{genesis_is_entry}
use Rattle.gl_ledger.proofs.Passing.{passes, passing_all}
use Rattle.gl_ledger.proofs.RequestEncodings.{request_in-read}
use Rattle.gl_ledger.proofs.SameWrites.{same_writes_self}
use Rattle.gl_ledger.proofs.RecordedNodes.{named_digests, among}
use Rattle.gl_ledger.proofs.SignatureEntries.{signed_is_entry}

or_true : (b : Bool) → (b || true) ≡ true
or_true true = refl
or_true false = refl

-- the first of a list is in it
pub member_first : (x : NodeId) (ys : List NodeId) → member x (x ∷ ys) ≡ true
unfolding same
member_first x ys = ap (λ (b : Bool). b || member x ys) (same_bytes_self x)

-- ---- requests that are read as a founding alone

-- no requests have trusted nodes
none_trusted : nodes.trusted (history []) ≡ []
unfolding nodes.trusted nodes.nodes history
none_trusted = refl

-- they record its nodes, in their order
pub founding_recorded_nodes : (ledger : List Entry) (g : founding.Genesis) → requests_of ledger ≡ founding_recorded g ∷ [] → recorded_nodes ledger ≡ map node_id g.nodes
unfolding recorded_nodes
founding_recorded_nodes ledger g is = ap (λ (rs : List Recorded). map (λ (n : RecordedNode). n.id) (nodes.nodes (history rs))) is ∙ founding_ids g

-- which are the configuration that begins with it, where there is one
pub founding_configuration : (e : Entry) (g : founding.Genesis) → requests_of (e ∷ []) ≡ founding_recorded g ∷ [] → configuration (e ∷ []) ≡ changed_set [] (map node_id g.nodes)
unfolding configuration trusted_nodes
founding_configuration e g is = ap₂ changed_set none_trusted (ap (λ (rs : List Recorded). nodes.trusted (history rs)) is ∙ founding_trusted g)

-- ---- a genesis whose fields are in their ranges

module _ (g : founding.Genesis) (fits : is_genesis g ≡ true) where
  -- its entry is read as a genesis
  pub genesis_read : recording_of (content.Governance (request_bytes (requests.Genesis g))) ≡ Some (recordings.Governance (requests.Genesis g))
  genesis_read = ap governance_recording (request_in-read (requests.Genesis g) fits)

  -- so it founds a service
  founds_service : founds (genesis_entry g) ≡ true
  founds_service = ap records_founding genesis_read

  -- and it is the one request that is recorded
  pub recorded_first : requests_of (genesis_entry g ∷ []) ≡ founding_recorded g ∷ []
  recorded_first = ap (λ (o : Option GovernanceRequest). recorded_at 1 o ++ []) (request_in-read (requests.Genesis g) fits)

  -- its nodes are recorded, in their order
  pub genesis_nodes : recorded_nodes (genesis_entry g ∷ []) ≡ map node_id g.nodes
  genesis_nodes = founding_recorded_nodes (genesis_entry g ∷ []) g recorded_first

module _ (layers : Layers) (g : founding.Genesis) (fits : is_genesis g ≡ true) where
  -- an accepted genesis breaks no rule
  pub founding_unbroken : genesis_refusal no_history g ≡ None → broken layers [] (genesis_entry g) ≡ None
  founding_unbroken accepted =
      let writes : List Write = effect_writes [] (founding_recorded g) in
      passing_all layers [] (genesis_entry g) (record {
        recording = recordings.Governance (requests.Genesis g);
        reads = genesis_read g fits;
        fits = genesis_is_entry g fits accepted;
        seqno = refl;
        named = refl;
        view = refl;
        order = refl;
        rest = ap (λ (o : Option GovernanceRefusal). unless_refused o (with_writes 8 1 writes (genesis_entry g) None)) (refusal_of_genesis g ∙ accepted)
            ∙ passes (are_same_writes writes writes) _ None (same_writes_self writes) refl;
      })

  abbrev opening_signature : NodeId → List ℕ → signatures.Signature
  opening_signature x bytes = record { node = x; commit = 2; root = root_of (leaves_of (genesis_entry g ∷ [])); signature = bytes }

  -- a node that it names opens the service with a valid signature, of whatever bytes
  pub opening_unbroken : (x : NodeId) (bytes : List ℕ) → member x (map node_id g.nodes) ≡ true → is_entry (signature_entry x bytes (genesis_entry g ∷ []) first_view 2) ≡ true →
      fault_of_signature layers (past_of (genesis_entry g ∷ [])) (signature_entry x bytes (genesis_entry g ∷ []) first_view 2) (opening_signature x bytes) ≡ None →
      broken layers (genesis_entry g ∷ []) (signature_entry x bytes (genesis_entry g ∷ []) first_view 2) ≡ None
  opening_unbroken x bytes named entry valid =
      let s = opening_signature x bytes in
      passing_all layers (genesis_entry g ∷ []) (signature_entry x bytes (genesis_entry g ∷ []) first_view 2) (record {
        recording = recordings.Signature s;
        reads = refl;
        fits = entry;
        seqno = refl;
        named = refl;
        view = refl;
        order = or_true (not (begins (genesis_entry g)));
        rest = passes (member x (recorded_nodes (genesis_entry g ∷ []))) _ _ (ap (member x) (genesis_nodes g fits) ∙ named)
            (passes (same_bytes s.root s.root) _ _ (same_bytes_self s.root)
            (passes (may_record (past_of (genesis_entry g ∷ [])) 2) _ _ (ap (λ (b : Bool). if b || recovers (genesis_entry g) then (2 == 2) else is_later_commit (past_of (genesis_entry g ∷ [])) 2) (founds_service g fits)) (ap (broken_by_fault 2) valid)));
      })

-- ---- a genesis that founds a service

module _ (layers : Layers) (keys : NodeKeys) (g : founding.Genesis) (x : NodeId) (h : Founds layers keys g x) where
  -- its entry founds the service
  pub founded : founds (genesis_entry g) ≡ true
  founded = founds_service g h.fits

  -- and breaks no rule
  pub genesis_breaks_nothing : broken layers [] (genesis_entry g) ≡ None
  genesis_breaks_nothing = founding_unbroken layers g h.fits h.accepted

  -- its nodes are those that are recorded
  pub nodes_recorded : recorded_nodes (genesis_entry g ∷ []) ≡ map node_id g.nodes
  nodes_recorded = genesis_nodes g h.fits

  -- and they are the configuration that begins with it
  pub nodes_configured : configuration (genesis_entry g ∷ []) ≡ Some (map node_id g.nodes)
  nodes_configured = founding_configuration (genesis_entry g) g (recorded_first g h.fits) ∙ some (map node_id g.nodes) h.named
    where
      some : (ys : List NodeId) → member x ys ≡ true → changed_set [] ys ≡ Some ys
      some [] w = absurd (cc)
      some (y ∷ ys) w = refl

  -- the signature of the node that opens it breaks no rule
  pub signature_breaks_nothing : broken layers (genesis_entry g ∷ []) (signed_entry keys x 0 (genesis_entry g ∷ []) first_view 2) ≡ None
  signature_breaks_nothing =
      opening_unbroken layers g h.fits x (signature_after keys x 0 (genesis_entry g ∷ []) first_view 2) h.named
      (signed_is_entry layers keys x 0 (genesis_entry g ∷ []) first_view 2 (among x (map node_id g.nodes) (named_digests g.nodes) h.named) (omega arith) (omega arith) (omega arith) (omega arith) h.valid)
      h.valid.valid

  -- ---- the opening ledger

  by_case : (P : ℕ → Entry → Type 0) → P 0 (genesis_entry g) → P 1 (signed_entry keys x 0 (genesis_entry g ∷ []) first_view 2) → (i : ℕ) (e : Entry) → slice_get (opening_of keys g x) i ≡ Some e → P i e
  by_case P a b zero e s = subst (P 0) (let p : genesis_entry g ≡ e = cc in p) a
  by_case P a b (suc zero) e s = subst (P 1) (let p : signed_entry keys x 0 (genesis_entry g ∷ []) first_view 2 ≡ e = cc in p) b
  by_case P a b (suc (suc i)) e s = absurd (cc)

  -- each entry of it may follow those before it
  pub follow : EachFollows (ledger_book layers keys) (opening_of keys g x)
  follow = by_case (λ i e. (ledger_book layers keys).breaks 0 (take i (opening_of keys g x)) e ≡ None) (ap by_rule genesis_breaks_nothing) (ap by_rule signature_breaks_nothing)

  -- so it opens a service as the rules of consensus ask
  pub is_opening : (starting : List NodeId) → member x starting ≡ true →
      IsOpening (ledger_book layers keys) (EachFollows (ledger_book layers keys)) (record { opening = opening_of keys g x; starting = starting; first = x })
  is_opening starting there = record {
    sound = follow;
    views = by_case (λ i e. e.view ≡ first_view) refl refl;
    follow = follow;
    before = 1;
    long = refl;
    signature = signed_entry keys x 0 (genesis_entry g ∷ []) first_view 2;
    last = refl;
    signs = refl;
    records = refl;
    alone = by_case (λ i e. is_signature e.content ≡ true → i ≡ 1) (λ a. absurd (cc)) (λ a. refl);
    configured_at = 1;
    counted = omega arith;
    within = omega arith;
    members = map node_id g.nodes;
    configured = nodes_configured;
    first_starts = there;
  }
