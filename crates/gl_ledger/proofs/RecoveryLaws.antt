-- After the last signature of a ledger the entry of an accepted recovery breaks no rule, nor does
-- the signature after it that opens the service again.
use Rattle.std.proofs.Common.{◌≡◌, ℕ, ◌+◌, ◌<◌, ◌≤◌, ◌^◌, List, [], ◌∷◌, ◌++◌, length, map, Option, Some, None, Ok, Err, Bool, true, false, not, ◌||◌, ◌==◌, nat_lt, nat_le, slice_get, if◌then◌else◌, refl, ◌∙◌, ap, subst, arith, length-append, option_map}
use Rattle.std.proofs.lemmas.Bool.{and_from}
use Rattle.std.proofs.lemmas.Bool.Decides.{nat_tests}
use Rattle.gl_base.specs.Bytes.{same_bytes}
use Rattle.gl_base.specs.TxId.{last_seqno}
use Rattle.gl_base.proofs.Lists.{slice_get-last}
use Rattle.gl_merkle.specs.Tree.{root_of}
use Rattle.gl_rules.specs.Identity.{NodeId, member}
use Rattle.gl_vmaps.specs.Tables.{Rows}
use Rattle.gl_vmaps.specs.declared.write.Write.{Write}
use Rattle.gl_vmaps.proofs.SameValues.{same_bytes_self}
use Rattle.gl_entry.specs.Entry.{is_signature, is_entry, body_bytes, body_limit}
use Rattle.gl_entry.specs.declared.entry.Content.{Content}
use Rattle.gl_entry.specs.declared.entry.Content.TheVariants as content
use Rattle.gl_entry.specs.declared.entry.Entry.{Entry}
use Rattle.gl_entry.specs.declared.entry.Signature as signatures
use Rattle.gl_requests.specs.Encoding.{node_id, request_bytes}
use Rattle.gl_requests.specs.Ranges.{is_request}
use Rattle.gl_requests.specs.declared.genesis.Recovery.{Recovery}
use Rattle.gl_requests.specs.declared.request.GovernanceRequest.TheVariants as requests
use Rattle.gl_gov_rules.specs.declared.change.Recorded.{Recorded}
use Rattle.gl_gov_rules.specs.declared.refusal.GovernanceRefusal.{GovernanceRefusal}
use Rattle.gl_gov_rules.specs.Changes.{history}
use Rattle.gl_gov_rules.specs.Governed.{IsGoverned}
use Rattle.gl_gov_rules.specs.Refusals.{refusal}
use Rattle.gl_gov_rules.specs.Rows.{service_map, service_key, effect, effect_writes}
use Rattle.gl_gov_rules.specs.Service.{identity}
use Rattle.gl_gov_rules.specs.Nodes as nodes
use Rattle.gl_gov_rules.proofs.Prefixes.{governed_last}
use Rattle.std.specs.FinMap as rows
use Rattle.gl_ledger.specs.ServiceRow.{identity_of_value, identity_in}
use Rattle.gl_ledger.specs.Tree.{tables_of, leaves_of}
use Rattle.gl_ledger.specs.Ledger.{signature_entry}
use Rattle.gl_ledger.specs.declared.refusal.Refusal.TheVariants as refusals
use Rattle.gl_ledger.specs.Layers.{Layers}
use Rattle.gl_ledger.specs.declared.recording.Recording.{Recording}
use Rattle.gl_ledger.specs.declared.recording.Recording.TheVariants as recordings
use Rattle.gl_ledger.specs.Recordings.{governance_recording, records_founding, records_recovery, last_entry, recording_of, begins, requests_of, recorded_nodes, trusted_nodes}
use Rattle.gl_ledger.specs.Past.{is_unopened, last_of, past_of, signs_at}
use Rattle.gl_ledger.specs.Broken.{is_next_view, is_in_order, unless_refused, with_writes, are_same_writes, is_later_commit, may_record, broken_by_fault, fault_of_signature, broken}
use Rattle.gl_ledger.specs.Makers.{MayMake}
use Rattle.gl_ledger.specs.Sound.{IsSound}
use Rattle.gl_ledger.specs.Recovery.{view_of_last, recovery_view, recovery_entry, with_recovery, where_accepted, recovery_result}
use Rattle.gl_ledger.proofs.Founded.{reported_key}
use Rattle.gl_ledger.proofs.Gathering.{requests-more}
use Rattle.gl_ledger.proofs.Governed.{governed}
use Rattle.gl_ledger.proofs.Governing.{governed_fits}
use Rattle.gl_ledger.proofs.Identities.{recovery_named}
use Rattle.gl_ledger.proofs.Passing.{passes, passing_all}
use Rattle.gl_ledger.proofs.RecordedNodes.{trusted_is_recorded}
use Rattle.gl_ledger.proofs.RecoveredNodes.{recovered_trusted}
use Rattle.gl_ledger.proofs.RequestEncodings.{request_in-read}
use Rattle.gl_ledger.proofs.SameWrites.{same_writes_self}
use Rattle.gl_ledger.proofs.Sounding.{sound-push}

itself : (n : ℕ) → (n == n) ≡ true
itself n = grind (arith, nat_tests)

or_true : (b : Bool) → (b || true) ≡ true
or_true true = refl
or_true false = refl

-- the last entry of a longer ledger
pub last_entry-push : (ledger : List Entry) (e : Entry) → last_entry (ledger ++ e ∷ []) ≡ Some e
last_entry-push ledger e =
    let long : length (ledger ++ e ∷ []) ≡ length ledger + 1 = length-append ledger (e ∷ []) in
    ap (slice_get (ledger ++ e ∷ [])) (omega (arith, long)) ∙ slice_get-last ledger e

-- no service begins with a signature
begins_none : (c : Content) → is_signature c ≡ true → (records_founding (recording_of c) || records_recovery (recording_of c)) ≡ false
begins_none (content.Signature s) h = refl
begins_none (content.Governance bytes) h = absurd (cc)
begins_none (content.Application bytes) h = absurd (cc)
begins_none (content.Evidence d) h = absurd (cc)

-- what is made was accepted, and its body is within the limit
pub recovery_made : (r : Recovery) (ledger : List Entry) → recovery_result r ledger ≡ Ok (recovery_entry r ledger) →
    (refusal (history (requests_of ledger)) (length ledger + 1) (requests.Recover r) ≡ None) × (length (body_bytes (recovery_entry r ledger)) ≤ body_limit)
recovery_made r ledger h = go (refusal (history (requests_of ledger)) (length ledger + 1) (requests.Recover r)) (nat_lt body_limit size) refl h
  where
    e : Entry
    e = recovery_entry r ledger

    size : ℕ
    size = length (body_bytes e)

    go : (o : Option GovernanceRefusal) (large : Bool) → nat_lt body_limit size ≡ large → where_accepted o (if large then Err (refusals.TooLarge size) else Ok e) ≡ Ok e → (o ≡ None) × (size ≤ body_limit)
    go (Some why) large is w = absurd (cc)
    go None true is w = absurd (cc)
    go None false is w = (refl, grind (arith, nat_tests, is))

-- the key that the last of several requests names is reported
reported_last : (rs : List Recorded) (r : Recorded) (key : List ℕ) → IsGoverned (rs ++ r ∷ []) → identity (history (rs ++ r ∷ [])) ≡ Some key → identity_in (effect (rs ++ r ∷ [])) ≡ key
reported_last [] r key all is = reported_key r [] key all is
reported_last (x ∷ rs) r key all is = reported_key x (rs ++ r ∷ []) key all is

module _ (layers : Layers) (ledger : List Entry) (r : Recovery) (sound : IsSound layers ledger) (signed : signs_at (last_entry ledger) ≡ true) (low : recovery_view ledger < 2 ^ 32) (left : length ledger + 2 ≤ last_seqno)
    (fits : is_request (requests.Recover r) ≡ true) (accepted : recovery_result r ledger ≡ Ok (recovery_entry r ledger)) where
  -- ---- the last entry

  last : (e : Entry) × (last_entry ledger ≡ Some e) × (is_signature e.content ≡ true)
  last = go (last_entry ledger) refl signed
    where
      go : (o : Option Entry) → last_entry ledger ≡ o → signs_at o ≡ true → (e : Entry) × (last_entry ledger ≡ Some e) × (is_signature e.content ≡ true)
      go None is signs = absurd (cc)
      go (Some e) is signs = (e, is, signs)

  next : recovery_view ledger ≡ last.0.view + 1
  next = ap (λ (o : Option Entry). view_of_last o + 1) last.1

  opened : begins last.0 ≡ false
  opened = begins_none last.0.content last.2

  -- an entry may be made after it
  may_recover : MayMake ledger (recovery_view ledger)
  may_recover = record { last = last.0; is_last = last.1; opened = opened; up = omega (arith, next) }

  -- ---- the recovery

  abbrev recovering : Recording
  recovering = recordings.Governance (requests.Recover r)

  abbrev one : Recorded
  one = record { seqno = length ledger + 1; request = requests.Recover r }

  reads : recording_of (recovery_entry r ledger).content ≡ Some recovering
  reads = ap governance_recording (request_in-read (requests.Recover r) fits)

  in_view : is_next_view (past_of ledger).last recovering (recovery_view ledger) ≡ true
  in_view = ap (λ (o : Option Entry). is_next_view (option_map last_of o) recovering (recovery_view ledger)) last.1 ∙ (let n = next in grind (arith, nat_tests, n))

  in_order : is_in_order (past_of ledger).last recovering (recovery_view ledger) ≡ true
  in_order =
      ap (λ (o : Option Entry). is_in_order (option_map last_of o) recovering (recovery_view ledger)) last.1
      ∙ and_from (is_signature last.0.content) (not (begins last.0) || false) last.2 (ap (λ (b : Bool). not b || false) opened)

  -- its entry breaks no rule
  pub recovery_unbroken : broken layers ledger (recovery_entry r ledger) ≡ None
  recovery_unbroken =
      let made = recovery_made r ledger accepted in
      let seqno = length ledger + 1 in
      let writes : List Write = effect_writes (requests_of ledger) one in
      passing_all layers ledger (recovery_entry r ledger) (record {
        recording = recovering;
        reads = reads;
        fits = governed_fits layers ledger (recovery_view ledger) may_recover sound (requests.Recover r) low fits refl made.0 (omega (arith, left)) made.1;
        seqno = itself seqno;
        named = (let t : nat_le (length ledger + 1) last_seqno ≡ true = grind (arith, nat_tests, left) in t);
        view = in_view;
        order = in_order;
        rest = ap (λ (o : Option GovernanceRefusal). unless_refused o (with_writes 8 seqno writes (recovery_entry r ledger) None)) made.0
            ∙ passes (are_same_writes writes writes) _ None (same_writes_self writes) refl;
      })

  -- the ledger with it is sound
  pub recovery_sound : IsSound layers (with_recovery r ledger)
  recovery_sound = sound-push layers ledger (recovery_entry r ledger) sound recovery_unbroken

  -- and records one request more
  recovery_requests : requests_of (with_recovery r ledger) ≡ requests_of ledger ++ one ∷ []
  recovery_requests = requests-more ledger (recovery_entry r ledger) (request_bytes (requests.Recover r)) (requests.Recover r) refl (request_in-read (requests.Recover r) fits)

  recovery_governed : IsGoverned (requests_of ledger ++ one ∷ [])
  recovery_governed = subst IsGoverned recovery_requests (governed layers (with_recovery r ledger) recovery_sound)

  -- so that its key is in force
  pub recovery_identity : identity_in (tables_of (with_recovery r ledger)) ≡ r.identity
  recovery_identity =
      ap (λ (row : Rows). identity_of_value (rows.get row service_key)) (recovery_sound.governed service_map refl ∙ ap (λ (rs : List Recorded). effect rs service_map) recovery_requests)
      ∙ reported_last (requests_of ledger) one r.identity recovery_governed (recovery_named (requests_of ledger) (length ledger + 1) r)

  -- and the nodes that it names are trusted, and no others
  pub recovery_trusted : trusted_nodes (with_recovery r ledger) ≡ map node_id r.nodes
  unfolding trusted_nodes
  recovery_trusted =
      let both = governed_last (requests_of ledger) one recovery_governed in
      ap (λ (rs : List Recorded). nodes.trusted (history rs)) recovery_requests ∙ recovered_trusted (requests_of ledger) (length ledger + 1) r both.0 both.1

  -- ---- the signature after it

  -- a service begins with it
  pub recovery_begins : is_unopened (last_entry (with_recovery r ledger)) ≡ true
  recovery_begins =
      ap is_unopened (last_entry-push ledger (recovery_entry r ledger)) ∙ ap (λ (o : Option Recording). records_founding o || records_recovery o) reads

  -- a node that it names opens the service again with a valid signature, of whatever bytes
  pub reopening_unbroken : (x : NodeId) (bytes : List ℕ) → member x (map node_id r.nodes) ≡ true →
      is_entry (signature_entry x bytes (with_recovery r ledger) (recovery_view ledger) (length ledger + 2)) ≡ true →
      fault_of_signature layers (past_of (with_recovery r ledger)) (signature_entry x bytes (with_recovery r ledger) (recovery_view ledger) (length ledger + 2))
      (record { node = x; commit = length ledger + 2; root = root_of (leaves_of (with_recovery r ledger)); signature = bytes }) ≡ None →
      broken layers (with_recovery r ledger) (signature_entry x bytes (with_recovery r ledger) (recovery_view ledger) (length ledger + 2)) ≡ None
  reopening_unbroken x bytes named entry valid =
      let view = recovery_view ledger in
      let commit = length ledger + 2 in
      let s : signatures.Signature = record { node = x; commit = commit; root = root_of (leaves_of (with_recovery r ledger)); signature = bytes } in
      let before : Entry = recovery_entry r ledger in
      let long : length (with_recovery r ledger) ≡ length ledger + 1 = length-append ledger (before ∷ []) in
      let at = last_entry-push ledger before in
      let own : (commit == length (with_recovery r ledger) + 1) ≡ true = grind (arith, nat_tests, long) in
      let same : nat_le view view ≡ true = grind (arith, nat_tests) in
      passing_all layers (with_recovery r ledger) (signature_entry x bytes (with_recovery r ledger) view commit) (record {
        recording = recordings.Signature s;
        reads = refl;
        fits = entry;
        seqno = itself (length (with_recovery r ledger) + 1);
        named = (let t : nat_le (length (with_recovery r ledger) + 1) last_seqno ≡ true = grind (arith, nat_tests, left, long) in t);
        view = ap (λ (o : Option Entry). is_next_view (option_map last_of o) (recordings.Signature s) view) at ∙ same;
        order = ap (λ (o : Option Entry). is_in_order (option_map last_of o) (recordings.Signature s) view) at ∙ ap (λ (t : Bool). not (begins before) || t) (itself view) ∙ or_true (not (begins before));
        rest = passes (member x (recorded_nodes (with_recovery r ledger))) _ _ (trusted_is_recorded x (with_recovery r ledger) (ap (member x) recovery_trusted ∙ named))
            (passes (same_bytes s.root s.root) _ _ (same_bytes_self s.root)
            (passes (may_record (past_of (with_recovery r ledger)) commit) _ _
            (ap (λ (b : Bool). if b then commit == length (with_recovery r ledger) + 1 else is_later_commit (past_of (with_recovery r ledger)) commit) recovery_begins ∙ own)
            (ap (broken_by_fault (length (with_recovery r ledger) + 1)) valid)));
      })
