-- A service of several nodes begins lawfully, is safe, and retires nodes safely.
use Rattle.std.proofs.Common.{◌≡◌, ◌⊎◌, inl, inr, ℕ, zero, suc, ◌+◌, ◌-◌, ◌≤◌, ◌<◌, List, [], ◌∷◌, length, map, slice_get, Some, Bool, true, false, refl, sym, ◌∙◌, ap, subst, arith}
use Rattle.std.specs.Cmp.Lexicographic.{bytes_decides}
use Rattle.std.proofs.lemmas.Bool.{true≢false}
use Rattle.gl_base.specs.Bytes.{same_bytes}
use Rattle.gl_hss.specs.declared.types.Types.TheVariants.{H5W4}
use Rattle.gl_hss.proofs.Octets.{seed_IsKey}
use Rattle.gl_rules.specs.Identity.{NodeId, member}
use Rattle.gl_rules.specs.Node.{Node}
use Rattle.gl_rules.specs.World.{first_view}
use Rattle.gl_rules.specs.Safety.{IsOpening, NeverConflicts, EachFollows, RetiresSafely}
use Rattle.gl_safety.proofs.Refusals.{never_conflicts}
use Rattle.gl_entry.specs.declared.entry.Entry.{Entry}
use Rattle.gl_requests.specs.declared.request.GovernanceRequest.{GovernanceRequest}
use Rattle.gl_gov_rules.specs.Refusals.{are_ids_distinct}
use Rattle.gl_ledger.specs.NodeKeys.{service_layers, IsNodeKey}
use Rattle.gl_ledger.specs.ServiceRow.{identity_in}
use Rattle.gl_ledger.specs.Tree.{tables_of}
use Rattle.gl_ledger.specs.Recordings.{endorsement_in, key_in, recorded_nodes}
use Rattle.gl_ledger.specs.Past.{past_of}
use Rattle.gl_ledger.specs.Broken.{may_record}
use Rattle.gl_ledger.specs.Ledger.{genesis_entry}
use Rattle.gl_tx.specs.declared.request.Operation.{Operation}
use Rattle.gl_ledger.specs.Makers.{request_result, govern_result, signing_result, evidence_result}
use Rattle.gl_ledger.specs.OpeningLedger.{Begins, Founds}
use Rattle.gl_ledger.proofs.Lawful.{lawful}
use Rattle.gl_ledger.proofs.OpeningLaws.{member_first}
use Rattle.gl_ledger.proofs.Opened.{begins_opening, opening_opened, opening_unrecovered}
use Rattle.gl_ledger.proofs.NodeRows.{genesis_endorsement, row_named}
use Rattle.gl_ledger.proofs.NodeSignatures.{node_makes}
use Rattle.gl_ledger.proofs.Openings.{identity_after_genesis}
use Rattle.gl_world.specs.Service.{ServiceEvent, Leads}
use Rattle.gl_world.specs.Service as service
use Rattle.gl_world.proofs.Safe.{begins_retiring, begins_safe}
use Rattle.gl_world.proofs.Leading.{recorded, records, unrecovered, leader_evident, leader_executes, leader_governs, leader_sound}
use Rattle.gl_world.proofs.Founded.{IsFoundedBy, leader_identity, leader_key, leader_signs_with_key}
use Rattle.gl_world.specs.declared.settings.Settings.{Settings}
use Rattle.gl_world.specs.Founding.{numbers_from, endorsement_of, node_of, id_of, node_ids, number_of, keys_of, genesis_of}
use Rattle.gl_world.specs.Group.{IsGroup, RecordsTwin, book_of}
use Rattle.gl_world.specs.Keys.{lms_key, node_seed}
use Rattle.gl_world.specs.Headline.{Headline}
use Rattle.gl_world.specs.World.{start_of}
use Rattle.gl_world.proofs.Acceptable.{ids_fewer, ids_reported, group_accepted, group_fits}
use Rattle.gl_world.proofs.Endorsements.{is_node_key, member_has_key, member_endorsement}
use Rattle.gl_world.proofs.NodeIds.{made_at, number_is}
use Rattle.gl_world.proofs.Numbers.{member_made}

first_in : (s : Settings) (count : ℕ) → 1 ≤ count → member (id_of s 1) (map (id_of s) (numbers_from 1 count)) ≡ true
first_in s zero h = absurd (omega arith)
first_in s (suc count) h = member_first (id_of s 1) (map (id_of s) (numbers_from 2 count))

few_numbers : (s : Settings) → IsGroup s → s.starting + s.joiners ≤ 32
few_numbers s h = let nodes = h.starting in let more = h.joiners in omega arith

-- each node that starts or joins has its key, and the service's key endorses that
pub group_has_key : (s : Settings) → IsGroup s → (x : NodeId) → member x (node_ids s) ≡ true → IsNodeKey (keys_of s) (endorsement_of s (number_of s x)) (genesis_of s).identity x
group_has_key s h x named = member_has_key s x (few_numbers s h) named

pub group_endorsement : (s : Settings) → IsGroup s → (x : NodeId) → member x (node_ids s) ≡ true → length (endorsement_of s (number_of s x)) ≡ 2348
group_endorsement s h x named = member_endorsement s x (few_numbers s h) named

-- the nodes that start are told apart, and stand in the genesis
starting_apart : (s : Settings) → IsGroup s → are_ids_distinct (genesis_of s).nodes ≡ true
starting_apart s h = ids_fewer s 1 s.starting (s.starting + s.joiners) (omega arith) h.apart

starting_at : (s : Settings) (number : ℕ) → 1 ≤ number → number ≤ s.starting → slice_get (genesis_of s).nodes (number - 1) ≡ Some (node_of s number)
starting_at s number low high =
    made_at (node_of s) 1 s.starting (number - 1) (omega (arith, low, high)) ∙ ap (λ (k : ℕ). Some (node_of s k)) (let n : 1 + (number - 1) ≡ number = omega (arith, low) in n)

-- the first one's endorsement is in its row
founder_has_key : (s : Settings) → IsGroup s → IsNodeKey (keys_of s) (endorsement_in (genesis_entry (genesis_of s) ∷ []) (id_of s 1)) (genesis_of s).identity (id_of s 1)
founder_has_key s h =
    let some = h.first in
    subst (λ (e : List ℕ). IsNodeKey (keys_of s) e (genesis_of s).identity (id_of s 1))
    (ap (endorsement_of s) (number_is s h 1 (omega arith) (omega (arith, some)))
    ∙ sym (genesis_endorsement (genesis_of s) [] 0 (node_of s 1) (group_fits s h) (starting_apart s h) (starting_at s 1 (omega arith) some)))
    (is_node_key s 1 (omega arith) (omega (arith, some)) (few_numbers s h))

pub group_founds : (s : Settings) → IsGroup s → Founds service_layers (keys_of s) (genesis_of s) (id_of s 1)
group_founds s h = record {
  fits = group_fits s h;
  accepted = group_accepted s h;
  named = ap (member (id_of s 1)) (ids_reported s 1 s.starting) ∙ first_in s s.starting h.first;
  valid = node_makes (keys_of s) (genesis_of s).identity (id_of s 1) 0 (genesis_entry (genesis_of s) ∷ []) first_view 2
      (founder_has_key s h) (omega arith) (identity_after_genesis (genesis_of s));
}

pub group_begins : (s : Settings) → IsGroup s → Begins service_layers (start_of s)
group_begins s h = record {
  checked = opening_opened service_layers (keys_of s) (genesis_of s) (id_of s 1) (group_founds s h);
  unrecovered = opening_unrecovered service_layers (keys_of s) (genesis_of s) (id_of s 1) (group_founds s h);
  starts = first_in s s.starting h.first;
}

pub group_opens : (s : Settings) → IsGroup s → IsOpening (book_of s) (EachFollows (book_of s)) (start_of s)
group_opens s h = begins_opening service_layers (keys_of s) (start_of s) (group_begins s h)

pub group_safe : (s : Settings) → IsGroup s → (events : List ServiceEvent) → Headline s events
group_safe s h events = begins_safe service_layers (keys_of s) (start_of s) (group_begins s h) events

pub group_never_conflicts : (s : Settings) → IsGroup s → (events : List ServiceEvent) → NeverConflicts (book_of s) (start_of s) events
group_never_conflicts s h events = never_conflicts (group_opens s h) (lawful service_layers (keys_of s)) events

pub group_retires : (s : Settings) → IsGroup s → (events : List ServiceEvent) → RetiresSafely (book_of s) (start_of s) events
group_retires s h events = begins_retiring service_layers (keys_of s) (start_of s) (group_begins s h) events

-- ---- the guard refuses a leader nothing

pub group_executes : (s : Settings) → IsGroup s → (events : List ServiceEvent) (x : NodeId) → Leads service_layers (keys_of s) (start_of s) events x → (request : List Operation) →
    let n = service.node_of service_layers (keys_of s) (start_of s) events x in
    (book_of s).execute n.log n.view request ≡ request_result n.log n.view request
group_executes s h events x leads request = leader_executes service_layers (keys_of s) (start_of s) (group_begins s h) events x leads request

pub group_governs : (s : Settings) → IsGroup s → (events : List ServiceEvent) (x : NodeId) → Leads service_layers (keys_of s) (start_of s) events x → (request : GovernanceRequest) →
    let n = service.node_of service_layers (keys_of s) (start_of s) events x in
    (book_of s).govern n.log n.view request ≡ govern_result n.log n.view request
group_governs s h events x leads request = leader_governs service_layers (keys_of s) (start_of s) (group_begins s h) events x leads request

pub group_evident : (s : Settings) → IsGroup s → (events : List ServiceEvent) (x : NodeId) → Leads service_layers (keys_of s) (start_of s) events x →
    let n = service.node_of service_layers (keys_of s) (start_of s) events x in
    (book_of s).evidence n.log n.view ≡ evidence_result (past_of n.log) n.view
group_evident s h events x leads = leader_evident service_layers (keys_of s) (start_of s) (group_begins s h) events x leads

-- the service was founded by its genesis
group_founded : (s : Settings) → IsGroup s → IsFoundedBy service_layers (start_of s) (genesis_of s)
group_founded s h = record { begins = group_begins s h; fits = group_fits s h; first = refl }

-- a leader signs validly that is recorded with the key of the settings
signs_own : (s : Settings) → IsGroup s → (events : List ServiceEvent) (x : NodeId) → Leads service_layers (keys_of s) (start_of s) events x → (leaf : ℕ) → leaf < (book_of s).leaves x →
    let n = service.node_of service_layers (keys_of s) (start_of s) events x in
    key_in n.log x ≡ lms_key (node_seed s (number_of s x)) → (book_of s).sign x leaf n.log n.view n.commit ≡ signing_result (keys_of s) x leaf n.log n.view n.commit
signs_own s h events x leads leaf low own =
    leader_signs_with_key (keys_of s) (start_of s) (group_begins s h) events x leads (seed_IsKey H5W4 (node_seed s (number_of s x))) leaf low own

-- so each node that starts
pub starter_signs : (s : Settings) → IsGroup s → (events : List ServiceEvent) (x : NodeId) → Leads service_layers (keys_of s) (start_of s) events x → member x (start_of s).starting ≡ true →
    (leaf : ℕ) → leaf < (book_of s).leaves x →
    let n = service.node_of service_layers (keys_of s) (start_of s) events x in
    (book_of s).sign x leaf n.log n.view n.commit ≡ signing_result (keys_of s) x leaf n.log n.view n.commit
starter_signs s h events x leads starts leaf low =
    let n = service.node_of service_layers (keys_of s) (start_of s) events x in
    let k = member_made (id_of s) x 1 s.starting starts in
    let high : k.0 ≤ s.starting = omega (arith, k.2) in
    signs_own s h events x leads leaf low
    (ap (key_in n.log) (sym k.3)
    ∙ leader_key service_layers (keys_of s) (start_of s) (genesis_of s) (group_founded s h) events x leads (k.0 - 1) (node_of s k.0) (starting_apart s h) (starting_at s k.0 k.1 high)
    ∙ ap (λ (i : ℕ). lms_key (node_seed s i)) (sym (number_is s h k.0 k.1 (omega (arith, high)))) ∙ ap (λ (y : NodeId). lms_key (node_seed s (number_of s y))) k.3)

-- and each that joins, unless another key with the digest of its own is recorded
pub group_signs : (s : Settings) → IsGroup s → (events : List ServiceEvent) (x : NodeId) → Leads service_layers (keys_of s) (start_of s) events x → member x (node_ids s) ≡ true →
    (leaf : ℕ) → leaf < (book_of s).leaves x →
    let n = service.node_of service_layers (keys_of s) (start_of s) events x in
    ((book_of s).sign x leaf n.log n.view n.commit ≡ signing_result (keys_of s) x leaf n.log n.view n.commit) ⊎ RecordsTwin s n.log x
group_signs s h events x leads named leaf low = go (same_bytes (key_in n.log x) own) refl
  where
    n : Node Entry
    n = service.node_of service_layers (keys_of s) (start_of s) events x

    own : List ℕ
    own = lms_key (node_seed s (number_of s x))

    go : (b : Bool) → same_bytes (key_in n.log x) own ≡ b → ((book_of s).sign x leaf n.log n.view n.commit ≡ signing_result (keys_of s) x leaf n.log n.view n.commit) ⊎ RecordsTwin s n.log x
    go true is = inl (signs_own s h events x leads leaf low ((bytes_decides (key_in n.log x) own).0 is))
    go false is = inr (record {
      same = sym (row_named service_layers n.log (leader_sound service_layers (keys_of s) (start_of s) (group_begins s h) events x leads)
          (unrecovered service_layers (keys_of s) (start_of s) (group_begins s h) events x leads) x
          (recorded service_layers (keys_of s) (start_of s) (group_begins s h) events x leads))
          ∙ (group_has_key s h x named).named;
      other = λ (same : key_in n.log x ≡ own). true≢false (sym ((bytes_decides (key_in n.log x) own).1 same) ∙ is);
    })

-- ---- what a leader may sign

-- it is a recorded node
pub group_recorded : (s : Settings) → IsGroup s → (events : List ServiceEvent) (x : NodeId) → Leads service_layers (keys_of s) (start_of s) events x →
    member x (recorded_nodes (service.node_of service_layers (keys_of s) (start_of s) events x).log) ≡ true
group_recorded s h events x leads = recorded service_layers (keys_of s) (start_of s) (group_begins s h) events x leads

-- it may record its commit
pub group_records : (s : Settings) → IsGroup s → (events : List ServiceEvent) (x : NodeId) → Leads service_layers (keys_of s) (start_of s) events x →
    let n = service.node_of service_layers (keys_of s) (start_of s) events x in
    may_record (past_of n.log) n.commit ≡ true
group_records s h events x leads = records service_layers (keys_of s) (start_of s) (group_begins s h) events x leads

-- and the service's key in force there is that of the genesis
pub group_identity : (s : Settings) → IsGroup s → (events : List ServiceEvent) (x : NodeId) → Leads service_layers (keys_of s) (start_of s) events x →
    identity_in (tables_of (service.node_of service_layers (keys_of s) (start_of s) events x).log) ≡ (genesis_of s).identity
group_identity s h events x leads =
    leader_identity service_layers (keys_of s) (start_of s) (genesis_of s) (group_founded s h) events x leads
