-- At most 65,535 nodes are recorded by requests that follow one another, with short endorsements.
use Rattle.std.proofs.Common.{◌≡◌, ℕ, ◌+◌, ◌≤◌, List, [], ◌∷◌, ◌++◌, length, map, None, true, not, ◌||◌, ◌==◌, nat_lt, nat_le, length-append, arith}
use Rattle.std.specs.List.{list_all, AllByRecursion}
use Rattle.std.proofs.lemmas.Bool.{and_parts}
use Rattle.std.proofs.lemmas.Bool.Decides.{nat_tests}
use Rattle.std.proofs.lemmas.List.{length-map}
use Rattle.gl_requests.specs.Encoding.{node_id}
use Rattle.gl_requests.specs.declared.genesis.NewNode.{NewNode}
use Rattle.gl_requests.specs.declared.genesis.Genesis as founding
use Rattle.gl_requests.specs.declared.genesis.Recovery.{Recovery}
use Rattle.gl_requests.specs.declared.request.GovernanceRequest.{GovernanceRequest}
use Rattle.gl_requests.specs.declared.request.GovernanceRequest.TheVariants as requests
use Rattle.gl_gov_rules.specs.declared.change.Recorded.{Recorded}
use Rattle.gl_gov_rules.specs.declared.change.RecordedNode.{RecordedNode}
use Rattle.gl_gov_rules.specs.declared.refusal.Cause.TheVariants as causes
use Rattle.gl_gov_rules.specs.declared.refusal.GovernanceRefusal.TheVariants as refusals
use Rattle.gl_gov_rules.specs.History.{History}
use Rattle.gl_gov_rules.specs.Signatures.{is_endorsed}
use Rattle.gl_gov_rules.specs.Nodes.{recorded_node, nodes_recorded, nodes, node, pending_count}
use Rattle.gl_gov_rules.specs.Service.{identity}
use Rattle.gl_gov_rules.specs.Actions.{◌orelse◌, where_is}
use Rattle.gl_gov_rules.specs.Changes.{history}
use Rattle.gl_gov_rules.specs.Refusals.{are_ids_distinct, is_any_recorded, founding_fault, members_refusal, nodes_refusal, are_endorsed, genesis_refusal, recovery_refusal, key_in_force, status_found, recorded_refusal, room_refusal, join_refusal, refusal}
use Rattle.gl_gov_rules.specs.Governed.{Follows, IsGoverned}
use Rattle.gl_gov_rules.proofs.Endorsements.{endorsed-length}
use Rattle.gl_gov_rules.proofs.Counting.{each_append}
use Rattle.gl_gov_rules.proofs.NoneStands.{none_of, not_bad, not_denied, neither}
use Rattle.gl_gov_rules.proofs.Prefixes.{history_of_none, governed_induction}
use Rattle.gl_gov_rules.proofs.HistoryLists.{nodes_more}

abbrev pub IsShort : RecordedNode → Type 0
IsShort n = length n.node.endorsement ≤ 2508

-- ---- what was passed

-- a founding, or a recovery, names no more nodes than there is room for
room_for : (h : History) (ns : List NewNode) → nodes_refusal h ns ≡ None → length (nodes h) + length ns ≤ 65535
unfolding nodes_refusal
room_for h ns none =
    let there = where_is (not (are_ids_distinct ns) || is_any_recorded h ns) (founding_fault causes.NodeStatus) in
    let full = where_is (nat_lt 32 (length ns) || nat_lt 65535 (length (nodes h) + length ns)) (founding_fault causes.Full) in
    let last = where_is (length ns == 0) (founding_fault causes.LastTrusted) in
    let room = not_bad (nat_lt 32 (length ns) || nat_lt 65535 (length (nodes h) + length ns)) (founding_fault causes.Full) (none_of there full (none_of (there orelse full) last none).0).1 in
    let few = (neither (nat_lt 32 (length ns)) (nat_lt 65535 (length (nodes h) + length ns)) room).1 in
    grind (arith, nat_tests)

pub genesis_passes : (h : History) (seqno : ℕ) (g : founding.Genesis) → refusal h seqno (requests.Genesis g) ≡ None → (nodes_refusal h g.nodes ≡ None) × (are_endorsed g.identity g.nodes ≡ true)
unfolding refusal genesis_refusal
genesis_passes h seqno g none =
    let signature = where_is (not (are_endorsed g.identity g.nodes)) refusals.Signature in
    let both = none_of (members_refusal g orelse nodes_refusal h g.nodes) signature none in
    ((none_of (members_refusal g) (nodes_refusal h g.nodes) both.0).1, not_denied (are_endorsed g.identity g.nodes) (not_bad (not (are_endorsed g.identity g.nodes)) refusals.Signature both.1))

recovery_passes : (h : History) (seqno : ℕ) (r : Recovery) → refusal h seqno (requests.Recover r) ≡ None → (nodes_refusal h r.nodes ≡ None) × (are_endorsed r.identity r.nodes ≡ true)
unfolding refusal recovery_refusal
recovery_passes h seqno r none =
    let both = none_of (nodes_refusal h r.nodes) (where_is (not (are_endorsed r.identity r.nodes)) refusals.Signature) none in
    (both.0, not_denied (are_endorsed r.identity r.nodes) (not_bad (not (are_endorsed r.identity r.nodes)) refusals.Signature both.1))

room_for_one : (h : History) (id : List ℕ) → room_refusal h id ≡ None → length (nodes h) + 1 ≤ 65535
room_for_one h id none =
    let there = recorded_refusal (status_found h (node h id)) in
    let pending = where_is (nat_le 64 (pending_count h)) (refusals.TooMany 64) in
    let many = where_is (nat_le 65535 (length (nodes h))) (refusals.TooMany 65535) in
    let few = not_bad (nat_le 65535 (length (nodes h))) (refusals.TooMany 65535) (none_of (there orelse pending) many none).1 in
    grind (arith, nat_tests)

pub join_passes : (h : History) (seqno : ℕ) (n : NewNode) → refusal h seqno (requests.Join n) ≡ None →
    (is_endorsed (key_in_force (identity h)) n.key n.endorsement ≡ true) × (room_refusal h (node_id n) ≡ None)
unfolding refusal join_refusal
join_passes h seqno n none =
    let endorsed = is_endorsed (key_in_force (identity h)) n.key n.endorsement in
    let both = none_of (where_is (not endorsed) refusals.Signature) (room_refusal h (node_id n)) none in
    (not_denied endorsed (not_bad (not endorsed) refusals.Signature both.0), both.1)

-- ---- what a request records

short_ones : (seqno : ℕ) (key : List ℕ) (ns : List NewNode) → are_endorsed key ns ≡ true → AllByRecursion IsShort (map (recorded_node seqno true) ns)
unfolding are_endorsed
short_ones seqno key [] all = tt
short_ones seqno key (n ∷ ns) all =
    let both = and_parts (is_endorsed key n.key n.endorsement) (list_all (λ (m : NewNode). is_endorsed key m.key m.endorsement) ns) all in
    (endorsed-length key n.key n.endorsement both.0, short_ones seqno key ns both.1)

unfoldable pub Fit : History → List RecordedNode → Type 0
Fit h ns = (length (nodes h) + length ns ≤ 65535) × AllByRecursion IsShort ns

fit_founding : (h : History) (seqno : ℕ) (key : List ℕ) (ns : List NewNode) → (nodes_refusal h ns ≡ None) × (are_endorsed key ns ≡ true) → Fit h (map (recorded_node seqno true) ns)
unfolding Fit
fit_founding h seqno key ns passed = (omega (arith, room_for h ns passed.0, length-map ns (recorded_node seqno true)), short_ones seqno key ns passed.1)

pub fit_recorded : (h : History) (seqno : ℕ) (q : GovernanceRequest) → refusal h seqno q ≡ None → length (nodes h) ≤ 65535 → Fit h (nodes_recorded seqno q)
unfolding Fit
fit_recorded h seqno (requests.Genesis g) none few = fit_founding h seqno g.identity g.nodes (genesis_passes h seqno g none)
fit_recorded h seqno (requests.Recover r) none few = fit_founding h seqno r.identity r.nodes (recovery_passes h seqno r none)
fit_recorded h seqno (requests.Join n) none few =
    let passed = join_passes h seqno n none in
    (room_for_one h (node_id n) passed.1, (endorsed-length (key_in_force (identity h)) n.key n.endorsement passed.0, tt))
fit_recorded h seqno other none few = (omega (arith, few), tt)

-- ---- the whole

abbrev pub AreFewNodes : List Recorded → Type 0
AreFewNodes rs = (length (nodes (history rs)) ≤ 65535) × AllByRecursion IsShort (nodes (history rs))

few_of_none : AreFewNodes []
unfolding nodes
few_of_none = rw history_of_none (omega arith, tt)

few_nodes_more : (rs : List Recorded) (r : Recorded) → IsGoverned rs → Follows rs r → AreFewNodes rs → AreFewNodes (rs ++ r ∷ [])
unfolding Fit
few_nodes_more rs r all follows before =
    let new = fit_recorded (history rs) r.seqno r.request follows.accepted before.0 in
    rw (nodes_more rs r) (
      omega (arith, length-append (nodes (history rs)) (nodes_recorded r.seqno r.request), new.0),
      each_append IsShort (nodes (history rs)) (nodes_recorded r.seqno r.request) before.1 new.1,
    )

-- requests that follow one another record no more nodes, and each has a short endorsement
pub are_few_nodes : (rs : List Recorded) → IsGoverned rs → AreFewNodes rs
are_few_nodes = governed_induction AreFewNodes few_of_none few_nodes_more
