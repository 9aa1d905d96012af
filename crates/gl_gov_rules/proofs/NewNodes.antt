-- What is known of the nodes of a request that isn't refused: they are distinct, and none of them
-- was recorded. So no two of all nodes have one identifier.
use Rattle.std.proofs.Common.{◌≡◌, ◌⊎◌, inl, inr, ℕ, zero, suc, ◌+◌, List, [], ◌∷◌, ◌++◌, length, map, Option, Some, None, is_some, Bool, true, false, not, ◌||◌, ◌==◌, nat_lt, nat_le, slice_get, refl, sym, ◌∙◌, ap, subst}
use Rattle.std.specs.List.{list_any}
use Rattle.std.specs.Cmp.Lexicographic.{bytes_decides}
use Rattle.std.proofs.lemmas.Bool.{and_parts, or_parts, not-true, not-false, both_ways}
use Rattle.std.proofs.lemmas.Option.{same_Some}
use Rattle.gl_base.proofs.Lists.{slice_get-of_append}
use Rattle.gl_base.specs.Bytes.{same_bytes}
use Rattle.gl_requests.specs.Encoding.{node_id}
use Rattle.gl_requests.specs.declared.genesis.NewNode.{NewNode}
use Rattle.gl_requests.specs.declared.request.GovernanceRequest.{GovernanceRequest}
use Rattle.gl_requests.specs.declared.request.GovernanceRequest.TheVariants as requests
use Rattle.gl_gov_rules.specs.declared.change.Recorded.{Recorded}
use Rattle.gl_gov_rules.specs.declared.change.RecordedNode.{RecordedNode}
use Rattle.gl_gov_rules.specs.declared.refusal.Cause.TheVariants as causes
use Rattle.gl_gov_rules.specs.declared.refusal.GovernanceRefusal.TheVariants as refusals
use Rattle.gl_gov_rules.specs.History.{History}
use Rattle.gl_gov_rules.specs.Nodes.{recorded_node, nodes_recorded, nodes, has_id, node, pending_count}
use Rattle.gl_gov_rules.specs.Service.{identity}
use Rattle.gl_gov_rules.specs.Actions.{◌orelse◌, where_is}
use Rattle.gl_gov_rules.specs.Changes.{history}
use Rattle.gl_gov_rules.specs.Refusals.{is_node_with, are_ids_distinct, is_any_recorded, founding_fault, nodes_refusal, are_endorsed, members_refusal, genesis_refusal, recovery_refusal, key_in_force, status_found, is_retired, recorded_refusal, room_refusal, join_refusal, mark_refusal, refusal}
use Rattle.gl_gov_rules.specs.Signatures.{is_endorsed}
use Rattle.gl_gov_rules.specs.Governed.{IsGoverned}
use Rattle.gl_gov_rules.proofs.Finding.{found_at, find_any, find_none, any_from, map_at}
use Rattle.gl_gov_rules.proofs.Prefixes.{history_of_none, governed_induction}
use Rattle.gl_gov_rules.proofs.NoneStands.{none_of, not_bad}
use Rattle.gl_gov_rules.proofs.HistoryLists.{nodes_more}
use Rattle.gl_gov_rules.proofs.Removals.{node_is}

-- ---- no refusal

none_is : {A : Type 0} (o : Option A) → is_some o ≡ false → o ≡ None
none_is None e = refl
none_is (Some x) e = absurd cc

-- the nodes of a founding or a recovery that isn't refused
pub record AreNew (h : History) (ns : List NewNode) : Type 0 where
  pub apart : are_ids_distinct ns ≡ true
  pub fresh : is_any_recorded h ns ≡ false
  pub some : (length ns == 0) ≡ false

pub nodes_new : (h : History) (ns : List NewNode) → nodes_refusal h ns ≡ None → AreNew h ns
unfolding nodes_refusal
nodes_new h ns e =
    let doubled : Bool = not (are_ids_distinct ns) || is_any_recorded h ns in
    let many : Bool = nat_lt 32 (length ns) || nat_lt 65535 (length (nodes h) + length ns) in
    let a = none_of (where_is doubled (founding_fault causes.NodeStatus) orelse where_is many (founding_fault causes.Full)) (where_is (length ns == 0) (founding_fault causes.LastTrusted)) e in
    let b = none_of (where_is doubled (founding_fault causes.NodeStatus)) (where_is many (founding_fault causes.Full)) a.0 in
    let c = or_parts (not (are_ids_distinct ns)) (is_any_recorded h ns) (not_bad doubled (founding_fault causes.NodeStatus) b.0) in
    record {
      apart = not-false (are_ids_distinct ns) c.0;
      fresh = c.1;
      some = not_bad (length ns == 0) (founding_fault causes.LastTrusted) a.1;
    }

pub genesis_new : (h : History) (s : ℕ) (g : _) → refusal h s (requests.Genesis g) ≡ None → AreNew h g.nodes
unfolding refusal genesis_refusal
genesis_new h s g e =
    let a = none_of (members_refusal g orelse nodes_refusal h g.nodes) (where_is (not (are_endorsed g.identity g.nodes)) refusals.Signature) e in
    nodes_new h g.nodes (none_of (members_refusal g) (nodes_refusal h g.nodes) a.0).1

pub recovery_new : (h : History) (s : ℕ) (r : _) → refusal h s (requests.Recover r) ≡ None → AreNew h r.nodes
unfolding refusal recovery_refusal
recovery_new h s r e = nodes_new h r.nodes (none_of (nodes_refusal h r.nodes) (where_is (not (are_endorsed r.identity r.nodes)) refusals.Signature) e).0

-- a node that joins wasn't recorded
pub join_new : (h : History) (s : ℕ) (n : NewNode) → refusal h s (requests.Join n) ≡ None → node h (node_id n) ≡ None
unfolding refusal join_refusal
join_new h s n e =
    let a = none_of (where_is (not (is_endorsed (key_in_force (identity h)) n.key n.endorsement)) refusals.Signature) (room_refusal h (node_id n)) e in
    let b = none_of (recorded_refusal (status_found h (node h (node_id n))) orelse where_is (nat_le 64 (pending_count h)) (refusals.TooMany 64)) (where_is (nat_le 65535 (length (nodes h))) (refusals.TooMany 65535)) a.1 in
    let c = none_of (recorded_refusal (status_found h (node h (node_id n)))) (where_is (nat_le 64 (pending_count h)) (refusals.TooMany 64)) b.0 in
    go (node h (node_id n)) c.0
  where
    go : (o : Option RecordedNode) → recorded_refusal (status_found h o) ≡ None → o ≡ None
    go None q = refl
    go (Some m) q = absurd cc

-- a node that is marked is retired
pub mark_retired : (h : History) (s : ℕ) (id : List ℕ) → refusal h s (requests.Mark id) ≡ None → is_retired (status_found h (node h id)) ≡ true
unfolding refusal mark_refusal
mark_retired h s id e =
    not-false (is_retired (status_found h (node h id))) (not_bad (not (is_retired (status_found h (node h id)))) (refusals.NodeState (status_found h (node h id))) e)

-- ---- nodes that a request records

-- no two places of the nodes have one identifier
abbrev pub AreDistinct : List RecordedNode → Type 0
AreDistinct ns = (i j : ℕ) (m n : RecordedNode) → slice_get ns i ≡ Some m → slice_get ns j ≡ Some n → m.id ≡ n.id → i ≡ j

-- none of the nodes has an identifier of these
abbrev pub AreFresh : List RecordedNode → List RecordedNode → Type 0
AreFresh ns more = (i j : ℕ) (m n : RecordedNode) → slice_get ns i ≡ Some m → slice_get more j ≡ Some n → m.id ≡ n.id → ⊥

same_self : (id : List ℕ) → same_bytes id id ≡ true
same_self id = (bytes_decides id id).1 refl

-- those that stand after have other identifiers than the first
after_differ : (n : NewNode) (ns : List NewNode) (j : ℕ) (m : NewNode) → are_ids_distinct (n ∷ ns) ≡ true → slice_get ns j ≡ Some m → node_id n ≡ node_id m → ⊥
after_differ n ns j m apart at same =
    let both = and_parts (not (list_any (is_node_with (node_id n)) ns)) (are_ids_distinct ns) apart in
    both_ways (list_any (is_node_with (node_id n)) ns) (not-true (list_any (is_node_with (node_id n)) ns) both.0)
    (any_from (is_node_with (node_id n)) ns j m at ((bytes_decides (node_id m) (node_id n)).1 (sym same)))

apart_places : (ns : List NewNode) → are_ids_distinct ns ≡ true → (i j : ℕ) (m n : NewNode) → slice_get ns i ≡ Some m → slice_get ns j ≡ Some n → node_id m ≡ node_id n → i ≡ j
apart_places [] apart i j m n left right same = absurd cc
apart_places (x ∷ ns) apart zero zero m n left right same = refl
apart_places (x ∷ ns) apart zero (suc j) m n left right same =
    let is : x ≡ m = same_Some x m left in
    absurd (after_differ x ns j n apart right (ap node_id is ∙ same))
apart_places (x ∷ ns) apart (suc i) zero m n left right same =
    let is : x ≡ n = same_Some x n right in
    absurd (after_differ x ns i m apart left (ap node_id is ∙ sym same))
apart_places (x ∷ ns) apart (suc i) (suc j) m n left right same =
    ap suc (apart_places ns (and_parts (not (list_any (is_node_with (node_id x)) ns)) (are_ids_distinct ns) apart).1 i j m n left right same)

named_distinct : (s : ℕ) (b : Bool) (ns : List NewNode) → are_ids_distinct ns ≡ true → AreDistinct (map (recorded_node s b) ns)
named_distinct s b ns apart i j m n left right same =
    let l = map_at (recorded_node s b) ns i m left in
    let r = map_at (recorded_node s b) ns j n right in
    apart_places ns apart i j l.0 r.0 l.1 r.1 (ap (λ (x : RecordedNode). x.id) l.2 ∙ same ∙ ap (λ (x : RecordedNode). x.id) (sym r.2))

-- where nothing has an identifier, no place has it
unrecorded : (h : History) (id : List ℕ) (i : ℕ) (m : RecordedNode) → node h id ≡ None → slice_get (nodes h) i ≡ Some m → m.id ≡ id → ⊥
unrecorded h id i m none at same =
    find_none (has_id id) (nodes h) i m (sym (node_is h id) ∙ none) at ((bytes_decides m.id id).1 same)

any_unrecorded : (h : History) (ns : List NewNode) (j : ℕ) (n : NewNode) → is_any_recorded h ns ≡ false → slice_get ns j ≡ Some n → node h (node_id n) ≡ None
unfolding is_any_recorded
any_unrecorded h ns j n fresh at = none_is (node h (node_id n)) (fails (is_some (node h (node_id n))) refl)
  where
    fails : (b : Bool) → is_some (node h (node_id n)) ≡ b → b ≡ false
    fails false is = refl
    fails true is = absurd (both_ways (list_any (λ (m : NewNode). is_some (node h (node_id m))) ns) fresh (any_from (λ (m : NewNode). is_some (node h (node_id m))) ns j n at is))

named_unrecorded : (h : History) (s : ℕ) (b : Bool) (ns : List NewNode) (j : ℕ) (n : RecordedNode) → is_any_recorded h ns ≡ false → slice_get (map (recorded_node s b) ns) j ≡ Some n → node h n.id ≡ None
named_unrecorded h s b ns j n fresh at =
    let r = map_at (recorded_node s b) ns j n at in
    ap (λ (x : RecordedNode). node h x.id) (sym r.2) ∙ any_unrecorded h ns j r.0 fresh r.1

-- the nodes that a request records are distinct
pub recorded_distinct : (h : History) (s : ℕ) (q : GovernanceRequest) → refusal h s q ≡ None → AreDistinct (nodes_recorded s q)
recorded_distinct h s (requests.Genesis g) e = named_distinct s true g.nodes (genesis_new h s g e).apart
recorded_distinct h s (requests.Recover r) e = named_distinct s true r.nodes (recovery_new h s r e).apart
recorded_distinct h s (requests.Join x) e = alone
  where
    alone : AreDistinct (recorded_node s false x ∷ [])
    alone zero zero m n left right same = refl
    alone (suc i) j m n left right same = absurd cc
    alone zero (suc j) m n left right same = absurd cc
recorded_distinct h s (requests.Mark id) e = λ i j m n left right same. absurd cc
recorded_distinct h s (requests.Member x) e = λ i j m n left right same. absurd cc

-- none of them was recorded
pub recorded_new : (h : History) (s : ℕ) (q : GovernanceRequest) (j : ℕ) (n : RecordedNode) → refusal h s q ≡ None → slice_get (nodes_recorded s q) j ≡ Some n → node h n.id ≡ None
recorded_new h s (requests.Genesis g) j n e at = named_unrecorded h s true g.nodes j n (genesis_new h s g e).fresh at
recorded_new h s (requests.Recover r) j n e at = named_unrecorded h s true r.nodes j n (recovery_new h s r e).fresh at
recorded_new h s (requests.Join x) zero n e at =
    ap (λ (m : RecordedNode). node h m.id) (sym (same_Some (recorded_node s false x) n at)) ∙ join_new h s x e
recorded_new h s (requests.Join x) (suc j) n e at = absurd cc
recorded_new h s (requests.Mark id) j n e at = absurd cc
recorded_new h s (requests.Member x) j n e at = absurd cc

pub recorded_fresh : (h : History) (s : ℕ) (q : GovernanceRequest) → refusal h s q ≡ None → AreFresh (nodes h) (nodes_recorded s q)
recorded_fresh h s q e i j m n left right same = unrecorded h n.id i m (recorded_new h s q j n e right) left same

-- ---- all nodes

pub distinct_after : (xs ys : List RecordedNode) → AreDistinct xs → AreDistinct ys → AreFresh xs ys → AreDistinct (xs ++ ys)
distinct_after xs ys first rest fresh i j m n left right same = go (slice_get-of_append xs ys i m left) (slice_get-of_append xs ys j n right)
  where
    go : (slice_get xs i ≡ Some m) ⊎ ((k : ℕ) × (i ≡ length xs + k) × (slice_get ys k ≡ Some m)) →
        (slice_get xs j ≡ Some n) ⊎ ((k : ℕ) × (j ≡ length xs + k) × (slice_get ys k ≡ Some n)) → i ≡ j
    go (inl a) (inl b) = first i j m n a b same
    go (inl a) (inr b) = absurd (fresh i b.0 m n a b.2 same)
    go (inr a) (inl b) = absurd (fresh j a.0 n m b a.2 (sym same))
    go (inr a) (inr b) = a.1 ∙ ap (λ (k : ℕ). length xs + k) (rest a.0 b.0 m n a.2 b.2 same) ∙ sym b.1

no_nodes : nodes (history []) ≡ []
unfolding nodes
no_nodes = ap (λ (h : History). nodes h) history_of_none

-- no two nodes have one identifier
pub nodes_distinct : (rs : List Recorded) → IsGoverned rs → AreDistinct (nodes (history rs))
nodes_distinct = governed_induction (λ (rs : List Recorded). AreDistinct (nodes (history rs)))
    (subst AreDistinct (sym no_nodes) (λ i j m n left right same. absurd cc))
    (λ rs r all follows old.
    subst AreDistinct (sym (nodes_more rs r))
    (distinct_after (nodes (history rs)) (nodes_recorded r.seqno r.request) old (recorded_distinct (history rs) r.seqno r.request follows.accepted) (recorded_fresh (history rs) r.seqno r.request follows.accepted)))

-- the node that stands at a place is the one with its identifier
pub node_in : (h : History) (i : ℕ) (n : RecordedNode) → AreDistinct (nodes h) → slice_get (nodes h) i ≡ Some n → node h n.id ≡ Some n
node_in h i n apart at =
    let f = find_any (has_id n.id) (nodes h) i n at (same_self n.id) in
    let place = found_at (has_id n.id) (nodes h) f.0 f.1 in
    let same : place.place ≡ i = apart place.place i f.0 n place.stands at ((bytes_decides f.0.id n.id).0 place.passes) in
    node_is h n.id ∙ f.1 ∙ sym place.stands ∙ ap (slice_get (nodes h)) same ∙ at

pub node_at : (rs : List Recorded) (i : ℕ) (n : RecordedNode) → IsGoverned rs → slice_get (nodes (history rs)) i ≡ Some n → node (history rs) n.id ≡ Some n
node_at rs i n all at = node_in (history rs) i n (nodes_distinct rs all) at
