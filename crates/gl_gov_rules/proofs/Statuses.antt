-- What the status of a node tells: a node that is marked was taken out of service before, one that
-- was taken out of service isn't trusted, and only recorded nodes are trusted.
use Rattle.std.proofs.Common.{◌≡◌, ℕ, List, map, filter, Option, Some, None, is_some, Bool, true, false, not, ◌&&◌, cond, refl, sym, ◌∙◌, ap}
use Rattle.std.specs.List.{list_any}
use Rattle.std.specs.Cmp.Lexicographic.{bytes_decides}
use Rattle.std.proofs.lemmas.Bool.{and_parts, not-true, both_ways}
use Rattle.std.proofs.lemmas.Option.{same_Some}
use Rattle.gl_base.specs.Bytes.{same_bytes}
use Rattle.gl_requests.specs.declared.request.GovernanceRequest.TheVariants as requests
use Rattle.gl_gov_rules.specs.declared.change.Recorded.{Recorded}
use Rattle.gl_gov_rules.specs.declared.change.RecordedNode.{RecordedNode}
use Rattle.gl_gov_rules.specs.declared.change.Changed.{Changed}
use Rattle.gl_gov_rules.specs.declared.refusal.NodeStatus.{NodeStatus}
use Rattle.gl_gov_rules.specs.declared.refusal.NodeStatus.TheVariants as statuses
use Rattle.gl_gov_rules.specs.History.{History}
use Rattle.gl_gov_rules.specs.Nodes.{nodes, node, retirement, is_marked, was_trusted, node_status, is_trusted_status, trusted, removal}
use Rattle.gl_gov_rules.specs.Changes.{history}
use Rattle.gl_gov_rules.specs.Refusals.{status_found, is_retired, refusal}
use Rattle.gl_gov_rules.specs.Governed.{Follows, IsGoverned}
use Rattle.gl_gov_rules.proofs.Finding.{At, any_at, any_from, map_at, map_place, filter_at}
use Rattle.gl_gov_rules.proofs.Removals.{removal_read, removal_from}
use Rattle.gl_gov_rules.proofs.NewNodes.{mark_retired, node_at}

-- ---- the tests

-- the status by what it depends on
abbrev pub status_by : Bool → Bool → Bool → NodeStatus
status_by marked out trust = cond marked statuses.Marked (cond out statuses.Retired (cond trust statuses.Trusted statuses.Pending))

pub status_is : (h : History) (n : RecordedNode) → node_status h n ≡ status_by (is_marked h n.id) (is_some (retirement h n)) (was_trusted h n)
unfolding node_status
status_is h n = refl

-- who is trusted is neither marked nor out of service, and was trusted
pub trusted_is : (h : History) (n : RecordedNode) → is_trusted_status (node_status h n) ≡ (not (is_marked h n.id) && (not (is_some (retirement h n)) && was_trusted h n))
trusted_is h n = ap is_trusted_status (status_is h n) ∙ by (is_marked h n.id) (is_some (retirement h n)) (was_trusted h n)
  where
    by : (a b c : Bool) → is_trusted_status (status_by a b c) ≡ (not a && (not b && c))
    by true b c = refl
    by false true c = refl
    by false false true = refl
    by false false false = refl

-- who is retired was taken out of service
retired_out : (h : History) (n : RecordedNode) → is_retired (Some (node_status h n)) ≡ true → is_some (retirement h n) ≡ true
retired_out h n e = by (is_marked h n.id) (is_some (retirement h n)) (was_trusted h n) (ap (λ (s : NodeStatus). is_retired (Some s)) (sym (status_is h n)) ∙ e)
  where
    by : (a b c : Bool) → is_retired (Some (status_by a b c)) ≡ true → b ≡ true
    by true b c q = absurd cc
    by false true c q = refl
    by false false true q = absurd cc
    by false false false q = absurd cc

is_some-some : {A : Type 0} (o : Option A) → is_some o ≡ true → (x : A) × (o ≡ Some x)
is_some-some None e = absurd cc
is_some-some (Some x) e = (x, refl)

-- ---- marks

-- the node of a Mark was taken out of service
pub mark_removed : (h : History) (s : ℕ) (id : List ℕ) → refusal h s (requests.Mark id) ≡ None → (t : ℕ) × (removal h id ≡ Some t)
mark_removed h s id e = go (node h id) refl (mark_retired h s id e)
  where
    go : (o : Option RecordedNode) → node h id ≡ o → is_retired (status_found h o) ≡ true → (t : ℕ) × (removal h id ≡ Some t)
    go None is q = absurd cc
    go (Some n) is q =
        let c = is_some-some (retirement h n) (retired_out h n q) in
        (c.0.seqno, removal_from h id c.0.seqno (record { of = n; recorded = is; by = c.0; retired = c.1; seqno = refl }))

pub marked : (rs : List Recorded) (r : Recorded) (id : List ℕ) → Follows rs r → r.request ≡ requests.Mark id → (s : ℕ) × (removal (history rs) id ≡ Some s)
marked rs r id follows is = mark_removed (history rs) r.seqno id (ap (refusal (history rs) r.seqno) (sym is) ∙ follows.accepted)

-- ---- trusted nodes

abbrev pub is_trusted_in : History → RecordedNode → Bool
is_trusted_in h n = is_trusted_status (node_status h n)

-- a node with the identifier that is trusted
pub trusted_at : (h : History) (id : List ℕ) → list_any (same_bytes id) (trusted h) ≡ true → (n : RecordedNode) × At (is_trusted_in h) (nodes h) n × (n.id ≡ id)
unfolding trusted
trusted_at h id e =
    let kept : List RecordedNode = filter (is_trusted_in h) (nodes h) in
    let a = any_at (same_bytes id) (map (λ (n : RecordedNode). n.id) kept) e in
    let m = map_at (λ (n : RecordedNode). n.id) kept a.1.place a.0 a.1.stands in
    (m.0, filter_at (is_trusted_in h) (nodes h) a.1.place m.0 m.1, m.2 ∙ sym ((bytes_decides id a.0).0 a.1.passes))

-- they are recorded
pub trusted_recorded : (h : History) (id : List ℕ) → list_any (same_bytes id) (trusted h) ≡ true → list_any (same_bytes id) (map (λ (n : RecordedNode). n.id) (nodes h)) ≡ true
trusted_recorded h id e =
    let t = trusted_at h id e in
    any_from (same_bytes id) (map (λ (n : RecordedNode). n.id) (nodes h)) t.1.place t.0.id
    (map_place (λ (n : RecordedNode). n.id) (nodes h) t.1.place t.0 t.1.stands) ((bytes_decides id t.0.id).1 (sym t.2))

-- who was taken out of service isn't trusted
pub out_untrusted : (h : History) (n : RecordedNode) (c : Changed) → retirement h n ≡ Some c → is_trusted_in h n ≡ true → ⊥
out_untrusted h n c out t =
    let a = and_parts (not (is_marked h n.id)) (not (is_some (retirement h n)) && was_trusted h n) (sym (trusted_is h n) ∙ t) in
    let b = and_parts (not (is_some (retirement h n))) (was_trusted h n) a.1 in
    both_ways (is_some (retirement h n)) (not-true (is_some (retirement h n)) b.0) (ap is_some out)

pub not_trusted : (rs : List Recorded) (id : List ℕ) (s : ℕ) → IsGoverned rs → removal (history rs) id ≡ Some s → list_any (same_bytes id) (trusted (history rs)) ≡ false
not_trusted rs id s all e = go (list_any (same_bytes id) (trusted (history rs))) refl
  where
    go : (b : Bool) → list_any (same_bytes id) (trusted (history rs)) ≡ b → b ≡ false
    go false is = refl
    go true is =
        let h : History = history rs in
        let r = removal_read h id s e in
        let t = trusted_at h id is in
        let found : node h id ≡ Some t.0 = ap (node h) (sym t.2) ∙ node_at rs t.1.place t.0 all t.1.stands in
        let same : t.0 ≡ r.of = same_Some t.0 r.of (sym found ∙ r.recorded) in
        absurd (out_untrusted h t.0 r.by (ap (retirement h) same ∙ r.retired) t.1.passes)
