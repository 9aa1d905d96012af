-- After requests that follow one another some node is trusted, once there is a request.
use Rattle.std.proofs.Common.{◌≡◌, ◌⊎◌, inl, inr, ⊎_elim, ℕ, ◌+◌, ◌<◌, List, [], ◌∷◌, ◌++◌, length, map, filter, Option, Some, None, Bool, true, false, ◌||◌, ◌==◌, slice_get, refl, sym, ◌∙◌, ap, subst, append-nil, arith, if◌then◌else◌}
use Rattle.std.specs.Cmp.Lexicographic.{bytes_decides}
use Rattle.std.proofs.lemmas.Bool.{or_from, or_cases, false_from_ne_true}
use Rattle.std.proofs.lemmas.Option.{same_Some}
use Rattle.std.proofs.lemmas.List.Folds.{list_any-append}
use Rattle.gl_base.proofs.Lists.{slice_get-append, slice_get-of_append, slice_get-within}
use Rattle.gl_base.specs.Bytes.{same_bytes}
use Rattle.gl_requests.specs.declared.genesis.NewNode.{NewNode}
use Rattle.gl_requests.specs.declared.action.Action.{Action}
use Rattle.gl_requests.specs.declared.request.MemberAct.{MemberAct}
use Rattle.gl_requests.specs.declared.request.MemberAct.TheVariants as acts
use Rattle.gl_requests.specs.declared.request.MemberRequest.{MemberRequest}
use Rattle.gl_requests.specs.declared.request.GovernanceRequest.{GovernanceRequest}
use Rattle.gl_requests.specs.declared.request.GovernanceRequest.TheVariants as requests
use Rattle.gl_gov_rules.specs.declared.change.Recorded.{Recorded}
use Rattle.gl_gov_rules.specs.declared.change.RecordedNode.{RecordedNode}
use Rattle.gl_gov_rules.specs.declared.change.Proposal.{Proposal}
use Rattle.gl_gov_rules.specs.declared.change.ProposalState.TheVariants as states
use Rattle.gl_gov_rules.specs.declared.change.Change.{Change}
use Rattle.gl_gov_rules.specs.declared.change.Change.TheVariants as changes
use Rattle.gl_gov_rules.specs.declared.change.Changed.{Changed}
use Rattle.gl_gov_rules.specs.declared.change.Tally.{Tally}
use Rattle.gl_gov_rules.specs.declared.refusal.Cause.{Cause}
use Rattle.gl_gov_rules.specs.History.{History, Answered, nothing}
use Rattle.gl_gov_rules.specs.Nodes.{recorded_node, nodes_recorded, nodes, node, marks, retires, trusted}
use Rattle.gl_gov_rules.specs.Proposals.{proposal, answers_with}
use Rattle.gl_gov_rules.specs.Actions.{first_bad_action}
use Rattle.gl_gov_rules.specs.Tally.{tally, is_accepted, is_rejected}
use Rattle.gl_gov_rules.specs.Changes.{founding_changes, acceptance_changes, ballot_changes, ballot_changes_on, is_complete, act_changes, request_changes, changes_of, changed_at, history}
use Rattle.gl_gov_rules.specs.Refusals.{refusal}
use Rattle.gl_gov_rules.specs.Governed.{is_founding, is_nothing, IsAbove, Follows, IsGoverned}
use Rattle.gl_gov_rules.proofs.Prefixes.{requests_more, changes_more, governed_induction}
use Rattle.gl_gov_rules.proofs.Finding.{any_false, each_at, filter_has, map_place, after_at}
use Rattle.gl_gov_rules.proofs.HistoryLists.{requests_of, changes_below, nodes_more}
use Rattle.gl_gov_rules.proofs.Removals.{removal_read, takes_out, node_kept, recorded_seqno, brought_seqno, not_before, marks_same}
use Rattle.gl_gov_rules.proofs.NewNodes.{genesis_new, recovery_new, recorded_new, AreDistinct, nodes_distinct, node_in}
use Rattle.gl_gov_rules.proofs.Statuses.{mark_removed, marked, is_trusted_in, out_untrusted}
use Rattle.gl_gov_rules.proofs.TrustedBy.{marked_in, trust_in, IsTrusted, trusted_from, kept_by_request, kept_by_changes, kept_by_between, harmless, SomeTrusted, all_applied, all_kept}
use Rattle.gl_gov_rules.proofs.NothingCarried.{nothing_carried}

-- ---- marked nodes are recorded

abbrev pub AreMarkedRecorded : List Recorded → Type 0
AreMarkedRecorded rs = (id : List ℕ) → marked_in rs id ≡ true → (n : RecordedNode) × (node (history rs) id ≡ Some n)

marked_recorded : (rs : List Recorded) → IsGoverned rs → AreMarkedRecorded rs
marked_recorded = governed_induction AreMarkedRecorded
    (λ id e. absurd cc)
    (λ rs r all follows old id e.
    ⊎_elim
    (λ (before : marked_in rs id ≡ true). let f = old id before in (f.0, node_kept rs r id f.0 f.1))
    (λ (now : marked_in (r ∷ []) id ≡ true).
    let is : marks id r.request ≡ true = alone (marks id r.request) now in
    let removed = marked rs r id follows (marks_same id r.request is) in
    let read = removal_read (history rs) id removed.0 removed.1 in
    (read.of, node_kept rs r id read.of read.recorded))
    (or_cases (marked_in rs id) (marked_in (r ∷ []) id) (sym (list_any-append (λ (x : Recorded). marks id x.request) rs (r ∷ [])) ∙ e)))
  where
    alone : (b : Bool) → (b || false) ≡ true → b ≡ true
    alone true e = refl
    alone false e = e

-- ---- one request more

abbrev pub HasTrusted : History → Type 0
HasTrusted h = SomeTrusted (nodes h) h.requests h.changes

-- what a request at a seqno makes of the lists of a history
abbrev pub one_more : ℕ → GovernanceRequest → Recorded
one_more s q = record { seqno = s; request = q }

abbrev pub HasTrustedAfter : History → ℕ → GovernanceRequest → List Change → Type 0
HasTrustedAfter h s q cs = SomeTrusted (nodes h ++ nodes_recorded s q) (h.requests ++ one_more s q ∷ []) (h.changes ++ map (changed_at s) cs)

-- a node that is trusted stays so, as long as the request doesn't mark it and nothing takes it out
stays : (h : History) (s : ℕ) (q : GovernanceRequest) (cs : List Change) (t : HasTrusted h) →
    marks t.of.id q ≡ false → IsTrusted h.requests (h.changes ++ map (changed_at s) cs) t.of → HasTrustedAfter h s q cs
stays h s q cs t other is = record {
  of = t.of;
  place = t.place;
  stands = slice_get-append (nodes h) (nodes_recorded s q) t.place t.of t.stands;
  is = kept_by_request h.requests (h.changes ++ map (changed_at s) cs) t.of (one_more s q) other is;
}

-- a request that brings nothing about
stays_plain : (h : History) (s : ℕ) (q : GovernanceRequest) (t : HasTrusted h) → marks t.of.id q ≡ false → HasTrustedAfter h s q []
stays_plain h s q t other = stays h s q [] t other (subst (λ (cs : List Changed). IsTrusted h.requests cs t.of) (sym (append-nil h.changes)) t.is)

-- ---- foundings

first_of : (ns : List NewNode) → (length ns == 0) ≡ false → (n : NewNode) × (slice_get ns 0 ≡ Some n)
first_of [] e = absurd cc
first_of (n ∷ ns) e = (n, refl)

-- the first node that a founding or a recovery names is trusted
founded : (rs : List Recorded) (s : ℕ) (q : GovernanceRequest) (cs : List Change) (n : RecordedNode) → IsGoverned rs → IsAbove s rs → refusal (history rs) s q ≡ None →
    slice_get (nodes_recorded s q) 0 ≡ Some n → n.is_founding ≡ true → marks n.id q ≡ false → HasTrustedAfter (history rs) s q cs
founded rs s q cs n all above accepted at founding other =
    let place = after_at (nodes h) (nodes_recorded s q) 0 n at in
    record {
      of = n;
      place = place.0;
      stands = place.1;
      is = kept_by_request h.requests (h.changes ++ more) n (one_more s q) other (record {
        unmarked = unmarked;
        serves = any_false (takes_out n) (h.changes ++ more) (λ i c there out. late i c (not_before n c out) (slice_get-of_append h.changes more i c there));
        trust = ap (λ (b : Bool). b || trust_in (h.changes ++ more) n.id) founding;
      });
    }
  where
    h : History
    h = history rs

    more : List Changed
    more = map (changed_at s) cs

    own : n.seqno ≡ s
    own = recorded_seqno s q 0 n at

    late : (i : ℕ) (c : Changed) → n.seqno < c.seqno → (slice_get h.changes i ≡ Some c) ⊎ ((k : ℕ) × (i ≡ length h.changes + k) × (slice_get more k ≡ Some c)) → ⊥
    late i c suffix (inl old) =
        let low : c.seqno < s = each_at (λ (x : Changed). x.seqno < s) h.changes (changes_below s rs above) i c old in
        absurd (omega (arith, low, suffix, own))
    late i c suffix (inr now) = absurd (omega (arith, brought_seqno s cs now.0 c now.2, suffix, own))

    unmarked : marked_in h.requests n.id ≡ false
    unmarked = false_from_ne_true (marked_in h.requests n.id) (λ e.
        let found = marked_recorded rs all n.id (ap (λ (xs : List Recorded). marked_in xs n.id) (sym (requests_of rs)) ∙ e) in
        let none = recorded_new h s q 0 n accepted at in
        let clash : None ≡ Some found.0 = sym none ∙ found.1 in
        cc)

-- ---- Marks

-- a trusted node isn't the one that a Mark may name
mark_other : (h : History) (s : ℕ) (id : List ℕ) → h.carried ≡ nothing → (t : HasTrusted h) → AreDistinct (nodes h) → refusal h s (requests.Mark id) ≡ None → marks t.of.id (requests.Mark id) ≡ false
mark_other h s id bare t apart accepted = false_from_ne_true (same_bytes t.of.id id) (λ e.
    let removed = mark_removed h s id accepted in
    let read = removal_read h id removed.0 removed.1 in
    let found : node h id ≡ Some t.of = ap (node h) (sym ((bytes_decides t.of.id id).0 e)) ∙ node_in h t.place t.of apart t.stands in
    let same : read.of ≡ t.of = same_Some read.of t.of (sym read.recorded ∙ found) in
    out_untrusted h read.of read.by read.retired (ap (is_trusted_in h) same ∙ trusted_from h t.of bare t.is))

-- ---- members

-- changes that take no node out of service
quiet : (h : History) (s : ℕ) (m : MemberRequest) (c : Change) (t : HasTrusted h) → retires t.of.id c ≡ false → HasTrustedAfter h s (requests.Member m) (c ∷ [])
quiet h s m c t e =
    stays h s (requests.Member m) (c ∷ []) t refl
    (kept_by_changes h.requests h.changes (changed_at s c ∷ []) t.of (or_from (takes_out t.of (changed_at s c)) false (harmless t.of s c e) refl) t.is)

none_trusted : (h : History) (s : ℕ) (m : MemberRequest) (t : HasTrusted h) → HasTrustedAfter h s (requests.Member m) []
none_trusted h s m t = stays_plain h s (requests.Member m) t refl

accepted_trusted : (h : History) (s : ℕ) (m : MemberRequest) (id : List ℕ) (list : List Action) → h.carried ≡ nothing → AreDistinct (nodes h) → HasTrusted h →
    (bad : Option (ℕ × Cause)) → first_bad_action h s 1 list ≡ bad → HasTrustedAfter h s (requests.Member m) (acceptance_changes id list bad)
accepted_trusted h s m id list bare apart t None is =
    let after = all_kept h s 1 list bare apart is t in
    record {
      of = after.of;
      place = after.place;
      stands = slice_get-append (nodes h) [] after.place after.of after.stands;
      is = kept_by_request h.requests (h.changes ++ changed_at s (changes.Settled id states.Accepted) ∷ all_applied s list) after.of (one_more s (requests.Member m)) refl
          (kept_by_between h.requests h.changes (all_applied s list) (changed_at s (changes.Settled id states.Accepted)) after.of (harmless after.of s (changes.Settled id states.Accepted) refl) after.is);
    }
accepted_trusted h s m id list bare apart t (Some bad) is = quiet h s m (changes.Settled id states.Failed) t refl

ballot_trusted : (h : History) (s : ℕ) (m : MemberRequest) (id : List ℕ) (count : Tally) (list : List Action) → h.carried ≡ nothing → AreDistinct (nodes h) → HasTrusted h →
    HasTrustedAfter h s (requests.Member m) (ballot_changes h s id count list)
unfolding ballot_changes
ballot_trusted h s m id count list bare apart t = by (is_accepted h count list) (is_rejected h count list)
  where
    by : (a b : Bool) → HasTrustedAfter h s (requests.Member m) (if a then acceptance_changes id list (first_bad_action h s 1 list) else (if b then changes.Settled id states.Rejected ∷ [] else []))
    by true b = accepted_trusted h s m id list bare apart t (first_bad_action h s 1 list) refl
    by false true = quiet h s m (changes.Settled id states.Rejected) t refl
    by false false = none_trusted h s m t

act_trusted : (h : History) (given : List Answered) (s : ℕ) (m : MemberRequest) (act : MemberAct) → h.carried ≡ nothing → AreDistinct (nodes h) → HasTrusted h → HasTrustedAfter h s (requests.Member m) (act_changes h given s act)
act_trusted h given s m acts.Ack bare apart t = none_trusted h s m t
act_trusted h given s m (acts.Propose list) bare apart t = none_trusted h s m t
act_trusted h given s m (acts.Ballot id agrees) bare apart t = by (proposal h id)
  where
    by : (o : Option Proposal) → HasTrustedAfter h s (requests.Member m) (ballot_changes_on h given s id o)
    by None = none_trusted h s m t
    by (Some p) = ballot_trusted h s m id (tally h given id) p.actions bare apart t
act_trusted h given s m (acts.Withdraw id) bare apart t = quiet h s m (changes.Settled id states.Withdrawn) t refl
act_trusted h given s m (acts.Share share) bare apart t = by (is_complete h)
  where
    by : (b : Bool) → HasTrustedAfter h s (requests.Member m) (if b then changes.Completed ∷ [] else [])
    by true = quiet h s m changes.Completed t refl
    by false = none_trusted h s m t

-- ---- all requests

-- some node is trusted before a request that founds nothing
abbrev pub IsSomeTrusted : List Recorded → Type 0
IsSomeTrusted rs = is_nothing rs ≡ false → HasTrusted (history rs)

request_trusted : (rs : List Recorded) (s : ℕ) (q : GovernanceRequest) → IsGoverned rs → IsAbove s rs → refusal (history rs) s q ≡ None → is_founding q ≡ is_nothing rs → IsSomeTrusted rs →
    HasTrustedAfter (history rs) s q (request_changes (history rs) (answers_with (history rs) q) s q)
request_trusted rs s (requests.Genesis g) all above accepted first old =
    let n = first_of g.nodes (genesis_new (history rs) s g accepted).some in
    founded rs s (requests.Genesis g) (founding_changes g) (recorded_node s true n.0) all above accepted (map_place (recorded_node s true) g.nodes 0 n.0 n.1) refl refl
request_trusted rs s (requests.Recover r) all above accepted first old =
    let n = first_of r.nodes (recovery_new (history rs) s r accepted).some in
    founded rs s (requests.Recover r) (changes.Recovered r.identity ∷ []) (recorded_node s true n.0) all above accepted (map_place (recorded_node s true) r.nodes 0 n.0 n.1) refl refl
request_trusted rs s (requests.Join n) all above accepted first old = stays_plain (history rs) s (requests.Join n) (old (sym first)) refl
request_trusted rs s (requests.Mark id) all above accepted first old =
    stays_plain (history rs) s (requests.Mark id) (old (sym first)) (mark_other (history rs) s id (nothing_carried rs) (old (sym first)) (nodes_distinct rs all) accepted)
request_trusted rs s (requests.Member m) all above accepted first old =
    act_trusted (history rs) (answers_with (history rs) (requests.Member m)) s m m.act (nothing_carried rs) (nodes_distinct rs all) (old (sym first))

changes_are : (h : History) (r : Recorded) → changes_of h r ≡ request_changes h (answers_with h r.request) r.seqno r.request
unfolding changes_of
changes_are h r = refl

more_trusted : (rs : List Recorded) (r : Recorded) → IsGoverned rs → Follows rs r → IsSomeTrusted rs → HasTrusted (history (rs ++ r ∷ []))
more_trusted rs r all follows old =
    let h : History = history rs in
    let t = request_trusted rs r.seqno r.request all follows.above follows.accepted follows.founding old in
    let with_changes = subst (λ (cs : List Change). HasTrustedAfter h r.seqno r.request cs) (sym (changes_are h r)) t in
    rw (nodes_more rs r, requests_more rs r, changes_more rs r) with_changes

has_trusted : (rs : List Recorded) → IsGoverned rs → IsSomeTrusted rs
has_trusted = governed_induction IsSomeTrusted (λ e. absurd cc) (λ rs r all follows old some. more_trusted rs r all follows old)

-- a list that something stands in isn't empty
trusted_length : (h : History) → h.carried ≡ nothing → HasTrusted h → 0 < length (trusted h)
unfolding trusted
trusted_length h bare t =
    let kept = filter_has (is_trusted_in h) (nodes h) t.place t.of t.stands (trusted_from h t.of bare t.is) in
    let ids : List (List ℕ) = map (λ (n : RecordedNode). n.id) (filter (is_trusted_in h) (nodes h)) in
    let within = slice_get-within ids kept.0 t.of.id (map_place (λ (n : RecordedNode). n.id) (filter (is_trusted_in h) (nodes h)) kept.0 t.of kept.1) in
    omega (arith, within)

-- some node is trusted
pub some_trusted : (r : Recorded) (rs : List Recorded) → IsGoverned (r ∷ rs) → 0 < length (trusted (history (r ∷ rs)))
some_trusted r rs all = trusted_length (history (r ∷ rs)) (nothing_carried (r ∷ rs)) (has_trusted (r ∷ rs) all refl)
