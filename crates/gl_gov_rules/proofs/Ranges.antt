-- What is applied, and the keys that are named, are in their ranges, since requests are.
use Rattle.std.proofs.Common.{◌≡◌, ℕ, List, [], ◌∷◌, ◌++◌, length, map, Option, None, Some, IfSome, is_some, Bool, true, false, ◌&&◌, if◌then◌else◌, nat_lt, find, filter_map, reverse, refl, ◌∙◌, ap, append_assoc, sym}
use Rattle.std.specs.List.{list_all, cons_option}
use Rattle.std.proofs.lemmas.Bool.{and_parts, and_from}
use Rattle.std.proofs.lemmas.List.Elements.{filter_map-append}
use Rattle.gl_base.specs.Bytes.{are_sized}
use Rattle.gl_vmaps.specs.LastWrite.{last_such}
use Rattle.gl_requests.specs.Ranges.{is_node, is_member, is_dealing, are_rules, is_action, is_action_count, are_actions, is_act, is_member_number, is_signature_field, are_counted, is_first_state, is_member_request, is_request}
use Rattle.gl_requests.specs.declared.genesis.NewMember.{NewMember}
use Rattle.gl_requests.specs.declared.genesis.Genesis as founding
use Rattle.gl_requests.specs.declared.action.Action.{Action}
use Rattle.gl_requests.specs.declared.action.Action.TheVariants as actions
use Rattle.gl_requests.specs.declared.request.MemberAct.{MemberAct}
use Rattle.gl_requests.specs.declared.request.MemberAct.TheVariants as acts
use Rattle.gl_requests.specs.declared.request.MemberRequest.{MemberRequest}
use Rattle.gl_requests.specs.declared.request.GovernanceRequest.{GovernanceRequest}
use Rattle.gl_requests.specs.declared.request.GovernanceRequest.TheVariants as requests
use Rattle.gl_gov_rules.specs.declared.change.Recorded.{Recorded}
use Rattle.gl_gov_rules.specs.declared.change.Proposal.{Proposal}
use Rattle.gl_gov_rules.specs.declared.change.ProposalState.TheVariants as states
use Rattle.gl_gov_rules.specs.declared.change.Change.{Change}
use Rattle.gl_gov_rules.specs.declared.change.Change.TheVariants as changes
use Rattle.gl_gov_rules.specs.declared.change.Changed.{Changed}
use Rattle.gl_gov_rules.specs.declared.change.Tally.{Tally}
use Rattle.gl_gov_rules.specs.declared.refusal.Cause.{Cause}
use Rattle.gl_gov_rules.specs.History.{History, set_by, last_set, Answered}
use Rattle.gl_gov_rules.specs.Service.{sets_rules, constitution, sets_dealing, dealing, sets_identity, identity}
use Rattle.gl_gov_rules.specs.Proposals.{proposal_in_act, proposal_in, proposals, has_proposal_id, proposal, answers_with}
use Rattle.gl_gov_rules.specs.Actions.{first_bad_action}
use Rattle.gl_gov_rules.specs.Tally.{tally, is_accepted, is_rejected}
use Rattle.gl_gov_rules.specs.Changes.{set_member, founding_changes, acceptance_changes, ballot_changes, ballot_changes_on, act_changes, request_changes, is_complete, changes_of, changed_at, history, with_request}
use Rattle.gl_gov_rules.specs.Governed.{Follows, IsGoverned}
use Rattle.gl_gov_rules.proofs.Counting.{all_append, all_reverse, all_find}
use Rattle.gl_gov_rules.proofs.Prefixes.{changes_more, governed_induction, history-more}

-- ---- the last thing set

-- what changes that pass set, has what each of them sets
pub last_set_has : {A : Type 0} (P : A → Type 0) (sets : Change → Option A) (passes : Changed → Bool) → ((c : Changed) → passes c ≡ true → IfSome (sets c.change) P) →
    (cs : List Changed) → list_all passes cs ≡ true → IfSome (last_set sets cs) P
last_set_has P sets passes has cs all = go (last_such (λ (c : Changed). is_some (sets c.change)) cs) refl
  where
    go : (o : Option Changed) → last_such (λ (c : Changed). is_some (sets c.change)) cs ≡ o → IfSome (set_by sets o) P
    go None e = tt
    go (Some c) e = has c (all_find passes (λ (d : Changed). is_some (sets d.change)) (reverse cs) c (all_reverse passes cs all) e)

-- ---- changes in their ranges

-- a key that is named has 60 bytes, and an applied action is in its ranges
abbrev pub is_change : Change → Bool
is_change (changes.Founded state key) = are_sized 60 key
is_change (changes.Recovered key) = are_sized 60 key
is_change (changes.Applied a) = is_action a
is_change other = true

abbrev pub are_changes : List Changed → Bool
are_changes cs = list_all (λ (c : Changed). is_change c.change) cs

rules_set : (c : Change) → is_change c ≡ true → IfSome (sets_rules c) (λ rules. are_rules rules ≡ true)
rules_set (changes.Applied (actions.SetConstitution rules)) e = e
rules_set other e = tt

dealing_set : (c : Change) → is_change c ≡ true → IfSome (sets_dealing c) (λ d. is_dealing d ≡ true)
dealing_set (changes.Applied (actions.SetRecoveryThreshold d)) e = e
dealing_set other e = tt

key_set : (c : Change) → is_change c ≡ true → IfSome (sets_identity c) (λ key. are_sized 60 key ≡ true)
key_set (changes.Founded state key) e = e
key_set (changes.Recovered key) e = e
key_set other e = tt

pub rules_in_range : (h : History) → are_changes h.changes ≡ true → IfSome (constitution h) (λ rules. are_rules rules ≡ true)
unfolding constitution
rules_in_range h all = last_set_has (λ rules. are_rules rules ≡ true) sets_rules (λ (c : Changed). is_change c.change) (λ c e. rules_set c.change e) h.changes all

pub dealing_in_range : (h : History) → are_changes h.changes ≡ true → IfSome (dealing h) (λ d. is_dealing d ≡ true)
unfolding dealing
dealing_in_range h all = last_set_has (λ d. is_dealing d ≡ true) sets_dealing (λ (c : Changed). is_change c.change) (λ c e. dealing_set c.change e) h.changes all

pub key_in_range : (h : History) → are_changes h.changes ≡ true → IfSome (identity h) (λ key. are_sized 60 key ≡ true)
unfolding identity
key_in_range h all = last_set_has (λ key. are_sized 60 key ≡ true) sets_identity (λ (c : Changed). is_change c.change) (λ c e. key_set c.change e) h.changes all

-- ---- proposals in their ranges

abbrev pub are_proposals : List Proposal → Bool
are_proposals ps = list_all (λ (p : Proposal). are_actions p.actions) ps

-- a request more makes a proposal more, or none
pub proposals_after : (h : History) (r : Recorded) → proposals (with_request h r) ≡ proposals h ++ filter_map (λ (q : Recorded). proposal_in q.seqno q.request) (r ∷ [])
unfolding proposals with_request
proposals_after h r =
    let made : Recorded → Option Proposal = λ (q : Recorded). proposal_in q.seqno q.request in
    ap (λ (ps : List Proposal). h.carried.proposals ++ ps) (filter_map-append made h.requests (r ∷ []))
    ∙ sym (append_assoc h.carried.proposals (filter_map made h.requests) (filter_map made (r ∷ [])))

pub proposals_more : (rs : List Recorded) (r : Recorded) →
    proposals (history (rs ++ r ∷ [])) ≡ proposals (history rs) ++ filter_map (λ (q : Recorded). proposal_in q.seqno q.request) (r ∷ [])
proposals_more rs r = ap proposals (history-more rs r) ∙ proposals_after (history rs) r

pub member_act : (m : MemberRequest) → is_member_request m ≡ true → is_act m.act ≡ true
member_act m fits =
    let a = and_parts (is_member_number m.member && is_act m.act) (is_signature_field m.signature) fits in
    (and_parts (is_member_number m.member) (is_act m.act) a.0).1

pub proposed_in_range : (seqno : ℕ) (q : GovernanceRequest) → is_request q ≡ true → IfSome (proposal_in seqno q) (λ (p : Proposal). are_actions p.actions ≡ true)
proposed_in_range seqno (requests.Member m) fits = by_act m.act (member_act m fits)
  where
    by_act : (act : MemberAct) → is_act act ≡ true → IfSome (proposal_in_act seqno m act) (λ (p : Proposal). are_actions p.actions ≡ true)
    by_act (acts.Propose list) e = e
    by_act other e = tt
proposed_in_range seqno other fits = tt

one_more : (o : Option Proposal) → IfSome o (λ (p : Proposal). are_actions p.actions ≡ true) → are_proposals (cons_option o []) ≡ true
one_more None e = refl
one_more (Some p) e = and_from (are_actions p.actions) true e refl

-- ---- what a request brings about

founding_in_range : (seqno : ℕ) (g : founding.Genesis) → is_request (requests.Genesis g) ≡ true → are_changes (map (changed_at seqno) (founding_changes g)) ≡ true
founding_in_range seqno g fits =
    let a = and_parts (is_first_state g.state && are_sized 60 g.identity && are_counted is_node g.nodes && are_counted is_member g.members) (is_dealing g.dealing) fits in
    let b = and_parts (is_first_state g.state && are_sized 60 g.identity && are_counted is_node g.nodes) (are_counted is_member g.members) a.0 in
    let c = and_parts (is_first_state g.state && are_sized 60 g.identity) (are_counted is_node g.nodes) b.0 in
    let identity = (and_parts (is_first_state g.state) (are_sized 60 g.identity) c.0).1 in
    let members = (and_parts (nat_lt (length g.members) 256) (list_all is_member g.members) b.1).1 in
    and_from (are_sized 60 g.identity) _ identity (and_from (is_dealing g.dealing) _ a.1 (named g.members members))
  where
    named : (ms : List NewMember) → list_all is_member ms ≡ true → are_changes (map (changed_at seqno) (map set_member ms)) ≡ true
    named [] all = refl
    named (m ∷ ms) all = let both = and_parts (is_member m) (list_all is_member ms) all in and_from (is_member m) _ both.0 (named ms both.1)

applied_in_range : (seqno : ℕ) (list : List Action) → list_all is_action list ≡ true → are_changes (map (changed_at seqno) (map (λ a. changes.Applied a) list)) ≡ true
applied_in_range seqno [] all = refl
applied_in_range seqno (a ∷ list) all = let both = and_parts (is_action a) (list_all is_action list) all in and_from (is_action a) _ both.0 (applied_in_range seqno list both.1)

acceptance_in_range : (seqno : ℕ) (id : List ℕ) (list : List Action) (bad : Option (ℕ × Cause)) → list_all is_action list ≡ true → are_changes (map (changed_at seqno) (acceptance_changes id list bad)) ≡ true
acceptance_in_range seqno id list None all = applied_in_range seqno list all
acceptance_in_range seqno id list (Some bad) all = refl

ballot_in_range : (h : History) (seqno : ℕ) (id : List ℕ) (t : Tally) (list : List Action) → list_all is_action list ≡ true → are_changes (map (changed_at seqno) (ballot_changes h seqno id t list)) ≡ true
unfolding ballot_changes
ballot_in_range h seqno id t list all = by_count (is_accepted h t list) (is_rejected h t list)
  where
    by_count : (accepted rejected : Bool) →
        are_changes (map (changed_at seqno) (if accepted then acceptance_changes id list (first_bad_action h seqno 1 list) else (if rejected then changes.Settled id states.Rejected ∷ [] else []))) ≡ true
    by_count true rejected = acceptance_in_range seqno id list (first_bad_action h seqno 1 list) all
    by_count false true = refl
    by_count false false = refl

-- the actions of a proposal that is found are in their ranges
found_in_range : (h : History) (id : List ℕ) → are_proposals (proposals h) ≡ true → IfSome (proposal h id) (λ (p : Proposal). are_actions p.actions ≡ true)
unfolding proposal
found_in_range h id all = go (find (has_proposal_id id) (proposals h)) refl
  where
    go : (o : Option Proposal) → find (has_proposal_id id) (proposals h) ≡ o → IfSome o (λ (p : Proposal). are_actions p.actions ≡ true)
    go None e = tt
    go (Some p) e = all_find (λ (q : Proposal). are_actions q.actions) (has_proposal_id id) (proposals h) p all e

ballot_on_in_range : (h : History) (given : List Answered) (seqno : ℕ) (id : List ℕ) (o : Option Proposal) → IfSome o (λ (p : Proposal). are_actions p.actions ≡ true) →
    are_changes (map (changed_at seqno) (ballot_changes_on h given seqno id o)) ≡ true
ballot_on_in_range h given seqno id None e = refl
ballot_on_in_range h given seqno id (Some p) e = ballot_in_range h seqno id (tally h given id) p.actions (and_parts (is_action_count (length p.actions)) (list_all is_action p.actions) e).1

act_in_range : (h : History) (given : List Answered) (seqno : ℕ) (act : MemberAct) → are_proposals (proposals h) ≡ true → are_changes (map (changed_at seqno) (act_changes h given seqno act)) ≡ true
act_in_range h given seqno (acts.Ballot id agrees) all = ballot_on_in_range h given seqno id (proposal h id) (found_in_range h id all)
act_in_range h given seqno (acts.Withdraw id) all = refl
act_in_range h given seqno (acts.Share share) all = complete (is_complete h)
  where
    complete : (b : Bool) → are_changes (map (changed_at seqno) (if b then changes.Completed ∷ [] else [])) ≡ true
    complete true = refl
    complete false = refl
act_in_range h given seqno other all = refl

pub brought_in_range : (h : History) (given : List Answered) (seqno : ℕ) (q : GovernanceRequest) → is_request q ≡ true → are_proposals (proposals h) ≡ true →
    are_changes (map (changed_at seqno) (request_changes h given seqno q)) ≡ true
brought_in_range h given seqno (requests.Genesis g) fits all = founding_in_range seqno g fits
brought_in_range h given seqno (requests.Recover r) fits all =
    let key = (and_parts (are_sized 60 r.identity) (are_counted is_node r.nodes) fits).0 in and_from (are_sized 60 r.identity) true key refl
brought_in_range h given seqno (requests.Member m) fits all = act_in_range h given seqno m.act all
brought_in_range h given seqno other fits all = refl

-- ---- the whole

abbrev pub AreInRange : List Recorded → Type 0
AreInRange rs = (are_proposals (proposals (history rs)) ≡ true) × (are_changes (history rs).changes ≡ true)

in_range_of_none : AreInRange []
unfolding history proposals
in_range_of_none = (refl, refl)

in_range_more : (rs : List Recorded) (r : Recorded) → IsGoverned rs → Follows rs r → AreInRange rs → AreInRange (rs ++ r ∷ [])
unfolding changes_of
in_range_more rs r all follows before =
    let h = history rs in (
      rw (proposals_more rs r)
          (all_append (λ (p : Proposal). are_actions p.actions) (proposals h) _ before.0
          (one_more (proposal_in r.seqno r.request) (proposed_in_range r.seqno r.request follows.fits))),
      rw (changes_more rs r)
          (all_append (λ (c : Changed). is_change c.change) h.changes _ before.1
          (brought_in_range h (answers_with h r.request) r.seqno r.request follows.fits before.0)),
    )

-- after requests that follow one another all proposals and changes are in their ranges
pub are_in_range : (rs : List Recorded) → IsGoverned rs → AreInRange rs
are_in_range = governed_induction AreInRange in_range_of_none in_range_more
