-- What is known of requests that were accepted one after another, up to a base.
use Rattle.std.proofs.Common.{◌≡◌, ◌⊎◌, inl, inr, ⊎_elim, ℕ, zero, suc, ◌<◌, ◌≤◌, List, [], ◌∷◌, ◌++◌, Option, Some, None, Bool, true, false, cond, length, flat_map, filter_map, find, nat_eq, nat_lt, slice_get, refl, sym, ◌∙◌, ap, subst, append-nil, arith}
use Rattle.std.specs.List.{list_any, cons_option, AllByRecursion}
use Rattle.std.specs.Option.{option_or, option_map, option_to_list}
use Rattle.std.proofs.lemmas.Bool.{and_parts, or_cases, or_left, or_right, or_parts}
use Rattle.std.proofs.lemmas.Bool.Decides.{nat_tests}
use Rattle.std.proofs.lemmas.Option.{same_Some}
use Rattle.gl_base.proofs.Lists.{slice_get-push}
use Rattle.gl_base.specs.Bytes.{same_bytes}
use Rattle.gl_vmaps.specs.LastWrite.{last_such}
use Rattle.gl_vmaps.proofs.LastWrites.{last_such-cons}
use Rattle.gl_vmaps.proofs.TablesLaws.{same_bytes-eq, same_bytes-symm, same_bytes-itself}
use Rattle.gl_shares.specs.declared.share.Share.{Share}
use Rattle.gl_requests.specs.declared.request.MemberAct.{MemberAct}
use Rattle.gl_requests.specs.declared.request.MemberAct.TheVariants as acts
use Rattle.gl_requests.specs.declared.request.GovernanceRequest.{GovernanceRequest}
use Rattle.gl_requests.specs.declared.request.GovernanceRequest.TheVariants as requests
use Rattle.gl_requests.specs.declared.action.Action.TheVariants as actions
use Rattle.gl_gov_rules.specs.declared.change.Recorded.{Recorded}
use Rattle.gl_gov_rules.specs.declared.change.RecordedNode.{RecordedNode}
use Rattle.gl_gov_rules.specs.declared.change.Proposal.{Proposal}
use Rattle.gl_gov_rules.specs.declared.change.ProposalState.{ProposalState}
use Rattle.gl_gov_rules.specs.declared.change.ProposalState.TheVariants as states
use Rattle.gl_gov_rules.specs.declared.change.Change.{Change}
use Rattle.gl_gov_rules.specs.declared.change.Change.TheVariants as changes
use Rattle.gl_gov_rules.specs.declared.change.Changed.{Changed}
use Rattle.gl_gov_rules.specs.declared.request_facts.GivenShare.{GivenShare}
use Rattle.gl_gov_rules.specs.declared.carried.Carried.{Carried}
use Rattle.gl_gov_rules.specs.declared.carried.Answered.{Answered}
use Rattle.gl_gov_rules.specs.History.{History, nothing, no_history}
use Rattle.gl_gov_rules.specs.Members.{members, has_number, is_removed, is_by, is_ack, is_ack_by, has_acked, leaf_after_last, next_leaf, removes_member}
use Rattle.gl_gov_rules.specs.Nodes.{nodes, nodes_recorded, has_id, marks, trusts, is_marked, is_trust_applied}
use Rattle.gl_gov_rules.specs.Service.{share_in, given_share, given_in, given}
use Rattle.gl_gov_rules.specs.Proposals.{proposals, proposal, has_proposal_id, proposal_in, proposal_in_act, is_open_state, dropped_if, state_settled, answer_in, answers_of, is_answer, has_answered}
use Rattle.gl_gov_rules.specs.Changes.{changes_of, with_request, history}
use Rattle.gl_gov_rules.specs.Governed.{IsAbove, IsGoverned}
use Rattle.gl_gov_rules.proofs.Finding.{any_from, find_none, each_at}
use Rattle.gl_gov_rules.proofs.HistoryLists.{requests_of, changes_below}
use Rattle.gl_gov_rules.proofs.NewNodes.{nodes_distinct}
use Rattle.gl_gov_rules.proofs.Removals.{recorded_seqno, mark_within}
use Rattle.gl_gov_rules.proofs.NothingCarried.{nothing_carried, nodes_of_requests, proposals_asked, marked_asked, acked_asked, leaf_asked, answers_asked}
use Rattle.gl_gov_rules.proofs.Prefixes.{history-more, history_of_none, governed_induction}
use Rattle.gl_gov_base.specs.Alike.{first_of_list, settled_by, with_changes}
use Rattle.gl_gov_base.specs.AtBase.{IsOneNode, IsOneProposal, IsSettled}
use Rattle.gl_gov_base.proofs.MoreRequests.{proposals_with}
use Rattle.gl_gov_base.proofs.NewRequests.{fresh_proposal}
use Rattle.gl_gov_base.proofs.KeptLists.{passes, any_made}
use Rattle.gl_gov_base.proofs.KnownFacts.{clash, with_both, has_such, all_known, has_asked, KnownAsked, all_asked}
use Rattle.gl_gov_base.proofs.KnownMembers.{is_known, members_stay, signer_known, removals_told}
use Rattle.gl_gov_base.proofs.KnownNodes.{is_recorded, nodes_stay, mark_known, trusts_told}
use Rattle.gl_gov_base.proofs.KnownProposals.{is_made, proposals_stay, settles, settled_told, opens, nowhere, never_open, gives, answer_known}
use Rattle.gl_gov_base.proofs.VotesKept.{voted_of}

-- ---- lists

each_as : {A : Type 0} (P Q : A → Type 0) → ((x : A) → P x → Q x) → (xs : List A) → AllByRecursion P xs → AllByRecursion Q xs
each_as P Q f [] all = tt
each_as P Q f (x ∷ xs) all = (f x all.0, each_as P Q f xs all.1)

each_after : {A : Type 0} (P : A → Type 0) (xs ys : List A) → AllByRecursion P xs → AllByRecursion P ys → AllByRecursion P (xs ++ ys)
each_after P [] ys one two = two
each_after P (x ∷ xs) ys one two = (one.0, each_after P xs ys one.1 two)

pub each_in : {A : Type 0} (P : A → Type 0) (xs : List A) → ((i : ℕ) (x : A) → slice_get xs i ≡ Some x → P x) → AllByRecursion P xs
each_in P [] f = tt
each_in P (x ∷ xs) f = (f zero x refl, each_in P xs (λ i y at. f (suc i) y at))

pub each_given : {A B : Type 0} (f : A → List B) (P : A → Type 0) (Q : B → Type 0) → ((x : A) → P x → AllByRecursion Q (f x)) → (xs : List A) → AllByRecursion P xs → AllByRecursion Q (flat_map f xs)
each_given f P Q g [] all = tt
each_given f P Q g (x ∷ xs) all = each_after Q (f x) (flat_map f xs) (g x all.0) (each_given f P Q g xs all.1)

each_found : {A B : Type 0} (f : A → Option B) (P : A → Type 0) (Q : B → Type 0) → ((x : A) → P x → AllByRecursion Q (option_to_list (f x))) → (xs : List A) → AllByRecursion P xs → AllByRecursion Q (filter_map f xs)
each_found f P Q g [] all = tt
each_found {A = A} {B = B} f P Q g (x ∷ xs) all = put (f x) (g x all.0) (each_found f P Q g xs all.1)
  where
    put : (o : Option B) → AllByRecursion Q (option_to_list o) → AllByRecursion Q (filter_map f xs) → AllByRecursion Q (cons_option o (filter_map f xs))
    put None one rest = rest
    put (Some y) one rest = (one.0, rest)

-- ---- what a request tells stands at its seqno

nodes_at : (s : ℕ) (g : GovernanceRequest) → AllByRecursion (λ (n : RecordedNode). n.seqno ≡ s) (nodes_recorded s g)
nodes_at s g = each_in (λ (n : RecordedNode). n.seqno ≡ s) (nodes_recorded s g) (recorded_seqno s g)

given_at : (s : ℕ) (g : GovernanceRequest) → AllByRecursion (λ (x : GivenShare). x.seqno ≡ s) (option_to_list (given_in s g))
given_at s g = by (share_in g)
  where
    by : (o : Option Share) → AllByRecursion (λ (x : GivenShare). x.seqno ≡ s) (option_to_list (option_map (given_share s) o))
    by None = tt
    by (Some share) = (refl, tt)

proposal_at : (s : ℕ) (g : GovernanceRequest) → AllByRecursion (λ (p : Proposal). p.seqno ≡ s) (option_to_list (proposal_in s g))
proposal_at s (requests.Genesis g) = tt
proposal_at s (requests.Recover r) = tt
proposal_at s (requests.Join x) = tt
proposal_at s (requests.Mark id) = tt
proposal_at s (requests.Member m) = by m.act
  where
    by : (act : MemberAct) → AllByRecursion (λ (p : Proposal). p.seqno ≡ s) (option_to_list (proposal_in_act s m act))
    by acts.Ack = tt
    by (acts.Propose list) = (refl, tt)
    by (acts.Ballot id agrees) = tt
    by (acts.Withdraw id) = tt
    by (acts.Share share) = tt

-- ---- proposals have different identifiers

abbrev pub AreApart : List Proposal → Type 0
AreApart ps = (i j : ℕ) (p q : Proposal) → slice_get ps i ≡ Some p → slice_get ps j ≡ Some q → same_bytes p.id q.id ≡ true → i ≡ j

apart_with : (ps : List Proposal) (o : Option Proposal) → ((p : Proposal) → o ≡ Some p → find (has_proposal_id p.id) ps ≡ None) → AreApart ps → AreApart (ps ++ option_to_list o)
apart_with ps None fresh old i j p q left right same = subst AreApart (sym (append-nil ps)) old i j p q left right same
apart_with ps (Some n) fresh old i j p q left right same = go (slice_get-push ps n i p left) (slice_get-push ps n j q right)
  where
    none : (k : ℕ) (x : Proposal) → slice_get ps k ≡ Some x → same_bytes x.id n.id ≡ true → ⊥
    none k x at is = find_none (has_proposal_id n.id) ps k x (fresh n refl) at is

    go : (slice_get ps i ≡ Some p) ⊎ ((i ≡ length ps) × (p ≡ n)) → (slice_get ps j ≡ Some q) ⊎ ((j ≡ length ps) × (q ≡ n)) → i ≡ j
    go (inl a) (inl b) = old i j p q a b same
    go (inl a) (inr b) = absurd (none i p a (ap (λ (x : Proposal). same_bytes p.id x.id) (sym b.1) ∙ same))
    go (inr a) (inl b) = absurd (none j q b (ap (λ (x : Proposal). same_bytes q.id x.id) (sym a.1) ∙ same_bytes-symm q.id p.id ∙ same))
    go (inr a) (inr b) = a.0 ∙ sym b.0

proposals_after : (h : History) (r : Recorded) → proposals (with_request h r) ≡ proposals h ++ option_to_list (proposal_in r.seqno r.request)
unfolding proposals
proposals_after h r = ap proposals (with_both h r) ∙ proposals_with (with_changes h r.seqno (changes_of h r)) r

pub proposals_apart : (rs : List Recorded) → IsGoverned rs → AreApart (proposals (history rs))
unfolding proposal proposals
proposals_apart = governed_induction (λ rs. AreApart (proposals (history rs)))
    (subst (λ h. AreApart (proposals h)) (sym history_of_none) none_made)
    (λ rs r all follows old.
    subst AreApart (sym (ap proposals (history-more rs r) ∙ proposals_after (history rs) r))
    (apart_with (proposals (history rs)) (proposal_in r.seqno r.request) (λ p is. (fresh_proposal (history rs) r.seqno r.request p follows.accepted is).1) old))
  where
    none_made : AreApart (proposals no_history)
    none_made i j p q left right same = absurd cc

-- ---- what settles a proposal

not_after : (base s k : ℕ) → s ≤ base → base < k → nat_lt k s ≡ false
not_after base s k low high = grind (arith, nat_tests)

none_by : (p : Proposal) (s : ℕ) (c : Change) → nat_lt p.seqno s ≡ false → settles p.id c ≡ false → state_settled p s c ≡ None
none_by p s (changes.Recovered key) early other = ap dropped_if early
none_by p s (changes.Applied (actions.SetConstitution rules)) early other = ap dropped_if early
none_by p s (changes.Settled id state) early other = ap (λ b. cond b (Some state) None) other
none_by p s (changes.Founded state key) early other = refl
none_by p s changes.Completed early other = refl
none_by p s (changes.Applied (actions.SetMember m)) early other = refl
none_by p s (changes.Applied (actions.RemoveMember n)) early other = refl
none_by p s (changes.Applied (actions.SetRecoveryThreshold d)) early other = refl
none_by p s (changes.Applied (actions.TransitionNodeToTrusted id)) early other = refl
none_by p s (changes.Applied (actions.RemoveNode id)) early other = refl
none_by p s (changes.Applied actions.TransitionServiceToOpen) early other = refl

none_settle : (base : ℕ) (p : Proposal) (cs : List Changed) → base < p.seqno → AllByRecursion (λ (c : Changed). c.seqno ≤ base) cs → list_any (λ (c : Changed). settles p.id c.change) cs ≡ false →
    filter_map (λ (c : Changed). state_settled p c.seqno c.change) cs ≡ []
none_settle base p [] high low none = refl
none_settle base p (c ∷ cs) high low none =
    let parts = or_parts (settles p.id c.change) (list_any (λ (c : Changed). settles p.id c.change) cs) none in
    λ i. cons_option (none_by p c.seqno c.change (not_after base c.seqno p.seqno low.0 high) parts.0 i) (none_settle base p cs high low.1 parts.1 i)

opened : (p : Proposal) (s : ℕ) (c : Change) → state_settled p s c ≡ Some states.Open → opens c ≡ true
opened p s (changes.Recovered key) e = absurd (dropped (nat_lt p.seqno s) e)
  where
    dropped : (b : Bool) → dropped_if b ≡ Some states.Open → ⊥
    dropped true e = cc
    dropped false e = cc
opened p s (changes.Applied (actions.SetConstitution rules)) e = absurd (dropped (nat_lt p.seqno s) e)
  where
    dropped : (b : Bool) → dropped_if b ≡ Some states.Open → ⊥
    dropped true e = cc
    dropped false e = cc
opened p s (changes.Settled id state) e = by (same_bytes p.id id) e
  where
    by : (b : Bool) → cond b (Some state) None ≡ Some states.Open → is_open_state state ≡ true
    by true e = ap is_open_state (same_Some state states.Open e)
    by false e = absurd cc
opened p s (changes.Founded state key) e = absurd cc
opened p s changes.Completed e = absurd cc
opened p s (changes.Applied (actions.SetMember m)) e = absurd cc
opened p s (changes.Applied (actions.RemoveMember n)) e = absurd cc
opened p s (changes.Applied (actions.SetRecoveryThreshold d)) e = absurd cc
opened p s (changes.Applied (actions.TransitionNodeToTrusted id)) e = absurd cc
opened p s (changes.Applied (actions.RemoveNode id)) e = absurd cc
opened p s (changes.Applied actions.TransitionServiceToOpen) e = absurd cc

not_open : (p : Proposal) (cs : List Changed) → list_any (λ (c : Changed). opens c.change) cs ≡ false → first_of_list (filter_map (λ (c : Changed). state_settled p c.seqno c.change) cs) ≡ Some states.Open → ⊥
not_open p [] none e = cc
not_open p (c ∷ cs) none e =
    let parts = or_parts (opens c.change) (list_any (λ (c : Changed). opens c.change) cs) none in
    by (state_settled p c.seqno c.change) refl parts.0 (not_open p cs parts.1) e
  where
    by : (o : Option ProposalState) → state_settled p c.seqno c.change ≡ o → opens c.change ≡ false → (first_of_list (filter_map (λ (c : Changed). state_settled p c.seqno c.change) cs) ≡ Some states.Open → ⊥) →
        first_of_list (cons_option o (filter_map (λ (c : Changed). state_settled p c.seqno c.change) cs)) ≡ Some states.Open → ⊥
    by None is closed rest e = rest e
    by (Some state) is closed rest e = clash (opens c.change) closed (opened p c.seqno c.change (is ∙ e))

-- ---- requests

any_weaker : {A : Type 0} (p q : A → Bool) → ((x : A) → p x ≡ true → q x ≡ true) → (xs : List A) → list_any p xs ≡ true → list_any q xs ≡ true
any_weaker p q f [] is = absurd cc
any_weaker p q f (x ∷ xs) is =
    ⊎_elim (λ (one : p x ≡ true). or_left (q x) (list_any q xs) (f x one)) (λ (rest : list_any p xs ≡ true). or_right (q x) (list_any q xs) (any_weaker p q f xs rest)) (or_cases (p x) (list_any p xs) is)

ack_by : (n : ℕ) (g : GovernanceRequest) → is_ack_by n g ≡ true → is_by n g ≡ true
ack_by n (requests.Member m) is = (and_parts (nat_eq m.member n) (is_ack m.act) is).0
ack_by n (requests.Genesis g) is = absurd cc
ack_by n (requests.Recover r) is = absurd cc
ack_by n (requests.Join x) is = absurd cc
ack_by n (requests.Mark id) is = absurd cc

no_last : {A : Type 0} (p : A → Bool) (xs : List A) → list_any p xs ≡ false → last_such p xs ≡ None
no_last p [] e = refl
no_last p (x ∷ xs) e =
    let parts = or_parts (p x) (list_any p xs) e in
    last_such-cons p x xs ∙ (λ i. option_or (no_last p xs parts.1 i) (cond (parts.0 i) (Some x) None))

passes_one : {A : Type 0} (p : A → Bool) (o : Option A) → passes p o ≡ true → list_any p (option_to_list o) ≡ true
passes_one p None is = absurd cc
passes_one p (Some x) is = or_left (p x) false is

isnt_so : (b : Bool) → (b ≡ true → ⊥) → b ≡ false
isnt_so true never = absurd (never refl)
isnt_so false never = refl

module _ (rs : List Recorded) (all : IsGoverned rs) where
  abbrev past : History
  past = history rs

  bare : past.carried ≡ nothing
  bare = nothing_carried rs

  removed_known : (n : ℕ) → is_removed past n ≡ true → list_any (has_number n) (members past) ≡ true
  unfolding is_removed
  removed_known n is = (all_known (removes_member n) (is_known n) (removals_told n) rs all).has is

  signers : (n : ℕ) → KnownAsked (is_by n) (is_known n) past
  signers n = all_asked (is_by n) (is_known n) (members_stay n) (signer_known n) rs all

  acked_known : (n : ℕ) → has_acked past n ≡ true → list_any (has_number n) (members past) ≡ true
  acked_known n is =
      (signers n).has
      (any_weaker (λ (r : Recorded). is_ack_by n r.request) (λ (r : Recorded). is_by n r.request) (λ r. ack_by n r.request) past.requests (sym (acked_asked past n bare) ∙ is))

  no_leaf : (n : ℕ) → list_any (has_number n) (members past) ≡ false → next_leaf past n ≡ 0
  no_leaf n none =
      leaf_asked past n bare
      ∙ ap (leaf_after_last 0) (no_last (λ (r : Recorded). is_by n r.request) past.requests (isnt_so (has_asked (is_by n) past) (λ is. clash (is_known n past) none ((signers n).has is))))

  marked_known : (id : List ℕ) → is_marked past id ≡ true → list_any (λ (m : RecordedNode). same_bytes id m.id) (nodes past) ≡ true
  marked_known id is =
      let known = all_asked (marks id) (is_recorded id) (nodes_stay id) (mark_known id) rs all in
      known.has (sym (marked_asked past id bare) ∙ is)

  trusted_known : (id : List ℕ) → is_trust_applied past id ≡ true → list_any (has_id id) (nodes past) ≡ true
  unfolding is_trust_applied
  trusted_known id is =
      let known = all_known (trusts id) (is_recorded id) (trusts_told id) rs all in
      (λ i. list_any (λ (n : RecordedNode). same_bytes-symm n.id id i) (nodes past)) ∙ known.has is

  answered_known : (id : List ℕ) (agrees : Bool) (n : ℕ) → has_answered (answers_of past) id agrees n ≡ true → list_any (has_proposal_id id) (proposals past) ≡ true
  unfolding has_answered
  answered_known id agrees n is =
      let known = all_asked (gives id agrees n) (is_made id) (proposals_stay id) (answer_known id agrees n) rs all in
      let p : Answered → Bool = is_answer id agrees n in
      known.has
      (any_weaker (λ (r : Recorded). passes p (answer_in r.request)) (λ (r : Recorded). gives id agrees n r.request) (λ r. passes_one p (answer_in r.request)) past.requests
      (sym (ap (list_any p) (answers_asked past bare) ∙ any_made (λ (r : Recorded). answer_in r.request) p past.requests) ∙ is))

  none_open : list_any (λ (c : Changed). opens c.change) past.changes ≡ false
  none_open = isnt_so (has_such opens past) (λ is. clash false refl ((all_known opens nowhere never_open rs all).has is))

  module _ (base : ℕ) (low : IsAbove (suc base) rs) where
    pub low_changes : AllByRecursion (λ (c : Changed). c.seqno ≤ base) past.changes
    low_changes = each_as (λ (c : Changed). c.seqno < suc base) (λ (c : Changed). c.seqno ≤ base) (λ c e. omega (arith, e)) past.changes (changes_below (suc base) rs low)

    pub low_shares : AllByRecursion (λ (s : GivenShare). s.seqno ≤ base) (given past)
    unfolding given
    low_shares =
        subst (AllByRecursion (λ (s : GivenShare). s.seqno ≤ base))
        (sym (ap (λ (c : Carried). c.shares ++ filter_map (λ (r : Recorded). given_in r.seqno r.request) past.requests) bare ∙ ap (filter_map (λ (r : Recorded). given_in r.seqno r.request)) (requests_of rs)))
        (each_found (λ (r : Recorded). given_in r.seqno r.request) (λ (r : Recorded). r.seqno < suc base) (λ (s : GivenShare). s.seqno ≤ base)
        (λ r e. each_as (λ (s : GivenShare). s.seqno ≡ r.seqno) (λ (s : GivenShare). s.seqno ≤ base) (λ s at. omega (arith, e, at)) (option_to_list (given_in r.seqno r.request)) (given_at r.seqno r.request)) rs low)

    low_nodes : AllByRecursion (λ (n : RecordedNode). n.seqno ≤ base) (nodes past)
    low_nodes =
        subst (AllByRecursion (λ (n : RecordedNode). n.seqno ≤ base)) (sym (nodes_of_requests rs))
        (each_given (λ (r : Recorded). nodes_recorded r.seqno r.request) (λ (r : Recorded). r.seqno < suc base) (λ (n : RecordedNode). n.seqno ≤ base)
        (λ r e. each_as (λ (n : RecordedNode). n.seqno ≡ r.seqno) (λ (n : RecordedNode). n.seqno ≤ base) (λ n at. omega (arith, e, at)) (nodes_recorded r.seqno r.request) (nodes_at r.seqno r.request)) rs low)

    low_proposals : AllByRecursion (λ (p : Proposal). p.seqno ≤ base) (proposals past)
    low_proposals =
        subst (AllByRecursion (λ (p : Proposal). p.seqno ≤ base)) (sym (proposals_asked past bare ∙ ap (filter_map (λ (r : Recorded). proposal_in r.seqno r.request)) (requests_of rs)))
        (each_found (λ (r : Recorded). proposal_in r.seqno r.request) (λ (r : Recorded). r.seqno < suc base) (λ (p : Proposal). p.seqno ≤ base)
        (λ r e. each_as (λ (p : Proposal). p.seqno ≡ r.seqno) (λ (p : Proposal). p.seqno ≤ base) (λ p at. omega (arith, e, at)) (option_to_list (proposal_in r.seqno r.request)) (proposal_at r.seqno r.request)) rs low)

    one_node : (i : ℕ) (n : RecordedNode) → slice_get (nodes past) i ≡ Some n → IsOneNode base (nodes past) n
    one_node i n at = record {
      low = each_at (λ (n : RecordedNode). n.seqno ≤ base) (nodes past) low_nodes i n at;
      stands = any_from (λ (m : RecordedNode). same_bytes n.id m.id) (nodes past) i n at (same_bytes-itself n.id);
      apart =
          each_in (λ (m : RecordedNode). same_bytes n.id m.id ≡ true → m ≡ n) (nodes past)
          (λ j m there same.
          let place : i ≡ j = nodes_distinct rs all i j n m at there (same_bytes-eq n.id m.id same) in
          same_Some m n (sym there ∙ ap (slice_get (nodes past)) (sym place) ∙ at));
    }

    one_proposal : (i : ℕ) (p : Proposal) → slice_get (proposals past) i ≡ Some p → IsOneProposal base past p
    one_proposal i p at = record {
      low = each_at (λ (p : Proposal). p.seqno ≤ base) (proposals past) low_proposals i p at;
      stands = any_from (λ (q : Proposal). same_bytes q.id p.id) (proposals past) i p at (same_bytes-itself p.id);
      apart = each_in (λ (q : Proposal). same_bytes q.id p.id ≡ true → q ≡ p) (proposals past) (λ j q there same.
          let place : j ≡ i = proposals_apart rs all j i q p there at same in
          same_Some q p (sym there ∙ ap (slice_get (proposals past)) place ∙ at));
      settled = not_open p past.changes none_open;
    }

    unsettled : (p : Proposal) → base < p.seqno → list_any (has_proposal_id p.id) (proposals past) ≡ false → settled_by past p ≡ None
    unsettled p high none =
        let known = all_known (settles p.id) (is_made p.id) (settled_told p.id) rs all in
        ap (λ (xs : List ProposalState). first_of_list xs)
        (none_settle base p past.changes high low_changes (isnt_so (has_such (settles p.id) past) (λ is. clash (is_made p.id past) none (known.has is))))

    -- requests up to a base that were accepted one after another
    pub is_settled : 0 < base → IsSettled base past
    is_settled above = record {
      above = above;
      low_changes = low_changes;
      low_shares = low_shares;
      removed_members = removed_known;
      acked = acked_known;
      leaves = no_leaf;
      each_node = each_in (IsOneNode base (nodes past)) (nodes past) one_node;
      low_marks = λ id m is. (let there = mark_within rs id m (suc base) is low in omega (arith, there));
      marked_nodes = marked_known;
      trusted_nodes = trusted_known;
      each_proposal = each_in (IsOneProposal base past) (proposals past) one_proposal;
      unsettled = unsettled;
      voted = voted_of rs all;
      answered = answered_known;
    }
