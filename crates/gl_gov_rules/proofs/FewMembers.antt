-- At most 64 members are present after requests that follow one another.
use Rattle.std.proofs.Common.{◌≡◌, ℕ, ◌≤◌, List, [], ◌∷◌, ◌++◌, length, map, Option, None, Some, Bool, true, false, if◌then◌else◌, nat_lt, not, refl, sym, ◌∙◌, arith}
use Rattle.std.proofs.lemmas.Bool.Decides.{nat_tests}
use Rattle.gl_requests.specs.declared.genesis.Genesis as founding
use Rattle.gl_requests.specs.declared.action.Action.{Action}
use Rattle.gl_requests.specs.declared.request.MemberAct.{MemberAct}
use Rattle.gl_requests.specs.declared.request.MemberAct.TheVariants as acts
use Rattle.gl_requests.specs.declared.request.GovernanceRequest.{GovernanceRequest}
use Rattle.gl_requests.specs.declared.request.GovernanceRequest.TheVariants as requests
use Rattle.gl_gov_rules.specs.declared.change.Recorded.{Recorded}
use Rattle.gl_gov_rules.specs.declared.change.Proposal.{Proposal}
use Rattle.gl_gov_rules.specs.declared.change.ProposalState.TheVariants as states
use Rattle.gl_gov_rules.specs.declared.change.Change.TheVariants as changes
use Rattle.gl_gov_rules.specs.declared.change.Changed.{Changed}
use Rattle.gl_gov_rules.specs.declared.change.Tally.{Tally}
use Rattle.gl_gov_rules.specs.declared.refusal.Cause.{Cause}
use Rattle.gl_gov_rules.specs.declared.refusal.Cause.TheVariants as causes
use Rattle.gl_gov_rules.specs.declared.refusal.GovernanceRefusal.TheVariants as refusals
use Rattle.gl_gov_rules.specs.History.{History, Answered}
use Rattle.gl_gov_rules.specs.Proposals.{proposal, answers_with}
use Rattle.gl_gov_rules.specs.Actions.{◌orelse◌, where_is, first_bad_action}
use Rattle.gl_gov_rules.specs.Tally.{tally, is_accepted, is_rejected}
use Rattle.gl_gov_rules.specs.Changes.{founding_changes, acceptance_changes, ballot_changes, ballot_changes_on, act_changes, request_changes, is_complete, changes_of, changed_at, history}
use Rattle.gl_gov_rules.specs.Refusals.{founding_fault, are_numbers_distinct, are_keys_distinct, is_dealing_to, members_refusal, nodes_refusal, are_endorsed, genesis_refusal, refusal}
use Rattle.gl_gov_rules.specs.Governed.{is_founding, is_nothing, Follows, IsGoverned}
use Rattle.gl_gov_rules.proofs.NoneStands.{none_of, not_bad}
use Rattle.gl_gov_rules.proofs.Prefixes.{changes_more, history_of_none, governed_induction}
use Rattle.gl_gov_rules.proofs.MembersLeft.{members_in, left_in, left_more, settled_between, founding_members, left_tried}

-- ---- changes that bring no member

-- where no member is new, no more are left
none_new : (cs ds : List Changed) → length (members_in ds) ≡ 0 → left_in cs ≤ 64 → left_in (cs ++ ds) ≤ 64
none_new cs ds none few = omega (arith, left_more cs ds, none, few)

-- ---- a founding

few_named : (g : founding.Genesis) → members_refusal g ≡ None → nat_lt 64 (length g.members) ≡ false
unfolding members_refusal
few_named g none =
    let distinct = where_is (not (are_numbers_distinct g.members)) (founding_fault causes.NumberUsed) orelse where_is (not (are_keys_distinct g.members)) (founding_fault causes.KeyUsed) in
    let full = where_is (nat_lt 64 (length g.members)) (founding_fault causes.Full) in
    let dealing = where_is (not (is_dealing_to g.members g.dealing)) (founding_fault causes.Dealing) in
    not_bad (nat_lt 64 (length g.members)) (founding_fault causes.Full) (none_of distinct full (none_of (distinct orelse full) dealing none).0).1

founding_passes : (h : History) (seqno : ℕ) (g : founding.Genesis) → refusal h seqno (requests.Genesis g) ≡ None → members_refusal g ≡ None
unfolding refusal genesis_refusal
founding_passes h seqno g none =
    let signature = where_is (not (are_endorsed g.identity g.nodes)) refusals.Signature in
    (none_of (members_refusal g) (nodes_refusal h g.nodes) (none_of (members_refusal g orelse nodes_refusal h g.nodes) signature none).0).0

left_founded : (cs : List Changed) (seqno : ℕ) (g : founding.Genesis) → members_refusal g ≡ None → left_in cs ≡ 0 → left_in (cs ++ map (changed_at seqno) (founding_changes g)) ≤ 64
left_founded cs seqno g none nothing =
    let named = few_named g none in
    let most : length g.members ≤ 64 = grind (arith, nat_tests) in
    omega (arith, left_more cs (map (changed_at seqno) (founding_changes g)), founding_members seqno g.members, most, nothing)

-- ---- a ballot

left_accepted : (h : History) (seqno : ℕ) (id : List ℕ) (list : List Action) (bad : Option (ℕ × Cause)) → first_bad_action h seqno 1 list ≡ bad → left_in h.changes ≤ 64 →
    left_in (h.changes ++ map (changed_at seqno) (acceptance_changes id list bad)) ≤ 64
left_accepted h seqno id list None tried few = rw settled_between (left_tried h seqno 1 list tried few)
left_accepted h seqno id list (Some bad) tried few = none_new h.changes (changed_at seqno (changes.Settled id states.Failed) ∷ []) refl few

left_counted : (h : History) (seqno : ℕ) (id : List ℕ) (t : Tally) (list : List Action) → left_in h.changes ≤ 64 → left_in (h.changes ++ map (changed_at seqno) (ballot_changes h seqno id t list)) ≤ 64
unfolding ballot_changes
left_counted h seqno id t list few = by_count (is_accepted h t list) (is_rejected h t list)
  where
    by_count : (accepted rejected : Bool) →
        left_in (h.changes ++ map (changed_at seqno) (if accepted then acceptance_changes id list (first_bad_action h seqno 1 list) else (if rejected then changes.Settled id states.Rejected ∷ [] else []))) ≤ 64
    by_count true rejected = left_accepted h seqno id list (first_bad_action h seqno 1 list) refl few
    by_count false true = none_new h.changes (changed_at seqno (changes.Settled id states.Rejected) ∷ []) refl few
    by_count false false = none_new h.changes [] refl few

left_balloted : (h : History) (given : List Answered) (seqno : ℕ) (id : List ℕ) (o : Option Proposal) → left_in h.changes ≤ 64 → left_in (h.changes ++ map (changed_at seqno) (ballot_changes_on h given seqno id o)) ≤ 64
left_balloted h given seqno id None few = none_new h.changes [] refl few
left_balloted h given seqno id (Some p) few = left_counted h seqno id (tally h given id) p.actions few

-- ---- any request

left_acted : (h : History) (given : List Answered) (seqno : ℕ) (act : MemberAct) → left_in h.changes ≤ 64 → left_in (h.changes ++ map (changed_at seqno) (act_changes h given seqno act)) ≤ 64
left_acted h given seqno (acts.Ballot id agrees) few = left_balloted h given seqno id (proposal h id) few
left_acted h given seqno (acts.Withdraw id) few = none_new h.changes (changed_at seqno (changes.Settled id states.Withdrawn) ∷ []) refl few
left_acted h given seqno (acts.Share share) few = complete (is_complete h)
  where
    complete : (b : Bool) → left_in (h.changes ++ map (changed_at seqno) (if b then changes.Completed ∷ [] else [])) ≤ 64
    complete true = none_new h.changes (changed_at seqno changes.Completed ∷ []) refl few
    complete false = none_new h.changes [] refl few
left_acted h given seqno other few = none_new h.changes [] refl few

pub left_brought : (h : History) (given : List Answered) (seqno : ℕ) (q : GovernanceRequest) → refusal h seqno q ≡ None → (is_founding q ≡ true → left_in h.changes ≡ 0) → left_in h.changes ≤ 64 →
    left_in (h.changes ++ map (changed_at seqno) (request_changes h given seqno q)) ≤ 64
left_brought h given seqno (requests.Genesis g) accepted first few = left_founded h.changes seqno g (founding_passes h seqno g accepted) (first refl)
left_brought h given seqno (requests.Recover r) accepted first few = none_new h.changes (changed_at seqno (changes.Recovered r.identity) ∷ []) refl few
left_brought h given seqno (requests.Member m) accepted first few = left_acted h given seqno m.act few
left_brought h given seqno other accepted first few = none_new h.changes [] refl few

-- ---- the whole

nothing_left : left_in (history []).changes ≡ 0
nothing_left = rw history_of_none refl

first_left : (rs : List Recorded) → is_nothing rs ≡ true → left_in (history rs).changes ≡ 0
first_left [] e = nothing_left
first_left (r ∷ rs) e = absurd cc

abbrev pub AreFew : List Recorded → Type 0
AreFew rs = left_in (history rs).changes ≤ 64

few_more : (rs : List Recorded) (r : Recorded) → IsGoverned rs → Follows rs r → AreFew rs → AreFew (rs ++ r ∷ [])
unfolding changes_of
few_more rs r all follows few =
    let h = history rs in
    rw (changes_more rs r)
    (left_brought h (answers_with h r.request) r.seqno r.request follows.accepted (λ founds. first_left rs (sym follows.founding ∙ founds)) few)

-- after requests that follow one another at most 64 members are left
pub few_left : (rs : List Recorded) → IsGoverned rs → AreFew rs
few_left = governed_induction AreFew (rw nothing_left (omega arith)) few_more
