-- The actions of proposals that were made by requests that follow one another have few bytes.
use Rattle.std.proofs.Common.{◌≡◌, ℕ, ◌≤◌, List, [], ◌∷◌, ◌++◌, length, flat_map, Option, None, Some, IfSome, is_some, true, nat_le, refl, arith}
use Rattle.std.specs.List.{list_all, cons_option, AllByRecursion}
use Rattle.std.proofs.lemmas.Bool.{and_parts}
use Rattle.std.proofs.lemmas.Bool.Decides.{nat_tests}
use Rattle.gl_requests.specs.Encoding.{action_bytes, proposal_id}
use Rattle.gl_requests.specs.Ranges.{is_action, is_action_count, are_actions, is_act, is_request}
use Rattle.gl_requests.specs.declared.action.Action.{Action}
use Rattle.gl_requests.specs.declared.request.MemberAct.{MemberAct}
use Rattle.gl_requests.specs.declared.request.MemberAct.TheVariants as acts
use Rattle.gl_requests.specs.declared.request.MemberRequest.{MemberRequest}
use Rattle.gl_requests.specs.declared.request.GovernanceRequest.{GovernanceRequest}
use Rattle.gl_requests.specs.declared.request.GovernanceRequest.TheVariants as requests
use Rattle.gl_gov_rules.specs.declared.change.Recorded.{Recorded}
use Rattle.gl_gov_rules.specs.declared.change.Proposal.{Proposal}
use Rattle.gl_gov_rules.specs.declared.refusal.Cause.{Cause}
use Rattle.gl_gov_rules.specs.declared.refusal.GovernanceRefusal.TheVariants as refusals
use Rattle.gl_gov_rules.specs.History.{History}
use Rattle.gl_gov_rules.specs.Proposals.{proposal_in_act, proposal_in, proposals, proposal, open_count}
use Rattle.gl_gov_rules.specs.Actions.{◌orelse◌, where_is, first_bad_action}
use Rattle.gl_gov_rules.specs.Changes.{history}
use Rattle.gl_gov_rules.specs.Refusals.{signed_refusal, bad_action_refusal, propose_refusal, act_refusal, refusal}
use Rattle.gl_gov_rules.specs.Governed.{Follows, IsGoverned}
use Rattle.gl_gov_rules.proofs.Counting.{each_append, flat_map_most}
use Rattle.gl_gov_rules.proofs.NoneStands.{none_of}
use Rattle.gl_gov_rules.proofs.Prefixes.{history_of_none, governed_induction}
use Rattle.gl_gov_rules.proofs.MembersLeft.{left_in}
use Rattle.gl_gov_rules.proofs.Ranges.{member_act, proposals_more}
use Rattle.gl_gov_rules.proofs.ActionSizes.{tried_sizes}
use Rattle.gl_gov_rules.proofs.FewMembers.{few_left}

abbrev pub IsSmall : Proposal → Type 0
IsSmall p = length (flat_map action_bytes p.actions) ≤ 60000

none_bad : (bad : Option (ℕ × Cause)) → bad_action_refusal bad ≡ None → bad ≡ None
none_bad None none = refl
none_bad (Some bad) none = absurd cc

-- each action of a proposal that isn't refused could be applied where it was tried
all_tried : (h : History) (seqno : ℕ) (m : MemberRequest) (list : List Action) → propose_refusal h seqno m list ≡ None → first_bad_action h seqno 1 list ≡ None
unfolding propose_refusal
all_tried h seqno m list none =
    let many = where_is (nat_le 256 (open_count h)) (refusals.TooMany 256) in
    let bad = bad_action_refusal (first_bad_action h seqno 1 list) in
    let known = where_is (is_some (proposal h (proposal_id m))) (refusals.KnownProposal (proposal_id m)) in
    none_bad (first_bad_action h seqno 1 list) (none_of many bad (none_of (many orelse bad) known none).0).1

small_actions : (h : History) (seqno : ℕ) (list : List Action) → first_bad_action h seqno 1 list ≡ None → are_actions list ≡ true → left_in h.changes ≤ 64 → length (flat_map action_bytes list) ≤ 60000
small_actions h seqno list none fits few =
    let both = and_parts (is_action_count (length list)) (list_all is_action list) fits in
    let count = (and_parts (nat_le 1 (length list)) (nat_le (length list) 16) both.0).1 in
    let most : length list ≤ 16 = grind (arith, nat_tests, count) in
    let sizes = flat_map_most action_bytes 2147 list (tried_sizes h seqno 1 list none few both.1) in
    omega (arith, sizes, most)

act_passes : (h : History) (seqno : ℕ) (m : MemberRequest) → refusal h seqno (requests.Member m) ≡ None → act_refusal h seqno m m.act ≡ None
unfolding refusal
act_passes h seqno m none = (none_of (signed_refusal h m) (act_refusal h seqno m m.act) none).1

small_in_act : (h : History) (seqno : ℕ) (m : MemberRequest) (act : MemberAct) → act_refusal h seqno m act ≡ None → is_act act ≡ true → left_in h.changes ≤ 64 → IfSome (proposal_in_act seqno m act) IsSmall
unfolding act_refusal
small_in_act h seqno m (acts.Propose list) none fits few = small_actions h seqno list (all_tried h seqno m list none) fits few
small_in_act h seqno m other none fits few = tt

pub small_in : (h : History) (seqno : ℕ) (q : GovernanceRequest) → refusal h seqno q ≡ None → is_request q ≡ true → left_in h.changes ≤ 64 → IfSome (proposal_in seqno q) IsSmall
small_in h seqno (requests.Member m) none fits few = small_in_act h seqno m m.act (act_passes h seqno m none) (member_act m fits) few
small_in h seqno other none fits few = tt

one_more : (o : Option Proposal) → IfSome o IsSmall → AllByRecursion IsSmall (cons_option o [])
one_more None small = tt
one_more (Some p) small = (small, tt)

abbrev pub AreSmall : List Recorded → Type 0
AreSmall rs = AllByRecursion IsSmall (proposals (history rs))

small_of_none : AreSmall []
unfolding proposals
small_of_none = rw history_of_none tt

small_more : (rs : List Recorded) (r : Recorded) → IsGoverned rs → Follows rs r → AreSmall rs → AreSmall (rs ++ r ∷ [])
small_more rs r all follows before =
    let new = small_in (history rs) r.seqno r.request follows.accepted follows.fits (few_left rs all) in
    rw (proposals_more rs r) (each_append IsSmall (proposals (history rs)) (cons_option (proposal_in r.seqno r.request) []) before (one_more (proposal_in r.seqno r.request) new))

pub are_small : (rs : List Recorded) → IsGoverned rs → AreSmall rs
are_small = governed_induction AreSmall small_of_none small_more
