-- A request brings about the same after histories that are alike, and leaves them so.
use Rattle.std.proofs.Common.{◌≡◌, ℕ, ◌<◌, List, [], ◌∷◌, Option, Some, None, Bool, true, false, ◌&&◌, cond, count_by, refl, sym, ◌∙◌, ap, subst}
use Rattle.std.specs.List.{list_any, list_all}
use Rattle.std.specs.Option.{option_map}
use Rattle.gl_requests.specs.Encoding.{action_number}
use Rattle.gl_requests.specs.declared.genesis.NewMember.{NewMember}
use Rattle.gl_requests.specs.declared.action.Action.{Action}
use Rattle.gl_requests.specs.declared.request.MemberAct.{MemberAct}
use Rattle.gl_requests.specs.declared.request.MemberAct.TheVariants as acts
use Rattle.gl_requests.specs.declared.request.GovernanceRequest.{GovernanceRequest}
use Rattle.gl_requests.specs.declared.request.GovernanceRequest.TheVariants as requests
use Rattle.gl_gov_rules.specs.declared.change.Tally.{Tally}
use Rattle.gl_gov_rules.specs.declared.change.Change.{Change}
use Rattle.gl_gov_rules.specs.declared.change.Change.TheVariants as changes
use Rattle.gl_gov_rules.specs.declared.change.ProposalState.TheVariants as states
use Rattle.gl_gov_rules.specs.declared.change.Recorded.{Recorded}
use Rattle.gl_gov_rules.specs.declared.change.Proposal.{Proposal}
use Rattle.gl_gov_rules.specs.declared.carried.Answered.{Answered}
use Rattle.gl_gov_rules.specs.History.{History}
use Rattle.gl_gov_rules.specs.Members.{members, is_active}
use Rattle.gl_gov_rules.specs.Proposals.{proposal, answers_with, has_answered}
use Rattle.gl_gov_rules.specs.Tally.{answer_count, tally, rule_of, is_met, is_out_of_reach, is_accepted, is_rejected}
use Rattle.gl_gov_rules.specs.Changes.{acceptance_changes, ballot_changes, ballot_changes_on, act_changes, request_changes, changes_of, with_request}
use Rattle.gl_gov_base.specs.Alike.{ProposalView, proposal_view, Alike, with_changes, with_asked, IsNew}
use Rattle.gl_gov_base.proofs.MoreChanges.{alike_changes}
use Rattle.gl_gov_base.proofs.MoreRequests.{answered_with, alike_asked}
use Rattle.gl_gov_base.proofs.SameReadings.{same_active, same_active_count, same_proposal}
use Rattle.gl_gov_base.proofs.SameRefusals.{same_bad, same_complete}

abbrev changes_on : History → List Answered → ℕ → List ℕ → Option ProposalView → List Change
changes_on h given s id None = []
changes_on h given s id (Some v) = ballot_changes h s id (tally h given id) v.actions

on_viewed : (base : ℕ) (h : History) (given : List Answered) (s : ℕ) (id : List ℕ) (o : Option Proposal) → ballot_changes_on h given s id o ≡ changes_on h given s id (option_map (proposal_view base h) o)
on_viewed base h given s id None = refl
on_viewed base h given s id (Some p) = refl

module _ (base : ℕ) (a b : History) (x : Alike base a b) where
  same_count : (g : GovernanceRequest) (id : List ℕ) (agrees : Bool) → answer_count a (answers_with a g) id agrees ≡ answer_count b (answers_with b g) id agrees
  unfolding answer_count
  same_count g id agrees =
      x.members.counted (λ (m : NewMember). is_active a m.number && has_answered (answers_with a g) id agrees m.number)
      ∙ (λ i. count_by (λ (m : NewMember). same_active base a b x m.number i && answered_with base a b g x id agrees m.number i) (members b))

  same_tally : (g : GovernanceRequest) (id : List ℕ) → tally a (answers_with a g) id ≡ tally b (answers_with b g) id
  same_tally g id = λ i. record { all = same_active_count base a b x i; agreed = same_count g id true i; refused = same_count g id false i }

  same_ballot : (s : ℕ) → base < s → (id : List ℕ) (t : Tally) (list : List Action) → ballot_changes a s id t list ≡ ballot_changes b s id t list
  unfolding ballot_changes is_accepted is_rejected
  same_ballot s low id t list =
      let bad = same_bad base s low list 1 a b x in
      λ i.
      cond (list_all (λ act. is_met t (rule_of (x.constitution i) (action_number act))) list) (acceptance_changes id list (bad i))
      (cond (list_any (λ act. is_out_of_reach t (rule_of (x.constitution i) (action_number act))) list) (changes.Settled id states.Rejected ∷ []) [])

  same_on : (g : GovernanceRequest) (s : ℕ) → base < s → (id : List ℕ) (o : Option ProposalView) → changes_on a (answers_with a g) s id o ≡ changes_on b (answers_with b g) s id o
  same_on g s low id None = refl
  same_on g s low id (Some v) = ap (λ t. ballot_changes a s id t v.actions) (same_tally g id) ∙ same_ballot s low id (tally b (answers_with b g) id) v.actions

  same_act_changes : (g : GovernanceRequest) (s : ℕ) → base < s → (act : MemberAct) → act_changes a (answers_with a g) s act ≡ act_changes b (answers_with b g) s act
  same_act_changes g s low acts.Ack = refl
  same_act_changes g s low (acts.Propose list) = refl
  same_act_changes g s low (acts.Ballot id agrees) =
      on_viewed base a (answers_with a g) s id (proposal a id)
      ∙ ap (changes_on a (answers_with a g) s id) (same_proposal base a b x id)
      ∙ same_on g s low id (option_map (proposal_view base b) (proposal b id))
      ∙ sym (on_viewed base b (answers_with b g) s id (proposal b id))
  same_act_changes g s low (acts.Withdraw id) = refl
  same_act_changes g s low (acts.Share share) = λ i. cond (same_complete base a b x i) (changes.Completed ∷ []) []

  same_request_changes : (s : ℕ) → base < s → (g : GovernanceRequest) → request_changes a (answers_with a g) s g ≡ request_changes b (answers_with b g) s g
  same_request_changes s low (requests.Genesis g) = refl
  same_request_changes s low (requests.Recover r) = refl
  same_request_changes s low (requests.Join n) = refl
  same_request_changes s low (requests.Mark id) = refl
  same_request_changes s low (requests.Member m) = same_act_changes (requests.Member m) s low m.act

  pub same_changes : (r : Recorded) → base < r.seqno → changes_of a r ≡ changes_of b r
  unfolding changes_of
  same_changes r low = same_request_changes r.seqno low r.request

  -- a request that is new leaves them alike
  pub alike_request : (r : Recorded) → IsNew base a r → Alike base (with_request a r) (with_request b r)
  unfolding with_request
  alike_request r new =
      subst (λ cs. Alike base (with_changes (with_asked a r) r.seqno (changes_of a r)) (with_changes (with_asked b r) r.seqno cs)) (same_changes r new.above)
      (alike_changes base (with_asked a r) (with_asked b r) r.seqno (changes_of a r) new.above (alike_asked base a b r x new))
