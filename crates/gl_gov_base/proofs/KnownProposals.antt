-- A proposal that was settled, or answered, was made; and none was settled as open.
use Rattle.std.proofs.Common.{◌≡◌, ℕ, List, ◌∷◌, Option, Some, None, is_some, Bool, true, false, ◌&&◌, nat_eq, refl, sym, ◌∙◌, ap}
use Rattle.std.specs.List.{list_any}
use Rattle.std.specs.Option.{option_to_list}
use Rattle.std.proofs.lemmas.Bool.{or_left, and_parts, eqb-true}
use Rattle.std.proofs.lemmas.List.Folds.{list_any-append}
use Rattle.gl_base.specs.Bytes.{same_bytes}
use Rattle.gl_vmaps.proofs.TablesLaws.{same_bytes-eq}
use Rattle.gl_requests.specs.declared.request.MemberAct.{MemberAct}
use Rattle.gl_requests.specs.declared.request.MemberAct.TheVariants as acts
use Rattle.gl_requests.specs.declared.request.GovernanceRequest.{GovernanceRequest}
use Rattle.gl_requests.specs.declared.request.GovernanceRequest.TheVariants as requests
use Rattle.gl_gov_rules.specs.declared.change.Recorded.{Recorded}
use Rattle.gl_gov_rules.specs.declared.change.Proposal.{Proposal}
use Rattle.gl_gov_rules.specs.declared.change.ProposalState.{ProposalState}
use Rattle.gl_gov_rules.specs.declared.change.Change.{Change}
use Rattle.gl_gov_rules.specs.declared.change.Change.TheVariants as changes
use Rattle.gl_gov_rules.specs.History.{History}
use Rattle.gl_gov_rules.specs.Proposals.{proposals, has_proposal_id, proposal, proposal_in, is_open_state, answer_in, answer_in_act, is_answer, same_answer, answers_of, has_ballot}
use Rattle.gl_gov_rules.specs.Refusals.{signed_refusal, open_refusal, ballot_refusal, act_refusal, refusal}
use Rattle.gl_gov_rules.proofs.Counting.{find_passes}
use Rattle.gl_gov_base.specs.Alike.{with_changes, with_asked}
use Rattle.gl_gov_base.proofs.MoreRequests.{proposals_with}
use Rattle.gl_gov_base.proofs.NewRequests.{first_none, second_none, isnt}
use Rattle.gl_gov_base.proofs.KnownFacts.{clash, alone, Stays, IsTold}

abbrev pub is_made : List ℕ → History → Bool
is_made id h = list_any (has_proposal_id id) (proposals h)

made_more : (id : List ℕ) (h : History) (s : ℕ) (cs : List Change) → is_made id h ≡ true → is_made id (with_changes h s cs) ≡ true
unfolding proposals
made_more id h s cs is = is

made_asked : (id : List ℕ) (h : History) (r : Recorded) → is_made id h ≡ true → is_made id (with_asked h r) ≡ true
made_asked id h r is =
    let new : List Proposal = option_to_list (proposal_in r.seqno r.request) in
    ap (list_any (has_proposal_id id)) (proposals_with h r) ∙ list_any-append (has_proposal_id id) (proposals h) new ∙ or_left (list_any (has_proposal_id id) (proposals h)) (list_any (has_proposal_id id) new) is

made_passes : (id : List ℕ) (h : History) (s : ℕ) (other : List ℕ) (state : ProposalState) (cs : List Change) → is_made id (with_changes h s cs) ≡ true → is_made id (with_changes h s (changes.Settled other state ∷ cs)) ≡ true
unfolding proposals
made_passes id h s other state cs is = is

pub proposals_stay : (id : List ℕ) → Stays (is_made id)
proposals_stay id = record { more = made_more id; asked = made_asked id; passes = made_passes id }

made_found : (h : History) (id : List ℕ) → is_some (proposal h id) ≡ true → is_made id h ≡ true
unfolding proposal
made_found h id is = sym (find_passes (has_proposal_id id) (proposals h)) ∙ is

-- ---- settled

abbrev pub settles : List ℕ → Change → Bool
settles id (changes.Settled other state) = same_bytes id other
settles id other = false

pub settled_told : (id : List ℕ) → IsTold (settles id) (is_made id)
settled_told id = record {
  stays = proposals_stay id;
  founded = λ state key. refl;
  recovered = λ key. refl;
  completed = refl;
  ruled = λ rules. refl;
  dealt = λ d. refl;
  named = λ m. refl;
  applied = λ h a e is. absurd cc;
  settled = λ h other state found closed is. ap (λ x. is_made x h) (same_bytes-eq id other is) ∙ made_found h other found;
}

abbrev pub opens : Change → Bool
opens (changes.Settled other state) = is_open_state state
opens other = false

abbrev pub nowhere : History → Bool
nowhere h = false

pub never_open : IsTold opens nowhere
never_open = record {
  stays = record { more = λ h s cs is. is; asked = λ h r is. is; passes = λ h s id state cs is. is };
  founded = λ state key. refl;
  recovered = λ key. refl;
  completed = refl;
  ruled = λ rules. refl;
  dealt = λ d. refl;
  named = λ m. refl;
  applied = λ h a e is. is;
  settled = λ h id state found closed is. absurd (clash (is_open_state state) closed is);
}

-- ---- answered

-- the request gives the answer
abbrev pub gives : List ℕ → Bool → ℕ → GovernanceRequest → Bool
gives id agrees n g = list_any (is_answer id agrees n) (option_to_list (answer_in g))

open_found : (h : History) (o : Option Proposal) → open_refusal h o ≡ None → is_some o ≡ true
unfolding open_refusal
open_found h None e = absurd cc
open_found h (Some p) e = refl

-- a member's answer that isn't refused is on a proposal that was made, and the member's first
pub record IsFirstAnswer (h : History) (id : List ℕ) (n : ℕ) : Type 0 where
  pub made : is_made id h ≡ true
  pub first : has_ballot (answers_of h) id n ≡ false

pub answer_new : (id : List ℕ) (agrees : Bool) (n : ℕ) (h : History) (s : ℕ) (g : GovernanceRequest) → refusal h s g ≡ None → gives id agrees n g ≡ true → IsFirstAnswer h id n
unfolding refusal act_refusal ballot_refusal
answer_new id agrees n h s (requests.Genesis g) e is = absurd cc
answer_new id agrees n h s (requests.Recover r) e is = absurd cc
answer_new id agrees n h s (requests.Join x) e is = absurd cc
answer_new id agrees n h s (requests.Mark other) e is = absurd cc
answer_new id agrees n h s (requests.Member m) e is = by m.act (second_none (signed_refusal h m) (act_refusal h s m m.act) e) is
  where
    by : (act : MemberAct) → act_refusal h s m act ≡ None → list_any (is_answer id agrees n) (option_to_list (answer_in_act m.member act)) ≡ true → IsFirstAnswer h id n
    by acts.Ack e is = absurd cc
    by (acts.Propose list) e is = absurd cc
    by (acts.Withdraw other) e is = absurd cc
    by (acts.Share share) e is = absurd cc
    by (acts.Ballot other given) e is =
        let one = alone (nat_eq m.member n && (same_bytes other id && same_answer given agrees)) is in
        let parts = and_parts (nat_eq m.member n) (same_bytes other id && same_answer given agrees) one in
        let number : m.member ≡ n = eqb-true m.member n parts.0 in
        let same : other ≡ id = same_bytes-eq other id (and_parts (same_bytes other id) (same_answer given agrees) parts.1).0 in
        let there : is_made other h ≡ true = made_found h other (open_found h (proposal h other) (first_none (open_refusal h (proposal h other)) _ e)) in
        let fresh : has_ballot (answers_of h) other m.member ≡ false = isnt (has_ballot (answers_of h) other m.member) _ (second_none (open_refusal h (proposal h other)) _ e) in
        record {
          made = ap (λ x. is_made x h) (sym same) ∙ there;
          first = (λ i. has_ballot (answers_of h) (sym same i) (sym number i)) ∙ fresh;
        }

pub answer_known : (id : List ℕ) (agrees : Bool) (n : ℕ) (h : History) (s : ℕ) (g : GovernanceRequest) → refusal h s g ≡ None → gives id agrees n g ≡ true → is_made id h ≡ true
answer_known id agrees n h s g e is = (answer_new id agrees n h s g e is).made
