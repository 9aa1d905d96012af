-- Who signed, and who was removed, is a member.
use Rattle.std.proofs.Common.{◌≡◌, ℕ, List, ◌∷◌, map, Option, None, is_some, Bool, true, false, not, filter_map, refl, sym, ◌∙◌, ap}
use Rattle.std.specs.List.{list_any}
use Rattle.std.proofs.lemmas.Bool.{or_left, and_parts, eqb-true}
use Rattle.std.proofs.lemmas.List.Folds.{list_any-append}
use Rattle.std.proofs.lemmas.List.Elements.{filter_map-append}
use Rattle.gl_requests.specs.declared.genesis.NewMember.{NewMember}
use Rattle.gl_requests.specs.declared.action.Action.{Action}
use Rattle.gl_requests.specs.declared.action.Action.TheVariants as actions
use Rattle.gl_requests.specs.declared.request.GovernanceRequest.{GovernanceRequest}
use Rattle.gl_requests.specs.declared.request.GovernanceRequest.TheVariants as requests
use Rattle.gl_gov_rules.specs.declared.change.Change.{Change}
use Rattle.gl_gov_rules.specs.declared.change.Change.TheVariants as changes
use Rattle.gl_gov_rules.specs.declared.change.Changed.{Changed}
use Rattle.gl_gov_rules.specs.declared.change.ProposalState.{ProposalState}
use Rattle.gl_gov_rules.specs.History.{History}
use Rattle.gl_gov_rules.specs.Members.{members, has_number, member, member_named, removes_member, is_removed, is_by, is_present}
use Rattle.gl_gov_rules.specs.Actions.{cause_against}
use Rattle.gl_gov_rules.specs.Changes.{changed_at}
use Rattle.gl_gov_rules.specs.Refusals.{signed_refusal, act_refusal, refusal}
use Rattle.gl_gov_rules.proofs.Counting.{find_passes}
use Rattle.gl_gov_base.specs.Alike.{with_changes, with_asked}
use Rattle.gl_gov_base.proofs.NewRequests.{first_none, isnt}
use Rattle.gl_gov_base.proofs.KnownFacts.{Stays, IsTold}

abbrev pub is_known : ℕ → History → Bool
is_known n h = list_any (has_number n) (members h)

-- members stay
known_more : (n : ℕ) (h : History) (s : ℕ) (cs : List Change) → is_known n h ≡ true → is_known n (with_changes h s cs) ≡ true
unfolding members
known_more n h s cs is =
    let f : Changed → Option NewMember = λ (c : Changed). member_named c.change in
    ap (list_any (has_number n)) (filter_map-append f h.changes (map (changed_at s) cs))
    ∙ list_any-append (has_number n) (filter_map f h.changes) (filter_map f (map (changed_at s) cs))
    ∙ or_left (list_any (has_number n) (filter_map f h.changes)) (list_any (has_number n) (filter_map f (map (changed_at s) cs))) is

known_passes : (n : ℕ) (h : History) (s : ℕ) (id : List ℕ) (state : ProposalState) (cs : List Change) → is_known n (with_changes h s cs) ≡ true → is_known n (with_changes h s (changes.Settled id state ∷ cs)) ≡ true
unfolding members
known_passes n h s id state cs is =
    let f : Changed → Option NewMember = λ (c : Changed). member_named c.change in
    ap (list_any (has_number n)) (filter_map-append f h.changes (changed_at s (changes.Settled id state) ∷ map (changed_at s) cs) ∙ sym (filter_map-append f h.changes (map (changed_at s) cs))) ∙ is

known_asked : (n : ℕ) (h : History) (r : _) → is_known n h ≡ true → is_known n (with_asked h r) ≡ true
unfolding members
known_asked n h r is = is

pub members_stay : (n : ℕ) → Stays (is_known n)
members_stay n = record { more = known_more n; asked = known_asked n; passes = known_passes n }

known_member : (h : History) (n : ℕ) → is_present h n ≡ true → is_known n h ≡ true
unfolding is_present member
known_member h n is = sym (find_passes (has_number n) (members h)) ∙ (and_parts (is_some (member h n)) (not (is_removed h n)) is).0

denied : (b : Bool) → not b ≡ false → b ≡ true
denied true e = refl
denied false e = absurd cc

-- who signs is a member
pub signer_known : (n : ℕ) (h : History) (s : ℕ) (g : GovernanceRequest) → refusal h s g ≡ None → is_by n g ≡ true → is_known n h ≡ true
unfolding refusal signed_refusal
signer_known n h s (requests.Member m) e is =
    let present = denied (is_present h m.member) (isnt (not (is_present h m.member)) _ (first_none _ _ (first_none _ _ (first_none _ _ (first_none (signed_refusal h m) (act_refusal h s m m.act) e))))) in
    ap (λ k. is_known k h) (sym (eqb-true m.member n is)) ∙ known_member h m.member present
signer_known n h s (requests.Genesis g) e is = absurd cc
signer_known n h s (requests.Recover r) e is = absurd cc
signer_known n h s (requests.Join x) e is = absurd cc
signer_known n h s (requests.Mark id) e is = absurd cc

-- who is removed is a member
removal_known : (n : ℕ) (h : History) (a : Action) → cause_against h a ≡ None → removes_member n (changes.Applied a) ≡ true → is_known n h ≡ true
unfolding cause_against
removal_known n h (actions.RemoveMember k) e is =
    ap (λ k. is_known k h) (sym (eqb-true k n is)) ∙ known_member h k (denied (is_present h k) (isnt (not (is_present h k)) _ (first_none _ _ e)))
removal_known n h (actions.SetMember m) e is = absurd cc
removal_known n h (actions.SetRecoveryThreshold d) e is = absurd cc
removal_known n h (actions.TransitionNodeToTrusted id) e is = absurd cc
removal_known n h (actions.RemoveNode id) e is = absurd cc
removal_known n h actions.TransitionServiceToOpen e is = absurd cc
removal_known n h (actions.SetConstitution rules) e is = absurd cc

pub removals_told : (n : ℕ) → IsTold (removes_member n) (is_known n)
removals_told n = record {
  stays = members_stay n;
  founded = λ state key. refl;
  recovered = λ key. refl;
  completed = refl;
  ruled = λ rules. refl;
  dealt = λ d. refl;
  named = λ m. refl;
  applied = removal_known n;
  settled = λ h id state found closed is. absurd cc;
}
