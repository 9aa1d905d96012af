-- A node that was marked, and one whose trust was applied, is recorded.
use Rattle.std.proofs.Common.{◌≡◌, ℕ, List, ◌∷◌, Option, Some, None, is_some, is_none, Bool, true, false, refl, sym, ◌∙◌, ap}
use Rattle.std.specs.List.{list_any}
use Rattle.std.proofs.lemmas.Bool.{or_left}
use Rattle.std.proofs.lemmas.List.Folds.{list_any-append}
use Rattle.gl_base.specs.Bytes.{same_bytes}
use Rattle.gl_vmaps.proofs.TablesLaws.{same_bytes-eq, same_bytes-symm}
use Rattle.gl_requests.specs.declared.action.Action.{Action}
use Rattle.gl_requests.specs.declared.action.Action.TheVariants as actions
use Rattle.gl_requests.specs.declared.request.GovernanceRequest.{GovernanceRequest}
use Rattle.gl_requests.specs.declared.request.GovernanceRequest.TheVariants as requests
use Rattle.gl_gov_rules.specs.declared.change.Recorded.{Recorded}
use Rattle.gl_gov_rules.specs.declared.change.RecordedNode.{RecordedNode}
use Rattle.gl_gov_rules.specs.declared.change.Change.{Change}
use Rattle.gl_gov_rules.specs.declared.change.Change.TheVariants as changes
use Rattle.gl_gov_rules.specs.declared.change.ProposalState.{ProposalState}
use Rattle.gl_gov_rules.specs.History.{History}
use Rattle.gl_gov_rules.specs.Nodes.{nodes, nodes_recorded, has_id, node, marks, trusts}
use Rattle.gl_gov_rules.specs.Actions.{cause_against}
use Rattle.gl_gov_rules.specs.Refusals.{status_found, is_retired, refusal}
use Rattle.gl_gov_rules.proofs.Counting.{find_passes}
use Rattle.gl_gov_rules.proofs.NewNodes.{mark_retired}
use Rattle.gl_gov_base.specs.Alike.{with_changes, with_asked}
use Rattle.gl_gov_base.proofs.MoreRequests.{nodes_with}
use Rattle.gl_gov_base.proofs.NewRequests.{first_none, isnt}
use Rattle.gl_gov_base.proofs.KnownFacts.{Stays, IsTold}

abbrev pub is_recorded : List ℕ → History → Bool
is_recorded id h = list_any (λ (n : RecordedNode). same_bytes id n.id) (nodes h)

nodes_more : (id : List ℕ) (h : History) (s : ℕ) (cs : List Change) → is_recorded id h ≡ true → is_recorded id (with_changes h s cs) ≡ true
unfolding nodes
nodes_more id h s cs is = is

nodes_asked : (id : List ℕ) (h : History) (r : Recorded) → is_recorded id h ≡ true → is_recorded id (with_asked h r) ≡ true
nodes_asked id h r is =
    let p : RecordedNode → Bool = λ (n : RecordedNode). same_bytes id n.id in
    ap (list_any p) (nodes_with h r) ∙ list_any-append p (nodes h) (nodes_recorded r.seqno r.request) ∙ or_left (list_any p (nodes h)) (list_any p (nodes_recorded r.seqno r.request)) is

nodes_passes : (id : List ℕ) (h : History) (s : ℕ) (other : List ℕ) (state : ProposalState) (cs : List Change) → is_recorded id (with_changes h s cs) ≡ true → is_recorded id (with_changes h s (changes.Settled other state ∷ cs)) ≡ true
unfolding nodes
nodes_passes id h s other state cs is = is

pub nodes_stay : (id : List ℕ) → Stays (is_recorded id)
nodes_stay id = record { more = nodes_more id; asked = nodes_asked id; passes = nodes_passes id }

-- the node that is found is recorded
recorded_found : (h : History) (id : List ℕ) → is_some (node h id) ≡ true → is_recorded id h ≡ true
unfolding node
recorded_found h id is =
    (λ i. list_any (λ (n : RecordedNode). same_bytes-symm id n.id i) (nodes h)) ∙ sym (find_passes (has_id id) (nodes h)) ∙ is

same_recorded : (h : History) (id other : List ℕ) → same_bytes id other ≡ true → is_recorded other h ≡ true → is_recorded id h ≡ true
same_recorded h id other same is = ap (λ x. is_recorded x h) (same_bytes-eq id other same) ∙ is

-- what is marked
pub mark_known : (id : List ℕ) (h : History) (s : ℕ) (g : GovernanceRequest) → refusal h s g ≡ None → marks id g ≡ true → is_recorded id h ≡ true
mark_known id h s (requests.Mark other) e is = same_recorded h id other is (recorded_found h other (by (node h other) (mark_retired h s other e)))
  where
    by : (o : Option RecordedNode) → is_retired (status_found h o) ≡ true → is_some o ≡ true
    by None e = absurd cc
    by (Some n) e = refl
mark_known id h s (requests.Genesis g) e is = absurd cc
mark_known id h s (requests.Recover r) e is = absurd cc
mark_known id h s (requests.Join x) e is = absurd cc
mark_known id h s (requests.Member m) e is = absurd cc

-- what is trusted
trust_known : (id : List ℕ) (h : History) (a : Action) → cause_against h a ≡ None → trusts id (changes.Applied a) ≡ true → is_recorded id h ≡ true
unfolding cause_against
trust_known id h (actions.TransitionNodeToTrusted other) e is =
    same_recorded h id other is (recorded_found h other (by (node h other) (isnt (is_none (node h other)) _ (first_none _ _ (first_none _ _ e)))))
  where
    by : (o : Option RecordedNode) → is_none o ≡ false → is_some o ≡ true
    by None e = absurd cc
    by (Some n) e = refl
trust_known id h (actions.SetMember m) e is = absurd cc
trust_known id h (actions.RemoveMember k) e is = absurd cc
trust_known id h (actions.SetRecoveryThreshold d) e is = absurd cc
trust_known id h (actions.RemoveNode other) e is = absurd cc
trust_known id h actions.TransitionServiceToOpen e is = absurd cc
trust_known id h (actions.SetConstitution rules) e is = absurd cc

pub trusts_told : (id : List ℕ) → IsTold (trusts id) (is_recorded id)
trusts_told id = record {
  stays = nodes_stay id;
  founded = λ state key. refl;
  recovered = λ key. refl;
  completed = refl;
  ruled = λ rules. refl;
  dealt = λ d. refl;
  named = λ m. refl;
  applied = trust_known id;
  settled = λ h other state found closed is. absurd cc;
}
