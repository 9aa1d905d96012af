-- What a history has once there is a change, or a request, of some kind: each accepted request keeps it.
use Rattle.std.proofs.Common.{◌≡◌, ⊎_elim, ℕ, ◌+◌, List, [], ◌∷◌, map, Option, Some, None, is_some, Bool, true, false, ◌||◌, cond, refl, sym, ◌∙◌, ap, subst, append_assoc, append-nil}
use Rattle.std.specs.List.{list_any}
use Rattle.std.proofs.lemmas.Bool.{or_cases}
use Rattle.std.proofs.lemmas.List.Folds.{list_any-append}
use Rattle.gl_requests.specs.declared.genesis.NewMember.{NewMember}
use Rattle.gl_requests.specs.declared.genesis.Dealing.{Dealing}
use Rattle.gl_requests.specs.declared.genesis.ServiceState.{ServiceState}
use Rattle.gl_requests.specs.declared.genesis.Genesis as founding
use Rattle.gl_requests.specs.declared.action.Rule.{Rule}
use Rattle.gl_requests.specs.declared.action.Action.{Action}
use Rattle.gl_requests.specs.declared.action.Action.TheVariants as actions
use Rattle.gl_requests.specs.declared.request.MemberAct.{MemberAct}
use Rattle.gl_requests.specs.declared.request.MemberAct.TheVariants as acts
use Rattle.gl_requests.specs.declared.request.MemberRequest.{MemberRequest}
use Rattle.gl_requests.specs.declared.request.GovernanceRequest.{GovernanceRequest}
use Rattle.gl_requests.specs.declared.request.GovernanceRequest.TheVariants as requests
use Rattle.gl_gov_rules.specs.declared.change.Recorded.{Recorded}
use Rattle.gl_gov_rules.specs.declared.change.Change.{Change}
use Rattle.gl_gov_rules.specs.declared.change.Change.TheVariants as changes
use Rattle.gl_gov_rules.specs.declared.change.Changed.{Changed}
use Rattle.gl_gov_rules.specs.declared.change.Proposal.{Proposal}
use Rattle.gl_gov_rules.specs.declared.change.ProposalState.{ProposalState}
use Rattle.gl_gov_rules.specs.declared.change.ProposalState.TheVariants as states
use Rattle.gl_gov_rules.specs.declared.refusal.Cause.{Cause}
use Rattle.gl_gov_rules.specs.declared.carried.Answered.{Answered}
use Rattle.gl_gov_rules.specs.History.{History}
use Rattle.gl_gov_rules.specs.Proposals.{proposal, is_open_state, answers_with}
use Rattle.gl_gov_rules.specs.Tally.{tally, is_accepted, is_rejected}
use Rattle.gl_gov_rules.specs.Actions.{cause_against, with_applied, first_bad_action, at_index}
use Rattle.gl_gov_rules.specs.Changes.{first_rules, set_member, founding_changes, acceptance_changes, ballot_changes, ballot_changes_on, is_complete, act_changes, request_changes, changed_at, changes_of, with_request, history}
use Rattle.gl_gov_rules.specs.Refusals.{signed_refusal, open_refusal, withdraw_refusal, act_refusal, refusal}
use Rattle.gl_gov_rules.specs.Governed.{IsGoverned}
use Rattle.gl_gov_rules.proofs.Prefixes.{history-more, history_of_none, governed_induction}
use Rattle.gl_gov_base.specs.Alike.{with_changes, with_asked}
use Rattle.gl_gov_base.proofs.SameLists.{any-map}
use Rattle.gl_gov_base.proofs.NewRequests.{first_none, second_none}

pub clash : (b : Bool) → b ≡ false → b ≡ true → ⊥
clash true e f = cc
clash false e f = cc

pub alone : (b : Bool) → (b || false) ≡ true → b ≡ true
alone true e = refl
alone false e = e

-- the history with one more request has its changes, and then the request
pub with_both : (h : History) (r : Recorded) → with_request h r ≡ with_asked (with_changes h r.seqno (changes_of h r)) r
unfolding with_request
with_both h r = refl

-- a test that more changes and requests keep, and that says nothing of what settles proposals
pub record Stays (known : History → Bool) : Type 0 where
  pub more : (h : History) (s : ℕ) (cs : List Change) → known h ≡ true → known (with_changes h s cs) ≡ true
  pub asked : (h : History) (r : Recorded) → known h ≡ true → known (with_asked h r) ≡ true
  pub passes : (h : History) (s : ℕ) (id : List ℕ) (state : ProposalState) (cs : List Change) → known (with_changes h s cs) ≡ true → known (with_changes h s (changes.Settled id state ∷ cs)) ≡ true

pub stays_with : (known : History → Bool) → Stays known → (h : History) (r : Recorded) → known h ≡ true → known (with_request h r) ≡ true
stays_with known stays h r is = ap known (with_both h r) ∙ stays.asked (with_changes h r.seqno (changes_of h r)) r (stays.more h r.seqno (changes_of h r) is)

-- ---- changes

-- changes that pass come of actions that could be applied, and of what settles a proposal, alone
pub record IsTold (p : Change → Bool) (known : History → Bool) : Type 0 where
  pub stays : Stays known
  pub founded : (state : ServiceState) (key : List ℕ) → p (changes.Founded state key) ≡ false
  pub recovered : (key : List ℕ) → p (changes.Recovered key) ≡ false
  pub completed : p changes.Completed ≡ false
  pub ruled : (rules : List Rule) → p (changes.Applied (actions.SetConstitution rules)) ≡ false
  pub dealt : (d : Dealing) → p (changes.Applied (actions.SetRecoveryThreshold d)) ≡ false
  pub named : (m : NewMember) → p (set_member m) ≡ false
  pub applied : (h : History) (a : Action) → cause_against h a ≡ None → p (changes.Applied a) ≡ true → known h ≡ true
  pub settled : (h : History) (id : List ℕ) (state : ProposalState) → is_some (proposal h id) ≡ true → is_open_state state ≡ false → p (changes.Settled id state) ≡ true → known h ≡ true

abbrev pub has_such : (Change → Bool) → History → Bool
has_such p h = list_any (λ (c : Changed). p c.change) h.changes

pub record Known (p : Change → Bool) (known : History → Bool) (h : History) : Type 0 where
  pub has : has_such p h ≡ true → known h ≡ true

module _ (p : Change → Bool) (known : History → Bool) (told : IsTold p known) where
  abbrev such : Changed → Bool
  such c = p c.change

  more_known : (h : History) (s : ℕ) (cs : List Change) → (list_any p cs ≡ true → known h ≡ true) → Known p known h → Known p known (with_changes h s cs)
  more_known h s cs new inv = record {
    has = λ is.
        told.stays.more h s cs
        (⊎_elim
        (λ (old : list_any such h.changes ≡ true). inv.has old)
        (λ (there : list_any such (map (changed_at s) cs) ≡ true). new (any-map such (changed_at s) cs ∙ there))
        (or_cases (list_any such h.changes) (list_any such (map (changed_at s) cs)) (sym (list_any-append such h.changes (map (changed_at s) cs)) ∙ is)));
  }

  none_more : (h : History) (s : ℕ) (cs : List Change) → list_any p cs ≡ false → Known p known h → Known p known (with_changes h s cs)
  none_more h s cs none inv = more_known h s cs (λ is. absurd (clash (list_any p cs) none is)) inv

  one_none : (h : History) (s : ℕ) (c : Change) → p c ≡ false → Known p known h → Known p known (with_changes h s (c ∷ []))
  one_none h s c none inv = none_more h s (c ∷ []) (λ i. none i || false) inv

  members_none : (ms : List NewMember) → list_any p (map set_member ms) ≡ false
  members_none [] = refl
  members_none (m ∷ ms) = λ i. told.named m i || members_none ms i

  founding_none : (g : founding.Genesis) → list_any p (founding_changes g) ≡ false
  founding_none g = λ i. told.founded g.state g.identity i || (told.ruled first_rules i || (told.dealt g.dealing i || members_none g.members i))

  -- actions of which none is bad
  actions_known : (h : History) (s index : ℕ) (list : List Action) → first_bad_action h s index list ≡ None → Known p known h → Known p known (with_changes h s (map (λ a. changes.Applied a) list))
  actions_known h s index [] e inv = subst (Known p known) (λ i. record h { changes = sym (append-nil h.changes) i }) inv
  actions_known h s index (a ∷ list) e inv =
      let good : cause_against h a ≡ None = none_at index (cause_against h a) (first_none (at_index index (cause_against h a)) _ e) in
      let one : Known p known (with_applied h s a) = more_known h s (changes.Applied a ∷ []) (λ is. told.applied h a good (alone (p (changes.Applied a)) is)) inv in
      let rest = actions_known (with_applied h s a) s (index + 1) list (second_none (at_index index (cause_against h a)) (first_bad_action (with_applied h s a) s (index + 1) list) e) one in
      subst (Known p known) (λ i. record h { changes = append_assoc h.changes (changed_at s (changes.Applied a) ∷ []) (map (changed_at s) (map (λ a. changes.Applied a) list)) i }) rest
    where
      none_at : (index : ℕ) (o : Option Cause) → at_index index o ≡ None → o ≡ None
      none_at index None e = refl
      none_at index (Some x) e = absurd cc

  -- what settles a proposal, and changes after it
  settled_known : (h : History) (s : ℕ) (id : List ℕ) (state : ProposalState) → is_some (proposal h id) ≡ true → is_open_state state ≡ false → Known p known h → Known p known (with_changes h s (changes.Settled id state ∷ []))
  settled_known h s id state found closed inv = more_known h s (changes.Settled id state ∷ []) (λ is. told.settled h id state found closed (alone (p (changes.Settled id state)) is)) inv

  after_settling : (h : History) (s : ℕ) (id : List ℕ) (state : ProposalState) (cs : List Change) → (p (changes.Settled id state) ≡ true → known h ≡ true) → Known p known (with_changes h s cs) → Known p known (with_changes h s (changes.Settled id state ∷ cs))
  after_settling h s id state cs new inv = record { has = λ is. by (p (changes.Settled id state)) refl is }
    where
      by : (b : Bool) → p (changes.Settled id state) ≡ b → has_such p (with_changes h s (changes.Settled id state ∷ cs)) ≡ true → known (with_changes h s (changes.Settled id state ∷ cs)) ≡ true
      by true e is = told.stays.more h s (changes.Settled id state ∷ cs) (new e)
      by false e is =
          let later : List Changed = map (changed_at s) cs in
          told.stays.passes h s id state cs
          (inv.has
          (list_any-append such h.changes later ∙ (λ i. list_any such h.changes || (sym e i || list_any such later))
          ∙ sym (list_any-append such h.changes (changed_at s (changes.Settled id state) ∷ later)) ∙ is))

  accepted_known : (h : History) (s : ℕ) (id : List ℕ) (list : List Action) (o : Option (ℕ × Cause)) → is_some (proposal h id) ≡ true → first_bad_action h s 1 list ≡ o → Known p known h → Known p known (with_changes h s (acceptance_changes id list o))
  accepted_known h s id list None found e inv =
      after_settling h s id states.Accepted (map (λ a. changes.Applied a) list) (λ is. told.settled h id states.Accepted found refl is) (actions_known h s 1 list e inv)
  accepted_known h s id list (Some bad) found e inv = settled_known h s id states.Failed found refl inv

  ballot_known : (h : History) (given : List Answered) (s : ℕ) (id : List ℕ) (o : Option Proposal) → proposal h id ≡ o → Known p known h → Known p known (with_changes h s (ballot_changes_on h given s id o))
  unfolding ballot_changes
  ballot_known h given s id None found inv = none_more h s [] refl inv
  ballot_known h given s id (Some q) found inv = by (is_accepted h (tally h given id) q.actions) (is_rejected h (tally h given id) q.actions)
    where
      there : is_some (proposal h id) ≡ true
      there = ap (λ (o : Option Proposal). is_some o) found

      by : (a r : Bool) → Known p known (with_changes h s (cond a (acceptance_changes id q.actions (first_bad_action h s 1 q.actions)) (cond r (changes.Settled id states.Rejected ∷ []) [])))
      by true r = accepted_known h s id q.actions (first_bad_action h s 1 q.actions) there refl inv
      by false true = settled_known h s id states.Rejected there refl inv
      by false false = none_more h s [] refl inv

  open_found : (h : History) (o : Option Proposal) → open_refusal h o ≡ None → is_some o ≡ true
  unfolding open_refusal
  open_found h None e = absurd cc
  open_found h (Some q) e = refl

  act_known : (h : History) (given : List Answered) (s : ℕ) (m : MemberRequest) (act : MemberAct) → act_refusal h s m act ≡ None → Known p known h → Known p known (with_changes h s (act_changes h given s act))
  unfolding act_refusal withdraw_refusal
  act_known h given s m acts.Ack e inv = none_more h s [] refl inv
  act_known h given s m (acts.Propose list) e inv = none_more h s [] refl inv
  act_known h given s m (acts.Ballot id agrees) e inv = ballot_known h given s id (proposal h id) refl inv
  act_known h given s m (acts.Withdraw id) e inv = settled_known h s id states.Withdrawn (open_found h (proposal h id) (first_none (open_refusal h (proposal h id)) _ e)) refl inv
  act_known h given s m (acts.Share share) e inv = by (is_complete h)
    where
      by : (b : Bool) → Known p known (with_changes h s (cond b (changes.Completed ∷ []) []))
      by true = one_none h s changes.Completed told.completed inv
      by false = none_more h s [] refl inv

  request_known : (h : History) (given : List Answered) (s : ℕ) (g : GovernanceRequest) → refusal h s g ≡ None → Known p known h → Known p known (with_changes h s (request_changes h given s g))
  unfolding refusal
  request_known h given s (requests.Genesis g) e inv = none_more h s (founding_changes g) (founding_none g) inv
  request_known h given s (requests.Recover r) e inv = one_none h s (changes.Recovered r.identity) (told.recovered r.identity) inv
  request_known h given s (requests.Join x) e inv = none_more h s [] refl inv
  request_known h given s (requests.Mark id) e inv = none_more h s [] refl inv
  request_known h given s (requests.Member m) e inv = act_known h given s m m.act (second_none (signed_refusal h m) (act_refusal h s m m.act) e) inv

  known_asked : (h : History) (r : Recorded) → Known p known h → Known p known (with_asked h r)
  known_asked h r inv = record { has = λ is. told.stays.asked h r (inv.has is) }

  known_with : (h : History) (r : Recorded) → refusal h r.seqno r.request ≡ None → Known p known h → Known p known (with_request h r)
  unfolding changes_of
  known_with h r e inv =
      subst (Known p known) (sym (with_both h r))
      (known_asked (with_changes h r.seqno (changes_of h r)) r (request_known h (answers_with h r.request) r.seqno r.request e inv))

  pub all_known : (rs : List Recorded) → IsGoverned rs → Known p known (history rs)
  all_known = governed_induction (λ rs. Known p known (history rs))
      (subst (Known p known) (sym history_of_none) (record { has = λ is. absurd cc }))
      (λ rs r all follows old. subst (Known p known) (sym (history-more rs r)) (known_with (history rs) r follows.accepted old))

-- ---- requests

abbrev pub has_asked : (GovernanceRequest → Bool) → History → Bool
has_asked q h = list_any (λ (r : Recorded). q r.request) h.requests

pub record KnownAsked (q : GovernanceRequest → Bool) (known : History → Bool) (h : History) : Type 0 where
  pub has : has_asked q h ≡ true → known h ≡ true

module _ (q : GovernanceRequest → Bool) (known : History → Bool) (stays : Stays known) (new : (h : History) (s : ℕ) (g : GovernanceRequest) → refusal h s g ≡ None → q g ≡ true → known h ≡ true) where
  abbrev passing : Recorded → Bool
  passing r = q r.request

  asked_with : (h : History) (r : Recorded) → refusal h r.seqno r.request ≡ None → KnownAsked q known h → KnownAsked q known (with_request h r)
  unfolding with_request
  asked_with h r e inv = record {
    has = λ is.
        stays_with known stays h r
        (⊎_elim
        (λ (old : list_any passing h.requests ≡ true). inv.has old)
        (λ (there : list_any passing (r ∷ []) ≡ true). new h r.seqno r.request e (alone (q r.request) there))
        (or_cases (list_any passing h.requests) (list_any passing (r ∷ [])) (sym (list_any-append passing h.requests (r ∷ [])) ∙ is)));
  }

  pub all_asked : (rs : List Recorded) → IsGoverned rs → KnownAsked q known (history rs)
  all_asked = governed_induction (λ rs. KnownAsked q known (history rs))
      (subst (KnownAsked q known) (sym history_of_none) (record { has = λ is. absurd cc }))
      (λ rs r all follows old. subst (KnownAsked q known) (sym (history-more rs r)) (asked_with (history rs) r follows.accepted old))
