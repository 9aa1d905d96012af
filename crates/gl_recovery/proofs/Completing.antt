-- A recovered service opens at a share alone, with which those that are given give the secret that
-- was dealt.
use Rattle.std.proofs.Common.{◌≡◌, ℕ, suc, ◌<◌, ◌≤◌, nat_le, nat_lt, List, [], ◌∷◌, ◌++◌, map, length, length-append, cond, Bool, true, false, not, if◌then◌else◌, Option, None, Some, refl, sym, ◌∙◌, ap, ap₂, subst, arith}
use Rattle.std.specs.List.{AllByRecursion, list_any, cons_option}
use Rattle.std.specs.Option.{option_or}
use Rattle.std.specs.Cmp.Lexicographic.{bytes_decides}
use Rattle.std.proofs.lemmas.Bool.{or_parts}
use Rattle.std.proofs.lemmas.Bool.Decides.{nat_tests}
use Rattle.sha2.specs.Sha256.{sha256}
use Rattle.gl_base.specs.Bytes.{same_bytes}
use Rattle.gl_vmaps.specs.LastWrite.{last_such}
use Rattle.gl_vmaps.proofs.LastWrites.{last_such-cons}
use Rattle.gl_shares.specs.Joining.{joined}
use Rattle.gl_shares.specs.declared.share.Share.{Share}
use Rattle.gl_requests.specs.declared.genesis.Dealing.{Dealing}
use Rattle.gl_requests.specs.declared.genesis.Genesis as founding
use Rattle.gl_requests.specs.declared.genesis.NewMember.{NewMember}
use Rattle.gl_requests.specs.declared.genesis.ServiceState.{ServiceState}
use Rattle.gl_requests.specs.declared.genesis.ServiceState.TheVariants as services
use Rattle.gl_requests.specs.declared.action.Action.{Action}
use Rattle.gl_requests.specs.declared.action.Action.TheVariants as actions
use Rattle.gl_requests.specs.declared.request.MemberAct.{MemberAct}
use Rattle.gl_requests.specs.declared.request.MemberAct.TheVariants as acts
use Rattle.gl_requests.specs.declared.request.MemberRequest.{MemberRequest}
use Rattle.gl_requests.specs.declared.request.GovernanceRequest.{GovernanceRequest}
use Rattle.gl_requests.specs.declared.request.GovernanceRequest.TheVariants as requests
use Rattle.gl_gov_rules.specs.declared.change.Recorded.{Recorded}
use Rattle.gl_gov_rules.specs.declared.change.Proposal.{Proposal}
use Rattle.gl_gov_rules.specs.declared.change.ProposalState.TheVariants as states
use Rattle.gl_gov_rules.specs.declared.change.Tally.{Tally}
use Rattle.gl_gov_rules.specs.declared.change.Change.{Change}
use Rattle.gl_gov_rules.specs.declared.change.Change.TheVariants as changes
use Rattle.gl_gov_rules.specs.declared.change.Changed.{Changed}
use Rattle.gl_gov_rules.specs.declared.refusal.Cause.{Cause}
use Rattle.gl_gov_rules.specs.declared.refusal.GovernanceRefusal.TheVariants as refusals
use Rattle.gl_gov_rules.specs.declared.carried.Answered.{Answered}
use Rattle.gl_gov_rules.specs.History.{History, last_set, seqno_of}
use Rattle.gl_gov_rules.specs.Actions.{first_bad_action}
use Rattle.gl_gov_rules.specs.Changes.{acceptance_changes, act_changes, ballot_changes, ballot_changes_on, changes_of, changed_at, history, is_complete, request_changes, set_member}
use Rattle.gl_gov_rules.specs.Governed.{Follows, IsAbove, IsGoverned, is_founding, is_nothing, is_recovery}
use Rattle.gl_gov_rules.specs.Proposals.{proposal, answers_with}
use Rattle.gl_gov_rules.specs.Refusals.{is_dealt, secret_refusal, waiting_refusal}
use Rattle.gl_gov_rules.specs.Service.{clears_shares, dealing, is_recovered, last_clearing, service_state, sets_state, share_after, share_in, shares_given, threshold_of}
use Rattle.gl_gov_rules.specs.Service as service
use Rattle.gl_gov_rules.specs.Tally.{is_accepted, is_rejected, tally}
use Rattle.gl_gov_rules.proofs.HistoryLists.{AreBelow, changes_below}
use Rattle.gl_gov_rules.proofs.KeptIdentity.{recovered_kept}
use Rattle.gl_gov_rules.proofs.LastSet.{last_set-append, last_set-cons}
use Rattle.gl_gov_rules.proofs.NoneStands.{not_bad, not_denied}
use Rattle.gl_gov_rules.proofs.Prefixes.{changes_more, governed_last}
use Rattle.gl_gov_rules.proofs.RowOfService.{founded_row, state_reported}
use Rattle.gl_recovery.specs.Completion.{Completes, GiveSecret}
use Rattle.gl_recovery.proofs.SubmittedShares.{IsAccepted, are_given, dealing_kept, gives_accepted, shares_kept}

-- ---- which changes open a recovered service

abbrev opens : Change → Bool
opens (changes.Founded state key) = true
opens changes.Completed = true
opens other = false

abbrev SetsOpen : Option ServiceState → Type 0
SetsOpen o = o ≡ Some services.Open

-- Once recovered an opening leads to the wait for shares.
not_open : (c : Change) → opens c ≡ false → SetsOpen (sets_state true c) → ⊥
not_open (changes.Founded state key) none is = cc
not_open (changes.Recovered key) none is = cc
not_open (changes.Settled id state) none is = cc
not_open changes.Completed none is = cc
not_open (changes.Applied a) none is = by a is
  where
    by : (a : Action) → SetsOpen (sets_state true (changes.Applied a)) → ⊥
    by (actions.SetMember m) is = cc
    by (actions.RemoveMember m) is = cc
    by (actions.SetRecoveryThreshold d) is = cc
    by (actions.TransitionNodeToTrusted id) is = cc
    by (actions.RemoveNode id) is = cc
    by actions.TransitionServiceToOpen is = cc
    by (actions.SetConstitution rules) is = cc

first_or_second : (o p : Option ServiceState) → SetsOpen (option_or o p) → (SetsOpen o → ⊥) → (SetsOpen p → ⊥) → ⊥
first_or_second None p is none this = this is
first_or_second (Some state) p is none this = none is

never_open : (s : ℕ) (cs : List Change) → list_any opens cs ≡ false → SetsOpen (last_set (sets_state true) (map (changed_at s) cs)) → ⊥
never_open s [] none is = cc
never_open s (c ∷ cs) none is =
    let both = or_parts (opens c) (list_any opens cs) none in
    first_or_second (last_set (sets_state true) (map (changed_at s) cs)) (sets_state true c) (sym (last_set-cons (sets_state true) (changed_at s c) (map (changed_at s) cs)) ∙ is)
    (never_open s cs both.1) (not_open c both.0)

-- ---- what requests bring about

applied_open_none : (list : List Action) → list_any opens (map (λ a. changes.Applied a) list) ≡ false
applied_open_none [] = refl
applied_open_none (a ∷ list) = applied_open_none list

acceptance_opens_none : (id : List ℕ) (list : List Action) (bad : Option (ℕ × Cause)) → list_any opens (acceptance_changes id list bad) ≡ false
acceptance_opens_none id list None = applied_open_none list
acceptance_opens_none id list (Some bad) = refl

ballot_opens_none : (h : History) (s : ℕ) (id : List ℕ) (t : Tally) (list : List Action) → list_any opens (ballot_changes h s id t list) ≡ false
unfolding ballot_changes
ballot_opens_none h s id t list = by_count (is_accepted h t list) (is_rejected h t list)
  where
    by_count : (a b : Bool) →
        list_any opens (if a then acceptance_changes id list (first_bad_action h s 1 list) else (if b then changes.Settled id states.Rejected ∷ [] else [])) ≡ false
    by_count true b = acceptance_opens_none id list (first_bad_action h s 1 list)
    by_count false true = refl
    by_count false false = refl

answer_opens_none : (h : History) (given : List Answered) (s : ℕ) (id : List ℕ) (o : Option Proposal) → list_any opens (ballot_changes_on h given s id o) ≡ false
answer_opens_none h given s id None = refl
answer_opens_none h given s id (Some p) = ballot_opens_none h s id (tally h given id) p.actions

-- a member's act that opens the service is a share that completes the threshold
record IsLastShare (h : History) (a : MemberAct) : Type 0 where
  value : List ℕ
  gives : a ≡ acts.Share value
  complete : is_complete h ≡ true

act_opens : (h : History) (given : List Answered) (s : ℕ) (a : MemberAct) → SetsOpen (last_set (sets_state true) (map (changed_at s) (act_changes h given s a))) → IsLastShare h a
act_opens h given s acts.Ack is = absurd cc
act_opens h given s (acts.Propose list) is = absurd cc
act_opens h given s (acts.Ballot id agrees) is = absurd (never_open s (ballot_changes_on h given s id (proposal h id)) (answer_opens_none h given s id (proposal h id)) is)
act_opens h given s (acts.Withdraw id) is = absurd (never_open s (changes.Settled id states.Withdrawn ∷ []) refl is)
act_opens h given s (acts.Share value) is = by_count (is_complete h) refl is
  where
    by_count : (b : Bool) → is_complete h ≡ b → SetsOpen (last_set (sets_state true) (map (changed_at s) (if b then changes.Completed ∷ [] else []))) → IsLastShare h (acts.Share value)
    by_count true same is = record { value = value; gives = refl; complete = same }
    by_count false same is = absurd cc

-- ---- a founding recovers nothing

abbrev recovers : Changed → Bool
recovers c = service.is_recovery c.change

none_recover : (s : ℕ) (ms : List NewMember) → list_any recovers (map (changed_at s) (map set_member ms)) ≡ false
none_recover s [] = refl
none_recover s (m ∷ ms) = none_recover s ms

nothing : (rs : List Recorded) → is_nothing rs ≡ true → rs ≡ []
nothing [] is = refl
nothing (r ∷ rs) is = absurd cc

founding_unrecovered : (rs : List Recorded) (r : Recorded) (g : founding.Genesis) → rs ≡ [] → r.request ≡ requests.Genesis g → is_recovered (history (rs ++ r ∷ [])) ≡ false
unfolding is_recovered changes_of history
founding_unrecovered rs r g none is =
    let brought : List Change → List Changed = map (changed_at r.seqno) in
    ap (list_any recovers) (changes_more rs r)
    ∙ ap₂ (λ (xs : List Recorded) (q : GovernanceRequest). list_any recovers ((history xs).changes ++ brought (request_changes (history xs) (answers_with (history xs) r.request) r.seqno q))) none is
    ∙ none_recover r.seqno g.members

-- ---- the seqno of the last clearing

last_below : (n : ℕ) (cs : List Changed) → 0 < n → AreBelow n cs → seqno_of (last_such (λ (c : Changed). clears_shares c.change) cs) < n
last_below n [] some below = some
last_below n (c ∷ cs) some below =
    subst (λ (o : Option Changed). seqno_of o < n) (sym (last_such-cons (λ (x : Changed). clears_shares x.change) c cs))
    (go (last_such (λ (x : Changed). clears_shares x.change) cs) (clears_shares c.change) (last_below n cs some below.1))
  where
    go : (o : Option Changed) (b : Bool) → seqno_of o < n → seqno_of (option_or o (cond b (Some c) None)) < n
    go (Some x) b low = low
    go None true low = below.0
    go None false low = low

some_before : (rs : List Recorded) (n : ℕ) → is_nothing rs ≡ false → IsAbove n rs → 0 < n
some_before [] n some above = absurd cc
some_before (x ∷ rs) n some above = let one = above.0 in omega (arith, one)

cleared_before : (rs : List Recorded) (r : Recorded) → is_nothing rs ≡ false → IsAbove r.seqno rs → last_clearing (history rs) < r.seqno
unfolding last_clearing
cleared_before rs r some above = last_below r.seqno (history rs).changes (some_before rs r.seqno some above) (changes_below r.seqno rs above)

-- ---- the state before

founded_state : (rs : List Recorded) → is_nothing rs ≡ false → IsGoverned rs → (state : ServiceState) × (service_state (history rs) ≡ Some state)
founded_state [] some all = absurd cc
founded_state (x ∷ rs) some all = let row = founded_row x rs all in (row.0.state, state_reported (x ∷ rs) row.0 row.1)

waiting_is : (state : ServiceState) → waiting_refusal (Some state) ≡ None → state ≡ services.WaitingForRecoveryShares
waiting_is services.Opening none = absurd cc
waiting_is services.Open none = absurd cc
waiting_is services.WaitingForRecoveryShares none = refl

-- ---- a share that completes the threshold

module _ (rs : List Recorded) (r : Recorded) (all : IsGoverned (rs ++ r ∷ [])) (m : MemberRequest) (is : r.request ≡ requests.Member m) (last : IsLastShare (history rs) m.act) where
  prefix : IsGoverned rs
  prefix = (governed_last rs r all).0

  follows : Follows rs r
  follows = (governed_last rs r all).1

  some : is_nothing rs ≡ false
  some = sym follows.founding ∙ ap is_founding is

  abbrev share : Share
  share = record { member = m.member; value = last.value }

  abbrev old : List Share
  old = shares_given (history rs)

  accepted : IsAccepted (history rs) m.member last.value
  accepted = gives_accepted (history rs) r.seqno r.request share (record { by = m; request = is; act = last.gives; member = refl }) follows.accepted

  brought : changes_of (history rs) r ≡ changes.Completed ∷ []
  unfolding changes_of
  brought =
      let rest = answers_with (history rs) r.request in
      ap (request_changes (history rs) rest r.seqno) is ∙ ap (act_changes (history rs) rest r.seqno) last.gives
      ∙ ap (λ (b : Bool). if b then changes.Completed ∷ [] else []) last.complete

  kept : list_any clears_shares (changes_of (history rs) r) ≡ false
  kept = ap (list_any clears_shares) brought

  after : share_after (last_clearing (history rs)) r ≡ Some share
  after = go (nat_lt (last_clearing (history rs)) r.seqno) refl
    where
      in_request : share_in r.request ≡ Some share
      in_request = ap share_in is ∙ ap (service.share_in_act m.member) last.gives

      go : (b : Bool) → nat_lt (last_clearing (history rs)) r.seqno ≡ b → (if b then share_in r.request else None) ≡ Some share
      go true test = in_request
      go false test = absurd (let low = cleared_before rs r some follows.above in grind (arith, nat_tests))

  given : shares_given (history (rs ++ r ∷ [])) ≡ old ++ share ∷ []
  given = shares_kept rs r kept ∙ ap (λ (o : Option Share). old ++ cons_option o []) after

  waited : service_state (history rs) ≡ Some services.WaitingForRecoveryShares
  waited =
      let state = founded_state rs some prefix in
      state.1 ∙ ap Some (waiting_is state.0 (ap waiting_refusal (sym state.1) ∙ accepted.waiting))

  record IsDealt : Type 0 where
    dealt : Dealing
    in_force : dealing (history rs) ≡ Some dealt

  in_force : IsDealt
  in_force = go (dealing (history rs)) refl accepted.own
    where
      go : (o : Option Dealing) → dealing (history rs) ≡ o → is_dealt m.member (sha256 last.value) o ≡ true → IsDealt
      go None same own = absurd cc
      go (Some d) same own = record { dealt = d; in_force = same }

  abbrev dealt : Dealing
  dealt = in_force.dealt

  enough : dealt.threshold ≤ length (old ++ share ∷ [])
  unfolding is_complete
  enough =
      let most : nat_le dealt.threshold (suc (length old)) ≡ true = ap (λ (o : Option Dealing). nat_le (threshold_of o) (suc (length old))) (sym in_force.in_force) ∙ last.complete in
      let long = length-append old (share ∷ []) in
      let fits : dealt.threshold ≤ suc (length old) = grind (arith, nat_tests) in
      omega (arith, fits, long)

  secret_is : sha256 (joined (old ++ share ∷ [])) ≡ dealt.secret_digest
  secret_is =
      let got = sha256 (joined (old ++ share ∷ [])) in
      let joins : secret_refusal got (Some dealt) ≡ None =
      ap (secret_refusal got) (sym in_force.in_force) ∙ ap (λ (b : Bool). if b then secret_refusal got (dealing (history rs)) else None) (sym last.complete) ∙ accepted.joins in
      let same : same_bytes dealt.secret_digest got ≡ true = not_denied (same_bytes dealt.secret_digest got) (not_bad (not (same_bytes dealt.secret_digest got)) (refusals.Secret dealt.secret_digest got) joins) in
      sym ((bytes_decides dealt.secret_digest got).0 same)

  gives_secret : GiveSecret dealt (shares_given (history (rs ++ r ∷ [])))
  gives_secret =
      let shares = are_given (rs ++ r ∷ []) all in
      record {
        enough = subst (λ (ss : List Share). dealt.threshold ≤ length ss) (sym given) enough;
        distinct = shares.distinct;
        own = subst (λ (o : Option Dealing). AreOf o (shares_given (history (rs ++ r ∷ [])))) (dealing_kept rs r kept ∙ in_force.in_force) shares.own;
        secret = subst (λ (ss : List Share). sha256 (joined ss) ≡ dealt.secret_digest) (sym given) secret_is;
      }
    where
      AreOf : Option Dealing → List Share → Type 0
      AreOf o ss = AllByRecursion (λ (s : Share). is_dealt s.member (sha256 s.value) o ≡ true) ss

  completed : Completes rs r
  completed = record {
    by = m;
    request = is;
    value = last.value;
    gives = last.gives;
    waited = waited;
    dealt = dealt;
    in_force = in_force.in_force;
    given = given;
    secret = gives_secret;
  }

-- ---- the request at which a recovered service opens

module _ (rs : List Recorded) (r : Recorded) (all : IsGoverned (rs ++ r ∷ [])) (recovered : is_recovered (history (rs ++ r ∷ [])) ≡ true) (closed : service_state (history rs) ≡ Some services.Open → ⊥)
    (opened : service_state (history (rs ++ r ∷ [])) ≡ Some services.Open) where
  abbrev more : List Change
  more = changes_of (history rs) r

  abbrev set : Option ServiceState
  set = last_set (sets_state true) (map (changed_at r.seqno) more)

  abbrev set_before : Option ServiceState
  set_before = last_set (sets_state true) (history rs).changes

  state_is : option_or set set_before ≡ Some services.Open
  unfolding service_state
  state_is =
      sym (last_set-append (sets_state true) (history rs).changes (map (changed_at r.seqno) more))
      ∙ ap (last_set (sets_state true)) (sym (changes_more rs r))
      ∙ ap (λ (b : Bool). last_set (sets_state b) (history (rs ++ r ∷ [])).changes) (sym recovered)
      ∙ opened

  -- where it was recovered before, what the request brings about sets the state
  sets_open : is_recovered (history rs) ≡ true → SetsOpen set
  unfolding service_state
  sets_open before = go set state_is
    where
      was : SetsOpen set_before → ⊥
      was is = closed (ap (λ (b : Bool). last_set (sets_state b) (history rs).changes) before ∙ is)

      go : (o : Option ServiceState) → option_or o set_before ≡ Some services.Open → SetsOpen o
      go None is = absurd (was is)
      go (Some state) is = is

  by_request : (q : GovernanceRequest) → r.request ≡ q → Completes rs r
  unfolding changes_of
  by_request (requests.Genesis g) is =
      absurd
      (let none = nothing rs (sym (governed_last rs r all).1.founding ∙ ap is_founding is) in
      let w = sym (founding_unrecovered rs r g none is) ∙ recovered in cc)
  by_request (requests.Recover q) is =
      absurd
      (let w : Some services.Opening ≡ Some services.Open = sym (ap (λ (x : GovernanceRequest). option_or (last_set (sets_state true) (map (changed_at r.seqno) (request_changes (history rs) (answers_with (history rs) r.request) r.seqno x))) set_before) is) ∙ state_is in cc)
  by_request (requests.Join n) is =
      absurd (quiet is (sets_open (sym (recovered_kept rs r (ap is_founding is) (ap is_recovery is)) ∙ recovered)))
    where
      quiet : r.request ≡ requests.Join n → SetsOpen set → ⊥
      quiet is set_it = let w : SetsOpen None = ap (λ (x : GovernanceRequest). last_set (sets_state true) (map (changed_at r.seqno) (request_changes (history rs) (answers_with (history rs) r.request) r.seqno x))) (sym is) ∙ set_it in cc
  by_request (requests.Mark id) is =
      absurd (quiet is (sets_open (sym (recovered_kept rs r (ap is_founding is) (ap is_recovery is)) ∙ recovered)))
    where
      quiet : r.request ≡ requests.Mark id → SetsOpen set → ⊥
      quiet is set_it = let w : SetsOpen None = ap (λ (x : GovernanceRequest). last_set (sets_state true) (map (changed_at r.seqno) (request_changes (history rs) (answers_with (history rs) r.request) r.seqno x))) (sym is) ∙ set_it in cc
  by_request (requests.Member m) is =
      let rest = answers_with (history rs) r.request in
      let sets : SetsOpen (last_set (sets_state true) (map (changed_at r.seqno) (act_changes (history rs) rest r.seqno m.act))) =
      ap (λ (x : GovernanceRequest). last_set (sets_state true) (map (changed_at r.seqno) (request_changes (history rs) rest r.seqno x))) (sym is)
      ∙ sets_open (sym (recovered_kept rs r (ap is_founding is) (ap is_recovery is)) ∙ recovered) in
      completed rs r all m is (act_opens (history rs) rest r.seqno m.act sets)

  pub completes : Completes rs r
  completes = by_request r.request refl
