-- Histories that are alike stay so with the same changes after.
use Rattle.std.proofs.Common.{◌≡◌, ⊎_elim, ℕ, ◌-◌, ◌<◌, List, [], ◌∷◌, ◌++◌, map, Option, Some, None, is_some, Bool, true, false, ◌&&◌, ◌||◌, cond, find, filter_map, nat_lt, refl, sym, ◌∙◌, ap, subst₂, arith}
use Rattle.std.specs.List.{list_any}
use Rattle.std.specs.Option.{option_or, option_map}
use Rattle.std.proofs.lemmas.Bool.Decides.{nat_tests}
use Rattle.std.proofs.lemmas.Bool.{or_cases}
use Rattle.std.proofs.Math.Bool.{or-false}
use Rattle.std.proofs.lemmas.List.Folds.{find-append, list_any-append}
use Rattle.std.proofs.lemmas.List.Elements.{filter_map-append}
use Rattle.gl_base.specs.Bytes.{same_bytes}
use Rattle.gl_vmaps.specs.LastWrite.{last_such}
use Rattle.gl_requests.specs.declared.action.Action.TheVariants as actions
use Rattle.gl_gov_rules.specs.declared.change.RecordedNode.{RecordedNode}
use Rattle.gl_gov_rules.specs.declared.change.Proposal.{Proposal}
use Rattle.gl_gov_rules.specs.declared.change.ProposalState.{ProposalState}
use Rattle.gl_gov_rules.specs.declared.change.Change.{Change}
use Rattle.gl_gov_rules.specs.declared.change.Change.TheVariants as changes
use Rattle.gl_gov_rules.specs.declared.change.Changed.{Changed}
use Rattle.gl_gov_rules.proofs.LastSet.{last_set-append, set_by_first, set_after}
use Rattle.gl_gov_rules.specs.History.{History, last_set, seqno_of}
use Rattle.gl_gov_rules.specs.Members.{members, has_number, member_named, is_removed, removes_member, has_acked, next_leaf}
use Rattle.gl_gov_rules.specs.Nodes.{nodes, node, retires, trusts, retirement, is_marked, mark, is_trust_applied, was_trusted}
use Rattle.gl_gov_rules.specs.Service.{constitution, sets_rules, dealing, sets_dealing, identity, sets_identity, is_recovery, is_recovered, sets_state, service_state, clears_shares, last_clearing, given, shares_given}
use Rattle.gl_gov_rules.specs.Proposals.{proposals, proposal, dropped_if, state_settled, answers_of}
use Rattle.gl_gov_rules.specs.Changes.{changed_at}
use Rattle.gl_gov_base.specs.SameBy.{SameBy}
use Rattle.gl_gov_base.specs.Alike.{NodeView, removed_at, node_view, ProposalView, first_of_list, settled_by, proposal_view, is_view_of, is_up_to, SameShares, Alike, with_changes, shares_since}
use Rattle.gl_gov_base.proofs.SameLists.{map_alike, map_twice, find-map, last-map, last-append, same_append, same_map}

-- ---- numbers and options

pub later_alike : (base n s : ℕ) → base < s → nat_lt n s ≡ nat_lt (n - base) (s - base)
later_alike base n s low = grind (arith, nat_tests)

pub or_map : {A B : Type 0} (f : A → B) (o p : Option A) → option_map f (option_or o p) ≡ option_or (option_map f o) (option_map f p)
or_map f None p = refl
or_map f (Some x) p = refl

first-append : {A : Type 0} (xs ys : List A) → first_of_list (xs ++ ys) ≡ option_or (first_of_list xs) (first_of_list ys)
first-append [] ys = refl
first-append (x ∷ xs) ys = refl

pub kept-map : {A B C : Type 0} (f : B → Option C) (g : A → B) (xs : List A) → filter_map f (map g xs) ≡ filter_map (λ x. f (g x)) xs
kept-map f g [] = refl
kept-map {C = C} f g (x ∷ xs) = pick (f (g x)) (kept-map f g xs)
  where
    join : Option C → List C → List C
    join None ys = ys
    join (Some y) ys = y ∷ ys

    pick : (o : Option C) → filter_map f (map g xs) ≡ filter_map (λ x. f (g x)) xs → join o (filter_map f (map g xs)) ≡ join o (filter_map (λ x. f (g x)) xs)
    pick o e = ap (join o) e

-- ---- nodes

-- the seqno at which the changes of an entry take a node out of service
abbrev taken : ℕ → ℕ → List Change → List ℕ → ℕ → Option ℕ
taken base s cs id late = option_map (λ (c : Changed). c.seqno) (option_map (changed_at s) (find (λ (c : Change). nat_lt late (s - base) && retires id c) cs))

abbrev trusted_in : ℕ → List Change → List ℕ → Bool
trusted_in s cs id = list_any (λ (c : Changed). trusts id c.change) (map (changed_at s) cs)

abbrev more_view : ℕ → ℕ → List Change → NodeView → NodeView
more_view base s cs v = record v {
  removal = option_or v.removal (taken base s cs v.id v.late);
  told = v.told || (is_some (taken base s cs v.id v.late) || trusted_in s cs v.id);
}

more_removal : (base : ℕ) (h : History) (s : ℕ) (cs : List Change) (n : RecordedNode) → base < s → removed_at (with_changes h s cs) n ≡ option_or (removed_at h n) (taken base s cs n.id (n.seqno - base))
unfolding retirement
more_removal base h s cs n low =
    let p : Changed → Bool = λ (c : Changed). nat_lt n.seqno c.seqno && retires n.id c.change in
    let at : Changed → ℕ = λ (c : Changed). c.seqno in
    ap (option_map at) (find-append p h.changes (map (changed_at s) cs))
    ∙ or_map at (find p h.changes) (find p (map (changed_at s) cs))
    ∙ ap (λ o. option_or (option_map at (find p h.changes)) (option_map at o)) (find-map p (changed_at s) cs)
    ∙ (λ i. option_or (option_map at (find p h.changes)) (option_map at (option_map (changed_at s) (find (λ (c : Change). later_alike base n.seqno s low i && retires n.id c) cs))))

told_more : (m : Bool) (r t : Option ℕ) (f ta new : Bool) → (m || (is_some (option_or r t) || (f || (ta || new)))) ≡ ((m || (is_some r || (f || ta))) || (is_some t || new))
told_more true r t f ta new = refl
told_more false (Some x) t f ta new = refl
told_more false None t true ta new = or_true (is_some t)
  where
    or_true : (b : Bool) → (b || true) ≡ true
    or_true true = refl
    or_true false = refl
told_more false None t false true new = or_true (is_some t)
  where
    or_true : (b : Bool) → (b || true) ≡ true
    or_true true = refl
    or_true false = refl
told_more false None t false false new = refl

pub node_more : (base : ℕ) (h : History) (s : ℕ) (cs : List Change) (n : RecordedNode) → base < s → node_view base (with_changes h s cs) n ≡ more_view base s cs (node_view base h n)
unfolding is_marked was_trusted is_trust_applied
node_more base h s cs n low =
    let removal = more_removal base h s cs n low in
    let m : Bool = is_marked h n.id in
    let trust = list_any-append (λ (c : Changed). trusts n.id c.change) h.changes (map (changed_at s) cs) in
    let told = (λ i. m || (is_some (removal i) || (n.is_founding || trust i))) ∙ told_more m (removed_at h n) (taken base s cs n.id (n.seqno - base)) n.is_founding (is_trust_applied h n.id) (trusted_in s cs n.id) in
    λ i. record { id = n.id; node = n.node; late = n.seqno - base; removal = removal i; marked = m; told = told i }

-- changes say nothing of marks
marked_still : (h : History) (s : ℕ) (cs : List Change) (id : List ℕ) → is_marked (with_changes h s cs) id ≡ is_marked h id
unfolding is_marked
marked_still h s cs id = refl

mark_still : (h : History) (s : ℕ) (cs : List Change) (id : List ℕ) → mark (with_changes h s cs) id ≡ mark h id
unfolding mark
mark_still h s cs id = refl

-- ---- proposals

abbrev settles_so : List ℕ → Bool → Change → Option ProposalState
settles_so id later (changes.Recovered key) = dropped_if later
settles_so id later (changes.Applied (actions.SetConstitution rules)) = dropped_if later
settles_so id later (changes.Settled other state) = cond (same_bytes id other) (Some state) None
settles_so id later other = None

settled_so : (p : Proposal) (s : ℕ) (c : Change) → state_settled p s c ≡ settles_so p.id (nat_lt p.seqno s) c
settled_so p s (changes.Recovered key) = refl
settled_so p s (changes.Founded state key) = refl
settled_so p s (changes.Settled other state) = refl
settled_so p s changes.Completed = refl
settled_so p s (changes.Applied (actions.SetMember m)) = refl
settled_so p s (changes.Applied (actions.RemoveMember n)) = refl
settled_so p s (changes.Applied (actions.SetRecoveryThreshold d)) = refl
settled_so p s (changes.Applied (actions.TransitionNodeToTrusted id)) = refl
settled_so p s (changes.Applied (actions.RemoveNode id)) = refl
settled_so p s (changes.Applied actions.TransitionServiceToOpen) = refl
settled_so p s (changes.Applied (actions.SetConstitution rules)) = refl

abbrev settled_more : ℕ → ℕ → List Change → List ℕ → ℕ → Option ProposalState
settled_more base s cs id late = first_of_list (filter_map (settles_so id (nat_lt late (s - base))) cs)

abbrev more_proposal : ℕ → ℕ → List Change → ProposalView → ProposalView
more_proposal base s cs v = record v { settled = option_or v.settled (settled_more base s cs v.id v.late) }

pub proposal_more : (base : ℕ) (h : History) (s : ℕ) (cs : List Change) (p : Proposal) → base < s → proposal_view base (with_changes h s cs) p ≡ more_proposal base s cs (proposal_view base h p)
proposal_more base h s cs p low =
    let f : Changed → Option ProposalState = λ (c : Changed). state_settled p c.seqno c.change in
    let settled = ap first_of_list (filter_map-append f h.changes (map (changed_at s) cs))
    ∙ first-append (filter_map f h.changes) (filter_map f (map (changed_at s) cs))
    ∙ ap (λ ss. option_or (settled_by h p) (first_of_list ss)) (kept-map f (changed_at s) cs ∙ (λ i. filter_map (λ (c : Change). settled_so p s c i) cs) ∙ (λ i. filter_map (settles_so p.id (later_alike base p.seqno s low i)) cs)) in
    λ i. record { id = p.id; late = p.seqno - base; proposer = p.proposer; actions = p.actions; settled = settled i }

-- ---- the service

-- what is set, where both histories have set the same before
set_more : {A : Type 0} (sets : Change → Option A) (cs ds new : List Changed) → last_set sets cs ≡ last_set sets ds → last_set sets (cs ++ new) ≡ last_set sets (ds ++ new)
set_more sets cs ds new e = last_set-append sets cs new ∙ ap (option_or (last_set sets new)) e ∙ sym (last_set-append sets ds new)

-- a recovery sets the state
recovery_sets : (f : Bool) (c : Change) → is_recovery c ≡ true → is_some (sets_state f c) ≡ true
recovery_sets f (changes.Recovered key) e = refl
recovery_sets f (changes.Founded state key) e = refl
recovery_sets f changes.Completed e = refl
recovery_sets f (changes.Settled other state) e = absurd cc
recovery_sets f (changes.Applied action) e = absurd cc

abbrev any_recovery : List Changed → Bool
any_recovery cs = list_any (λ (c : Changed). is_recovery c.change) cs

state_by_recovery : (f : Bool) (cs : List Changed) → any_recovery cs ≡ true → is_some (last_set (sets_state f) cs) ≡ true
state_by_recovery f [] e = absurd cc
state_by_recovery f (c ∷ cs) e =
    ⊎_elim
    (λ (t : is_recovery c.change ≡ true). set_by_first (sets_state f) c cs (recovery_sets f c.change t))
    (λ (t : any_recovery cs ≡ true). set_after (sets_state f) (c ∷ []) cs (state_by_recovery f cs t))
    (or_cases (is_recovery c.change) (any_recovery cs) e)

or_some : {A : Type 0} (o p q : Option A) → is_some o ≡ true → option_or o p ≡ option_or o q
or_some None p q e = absurd cc
or_some (Some x) p q e = refl

-- the state as it is set with more changes
state_more : (cs new : List Changed) → last_set (sets_state (any_recovery (cs ++ new))) (cs ++ new) ≡ option_or (last_set (sets_state (any_recovery cs || any_recovery new)) new) (last_set (sets_state (any_recovery cs)) cs)
state_more cs new =
    let f : Bool = any_recovery cs || any_recovery new in
    (λ i. last_set (sets_state (list_any-append (λ (c : Changed). is_recovery c.change) cs new i)) (cs ++ new))
    ∙ last_set-append (sets_state f) cs new
    ∙ pick (any_recovery new) refl
  where
    pick : (r : Bool) → any_recovery new ≡ r → option_or (last_set (sets_state (any_recovery cs || any_recovery new)) new) (last_set (sets_state (any_recovery cs || any_recovery new)) cs)
        ≡ option_or (last_set (sets_state (any_recovery cs || any_recovery new)) new) (last_set (sets_state (any_recovery cs)) cs)
    pick true e = or_some (last_set (sets_state (any_recovery cs || any_recovery new)) new) _ _ (state_by_recovery (any_recovery cs || any_recovery new) new e)
    pick false e = λ i. option_or (last_set (sets_state (any_recovery cs || any_recovery new)) new) (last_set (sets_state ((ap (λ b. any_recovery cs || b) e ∙ or-false (any_recovery cs)) i)) cs)

-- ---- what clears the shares

abbrev pub cleared_at : ℕ → Option Change → ℕ → ℕ
cleared_at s None before = before
cleared_at s (Some c) before = s

abbrev pub clearing_in : List Change → Option Change
clearing_in cs = last_such clears_shares cs

pub clearing_more : (h : History) (s : ℕ) (cs : List Change) → last_clearing (with_changes h s cs) ≡ cleared_at s (clearing_in cs) (last_clearing h)
unfolding last_clearing
clearing_more h s cs =
    let p : Changed → Bool = λ (c : Changed). clears_shares c.change in
    ap seqno_of (last-append p h.changes (map (changed_at s) cs) ∙ ap (λ o. option_or o (last_such p h.changes)) (last-map p (changed_at s) cs))
    ∙ by (clearing_in cs)
  where
    by : (o : Option Change) → seqno_of (option_or (option_map (changed_at s) o) (last_such (λ (c : Changed). clears_shares c.change) h.changes)) ≡ cleared_at s o (seqno_of (last_such (λ (c : Changed). clears_shares c.change) h.changes))
    by None = refl
    by (Some c) = refl

shares_more : (h : History) (s : ℕ) (cs : List Change) → shares_given (with_changes h s cs) ≡ shares_since h (cleared_at s (clearing_in cs) (last_clearing h))
unfolding shares_given given
shares_more h s cs = ap (shares_since h) (clearing_more h s cs)

-- ---- all readings

module _ (base : ℕ) (a b : History) (s : ℕ) (cs : List Change) (low : base < s) (x : Alike base a b) where
  abbrev new : List Changed
  new = map (changed_at s) cs

  members_more : SameBy has_number (members (with_changes a s cs)) (members (with_changes b s cs))
  unfolding members
  members_more =
      let f : Changed → Option _ = λ (c : Changed). member_named c.change in
      subst₂ (SameBy has_number) (sym (filter_map-append f a.changes new)) (sym (filter_map-append f b.changes new))
      (same_append has_number (members a) (members b) (filter_map f new) x.members)

  one_removed : (h : History) (n : ℕ) → is_removed (with_changes h s cs) n ≡ (is_removed h n || list_any (λ (c : Changed). removes_member n c.change) new)
  unfolding is_removed
  one_removed h n = list_any-append (λ (c : Changed). removes_member n c.change) h.changes new

  removed_more : (n : ℕ) → is_removed (with_changes a s cs) n ≡ is_removed (with_changes b s cs) n
  removed_more n = one_removed a n ∙ ap (λ r. r || list_any (λ (c : Changed). removes_member n c.change) new) (x.removed n) ∙ sym (one_removed b n)

  or_swap : (r k m : Bool) → ((r || m) || k) ≡ ((r || k) || m)
  or_swap true k m = refl
  or_swap false true true = refl
  or_swap false true false = refl
  or_swap false false true = refl
  or_swap false false false = refl

  acked_more : (n : ℕ) → (is_removed (with_changes a s cs) n || has_acked (with_changes a s cs) n) ≡ (is_removed (with_changes b s cs) n || has_acked (with_changes b s cs) n)
  unfolding has_acked
  acked_more n =
      let one = λ (h : History). ap (λ r. r || has_acked h n) (one_removed h n) ∙ or_swap (is_removed h n) (has_acked h n) (list_any (λ (c : Changed). removes_member n c.change) new) in
      one a ∙ ap (λ r. r || list_any (λ (c : Changed). removes_member n c.change) new) (x.acked n) ∙ sym (one b)

  nodes_more : map (node_view base (with_changes a s cs)) (nodes a) ≡ map (node_view base (with_changes b s cs)) (nodes b)
  nodes_more =
      let one = λ (h : History). map_alike (node_view base (with_changes h s cs)) (λ n. more_view base s cs (node_view base h n)) (λ n. node_more base h s cs n low) (nodes h) ∙ map_twice (more_view base s cs) (node_view base h) (nodes h) in
      one a ∙ ap (map (more_view base s cs)) x.nodes ∙ sym (one b)

  proposals_more : SameBy is_view_of (map (proposal_view base (with_changes a s cs)) (proposals a)) (map (proposal_view base (with_changes b s cs)) (proposals b))
  proposals_more =
      let one = λ (h : History). map_alike (proposal_view base (with_changes h s cs)) (λ p. more_proposal base s cs (proposal_view base h p)) (λ p. proposal_more base h s cs p low) (proposals h) ∙ map_twice (more_proposal base s cs) (proposal_view base h) (proposals h) in
      subst₂ (SameBy is_view_of) (sym (one a)) (sym (one b))
      (same_map is_view_of is_view_of (more_proposal base s cs) (λ k v. refl) (map (proposal_view base a) (proposals a)) (map (proposal_view base b) (proposals b)) x.proposals)

  state_same : service_state (with_changes a s cs) ≡ service_state (with_changes b s cs)
  unfolding service_state is_recovered
  state_same = state_more a.changes new ∙ (λ i. option_or (last_set (sets_state (x.recovered i || any_recovery new)) new) (x.state i)) ∙ sym (state_more b.changes new)

  clearing_same : last_clearing (with_changes a s cs) - base ≡ last_clearing (with_changes b s cs) - base
  clearing_same = ap (λ n. n - base) (clearing_more a s cs) ∙ by (clearing_in cs) ∙ sym (ap (λ n. n - base) (clearing_more b s cs))
    where
      by : (o : Option Change) → cleared_at s o (last_clearing a) - base ≡ cleared_at s o (last_clearing b) - base
      by None = x.clearing
      by (Some c) = refl

  shares_same : SameShares (shares_given (with_changes a s cs)) (shares_given (with_changes b s cs))
  unfolding shares_given
  shares_same = subst₂ SameShares (sym (shares_more a s cs)) (sym (shares_more b s cs)) (by (clearing_in cs))
    where
      by : (o : Option Change) → SameShares (shares_since a (cleared_at s o (last_clearing a))) (shares_since b (cleared_at s o (last_clearing b)))
      by None = x.shares
      by (Some c) = x.later_shares s (omega arith)

  constitution_same : constitution (with_changes a s cs) ≡ constitution (with_changes b s cs)
  unfolding constitution
  constitution_same = set_more sets_rules a.changes b.changes new x.constitution

  dealing_same : dealing (with_changes a s cs) ≡ dealing (with_changes b s cs)
  unfolding dealing
  dealing_same = set_more sets_dealing a.changes b.changes new x.dealing

  identity_same : identity (with_changes a s cs) ≡ identity (with_changes b s cs)
  unfolding identity
  identity_same = set_more sets_identity a.changes b.changes new x.identity

  recovered_same : is_recovered (with_changes a s cs) ≡ is_recovered (with_changes b s cs)
  unfolding is_recovered
  recovered_same =
      let p : Changed → Bool = λ (c : Changed). is_recovery c.change in
      list_any-append p a.changes new ∙ ap (λ r. r || list_any p new) x.recovered ∙ sym (list_any-append p b.changes new)

  pub alike_changes : Alike base (with_changes a s cs) (with_changes b s cs)
  unfolding has_acked next_leaf nodes node proposals proposal answers_of given
  alike_changes = record {
    members = members_more;
    removed = removed_more;
    acked = acked_more;
    leaves = x.leaves;
    nodes = nodes_more;
    marked = λ id. marked_still a s cs id ∙ x.marked id ∙ sym (marked_still b s cs id);
    marks = λ id k high. ap (is_up_to k) (mark_still a s cs id) ∙ x.marks id k high ∙ sym (ap (is_up_to k) (mark_still b s cs id));
    new_nodes = λ n above fresh. node_more base a s cs n low ∙ ap (more_view base s cs) (x.new_nodes n above fresh) ∙ sym (node_more base b s cs n low);
    proposals = proposals_more;
    new_proposals = λ p above fresh. proposal_more base a s cs p low ∙ ap (more_proposal base s cs) (x.new_proposals p above fresh) ∙ sym (proposal_more base b s cs p low);
    answers = x.answers;
    constitution = constitution_same;
    dealing = dealing_same;
    identity = identity_same;
    recovered = recovered_same;
    state = state_same;
    clearing = clearing_same;
    shares = shares_same;
    later_shares = x.later_shares;
  }
