-- No two members have one number, and no two shares that count are one member's.
use Rattle.std.proofs.Common.{◌≡◌, ℕ, zero, suc, ◌+◌, ◌≤◌, List, [], ◌∷◌, ◌++◌, map, Option, Some, None, Bool, true, false, not, cond, filter_map, nat_eq, nat_lt, slice_get, refl, sym, ◌∙◌, ap, subst, append-nil, append_assoc, arith}
use Rattle.std.specs.List.{list_any, AllByRecursion, cons_option}
use Rattle.std.specs.Option.{option_map, option_to_list}
use Rattle.std.proofs.lemmas.Bool.{and_parts, or_parts}
use Rattle.std.proofs.lemmas.Bool.Decides.{nat_tests}
use Rattle.std.proofs.lemmas.List.Elements.{filter_map-append}
use Rattle.gl_base.specs.Bytes.{same_bytes}
use Rattle.gl_vmaps.proofs.TablesLaws.{same_bytes-eq}
use Rattle.gl_shares.specs.declared.share.Share.{Share}
use Rattle.gl_requests.specs.declared.genesis.NewMember.{NewMember}
use Rattle.gl_requests.specs.declared.genesis.Genesis as founding
use Rattle.gl_requests.specs.declared.action.Action.{Action}
use Rattle.gl_requests.specs.declared.action.Action.TheVariants as actions
use Rattle.gl_requests.specs.declared.request.MemberAct.{MemberAct}
use Rattle.gl_requests.specs.declared.request.MemberAct.TheVariants as acts
use Rattle.gl_requests.specs.declared.request.MemberRequest.{MemberRequest}
use Rattle.gl_requests.specs.declared.request.GovernanceRequest.{GovernanceRequest}
use Rattle.gl_requests.specs.declared.request.GovernanceRequest.TheVariants as requests
use Rattle.gl_gov_rules.specs.declared.change.Recorded.{Recorded}
use Rattle.gl_gov_rules.specs.declared.change.RecordedNode.{RecordedNode}
use Rattle.gl_gov_rules.specs.declared.change.Change.{Change}
use Rattle.gl_gov_rules.specs.declared.change.Change.TheVariants as changes
use Rattle.gl_gov_rules.specs.declared.change.Changed.{Changed}
use Rattle.gl_gov_rules.specs.declared.change.Proposal.{Proposal}
use Rattle.gl_gov_rules.specs.declared.change.ProposalState.{ProposalState}
use Rattle.gl_gov_rules.specs.declared.change.ProposalState.TheVariants as states
use Rattle.gl_gov_rules.specs.declared.refusal.Cause.{Cause}
use Rattle.gl_gov_rules.specs.declared.row.NodeRow.{NodeRow}
use Rattle.gl_gov_rules.specs.declared.request_facts.GivenShare.{GivenShare}
use Rattle.gl_gov_rules.specs.declared.carried.Answered.{Answered}
use Rattle.gl_gov_rules.specs.History.{History, no_history}
use Rattle.gl_gov_rules.specs.Members.{members, member_named, has_number}
use Rattle.gl_gov_rules.specs.Nodes.{nodes}
use Rattle.gl_gov_rules.specs.Service.{last_clearing, share_in, share_in_act, given_share, given_after, given, shares_given}
use Rattle.gl_gov_rules.specs.Proposals.{proposals, proposal, answers_with}
use Rattle.gl_gov_rules.specs.Tally.{tally, is_accepted, is_rejected}
use Rattle.gl_gov_rules.specs.Actions.{is_number_used, cause_against, with_applied, first_bad_action, at_index}
use Rattle.gl_gov_rules.specs.Changes.{set_member, founding_changes, acceptance_changes, ballot_changes, ballot_changes_on, is_complete, act_changes, request_changes, changed_at, changes_of, with_request, history}
use Rattle.gl_gov_rules.specs.Refusals.{are_numbers_distinct, members_refusal, genesis_refusal, signed_refusal, share_refusal, has_given, act_refusal, refusal}
use Rattle.gl_gov_rules.specs.Rows.{member_row, member_rows, node_row, node_rows_from, node_rows}
use Rattle.gl_gov_rules.specs.Governed.{is_founding, is_nothing, IsAbove, Follows, IsGoverned}
use Rattle.gl_gov_rules.proofs.NewNodes.{nodes_distinct}
use Rattle.gl_gov_rules.proofs.Prefixes.{history-more, history_of_none, governed_induction}
use Rattle.gl_gov_base.specs.Alike.{with_changes, with_asked, shares_since}
use Rattle.gl_gov_base.proofs.MembersAtBase.{none_after}
use Rattle.gl_gov_base.proofs.MoreChanges.{kept-map, cleared_at, clearing_in, clearing_more}
use Rattle.gl_gov_base.proofs.MoreRequests.{given_one, given_more}
use Rattle.gl_gov_base.proofs.NewRequests.{first_none, second_none, isnt}
use Rattle.gl_gov_base.proofs.KnownFacts.{with_both}
use Rattle.gl_gov_base.proofs.DifferentRows.{AreApartBy, same_member, same_node, same_proposal, same_giver, AreApartRows}
use Rattle.gl_gov_base.proofs.SettledHistory.{each_in, proposals_apart, low_shares}

-- ---- lists

pub each_false : {A : Type 0} (p : A → Bool) (xs : List A) → list_any p xs ≡ false → AllByRecursion (λ x. p x ≡ false) xs
each_false p [] e = tt
each_false p (x ∷ xs) e = let parts = or_parts (p x) (list_any p xs) e in (parts.0, each_false p xs parts.1)

apart_one : {A : Type 0} (same : A → A → Bool) (xs : List A) (y : A) → AreApartBy same xs → AllByRecursion (λ x. same x y ≡ false) xs → AreApartBy same (xs ++ y ∷ [])
apart_one same [] y apart others = (tt, tt)
apart_one {A = A} same (x ∷ xs) y apart others = (after xs apart.0, apart_one same xs y apart.1 others.1)
  where
    after : (zs : List A) → AllByRecursion (λ z. same x z ≡ false) zs → AllByRecursion (λ z. same x z ≡ false) (zs ++ y ∷ [])
    after [] all = (others.0, tt)
    after (z ∷ zs) all = (all.0, after zs all.1)

apart_map : {A B : Type 0} (same : A → A → Bool) (like : B → B → Bool) (f : A → B) → ((x y : A) → like (f x) (f y) ≡ same x y) → (xs : List A) → AreApartBy same xs → AreApartBy like (map f xs)
apart_map same like f e [] apart = tt
apart_map {A = A} same like f e (x ∷ xs) apart = (each xs apart.0, apart_map same like f e xs apart.1)
  where
    each : (zs : List A) → AllByRecursion (λ z. same x z ≡ false) zs → AllByRecursion (λ z. like (f x) z ≡ false) (map f zs)
    each [] all = tt
    each (z ∷ zs) all = (e x z ∙ all.0, each zs all.1)

-- items of which no two places are the same
apart_places : {A : Type 0} (same : A → A → Bool) (xs : List A) → ((i j : ℕ) (x y : A) → slice_get xs i ≡ Some x → slice_get xs j ≡ Some y → same x y ≡ true → i ≡ j) → AreApartBy same xs
apart_places same [] places = tt
apart_places {A = A} same (x ∷ xs) places =
    (each_in (λ y. same x y ≡ false) xs (λ j y at. other j y at (same x y) refl), apart_places same xs (λ i j y z here there is. drop_one i j (places (suc i) (suc j) y z here there is)))
  where
    drop_one : (i j : ℕ) → suc i ≡ suc j → i ≡ j
    drop_one i j e = omega (arith, e)

    other : (j : ℕ) (z : A) → slice_get xs j ≡ Some z → (c : Bool) → same x z ≡ c → same x z ≡ false
    other j z at false is = is
    other j z at true is = absurd (let no = places zero (suc j) x z refl at is in omega (arith, no))

-- ---- members

abbrev same_number : NewMember → NewMember → Bool
same_number a b = nat_eq a.number b.number

pub record NumbersApart (h : History) : Type 0 where
  pub apart : AreApartBy same_number (members h)

abbrev named : List Change → List NewMember
named cs = filter_map member_named cs

members_with : (h : History) (s : ℕ) (cs : List Change) → members (with_changes h s cs) ≡ members h ++ named cs
unfolding members
members_with h s cs =
    let f : Changed → Option NewMember = λ (c : Changed). member_named c.change in
    filter_map-append f h.changes (map (changed_at s) cs) ∙ ap (λ ms. filter_map f h.changes ++ ms) (kept-map f (changed_at s) cs)

none_named : (h : History) (s : ℕ) (cs : List Change) → named cs ≡ [] → NumbersApart h → NumbersApart (with_changes h s cs)
none_named h s cs none inv = record { apart = subst (AreApartBy same_number) (sym (members_with h s cs ∙ ap (λ ms. members h ++ ms) none ∙ append-nil (members h))) inv.apart }

-- a member whose number is new
one_named : (h : History) (s : ℕ) (m : NewMember) → is_number_used h m.number ≡ false → NumbersApart h → NumbersApart (with_changes h s (set_member m ∷ []))
unfolding is_number_used
one_named h s m fresh inv = record {
  apart = subst (AreApartBy same_number) (sym (members_with h s (set_member m ∷ []))) (apart_one same_number (members h) m inv.apart (each_false (has_number m.number) (members h) fresh));
}

applied_apart : (h : History) (s : ℕ) (a : Action) → cause_against h a ≡ None → NumbersApart h → NumbersApart (with_applied h s a)
unfolding cause_against
applied_apart h s (actions.SetMember m) e inv = one_named h s m (isnt (is_number_used h m.number) _ (first_none _ _ (first_none _ _ e))) inv
applied_apart h s (actions.RemoveMember k) e inv = none_named h s (changes.Applied (actions.RemoveMember k) ∷ []) refl inv
applied_apart h s (actions.SetRecoveryThreshold d) e inv = none_named h s (changes.Applied (actions.SetRecoveryThreshold d) ∷ []) refl inv
applied_apart h s (actions.TransitionNodeToTrusted id) e inv = none_named h s (changes.Applied (actions.TransitionNodeToTrusted id) ∷ []) refl inv
applied_apart h s (actions.RemoveNode id) e inv = none_named h s (changes.Applied (actions.RemoveNode id) ∷ []) refl inv
applied_apart h s actions.TransitionServiceToOpen e inv = none_named h s (changes.Applied actions.TransitionServiceToOpen ∷ []) refl inv
applied_apart h s (actions.SetConstitution rules) e inv = none_named h s (changes.Applied (actions.SetConstitution rules) ∷ []) refl inv

actions_apart : (h : History) (s index : ℕ) (list : List Action) → first_bad_action h s index list ≡ None → NumbersApart h → NumbersApart (with_changes h s (map (λ a. changes.Applied a) list))
actions_apart h s index [] e inv = subst NumbersApart (λ i. record h { changes = sym (append-nil h.changes) i }) inv
actions_apart h s index (a ∷ list) e inv =
    let good : cause_against h a ≡ None = none_at index (cause_against h a) (first_none (at_index index (cause_against h a)) _ e) in
    let rest = actions_apart (with_applied h s a) s (index + 1) list (second_none (at_index index (cause_against h a)) (first_bad_action (with_applied h s a) s (index + 1) list) e) (applied_apart h s a good inv) in
    subst NumbersApart (λ i. record h { changes = append_assoc h.changes (changed_at s (changes.Applied a) ∷ []) (map (changed_at s) (map (λ a. changes.Applied a) list)) i }) rest
  where
    none_at : (index : ℕ) (o : Option Cause) → at_index index o ≡ None → o ≡ None
    none_at index None e = refl
    none_at index (Some x) e = absurd cc

settling_before : (h : History) (s : ℕ) (id : List ℕ) (state : ProposalState) (cs : List Change) → NumbersApart (with_changes h s cs) → NumbersApart (with_changes h s (changes.Settled id state ∷ cs))
settling_before h s id state cs inv = record { apart = subst (AreApartBy same_number) (members_with h s cs ∙ sym (members_with h s (changes.Settled id state ∷ cs))) inv.apart }

accepted_apart : (h : History) (s : ℕ) (id : List ℕ) (list : List Action) (o : Option (ℕ × Cause)) → first_bad_action h s 1 list ≡ o → NumbersApart h → NumbersApart (with_changes h s (acceptance_changes id list o))
accepted_apart h s id list None e inv = settling_before h s id states.Accepted (map (λ a. changes.Applied a) list) (actions_apart h s 1 list e inv)
accepted_apart h s id list (Some bad) e inv = none_named h s (changes.Settled id states.Failed ∷ []) refl inv

ballot_apart : (h : History) (given : List Answered) (s : ℕ) (id : List ℕ) (o : Option Proposal) → NumbersApart h → NumbersApart (with_changes h s (ballot_changes_on h given s id o))
unfolding ballot_changes
ballot_apart h given s id None inv = none_named h s [] refl inv
ballot_apart h given s id (Some p) inv = by (is_accepted h (tally h given id) p.actions) (is_rejected h (tally h given id) p.actions)
  where
    by : (a r : Bool) → NumbersApart (with_changes h s (cond a (acceptance_changes id p.actions (first_bad_action h s 1 p.actions)) (cond r (changes.Settled id states.Rejected ∷ []) [])))
    by true r = accepted_apart h s id p.actions (first_bad_action h s 1 p.actions) refl inv
    by false true = none_named h s (changes.Settled id states.Rejected ∷ []) refl inv
    by false false = none_named h s [] refl inv

founding_named : (ms : List NewMember) → named (map set_member ms) ≡ ms
founding_named [] = refl
founding_named (m ∷ ms) = ap (λ ns. m ∷ ns) (founding_named ms)

distinct_apart : (ms : List NewMember) → are_numbers_distinct ms ≡ true → AreApartBy same_number ms
distinct_apart [] e = tt
distinct_apart (m ∷ ms) e =
    let parts = and_parts (not (list_any (has_number m.number) ms)) (are_numbers_distinct ms) e in
    (turned ms (each_false (has_number m.number) ms (denied (list_any (has_number m.number) ms) parts.0)), distinct_apart ms parts.1)
  where
    denied : (b : Bool) → not b ≡ true → b ≡ false
    denied true e = absurd cc
    denied false e = refl

    other_way : (a b : ℕ) → nat_eq a b ≡ false → nat_eq b a ≡ false
    other_way a b e = grind (arith, nat_tests, e)

    turned : (zs : List NewMember) → AllByRecursion (λ (z : NewMember). has_number m.number z ≡ false) zs → AllByRecursion (λ z. same_number m z ≡ false) zs
    turned [] all = tt
    turned (z ∷ zs) all = (other_way z.number m.number all.0, turned zs all.1)

founding_apart : (h : History) (s : ℕ) (g : founding.Genesis) → members h ≡ [] → members_refusal g ≡ None → NumbersApart (with_changes h s (founding_changes g))
unfolding members_refusal
founding_apart h s g none e = record {
  apart =
      let distinct : are_numbers_distinct g.members ≡ true = isnt_not (are_numbers_distinct g.members) (isnt (not (are_numbers_distinct g.members)) _ (first_none _ _ (first_none _ _ (first_none _ _ e)))) in
      subst (AreApartBy same_number) (sym (members_with h s (founding_changes g) ∙ (λ i. none i ++ founding_named g.members i))) (distinct_apart g.members distinct);
}
  where
    isnt_not : (b : Bool) → not b ≡ false → b ≡ true
    isnt_not true e = refl
    isnt_not false e = absurd cc

request_apart : (h : History) (given : List Answered) (s : ℕ) (g : GovernanceRequest) → refusal h s g ≡ None → (is_founding g ≡ true → members h ≡ []) → NumbersApart h → NumbersApart (with_changes h s (request_changes h given s g))
unfolding refusal genesis_refusal
request_apart h given s (requests.Genesis g) e first inv = founding_apart h s g (first refl) (first_none (members_refusal g) _ (first_none _ _ e))
request_apart h given s (requests.Recover r) e first inv = none_named h s (changes.Recovered r.identity ∷ []) refl inv
request_apart h given s (requests.Join x) e first inv = none_named h s [] refl inv
request_apart h given s (requests.Mark id) e first inv = none_named h s [] refl inv
request_apart h given s (requests.Member m) e first inv = by m.act
  where
    complete : (b : Bool) → NumbersApart (with_changes h s (cond b (changes.Completed ∷ []) []))
    complete true = none_named h s (changes.Completed ∷ []) refl inv
    complete false = none_named h s [] refl inv

    by : (act : MemberAct) → NumbersApart (with_changes h s (act_changes h given s act))
    by acts.Ack = none_named h s [] refl inv
    by (acts.Propose list) = none_named h s [] refl inv
    by (acts.Ballot id agrees) = ballot_apart h given s id (proposal h id) inv
    by (acts.Withdraw id) = none_named h s (changes.Settled id states.Withdrawn ∷ []) refl inv
    by (acts.Share share) = complete (is_complete h)

asked_apart : (h : History) (r : Recorded) → NumbersApart h → NumbersApart (with_asked h r)
unfolding members
asked_apart h r inv = record { apart = inv.apart }

no_members : members no_history ≡ []
unfolding members
no_members = refl

numbers_with : (rs : List Recorded) (r : Recorded) → Follows rs r → NumbersApart (history rs) → NumbersApart (with_request (history rs) r)
unfolding changes_of
numbers_with rs r follows inv =
    let h : History = history rs in
    subst NumbersApart (sym (with_both h r))
    (asked_apart (with_changes h r.seqno (changes_of h r)) r (request_apart h (answers_with h r.request) r.seqno r.request follows.accepted (λ is. first rs (sym follows.founding ∙ is)) inv))
  where
    first : (rs : List Recorded) → is_nothing rs ≡ true → members (history rs) ≡ []
    first [] is = ap members history_of_none ∙ no_members
    first (q ∷ rs) is = absurd cc

numbers_apart : (rs : List Recorded) → IsGoverned rs → NumbersApart (history rs)
numbers_apart = governed_induction (λ rs. NumbersApart (history rs))
    (subst NumbersApart (sym history_of_none) (record { apart = subst (AreApartBy same_number) (sym no_members) tt }))
    (λ rs r all follows old. subst NumbersApart (sym (history-more rs r)) (numbers_with rs r follows old))

-- ---- shares

pub record GiversApart (h : History) : Type 0 where
  pub apart : AreApartBy same_giver (shares_given h)

-- the shares that count with one request more
shares_with : (h : History) (r : Recorded) → shares_given (with_request h r)
    ≡ shares_since h (cleared_at r.seqno (clearing_in (changes_of h r)) (last_clearing h)) ++ given_one (cleared_at r.seqno (clearing_in (changes_of h r)) (last_clearing h)) r
unfolding shares_given given last_clearing
shares_with h r =
    let g : History = with_changes h r.seqno (changes_of h r) in
    ap shares_given (with_both h r) ∙ given_more g r (last_clearing g)
    ∙ (λ i. shares_since h (clearing_more h r.seqno (changes_of h r) i) ++ given_one (clearing_more h r.seqno (changes_of h r) i) r)

share_act : (h : History) (s : ℕ) (m : MemberRequest) (act : MemberAct) (x : Share) → act_refusal h s m act ≡ None → share_in_act m.member act ≡ Some x → list_any (has_given x.member) (shares_given h) ≡ false
unfolding act_refusal share_refusal
share_act h s m acts.Ack x e is = absurd cc
share_act h s m (acts.Propose list) x e is = absurd cc
share_act h s m (acts.Ballot id agrees) x e is = absurd cc
share_act h s m (acts.Withdraw id) x e is = absurd cc
share_act h s m (acts.Share value) x e is =
    let member : m.member ≡ x.member = (let same : record { member = m.member; value = value } ≡ x = cc in ap (λ (y : Share). y.member) same) in
    ap (λ n. list_any (has_given n) (shares_given h)) (sym member) ∙ isnt (list_any (has_given m.member) (shares_given h)) _ (second_none _ _ (first_none _ _ (first_none _ _ e)))

share_new : (h : History) (s : ℕ) (g : GovernanceRequest) (x : Share) → refusal h s g ≡ None → share_in g ≡ Some x → list_any (has_given x.member) (shares_given h) ≡ false
unfolding refusal
share_new h s (requests.Genesis g) x e is = absurd cc
share_new h s (requests.Recover r) x e is = absurd cc
share_new h s (requests.Join n) x e is = absurd cc
share_new h s (requests.Mark id) x e is = absurd cc
share_new h s (requests.Member m) x e is = share_act h s m m.act x (second_none (signed_refusal h m) (act_refusal h s m m.act) e) is

never_after : (s : ℕ) → nat_lt s s ≡ false
never_after s = grind (arith, nat_tests)

givers_with : (h : History) (r : Recorded) → AllByRecursion (λ (x : GivenShare). x.seqno ≤ r.seqno) (given h) → refusal h r.seqno r.request ≡ None → GiversApart h → GiversApart (with_request h r)
unfolding shares_given
givers_with h r low e inv = record { apart = subst (AreApartBy same_giver) (sym (shares_with h r)) (by (clearing_in (changes_of h r))) }
  where
    none_given : given_one r.seqno r ≡ []
    none_given = own (share_in r.request)
      where
        own : (o : Option Share) → filter_map (given_after r.seqno) (option_to_list (option_map (given_share r.seqno) o)) ≡ []
        own None = refl
        own (Some x) = ap (λ b. cons_option (cond b (Some x) None) []) (never_after r.seqno)

    put : (c : ℕ) (o : Option Share) → share_in r.request ≡ o → AreApartBy same_giver (shares_given h) → AreApartBy same_giver (shares_given h ++ filter_map (given_after c) (option_to_list (option_map (given_share r.seqno) o)))
    put c None is apart = subst (AreApartBy same_giver) (sym (append-nil (shares_given h))) apart
    put c (Some x) is apart = late (nat_lt c r.seqno)
      where
        late : (b : Bool) → AreApartBy same_giver (shares_given h ++ cons_option (cond b (Some x) None) [])
        late true = apart_one same_giver (shares_given h) x apart (each_false (has_given x.member) (shares_given h) (share_new h r.seqno r.request x e is))
        late false = subst (AreApartBy same_giver) (sym (append-nil (shares_given h))) apart

    by : (o : Option Change) → AreApartBy same_giver (shares_since h (cleared_at r.seqno o (last_clearing h)) ++ given_one (cleared_at r.seqno o (last_clearing h)) r)
    by None = put (last_clearing h) (share_in r.request) refl inv.apart
    by (Some c) = subst (AreApartBy same_giver) (sym (λ i. none_after r.seqno r.seqno (given h) (omega arith) low i ++ none_given i)) tt

no_shares : shares_given no_history ≡ []
unfolding shares_given given
no_shares = refl

givers_apart : (rs : List Recorded) → IsGoverned rs → GiversApart (history rs)
givers_apart = governed_induction (λ rs. GiversApart (history rs))
    (subst GiversApart (sym history_of_none) (record { apart = subst (AreApartBy same_giver) (sym no_shares) tt }))
    (λ rs r all follows old. subst GiversApart (sym (history-more rs r)) (givers_with (history rs) r (low_shares rs all r.seqno (upper r.seqno rs follows.above)) follows.accepted old))
  where
    upper : (s : ℕ) (rs : List Recorded) → IsAbove s rs → IsAbove (suc s) rs
    upper s [] all = tt
    upper s (q ∷ rs) all = ((let low = all.0 in omega (arith, low)), upper s rs all.1)

-- ---- nodes

ids_apart : (h : History) (k : ℕ) (ns : List RecordedNode) → AreApartBy (λ (a b : RecordedNode). same_bytes a.id b.id) ns → AreApartBy same_node (node_rows_from h k ns)
unfolding node_row
ids_apart h k [] apart = tt
ids_apart h k (n ∷ ns) apart = (each (suc k) ns apart.0, ids_apart h (suc k) ns apart.1)
  where
    each : (k : ℕ) (zs : List RecordedNode) → AllByRecursion (λ (z : RecordedNode). same_bytes n.id z.id ≡ false) zs → AllByRecursion (λ (r : NodeRow). same_bytes n.id r.id ≡ false) (node_rows_from h k zs)
    each k [] all = tt
    each k (z ∷ zs) all = (all.0, each (suc k) zs all.1)

-- the rows of requests that were accepted are different rows
pub apart_rows : (rs : List Recorded) → IsGoverned rs → AreApartRows (history rs)
unfolding member_rows member_row node_rows
apart_rows rs all = record {
  members = apart_map same_number same_member (member_row (history rs)) (λ x y. refl) (members (history rs)) (numbers_apart rs all).apart;
  nodes =
      ids_apart (history rs) 1 (nodes (history rs))
      (apart_places (λ (a b : RecordedNode). same_bytes a.id b.id) (nodes (history rs)) (λ i j x y here there is. nodes_distinct rs all i j x y here there (same_bytes-eq x.id y.id is)));
  proposals = apart_places same_proposal (proposals (history rs)) (λ i j x y here there is. proposals_apart rs all i j x y here there is);
  shares = (givers_apart rs all).apart;
}
