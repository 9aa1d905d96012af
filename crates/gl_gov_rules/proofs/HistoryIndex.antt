-- What is kept beside a history answers as the requests and the changes do.
use Rattle.std.proofs.Common.{◌≡◌, ℕ, suc, ◌-◌, ◌≤◌, List, [], ◌∷◌, ◌++◌, Option, None, Some, Bool, true, false, ◌&&◌, ◌||◌, nat_eq, nat_lt, cond, find, length, slice_get, option_map, map, filter, is_some, refl, sym, ◌∙◌, ap, arith}
use Rattle.std.specs.List.{list_any, filter_map, cons_option, count_by, AllByRecursion}
use Rattle.std.specs.Option.{option_or}
use Rattle.std.proofs.lemmas.List.Sums.{length-filter}
use Rattle.std.proofs.lemmas.List.Folds.{list_any-append, find-append}
use Rattle.std.proofs.lemmas.Bool.{false≢true}
use Rattle.gl_base.specs.Bytes.{same_bytes}
use Rattle.gl_vmaps.specs.LastWrite.{last_such}
use Rattle.gl_vmaps.proofs.LastWrites.{last_such-cons}
use Rattle.gl_shares.specs.declared.share.Share.{Share}
use Rattle.gl_requests.specs.declared.action.Action.{Action}
use Rattle.gl_requests.specs.declared.action.Action.TheVariants as actions
use Rattle.gl_requests.specs.declared.request.MemberRequest.{MemberRequest}
use Rattle.gl_requests.specs.declared.request.MemberAct.{MemberAct}
use Rattle.gl_requests.specs.declared.request.MemberAct.TheVariants as acts
use Rattle.gl_requests.specs.declared.request.GovernanceRequest.{GovernanceRequest}
use Rattle.gl_requests.specs.declared.request.GovernanceRequest.TheVariants as requests
use Rattle.gl_gov_rules.specs.History.{Carried, History, SignedBy}
use Rattle.gl_gov_rules.specs.declared.change.Recorded.{Recorded}
use Rattle.gl_gov_rules.specs.declared.change.Change.{Change}
use Rattle.gl_gov_rules.specs.declared.change.Change.TheVariants as changes
use Rattle.gl_gov_rules.specs.declared.change.Changed.{Changed}
use Rattle.gl_gov_rules.specs.declared.request_facts.Mark.{Mark}
use Rattle.gl_gov_rules.specs.declared.request_facts.GivenShare.{GivenShare}
use Rattle.gl_gov_rules.specs.declared.request_facts.Signed.{Signed}
use Rattle.gl_gov_rules.specs.Members.{is_removed, has_acked, removes_member, is_ack_by, is_acked_by, is_by, is_signer, leaf_after, leaf_after_last, leaf_carried, next_leaf}
use Rattle.gl_gov_rules.specs.declared.change.RecordedNode.{RecordedNode}
use Rattle.gl_gov_rules.specs.declared.request_facts.Trust.{Trust}
use Rattle.gl_gov_rules.specs.declared.request_facts.Retirement.{Retirement}
use Rattle.gl_gov_rules.specs.Nodes.{retirement, is_marked, is_trust_applied, mark, first_mark, marks, trusts, retires}
use Rattle.gl_gov_rules.specs.Service.{last_clearing, shares_given, share_in, share_after, given_in, given_share, given, given_after}
use Rattle.gl_gov_rules.specs.Proposals.{proposals, settling_in, settlings, is_ballot, is_answer_on, same_answer, answer_in_act, answer_in, answers_of, is_answer, has_answered, ballot_carried, ballot_on, ballot_in, ballot_in_act, ballots_on, is_vote}
use Rattle.gl_gov_rules.specs.RequestFacts.{removed_in, trust_in, retirement_in, mark_in, signed_by, signed_in}
use Rattle.gl_gov_rules.specs.Index.{removed, trusts_of, retirements_of, marks_of, signed, made, AreLeavesSmall, HasSmallLeaves, last_leaf, leaf_or, is_retirement_of, first_retirement}

-- ---- any of what is reported

-- where each item tells of itself what it is asked
any_reported : {X Y : Type 0} (p : X → Bool) (f : X → Option Y) (q : Y → Bool) → ((x : X) → p x ≡ list_any q (cons_option (f x) [])) →
    (xs : List X) → list_any p xs ≡ list_any q (filter_map f xs)
any_reported p f q each [] = refl
any_reported {Y = Y} p f q each (x ∷ xs) = by (f x) (p x) (each x) (any_reported p f q each xs)
  where
    by : (o : Option Y) (b : Bool) → b ≡ list_any q (cons_option o []) → list_any p xs ≡ list_any q (filter_map f xs) →
        (b || list_any p xs) ≡ list_any q (cons_option o (filter_map f xs))
    by None b here rest = rw here rest
    by (Some y) true here rest = two (q y) here
      where
        two : (c : Bool) → true ≡ (c || false) → true ≡ (c || list_any q (filter_map f xs))
        two true e = refl
        two false e = absurd cc
    by (Some y) false here rest = two (q y) here
      where
        two : (c : Bool) → false ≡ (c || false) → list_any p xs ≡ (c || list_any q (filter_map f xs))
        two true e = absurd cc
        two false e = rest

alone : (b : Bool) → b ≡ (b || false)
alone true = refl
alone false = refl

-- ---- members

removed_by : (n : ℕ) (c : Change) → removes_member n c ≡ list_any (λ (m : ℕ). nat_eq m n) (cons_option (removed_in c) [])
removed_by n (changes.Founded state key) = refl
removed_by n (changes.Recovered key) = refl
removed_by n (changes.Settled id state) = refl
removed_by n changes.Completed = refl
removed_by n (changes.Applied a) = by a
  where
    by : (a : Action) → removes_member n (changes.Applied a) ≡ list_any (λ (m : ℕ). nat_eq m n) (cons_option (removed_in (changes.Applied a)) [])
    by (actions.SetMember m) = refl
    by (actions.RemoveMember m) = alone (nat_eq m n)
    by (actions.SetRecoveryThreshold d) = refl
    by (actions.TransitionNodeToTrusted id) = refl
    by (actions.RemoveNode id) = refl
    by actions.TransitionServiceToOpen = refl
    by (actions.SetConstitution rules) = refl

removed_any : (n : ℕ) (cs : List Changed) →
    list_any (λ (c : Changed). removes_member n c.change) cs ≡ list_any (λ (m : ℕ). nat_eq m n) (filter_map (λ (c : Changed). removed_in c.change) cs)
removed_any n cs = any_reported (λ (c : Changed). removes_member n c.change) (λ (c : Changed). removed_in c.change) (λ (m : ℕ). nat_eq m n) (λ c. removed_by n c.change) cs

acked_if : (b : Bool) (s : Signed) → (b && s.is_ack) ≡ list_any (λ (t : Signed). t.is_ack) (cons_option (cond b (Some s) None) [])
acked_if true s = alone s.is_ack
acked_if false s = refl

acked_by : (n seqno : ℕ) (g : GovernanceRequest) → is_ack_by n g ≡ list_any (λ (t : Signed). t.is_ack) (cons_option (signed_by n seqno g) [])
acked_by n seqno (requests.Genesis g) = refl
acked_by n seqno (requests.Recover r) = refl
acked_by n seqno (requests.Join x) = refl
acked_by n seqno (requests.Mark id) = refl
acked_by n seqno (requests.Member m) = acked_if (nat_eq m.member n) (signed_in seqno m)

acked_any : (n : ℕ) (rs : List Recorded) →
    list_any (λ (r : Recorded). is_ack_by n r.request) rs ≡ list_any (λ (t : Signed). t.is_ack) (filter_map (λ (r : Recorded). signed_by n r.seqno r.request) rs)
acked_any n rs = any_reported (λ (r : Recorded). is_ack_by n r.request) (λ (r : Recorded). signed_by n r.seqno r.request) (λ (t : Signed). t.is_ack) (λ r. acked_by n r.seqno r.request) rs

-- ---- nodes

marked_by : (id : List ℕ) (seqno : ℕ) (g : GovernanceRequest) → marks id g ≡ list_any (λ (m : Mark). same_bytes id m.id) (cons_option (mark_in seqno g) [])
marked_by id seqno (requests.Genesis g) = refl
marked_by id seqno (requests.Recover r) = refl
marked_by id seqno (requests.Join x) = refl
marked_by id seqno (requests.Mark other) = alone (same_bytes id other)
marked_by id seqno (requests.Member m) = refl

marked_any : (id : List ℕ) (rs : List Recorded) →
    list_any (λ (r : Recorded). marks id r.request) rs ≡ list_any (λ (m : Mark). same_bytes id m.id) (filter_map (λ (r : Recorded). mark_in r.seqno r.request) rs)
marked_any id rs = any_reported (λ (r : Recorded). marks id r.request) (λ (r : Recorded). mark_in r.seqno r.request) (λ (m : Mark). same_bytes id m.id) (λ r. marked_by id r.seqno r.request) rs

-- the first that is reported is told by the first that is asked for
find_reported : {X Y Z : Type 0} (p : X → Bool) (f : X → Option Y) (q : Y → Bool) (g : X → Z) (h : Y → Z) →
    ((x : X) → option_map g (cond (p x) (Some x) None) ≡ option_map h (find q (cons_option (f x) []))) →
    (xs : List X) → option_map g (find p xs) ≡ option_map h (find q (filter_map f xs))
find_reported p f q g h each [] = refl
find_reported {X = X} {Y = Y} {Z = Z} p f q g h each (x ∷ xs) = by (f x) (p x) (each x) (find_reported p f q g h each xs)
  where
    by : (o : Option Y) (b : Bool) → option_map g (cond b (Some x) None) ≡ option_map h (find q (cons_option o [])) →
        option_map g (find p xs) ≡ option_map h (find q (filter_map f xs)) →
        option_map g (cond b (Some x) (find p xs)) ≡ option_map h (find q (cons_option o (filter_map f xs)))
    by None true here rest = absurd cc
    by None false here rest = rest
    by (Some y) b here rest = two b (q y) here
      where
        two : (b c : Bool) → option_map g (cond b (Some x) None) ≡ option_map h (cond c (Some y) None) →
            option_map g (cond b (Some x) (find p xs)) ≡ option_map h (cond c (Some y) (find q (filter_map f xs)))
        two true true e = e
        two true false e = absurd cc
        two false true e = absurd cc
        two false false e = rest

seqno_if : (r : Recorded) (m : Mark) (b : Bool) → r.seqno ≡ m.seqno → option_map (λ (x : Recorded). x.seqno) (cond b (Some r) None) ≡ option_map (λ (x : Mark). x.seqno) (cond b (Some m) None)
seqno_if r m true same = ap Some same
seqno_if r m false same = refl

mark_reported : (id : List ℕ) (r : Recorded) (g : GovernanceRequest) → option_map (λ (x : Recorded). x.seqno) (cond (marks id g) (Some r) None) ≡ first_mark id (cons_option (mark_in r.seqno g) [])
mark_reported id r (requests.Genesis g) = refl
mark_reported id r (requests.Recover x) = refl
mark_reported id r (requests.Join x) = refl
mark_reported id r (requests.Mark other) = seqno_if r (record { id = other; seqno = r.seqno }) (same_bytes id other) refl
mark_reported id r (requests.Member m) = refl

pub mark_first : (id : List ℕ) (rs : List Recorded) →
    option_map (λ (r : Recorded). r.seqno) (find (λ (r : Recorded). marks id r.request) rs) ≡ first_mark id (filter_map (λ (r : Recorded). mark_in r.seqno r.request) rs)
mark_first id rs =
    find_reported (λ (r : Recorded). marks id r.request) (λ (r : Recorded). mark_in r.seqno r.request) (λ (m : Mark). same_bytes id m.id) (λ (r : Recorded). r.seqno) (λ (m : Mark). m.seqno)
    (λ r. mark_reported id r r.request) rs

trust_by : (id : List ℕ) (seqno : ℕ) (c : Change) → trusts id c ≡ list_any (λ (t : Trust). same_bytes id t.id) (cons_option (trust_in seqno c) [])
trust_by id seqno (changes.Founded state key) = refl
trust_by id seqno (changes.Recovered key) = refl
trust_by id seqno (changes.Settled on state) = refl
trust_by id seqno changes.Completed = refl
trust_by id seqno (changes.Applied a) = by a
  where
    by : (a : Action) → trusts id (changes.Applied a) ≡ list_any (λ (t : Trust). same_bytes id t.id) (cons_option (trust_in seqno (changes.Applied a)) [])
    by (actions.SetMember m) = refl
    by (actions.RemoveMember m) = refl
    by (actions.SetRecoveryThreshold d) = refl
    by (actions.TransitionNodeToTrusted other) = alone (same_bytes id other)
    by (actions.RemoveNode other) = refl
    by actions.TransitionServiceToOpen = refl
    by (actions.SetConstitution rules) = refl

trust_any : (id : List ℕ) (cs : List Changed) →
    list_any (λ (c : Changed). trusts id c.change) cs ≡ list_any (λ (t : Trust). same_bytes id t.id) (filter_map (λ (c : Changed). trust_in c.seqno c.change) cs)
trust_any id cs =
    any_reported (λ (c : Changed). trusts id c.change) (λ (c : Changed). trust_in c.seqno c.change) (λ (t : Trust). same_bytes id t.id) (λ c. trust_by id c.seqno c.change) cs

change_if : (c : Changed) (r : Retirement) (b : Bool) → c.seqno ≡ r.seqno → option_map (λ (x : Changed). x.seqno) (cond b (Some c) None) ≡ option_map (λ (x : Retirement). x.seqno) (cond b (Some r) None)
change_if c r true same = ap Some same
change_if c r false same = refl

change_never : (c : Changed) (b : Bool) → option_map (λ (x : Changed). x.seqno) (cond (b && false) (Some c) None) ≡ None
change_never c true = refl
change_never c false = refl

retirement_reported : (n : RecordedNode) (c : Changed) (change : Change) →
    option_map (λ (x : Changed). x.seqno) (cond (nat_lt n.seqno c.seqno && retires n.id change) (Some c) None) ≡ first_retirement n (cons_option (retirement_in c.seqno change) [])
retirement_reported n c (changes.Founded state key) = change_never c (nat_lt n.seqno c.seqno)
retirement_reported n c (changes.Recovered key) = change_if c (record { seqno = c.seqno; id = None }) (nat_lt n.seqno c.seqno && true) refl
retirement_reported n c (changes.Settled on state) = change_never c (nat_lt n.seqno c.seqno)
retirement_reported n c changes.Completed = change_never c (nat_lt n.seqno c.seqno)
retirement_reported n c (changes.Applied a) = by a
  where
    by : (a : Action) →
        option_map (λ (x : Changed). x.seqno) (cond (nat_lt n.seqno c.seqno && retires n.id (changes.Applied a)) (Some c) None) ≡ first_retirement n (cons_option (retirement_in c.seqno (changes.Applied a)) [])
    by (actions.SetMember m) = change_never c (nat_lt n.seqno c.seqno)
    by (actions.RemoveMember m) = change_never c (nat_lt n.seqno c.seqno)
    by (actions.SetRecoveryThreshold d) = change_never c (nat_lt n.seqno c.seqno)
    by (actions.TransitionNodeToTrusted other) = change_never c (nat_lt n.seqno c.seqno)
    by (actions.RemoveNode other) = change_if c (record { seqno = c.seqno; id = Some other }) (nat_lt n.seqno c.seqno && same_bytes n.id other) refl
    by actions.TransitionServiceToOpen = change_never c (nat_lt n.seqno c.seqno)
    by (actions.SetConstitution rules) = change_never c (nat_lt n.seqno c.seqno)

retirement_first : (n : RecordedNode) (cs : List Changed) →
    option_map (λ (c : Changed). c.seqno) (find (λ (c : Changed). nat_lt n.seqno c.seqno && retires n.id c.change) cs)
    ≡ first_retirement n (filter_map (λ (c : Changed). retirement_in c.seqno c.change) cs)
retirement_first n cs =
    find_reported (λ (c : Changed). nat_lt n.seqno c.seqno && retires n.id c.change) (λ (c : Changed). retirement_in c.seqno c.change) (is_retirement_of n) (λ (c : Changed). c.seqno)
    (λ (r : Retirement). r.seqno) (λ c. retirement_reported n c c.change) cs

-- ---- ballots

never : (b : Bool) → (b && false) ≡ false
never true = refl
never false = refl

vote_if : (n : ℕ) (agrees given b : Bool) (seqno member : ℕ) →
    (nat_eq member n && (b && same_answer given agrees)) ≡ list_any (is_vote n agrees) (cons_option (cond b (Some (record { seqno = seqno; member = member; agrees = given })) None) [])
vote_if n agrees given true seqno member = alone (nat_eq member n && same_answer given agrees)
vote_if n agrees given false seqno member = never (nat_eq member n)

answered_by : (id : List ℕ) (agrees : Bool) (n seqno member : ℕ) (a : MemberAct) →
    (nat_eq member n && is_answer_on id agrees a) ≡ list_any (is_vote n agrees) (cons_option (ballot_in_act id seqno member a) [])
answered_by id agrees n seqno member acts.Ack = never (nat_eq member n)
answered_by id agrees n seqno member (acts.Propose list) = never (nat_eq member n)
answered_by id agrees n seqno member (acts.Ballot on given) = vote_if n agrees given (same_bytes on id) seqno member
answered_by id agrees n seqno member (acts.Withdraw on) = never (nat_eq member n)
answered_by id agrees n seqno member (acts.Share share) = never (nat_eq member n)

pub is_ballot_reported : (id : List ℕ) (agrees : Bool) (n seqno : ℕ) (g : GovernanceRequest) →
    is_ballot id n agrees g ≡ list_any (is_vote n agrees) (cons_option (ballot_in id seqno g) [])
is_ballot_reported id agrees n seqno (requests.Genesis g) = refl
is_ballot_reported id agrees n seqno (requests.Recover r) = refl
is_ballot_reported id agrees n seqno (requests.Join x) = refl
is_ballot_reported id agrees n seqno (requests.Mark other) = refl
is_ballot_reported id agrees n seqno (requests.Member m) = answered_by id agrees n seqno m.member m.act

act_answers : (id : List ℕ) (agrees : Bool) (n : ℕ) (m : MemberRequest) (a : MemberAct) →
    (nat_eq m.member n && is_answer_on id agrees a) ≡ list_any (is_answer id agrees n) (cons_option (answer_in_act m.member a) [])
act_answers id agrees n m acts.Ack = never (nat_eq m.member n)
act_answers id agrees n m (acts.Propose list) = never (nat_eq m.member n)
act_answers id agrees n m (acts.Ballot on given) = alone (nat_eq m.member n && (same_bytes on id && same_answer given agrees))
act_answers id agrees n m (acts.Withdraw on) = never (nat_eq m.member n)
act_answers id agrees n m (acts.Share share) = never (nat_eq m.member n)

-- a request is a member's ballot where the answer that it gives is
pub is_ballot_answer : (id : List ℕ) (agrees : Bool) (n : ℕ) (g : GovernanceRequest) → is_ballot id n agrees g ≡ list_any (is_answer id agrees n) (cons_option (answer_in g) [])
is_ballot_answer id agrees n (requests.Genesis g) = refl
is_ballot_answer id agrees n (requests.Recover r) = refl
is_ballot_answer id agrees n (requests.Join x) = refl
is_ballot_answer id agrees n (requests.Mark other) = refl
is_ballot_answer id agrees n (requests.Member m) = act_answers id agrees n m m.act

-- a member's answer is among those of the requests where its ballot is among them
pub answers_any : (rs : List Recorded) (id : List ℕ) (agrees : Bool) (n : ℕ) →
    list_any (λ (r : Recorded). is_ballot id n agrees r.request) rs ≡ list_any (is_answer id agrees n) (filter_map (λ (r : Recorded). answer_in r.request) rs)
answers_any rs id agrees n =
    any_reported (λ (r : Recorded). is_ballot id n agrees r.request) (λ (r : Recorded). answer_in r.request) (is_answer id agrees n) (λ r. is_ballot_answer id agrees n r.request) rs

-- a member's answer is among the ballots
pub answered_any : (h : History) (id : List ℕ) (agrees : Bool) (n : ℕ) → has_answered (answers_of h) id agrees n ≡ list_any (is_vote n agrees) (ballots_on id h)
unfolding has_answered answers_of ballots_on
answered_any h id agrees n =
    let told = filter_map (λ (r : Recorded). answer_in r.request) h.requests in
    list_any-append (is_answer id agrees n) h.carried.ballots told
    ∙ ap (λ (b : Bool). b || list_any (is_answer id agrees n) told)
    (any_reported (is_answer id agrees n) (ballot_carried id) (is_vote n agrees) (λ a. vote_if n agrees a.agrees (same_bytes a.id id) 0 a.member) h.carried.ballots)
    ∙ ap (λ (b : Bool). list_any (is_vote n agrees) (filter_map (ballot_carried id) h.carried.ballots) || b)
    (sym (answers_any h.requests id agrees n)
    ∙ any_reported (λ (r : Recorded). is_ballot id n agrees r.request) (ballot_on id) (is_vote n agrees) (λ r. is_ballot_reported id agrees n r.seqno r.request) h.requests)
    ∙ sym (list_any-append (is_vote n agrees) (filter_map (ballot_carried id) h.carried.ballots) (filter_map (ballot_on id) h.requests))

-- ---- shares

abbrev bound : {Y Z : Type 0} → Option Y → (Y → Option Z) → Option Z
bound None h = None
bound (Some y) h = h y

-- what is read off what is reported
map_reported : {X Y Z : Type 0} (f : X → Option Z) (g : X → Option Y) (h : Y → Option Z) → ((x : X) → f x ≡ bound (g x) h) → (xs : List X) → filter_map f xs ≡ filter_map h (filter_map g xs)
map_reported f g h each [] = refl
map_reported {Y = Y} f g h each (x ∷ xs) =
    ap (λ o. cons_option o (filter_map f xs)) (each x) ∙ ap (cons_option (bound (g x) h)) (map_reported f g h each xs) ∙ by (g x)
  where
    by : (o : Option Y) → cons_option (bound o h) (filter_map h (filter_map g xs)) ≡ filter_map h (cons_option o (filter_map g xs))
    by None = refl
    by (Some y) = refl

none_either : (b : Bool) → cond {A = Option Share} b None None ≡ None
none_either true = refl
none_either false = refl

share_reported : (q s : ℕ) (o : Option Share) → cond (nat_lt q s) o None ≡ bound (option_map (given_share s) o) (given_after q)
share_reported q s None = none_either (nat_lt q s)
share_reported q s (Some share) = refl

pub given_since : (q : ℕ) (rs : List Recorded) → filter_map (share_after q) rs ≡ filter_map (given_after q) (filter_map (λ (r : Recorded). given_in r.seqno r.request) rs)
given_since q rs = map_reported (share_after q) (λ (r : Recorded). given_in r.seqno r.request) (given_after q) (λ r. share_reported q r.seqno (share_in r.request)) rs

count_given : (q : ℕ) (gs : List GivenShare) → length (filter (λ (g : GivenShare). nat_lt q g.seqno) gs) ≡ length (filter_map (given_after q) gs)
count_given q [] = refl
count_given q (g ∷ gs) = by (nat_lt q g.seqno) (count_given q gs)
  where
    by : (b : Bool) → length (filter (λ (x : GivenShare). nat_lt q x.seqno) gs) ≡ length (filter_map (given_after q) gs) →
        length (cond b (g ∷ filter (λ (x : GivenShare). nat_lt q x.seqno) gs) (filter (λ (x : GivenShare). nat_lt q x.seqno) gs))
        ≡ length (cons_option (cond b (Some g.share) None) (filter_map (given_after q) gs))
    by true rest = ap suc rest
    by false rest = rest

-- ---- leaves

abbrev last_of : List Signed → Option Signed
last_of [] = None
last_of (s ∷ ss) = option_or (last_of ss) (Some s)

last_there : (s : Signed) (ss : List Signed) → slice_get (s ∷ ss) (length ss) ≡ last_of (s ∷ ss)
last_there s [] = refl
last_there s (t ∷ ss) = last_there t ss ∙ by (last_of ss)
  where
    by : (o : Option Signed) → option_or o (Some t) ≡ option_or (option_or o (Some t)) (Some s)
    by None = refl
    by (Some u) = refl

last_is : (ss : List Signed) → slice_get ss (length ss - 1) ≡ last_of ss
last_is [] = refl
last_is (s ∷ ss) = let e : suc (length ss) - 1 ≡ length ss = omega arith in rw e (last_there s ss)

leaf_alone : (k n : ℕ) (r : Recorded) (g : GovernanceRequest) → g ≡ r.request → leaf_after_last k (cond (is_by n g) (Some r) None) ≡ leaf_or k (signed_by n r.seqno g)
leaf_alone k n r (requests.Genesis x) e = refl
leaf_alone k n r (requests.Recover x) e = refl
leaf_alone k n r (requests.Join x) e = refl
leaf_alone k n r (requests.Mark id) e = refl
leaf_alone k n r (requests.Member m) e = by (nat_eq m.member n)
  where
    by : (b : Bool) → leaf_after_last k (cond b (Some r) None) ≡ leaf_or k (cond b (Some (signed_in r.seqno m)) None)
    by true = ap leaf_after (sym e)
    by false = refl

is_reported : (n seqno : ℕ) (g : GovernanceRequest) → is_by n g ≡ is_some (signed_by n seqno g)
is_reported n seqno (requests.Genesis x) = refl
is_reported n seqno (requests.Recover x) = refl
is_reported n seqno (requests.Join x) = refl
is_reported n seqno (requests.Mark id) = refl
is_reported n seqno (requests.Member m) = elim (nat_eq m.member n) as (λ (b : Bool). b ≡ is_some (cond b (Some (signed_in seqno m)) None)) [ true ↦ refl | false ↦ refl ]

record SameLast (k : ℕ) (o : Option Recorded) (p : Option Signed) : Type 0 where
  there : is_some o ≡ is_some p
  leaf : leaf_after_last k o ≡ leaf_or k p

both_or : (k : ℕ) (o a : Option Recorded) (p b : Option Signed) → SameLast k o p → SameLast k a b → SameLast k (option_or o a) (option_or p b)
both_or k None a None b first second = second
both_or k None a (Some p) b first second = absurd (false≢true first.there)
both_or k (Some o) a None b first second = absurd (false≢true (sym first.there))
both_or k (Some o) a (Some p) b first second = first

there_if : (r : Recorded) (b : Bool) → is_some (cond b (Some r) None) ≡ b
there_if r true = refl
there_if r false = refl

one_last : (k n : ℕ) (r : Recorded) → SameLast k (cond (is_by n r.request) (Some r) None) (signed_by n r.seqno r.request)
one_last k n r = record { there = there_if r (is_by n r.request) ∙ is_reported n r.seqno r.request; leaf = leaf_alone k n r r.request refl }

last_cons : (o : Option Signed) (ss : List Signed) → last_of (cons_option o ss) ≡ option_or (last_of ss) o
last_cons None ss = by (last_of ss)
  where
    by : (p : Option Signed) → p ≡ option_or p None
    by None = refl
    by (Some s) = refl
last_cons (Some s) ss = refl

last_reported : (k n : ℕ) (rs : List Recorded) →
    SameLast k (last_such (λ (r : Recorded). is_by n r.request) rs) (last_of (filter_map (λ (r : Recorded). signed_by n r.seqno r.request) rs))
last_reported k n [] = record { there = refl; leaf = refl }
last_reported k n (r ∷ rs) =
    rw (last_such-cons (λ (x : Recorded). is_by n x.request) r rs, last_cons (signed_by n r.seqno r.request) (filter_map (λ (x : Recorded). signed_by n x.seqno x.request) rs))
    (both_or k _ _ _ _ (last_reported k n rs) (one_last k n r))

-- the last request that a member signed has the last leaf that is told of it
pub next_of_last : (k n : ℕ) (rs : List Recorded) →
    leaf_after_last k (last_such (λ (r : Recorded). is_by n r.request) rs) ≡ last_leaf k (filter_map (λ (r : Recorded). signed_by n r.seqno r.request) rs)
next_of_last k n rs = (last_reported k n rs).leaf ∙ sym (ap (leaf_or k) (last_is (filter_map (λ (r : Recorded). signed_by n r.seqno r.request) rs)))

small_or : (k : ℕ) (o a : Option Recorded) → leaf_after_last k o ≤ 1024 → leaf_after_last k a ≤ 1024 → leaf_after_last k (option_or o a) ≤ 1024
small_or k None a first second = second
small_or k (Some r) a first second = first

small_if : (k : ℕ) (r : Recorded) (b : Bool) → k ≤ 1024 → leaf_after r.request ≤ 1024 → leaf_after_last k (cond b (Some r) None) ≤ 1024
small_if k r true low small = small
small_if k r false low small = low

-- and it is one of a tree of 1,024, as what is carried is
last_small : (k n : ℕ) (rs : List Recorded) → k ≤ 1024 → AreLeavesSmall rs → leaf_after_last k (last_such (λ (r : Recorded). is_by n r.request) rs) ≤ 1024
last_small k n [] low small = low
last_small k n (r ∷ rs) low small =
    rw (last_such-cons (λ (x : Recorded). is_by n x.request) r rs) (small_or k _ _ (last_small k n rs low small.1) (small_if k r (is_by n r.request) low small.0))

carried_small : (n : ℕ) (ss : List SignedBy) → AllByRecursion (λ (s : SignedBy). s.next_leaf ≤ 1024) ss → leaf_carried (find (is_signer n) ss) ≤ 1024
carried_small n [] small = omega arith
carried_small n (s ∷ ss) small = by (is_signer n s) (carried_small n ss small.1)
  where
    by : (b : Bool) → leaf_carried (find (is_signer n) ss) ≤ 1024 → leaf_carried (cond b (Some s) (find (is_signer n) ss)) ≤ 1024
    by true rest = small.0
    by false rest = rest

pub leaf_small : (h : History) (n : ℕ) → HasSmallLeaves h.carried → AreLeavesSmall h.requests → next_leaf h n ≤ 1024
unfolding next_leaf
leaf_small h n carried asked = last_small (leaf_carried (find (is_signer n) h.carried.signed)) n h.requests (carried_small n h.carried.signed carried) asked

-- ---- what a history answers

pub removed_is : (h : History) (n : ℕ) → is_removed h n ≡ list_any (λ (m : ℕ). nat_eq m n) (removed h)
unfolding is_removed removed
removed_is h n = removed_any n h.changes

pub acked_is : (h : History) (n : ℕ) → has_acked h n ≡ (list_any (is_acked_by n) h.carried.signed || list_any (λ (t : Signed). t.is_ack) (signed n h))
unfolding has_acked signed
acked_is h n = ap (λ (b : Bool). list_any (is_acked_by n) h.carried.signed || b) (acked_any n h.requests)

pub marked_is : (h : History) (id : List ℕ) → is_marked h id ≡ list_any (λ (m : Mark). same_bytes id m.id) (marks_of h)
unfolding is_marked marks_of
marked_is h id =
    let is_its : Mark → Bool = λ (m : Mark). same_bytes id m.id in
    ap (λ (b : Bool). list_any is_its h.carried.marks || b) (marked_any id h.requests)
    ∙ sym (list_any-append is_its h.carried.marks (filter_map (λ (r : Recorded). mark_in r.seqno r.request) h.requests))

first_mark-append : (id : List ℕ) (ms more : List Mark) → first_mark id (ms ++ more) ≡ option_or (first_mark id ms) (first_mark id more)
first_mark-append id ms more =
    ap (option_map (λ (m : Mark). m.seqno)) (find-append (λ (m : Mark). same_bytes id m.id) ms more) ∙ by (find (λ (m : Mark). same_bytes id m.id) ms) (find (λ (m : Mark). same_bytes id m.id) more)
  where
    by : (o p : Option Mark) → option_map (λ (m : Mark). m.seqno) (option_or o p) ≡ option_or (option_map (λ (m : Mark). m.seqno) o) (option_map (λ (m : Mark). m.seqno) p)
    by None p = refl
    by (Some m) p = refl

pub mark_is : (h : History) (id : List ℕ) → mark h id ≡ first_mark id (marks_of h)
unfolding mark marks_of
mark_is h id =
    ap (option_or (first_mark id h.carried.marks)) (mark_first id h.requests) ∙ sym (first_mark-append id h.carried.marks (filter_map (λ (r : Recorded). mark_in r.seqno r.request) h.requests))

pub trust_is : (h : History) (id : List ℕ) → is_trust_applied h id ≡ list_any (λ (t : Trust). same_bytes id t.id) (trusts_of h)
unfolding is_trust_applied trusts_of
trust_is h id = trust_any id h.changes

pub removal_is : (h : History) (n : RecordedNode) → option_map (λ (c : Changed). c.seqno) (retirement h n) ≡ first_retirement n (retirements_of h)
unfolding retirement retirements_of
removal_is h n = retirement_first n h.changes

pub shares_are : (h : History) → shares_given h ≡ filter_map (given_after (last_clearing h)) (given h)
unfolding shares_given
shares_are h = refl

pub shares_count : (h : History) → length (shares_given h) ≡ count_by (λ (g : GivenShare). nat_lt (last_clearing h) g.seqno) (given h)
unfolding shares_given
shares_count h = sym (count_given (last_clearing h) (given h)) ∙ length-filter (λ (g : GivenShare). nat_lt (last_clearing h) g.seqno) (given h)

pub settlings_are : (k : Carried) (rs : List Recorded) (cs : List Changed) → settlings (record { carried = k; requests = rs; changes = cs }) ≡ map (settling_in cs) (made k rs)
unfolding settlings proposals
settlings_are k rs cs = refl
