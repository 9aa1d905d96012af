-- What a request changes of the rows is among those that it touches, so its write set is made of
-- them.
use Rattle.std.proofs.Common.{◌≡◌, ℕ, suc, List, [], ◌∷◌, ◌++◌, map, filter, filter_map, length, Option, None, Some, is_some, Bool, true, false, not, ◌||◌, ◌==◌, refl, sym, ◌∙◌, ap, ap₂, append-nil, arith, option_map}
use Rattle.std.specs.List.{list_all, cons_option}
use Rattle.std.specs.Cmp.Lexicographic.{bytes_decides}
use Rattle.std.proofs.lemmas.Bool.{and_from, and_parts, or_parts, or_left, or_right}
use Rattle.std.proofs.lemmas.Bool.Decides.{nat_tests}
use Rattle.std.proofs.lemmas.List.Elements.{filter_agree, filter_map-append}
use Rattle.gl_vmaps.specs.Changes.{write_set, are_rows, changes}
use Rattle.gl_vmaps.specs.declared.write.Write.{Write}
use Rattle.gl_shares.specs.declared.share.Share.{Share}
use Rattle.gl_requests.specs.Encoding.{node_id}
use Rattle.gl_requests.specs.declared.action.Rule.{Rule}
use Rattle.gl_requests.specs.declared.request.GovernanceRequest.{GovernanceRequest}
use Rattle.gl_requests.specs.declared.request.GovernanceRequest.TheVariants as requests
use Rattle.gl_gov_rules.specs.declared.change.Recorded.{Recorded}
use Rattle.gl_gov_rules.specs.declared.change.RecordedNode.{RecordedNode}
use Rattle.gl_gov_rules.specs.declared.change.Change.{Change}
use Rattle.gl_gov_rules.specs.declared.change.Changed.{Changed}
use Rattle.gl_gov_rules.specs.declared.request_facts.GivenShare.{GivenShare}
use Rattle.gl_gov_rules.specs.declared.carried.Answered.{Answered}
use Rattle.gl_gov_rules.specs.History.{History, nothing, last_set}
use Rattle.gl_gov_rules.specs.Nodes.{nodes_recorded}
use Rattle.gl_gov_rules.specs.Service.{sets_rules, constitution, sets_dealing, dealing, identity, is_recovered, service_state, last_clearing, share_in, given_share, given_in, given_after, given, shares_given}
use Rattle.gl_gov_rules.specs.Proposals.{answers_with}
use Rattle.gl_gov_rules.specs.Changes.{request_changes, changes_of, changed_at, with_request}
use Rattle.gl_gov_rules.specs.Rows.{rule_writes_from, rule_writes_of, write_of, dealing_write, member_rows, member_write, node_rows, node_write, proposal_writes, service_row, service_write, share_write, all_rows, rows}
use Rattle.gl_gov_rules.proofs.Prefixes.{requests_with, changes_with}
use Rattle.gl_gov_rules.proofs.HistoryLists.{nodes_after}
use Rattle.gl_gov_rules.proofs.NothingCarried.{carried_with}
use Rattle.gl_gov_rules.proofs.RowsSet.{are_rows_rows}
use Rattle.gl_gov.specs.declared.touched.Touched.{Touched}
use Rattle.gl_gov.specs.declared.touched.Selection.TheVariants as selections
use Rattle.gl_gov.specs.Touched.{node_named, are_any, changes_more, touched_by, is_id_of, touches_node, is_touched, is_selected}
use Rattle.gl_gov.proofs.Selected.{touched_member, touched_node, touched_rule, touched_dealing, touched_service, touched_share}
use Rattle.gl_gov.proofs.SetParts.{AsksRow, changes_of_part}
use Rattle.gl_gov.proofs.Untouched.{left, left-append, left_none, members_left, nodes_left, proposals_left}

-- ---- where a request changes more, all is touched but proposals

module _ (t : Touched) (is_more : t.changes_more ≡ true) where
  all_made : {A : Type 0} (f : A → Write) → ((a : A) → is_touched t (f a) ≡ true) → (xs : List A) → left t (map f xs) ≡ []
  all_made {A} f each xs = left_none t (map f xs) (all xs)
    where
      all : (ys : List A) → list_all (is_touched t) (map f ys) ≡ true
      all [] = refl
      all (y ∷ ys) = and_from (is_touched t (f y)) (list_all (is_touched t) (map f ys)) (each y) (all ys)

  all_one : {A : Type 0} (f : A → Write) → ((a : A) → is_touched t (f a) ≡ true) → (o : Option A) → left t (write_of f o) ≡ []
  all_one f each None = refl
  all_one f each (Some a) = left_none t (f a ∷ []) (and_from (is_touched t (f a)) true (each a) refl)

  all_rules_from : (number : ℕ) (rules : List Rule) → list_all (is_touched t) (rule_writes_from number rules) ≡ true
  all_rules_from number [] = refl
  all_rules_from number (r ∷ rules) = and_from _ (list_all (is_touched t) (rule_writes_from (suc number) rules)) (touched_rule t _ _ ∙ is_more) (all_rules_from (suc number) rules)

  all_rules : (o : Option (List Rule)) → left t (rule_writes_of o) ≡ []
  all_rules None = refl
  all_rules (Some rules) = left_none t (rule_writes_from 1 rules) (all_rules_from 1 rules)

-- ---- the parts of all rows

-- what is left of each table is the same
record SameParts (t : Touched) (h k : History) : Type 0 where
  pub rules : left t (rule_writes_of (constitution k)) ≡ left t (rule_writes_of (constitution h))
  pub dealt : left t (write_of dealing_write (dealing k)) ≡ left t (write_of dealing_write (dealing h))
  pub members : left t (map member_write (member_rows k)) ≡ left t (map member_write (member_rows h))
  pub nodes : left t (map node_write (node_rows k)) ≡ left t (map node_write (node_rows h))
  pub proposed : left t (proposal_writes k) ≡ left t (proposal_writes h)
  pub service : left t (write_of service_write (service_row k)) ≡ left t (write_of service_write (service_row h))
  pub shares : left t (map share_write (shares_given k)) ≡ left t (map share_write (shares_given h))

same_append : (t : Touched) (xs ys us vs : List Write) → left t xs ≡ left t us → left t ys ≡ left t vs → left t (xs ++ ys) ≡ left t (us ++ vs)
same_append t xs ys us vs one two = left-append t xs ys ∙ ap₂ (λ (a b : List Write). a ++ b) one two ∙ sym (left-append t us vs)

same_parts : (t : Touched) (h k : History) → SameParts t h k → left t (all_rows k) ≡ left t (all_rows h)
unfolding all_rows
same_parts t h k same =
    same_append t _ (map share_write (shares_given k)) _ (map share_write (shares_given h)) (
    same_append t _ (write_of service_write (service_row k)) _ (write_of service_write (service_row h)) (
    same_append t _ (proposal_writes k) _ (proposal_writes h) (
    same_append t _ (map node_write (node_rows k)) _ (map node_write (node_rows h)) (
    same_append t _ (map member_write (member_rows k)) _ (map member_write (member_rows h)) (
    same_append t (rule_writes_of (constitution k)) (write_of dealing_write (dealing k)) (rule_writes_of (constitution h)) (write_of dealing_write (dealing h)) same.rules same.dealt)
    same.members) same.nodes) same.proposed) same.service) same.shares

-- ---- a request after a history

abbrev NoShare : Option Share → Type 0
NoShare o = o ≡ None

nothing_about : (cs : List Change) → are_any cs ≡ false → cs ≡ []
nothing_about [] is = refl
nothing_about (c ∷ cs) is = absurd (cc)

-- where it doesn't change more it brings nothing about, and gives no share
quiet_changes : (h : History) (r : Recorded) → changes_more h r ≡ false → (with_request h r).changes ≡ h.changes
unfolding changes_more
quiet_changes h r is =
    changes_with h r
    ∙ ap (λ (cs : List Change). h.changes ++ map (changed_at r.seqno) cs) (nothing_about (changes_of h r) (or_parts (are_any (changes_of h r)) (is_some (share_in r.request)) is).0)
    ∙ append-nil h.changes

no_share : (h : History) (r : Recorded) → changes_more h r ≡ false → share_in r.request ≡ None
unfolding changes_more
no_share h r is = go (share_in r.request) (or_parts (are_any (changes_of h r)) (is_some (share_in r.request)) is).1
  where
    go : (o : Option Share) → is_some o ≡ false → o ≡ None
    go None e = refl
    go (Some s) e = absurd (cc)

-- a request that brings nothing about records no node but one that it names
names_recorded : (h : History) (given : List Answered) (seqno : ℕ) (q : GovernanceRequest) → are_any (request_changes h given seqno q) ≡ false →
    list_all (λ (n : RecordedNode). is_id_of (node_named q) n.id) (nodes_recorded seqno q) ≡ true
names_recorded h given seqno (requests.Genesis g) quiet = absurd (cc)
names_recorded h given seqno (requests.Recover x) quiet = absurd (cc)
names_recorded h given seqno (requests.Join n) quiet = and_from (is_id_of (Some (node_id n)) (node_id n)) true ((bytes_decides (node_id n) (node_id n)).1 refl) refl
names_recorded h given seqno (requests.Mark id) quiet = refl
names_recorded h given seqno (requests.Member m) quiet = refl

module _ (h : History) (r : Recorded) where
  abbrev after : History
  after = with_request h r

  abbrev t : Touched
  t = touched_by h r

  same_proposals : left t (proposal_writes after) ≡ left t (proposal_writes h)
  same_proposals = proposals_left h after r (carried_with h r) (requests_with h r) t (changes_more h r) (map (changed_at r.seqno) (changes_of h r)) (changes_with h r) (quiet_changes h r) refl

  changes_more_parts : changes_more h r ≡ true → SameParts t h after
  changes_more_parts is_more = record {
    rules = all_rules t is_more (constitution after) ∙ sym (all_rules t is_more (constitution h));
    dealt = all_one t is_more dealing_write (λ d. touched_dealing t _ _ ∙ is_more) (dealing after) ∙ sym (all_one t is_more dealing_write (λ d. touched_dealing t _ _ ∙ is_more) (dealing h));
    members = all_made t is_more member_write (λ m. touched_member t _ _ ∙ or_left (changes_more h r) _ is_more) (member_rows after) ∙ sym (all_made t is_more member_write (λ m. touched_member t _ _ ∙ or_left (changes_more h r) _ is_more) (member_rows h));
    nodes = all_made t is_more node_write (λ n. touched_node t _ _ ∙ or_left (changes_more h r) _ is_more) (node_rows after) ∙ sym (all_made t is_more node_write (λ n. touched_node t _ _ ∙ or_left (changes_more h r) _ is_more) (node_rows h));
    proposed = same_proposals;
    service = all_one t is_more service_write (λ s. touched_service t _ _ ∙ is_more) (service_row after) ∙ sym (all_one t is_more service_write (λ s. touched_service t _ _ ∙ is_more) (service_row h));
    shares = all_made t is_more share_write (λ s. touched_share t _ _ ∙ is_more) (shares_given after) ∙ sym (all_made t is_more share_write (λ s. touched_share t _ _ ∙ is_more) (shares_given h));
  }

  module _ (calm : changes_more h r ≡ false) where
    quiet : (after).changes ≡ h.changes
    quiet = quiet_changes h r calm

    same_constitution : constitution after ≡ constitution h
    unfolding constitution
    same_constitution = ap (last_set sets_rules) quiet

    same_dealing : dealing after ≡ dealing h
    unfolding dealing
    same_dealing = ap (last_set sets_dealing) quiet

    same_service : service_row after ≡ service_row h
    unfolding service_row service_state is_recovered identity
    same_service = ap (λ (cs : List Changed). service_row (record { carried = nothing; requests = []; changes = cs })) quiet

    same_clearing : last_clearing after ≡ last_clearing h
    unfolding last_clearing
    same_clearing = ap (λ (cs : List Changed). last_clearing (record { carried = nothing; requests = []; changes = cs })) quiet

    same_given : given after ≡ given h
    unfolding given with_request
    same_given =
        let told : Recorded → Option GivenShare = λ (x : Recorded). given_in x.seqno x.request in
        ap (λ (gs : List GivenShare). h.carried.shares ++ gs)
        (filter_map-append told h.requests (r ∷ [])
        ∙ ap (λ (o : Option Share). filter_map told h.requests ++ cons_option (option_map (given_share r.seqno) o) []) (no_share h r calm)
        ∙ append-nil (filter_map told h.requests))

    same_shares : shares_given after ≡ shares_given h
    unfolding shares_given
    same_shares = ap₂ (λ (n : ℕ) (gs : List GivenShare). filter_map (given_after n) gs) same_clearing same_given

    nodes_named : list_all (λ (n : RecordedNode). touches_node t n.id) (nodes_recorded r.seqno r.request) ≡ true
    unfolding changes_more changes_of
    nodes_named =
        go (nodes_recorded r.seqno r.request) (names_recorded h (answers_with h r.request) r.seqno r.request (or_parts (are_any (changes_of h r)) (is_some (share_in r.request)) calm).0)
      where
        go : (ns : List RecordedNode) → list_all (λ (n : RecordedNode). is_id_of (node_named r.request) n.id) ns ≡ true → list_all (λ (n : RecordedNode). touches_node t n.id) ns ≡ true
        go [] all = refl
        go (n ∷ ns) all =
            let both = and_parts (is_id_of (node_named r.request) n.id) (list_all (λ (m : RecordedNode). is_id_of (node_named r.request) m.id) ns) all in
            and_from (touches_node t n.id) (list_all (λ (m : RecordedNode). touches_node t m.id) ns) (or_right (changes_more h r) (is_id_of (node_named r.request) n.id) both.0) (go ns both.1)

    quiet_parts : SameParts t h after
    quiet_parts = record {
      rules = ap (λ (o : Option (List Rule)). left t (rule_writes_of o)) same_constitution;
      dealt = ap (λ o. left t (write_of dealing_write o)) same_dealing;
      members = members_left h after r (carried_with h r) (requests_with h r) t quiet refl;
      nodes = nodes_left h after r (carried_with h r) (requests_with h r) t quiet refl (nodes_recorded r.seqno r.request) (nodes_after h r) nodes_named;
      proposed = same_proposals;
      service = ap (λ o. left t (write_of service_write o)) same_service;
      shares = ap (λ (ss : List Share). left t (map share_write ss)) same_shares;
    }

  -- the rows that a request doesn't touch are the same after it
  pub untouched : left t (all_rows after) ≡ left t (all_rows h)
  untouched = go (changes_more h r) refl
    where
      go : (b : Bool) → changes_more h r ≡ b → left t (all_rows after) ≡ left t (all_rows h)
      go true is = same_parts t h after (changes_more_parts is)
      go false is = same_parts t h after (quiet_parts is)

-- ---- the write set

asks_touched : (t : Touched) → AsksRow (is_touched t)
unfolding is_touched
asks_touched t w x name key = ap₂ (λ (m k : List ℕ). is_touched t (record { map = m; key = k; value = None })) name key

rows_are_rows : (h : History) → are_rows (write_set (all_rows h)) ≡ true
unfolding rows
rows_are_rows h = are_rows_rows h

selected_touched : (t : Touched) (ws : List Write) → filter (is_selected (selections.Touched t)) ws ≡ filter (is_touched t) ws
unfolding is_selected
selected_touched t ws = filter_agree (is_selected (selections.Touched t)) (is_touched t) (λ w. refl) ws

-- the write set of a request turns the rows that it touches into those after it
pub effect_touched : (h : History) (r : Recorded) →
    changes (write_set (filter (is_selected (selections.Touched (touched_by h r))) (all_rows h)))
    (write_set (filter (is_selected (selections.Touched (touched_by h r))) (all_rows (with_request h r))))
    ≡ changes (rows h) (rows (with_request h r))
unfolding rows
effect_touched h r =
    let k = with_request h r in
    let touched = touched_by h r in
    ap₂ (λ (xs ys : List Write). changes (write_set xs) (write_set ys)) (selected_touched touched (all_rows h)) (selected_touched touched (all_rows k))
    ∙ sym (changes_of_part (is_touched touched) (asks_touched touched) (all_rows h) (all_rows k) (rows_are_rows h) (rows_are_rows k) (sym (untouched h r)))

-- so what is told of a request that is recorded is its write set
pub reported_writes : (past next : History) (r : Recorded) (touched : Touched) (before writes : List Write) → touched ≡ touched_by past r →
    before ≡ write_set (filter (is_selected (selections.Touched touched)) (all_rows past)) → next ≡ with_request past r →
    writes ≡ changes before (write_set (filter (is_selected (selections.Touched touched)) (all_rows next))) → writes ≡ changes (rows past) (rows next)
reported_writes past next r touched before writes by old pushed reported =
    reported
    ∙ ap₂ (λ (xs : List Write) (h : History). changes xs (write_set (filter (is_selected (selections.Touched touched)) (all_rows h)))) old pushed
    ∙ ap
    (λ (x : Touched). changes (write_set (filter (is_selected (selections.Touched x)) (all_rows past))) (write_set (filter (is_selected (selections.Touched x)) (all_rows (with_request past r)))))
    by
    ∙ effect_touched past r
    ∙ ap (λ (h : History). changes (rows past) (rows h)) (sym pushed)

-- ---- whether a request changes more, by its changes at its seqno

any_brought : (seqno : ℕ) (cs : List Change) → not (length (map (changed_at seqno) cs) == 0) ≡ are_any cs
any_brought seqno [] = refl
any_brought seqno (c ∷ cs) = grind (arith, nat_tests)

-- it is, where there is a change
pub changes_more_by_change : (h : History) (r : Recorded) (brought : List Changed) (empty : Bool) → brought ≡ map (changed_at r.seqno) (changes_of h r) → empty ≡ (length brought == 0) →
    empty ≡ false → not empty ≡ changes_more h r
unfolding changes_more
changes_more_by_change h r brought empty are reports is =
    let any : are_any (changes_of h r) ≡ true =
    sym (any_brought r.seqno (changes_of h r)) ∙ ap (λ (cs : List Changed). not (length cs == 0)) (sym are) ∙ ap not (sym reports ∙ is) in
    ap not is ∙ sym (or_left (are_any (changes_of h r)) (is_some (share_in r.request)) any)

-- and where there is none, as it gives a share
pub changes_more_by_share : (h : History) (r : Recorded) (brought : List Changed) (empty gives : Bool) → brought ≡ map (changed_at r.seqno) (changes_of h r) → empty ≡ (length brought == 0) →
    empty ≡ true → gives ≡ is_some (share_in r.request) → gives ≡ changes_more h r
unfolding changes_more
changes_more_by_share h r brought empty gives are reports is share =
    let none : are_any (changes_of h r) ≡ false =
    sym (any_brought r.seqno (changes_of h r)) ∙ ap (λ (cs : List Changed). not (length cs == 0)) (sym are) ∙ ap not (sym reports ∙ is) in
    share ∙ sym (ap (λ (b : Bool). b || is_some (share_in r.request)) none)
