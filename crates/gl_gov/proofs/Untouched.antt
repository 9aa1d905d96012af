-- The rows that a request doesn't touch are the same after it, table by table.
use Rattle.std.proofs.Common.{◌≡◌, ◌⊎◌, inl, inr, ℕ, suc, List, [], ◌∷◌, ◌++◌, map, filter, filter_map, reverse, find, Option, None, Some, IfSome, is_some, Bool, true, false, not, ◌&&◌, ◌||◌, nat_eq, cond, slice_get, if◌then◌else◌, refl, sym, ◌∙◌, ap, ap₂, append-nil, append_assoc}
use Rattle.std.specs.List.{list_all, list_any, cons_option}
use Rattle.std.specs.Option.{option_to_list}
use Rattle.std.specs.Cmp.Lexicographic.{bytes_decides}
use Rattle.std.proofs.lemmas.Bool.{and_from, and_parts, and_left, and_right, or_parts, or_left, or_right, both_ways}
use Rattle.std.proofs.lemmas.List.{reverse-append, map-append}
use Rattle.std.proofs.lemmas.List.Elements.{filter-append, filter_map-append}
use Rattle.std.proofs.lemmas.List.Folds.{list_any-append}
use Rattle.gl_base.specs.Bytes.{same_bytes}
use Rattle.gl_vmaps.specs.LastWrite.{last_such}
use Rattle.gl_vmaps.specs.declared.write.Write.{Write}
use Rattle.gl_vmaps.proofs.TablesLaws.{same_bytes-symm}
use Rattle.gl_requests.specs.Encoding.{proposal_id}
use Rattle.gl_requests.specs.declared.genesis.NewMember.{NewMember}
use Rattle.gl_requests.specs.declared.request.MemberAct.{MemberAct}
use Rattle.gl_requests.specs.declared.request.MemberAct.TheVariants as acts
use Rattle.gl_requests.specs.declared.request.MemberRequest.{MemberRequest}
use Rattle.gl_requests.specs.declared.request.GovernanceRequest.{GovernanceRequest}
use Rattle.gl_requests.specs.declared.request.GovernanceRequest.TheVariants as requests
use Rattle.gl_gov_rules.specs.declared.change.Recorded.{Recorded}
use Rattle.gl_gov_rules.specs.declared.change.RecordedNode.{RecordedNode}
use Rattle.gl_gov_rules.specs.declared.change.Proposal.{Proposal}
use Rattle.gl_gov_rules.specs.declared.change.ProposalState.{ProposalState}
use Rattle.gl_gov_rules.specs.declared.change.Changed.{Changed}
use Rattle.gl_gov_rules.specs.declared.request_facts.Mark.{Mark}
use Rattle.gl_gov_rules.specs.declared.refusal.MemberStatus.{MemberStatus}
use Rattle.gl_gov_rules.specs.declared.refusal.MemberStatus.TheVariants as member_statuses
use Rattle.gl_gov_rules.specs.declared.refusal.NodeStatus.{NodeStatus}
use Rattle.gl_gov_rules.specs.declared.refusal.NodeStatus.TheVariants as node_statuses
use Rattle.gl_gov_rules.specs.declared.row.Vote.{Vote}
use Rattle.gl_gov_rules.specs.declared.row.MemberRow.{MemberRow}
use Rattle.gl_gov_rules.specs.declared.row.NodeRow.{NodeRow}
use Rattle.gl_gov_rules.specs.declared.row.ProposalRow.{ProposalRow}
use Rattle.gl_gov_rules.specs.declared.carried.Answered.{Answered}
use Rattle.gl_gov_rules.specs.declared.carried.Carried.{Carried}
use Rattle.gl_gov_rules.specs.History.{History, seqno_of}
use Rattle.gl_gov_rules.specs.Members.{members, is_removed, is_by, is_ack, is_ack_by, is_signer, is_acked_by, has_acked, member_status, leaf_after_last, leaf_carried, next_leaf}
use Rattle.gl_gov_rules.specs.Nodes.{nodes, trusts, marks, retirement, is_marked, is_trust_applied, was_trusted, node_status}
use Rattle.gl_gov_rules.specs.Proposals.{proposal_in_act, proposal_in, proposals, state_settled, first_or_open, proposal_state, is_open_state, is_answer_on, is_ballot, answer_in, answers_of, is_answer, has_answered}
use Rattle.gl_gov_rules.specs.ProposalStatus.{named_in_act, proposal_named}
use Rattle.gl_gov_rules.specs.Rows.{member_row, member_rows, member_write, node_row, node_rows_from, node_rows, node_write, vote_of, member_numbers, votes, proposal_row, proposal_write, proposal_writes}
use Rattle.gl_gov_rules.proofs.HistoryIndex.{answers_any}
use Rattle.gl_gov_rules.proofs.Finding.{any_from, filter_has, map_place}
use Rattle.gl_gov.specs.declared.touched.Touched.{Touched}
use Rattle.gl_gov.specs.Touched.{signer, node_named, is_open, open_ids, ids_touched, is_key_of, is_id_of, touches_node, touches_proposal, is_touched}
use Rattle.gl_gov.proofs.Selected.{touched_member, touched_node, touched_proposal}

-- ---- lists

module _ {A : Type 0} (p : A → Bool) where
  -- one more that isn't such changes neither the last that is such nor whether there is any
  pub last_such_push : (xs : List A) (x : A) → p x ≡ false → last_such p (xs ++ x ∷ []) ≡ last_such p xs
  last_such_push xs x is = ap (find p) (reverse-append xs (x ∷ [])) ∙ ap (λ (b : Bool). cond b (Some x) (find p (reverse xs))) is

  pub any_push : (xs : List A) (x : A) → p x ≡ false → list_any p (xs ++ x ∷ []) ≡ list_any p xs
  any_push xs x is = list_any-append p xs (x ∷ []) ∙ ap (λ (b : Bool). list_any p xs || (b || false)) is ∙ go (list_any p xs)
    where
      go : (b : Bool) → (b || false) ≡ b
      go true = refl
      go false = refl

-- what gives the same of each gives the same of all
same_found : {A B : Type 0} (f g : A → Option B) → ((x : A) → f x ≡ g x) → (xs : List A) → filter_map f xs ≡ filter_map g xs
same_found f g same [] = refl
same_found f g same (x ∷ xs) = ap₂ cons_option (same x) (same_found f g same xs)

and_true : (b : Bool) → (b && true) ≡ b
and_true true = refl
and_true false = refl

-- ---- what is left of writes without those that are touched

abbrev pub left : Touched → List Write → List Write
left t ws = filter (λ (w : Write). not (is_touched t w)) ws

pub left-append : (t : Touched) (xs ys : List Write) → left t (xs ++ ys) ≡ left t xs ++ left t ys
left-append t xs ys = filter-append (λ (w : Write). not (is_touched t w)) xs ys

-- two writes that are one, or both touched
abbrev pub Alike : Touched → Write → Write → Type 0
Alike t w v = (w ≡ v) ⊎ ((is_touched t w ≡ true) × (is_touched t v ≡ true))

pub left-cons : (t : Touched) (w v : Write) (ws vs : List Write) → Alike t w v → left t ws ≡ left t vs → left t (w ∷ ws) ≡ left t (v ∷ vs)
left-cons t w v ws vs (inl one) same = ap₂ (λ (x : Write) (xs : List Write). cond (not (is_touched t x)) (x ∷ xs) xs) one same
left-cons t w v ws vs (inr both) same =
    ap (λ (b : Bool). cond (not b) (w ∷ left t ws) (left t ws)) both.0 ∙ same ∙ sym (ap (λ (b : Bool). cond (not b) (v ∷ left t vs) (left t vs)) both.1)

pub left-map : {A : Type 0} (t : Touched) (f g : A → Write) (xs : List A) → ((i : ℕ) (x : A) → slice_get xs i ≡ Some x → Alike t (f x) (g x)) → left t (map f xs) ≡ left t (map g xs)
left-map t f g [] each = refl
left-map t f g (x ∷ xs) each = left-cons t (f x) (g x) (map f xs) (map g xs) (each 0 x refl) (left-map t f g xs (λ i y at. each (suc i) y at))

-- where all are touched none is left
pub left_none : (t : Touched) (ws : List Write) → list_all (is_touched t) ws ≡ true → left t ws ≡ []
left_none t [] all = refl
left_none t (w ∷ ws) all =
    let both = and_parts (is_touched t w) (list_all (is_touched t) ws) all in
    ap (λ (b : Bool). cond (not b) (w ∷ left t ws) (left t ws)) both.0 ∙ left_none t ws both.1

-- ---- a request after a history

-- the history `k` is `h` with one more request, and more changes
module _ (h k : History) (r : Recorded) (same : k.carried ≡ h.carried) (asked : k.requests ≡ h.requests ++ r ∷ []) where
  -- ---- members

  signed_key : (number : ℕ) (q : GovernanceRequest) → is_key_of (signer q) (number ∷ []) ≡ is_by number q
  signed_key number (requests.Member m) = and_true (nat_eq m.member number)
  signed_key number (requests.Genesis g) = refl
  signed_key number (requests.Recover x) = refl
  signed_key number (requests.Join n) = refl
  signed_key number (requests.Mark id) = refl

  no_ack : (number : ℕ) (q : GovernanceRequest) → is_by number q ≡ false → is_ack_by number q ≡ false
  no_ack number (requests.Member m) is = and_left (nat_eq m.member number) (is_ack m.act) is
  no_ack number (requests.Genesis g) is = refl
  no_ack number (requests.Recover x) is = refl
  no_ack number (requests.Join n) is = refl
  no_ack number (requests.Mark id) is = refl

  module _ (quiet : k.changes ≡ h.changes) where
    same_removed : (number : ℕ) → is_removed k number ≡ is_removed h number
    unfolding is_removed
    same_removed number = ap (list_any _) quiet

    same_acked : (number : ℕ) → is_by number r.request ≡ false → has_acked k number ≡ has_acked h number
    unfolding has_acked
    same_acked number is =
        let p : Recorded → Bool = λ (x : Recorded). is_ack_by number x.request in
        ap₂ (λ (c : Carried) (b : Bool). list_any (is_acked_by number) c.signed || b) same (ap (list_any p) asked ∙ any_push p h.requests r (no_ack number r.request is))

    same_leaf : (number : ℕ) → is_by number r.request ≡ false → next_leaf k number ≡ next_leaf h number
    unfolding next_leaf
    same_leaf number is =
        let p : Recorded → Bool = λ (x : Recorded). is_by number x.request in
        ap₂ (λ (c : Carried) (o : Option Recorded). leaf_after_last (leaf_carried (find (is_signer number) c.signed)) o) same (ap (last_such p) asked ∙ last_such_push p h.requests r is)

    same_status : (number : ℕ) → is_by number r.request ≡ false → member_status k number ≡ member_status h number
    unfolding member_status
    same_status number is =
        ap₂ (λ (a b : Bool). if a then member_statuses.Removed else (if b then member_statuses.Active else member_statuses.Accepted)) (same_removed number) (same_acked number is)

    same_member_row : (m : NewMember) → is_by m.number r.request ≡ false → member_row k m ≡ member_row h m
    unfolding member_row
    same_member_row m is =
        ap₂ (λ (s : MemberStatus) (leaf : ℕ). the_member_row m s leaf) (same_status m.number is) (same_leaf m.number is)
      where
        the_member_row : NewMember → MemberStatus → ℕ → MemberRow
        the_member_row of s leaf = record { number = of.number; status = s; key = of.key; next_leaf = leaf }

  module _ (t : Touched) (quiet : k.changes ≡ h.changes) (signed : t.member ≡ signer r.request) where
    member_touched : (x : History) (m : NewMember) → is_by m.number r.request ≡ true → is_touched t (member_write (member_row x m)) ≡ true
    unfolding member_row
    member_touched x m is =
        let key : is_key_of t.member (m.number ∷ []) ≡ true = ap (λ (o : Option ℕ). is_key_of o (m.number ∷ [])) signed ∙ signed_key m.number r.request ∙ is in
        touched_member t (m.number ∷ []) _ ∙ or_right t.changes_more (is_key_of t.member (m.number ∷ [])) key

    member_alike : (m : NewMember) → Alike t (member_write (member_row k m)) (member_write (member_row h m))
    member_alike m = go (is_by m.number r.request) refl
      where
        go : (b : Bool) → is_by m.number r.request ≡ b → Alike t (member_write (member_row k m)) (member_write (member_row h m))
        go true is = inr (member_touched k m is, member_touched h m is)
        go false is = inl (ap member_write (same_member_row quiet m is))

    same_members : members k ≡ members h
    unfolding members
    same_members = ap (filter_map _) quiet

    -- the rows of members, where a request brings nothing about
    pub members_left : left t (map member_write (member_rows k)) ≡ left t (map member_write (member_rows h))
    unfolding member_rows
    members_left =
        ap (λ (ms : List NewMember). left t (map member_write (map (member_row k) ms))) same_members
        ∙ made (members h)
      where
        made : (ms : List NewMember) → left t (map member_write (map (member_row k) ms)) ≡ left t (map member_write (map (member_row h) ms))
        made [] = refl
        made (m ∷ ms) =
            left-cons t (member_write (member_row k m)) (member_write (member_row h m)) (map member_write (map (member_row k) ms)) (map member_write (map (member_row h) ms)) (member_alike m) (made ms)

  -- ---- nodes

  unmarked : (id : List ℕ) (q : GovernanceRequest) → is_id_of (node_named q) id ≡ false → marks id q ≡ false
  unmarked id (requests.Member m) is = refl
  unmarked id (requests.Genesis g) is = refl
  unmarked id (requests.Recover x) is = refl
  unmarked id (requests.Join n) is = refl
  unmarked id (requests.Mark other) is = is

  module _ (quiet : k.changes ≡ h.changes) where
    same_marked : (id : List ℕ) → is_id_of (node_named r.request) id ≡ false → is_marked k id ≡ is_marked h id
    unfolding is_marked
    same_marked id is =
        let p : Recorded → Bool = λ (x : Recorded). marks id x.request in
        ap₂ (λ (c : Carried) (b : Bool). list_any (λ (m : Mark). same_bytes id m.id) c.marks || b) same (ap (list_any p) asked ∙ any_push p h.requests r (unmarked id r.request is))

    same_retirement : (n : RecordedNode) → retirement k n ≡ retirement h n
    unfolding retirement
    same_retirement n = ap (find _) quiet

    same_trust : (n : RecordedNode) → was_trusted k n ≡ was_trusted h n
    unfolding was_trusted is_trust_applied
    same_trust n = ap (λ (cs : List Changed). n.is_founding || list_any (λ (c : Changed). trusts n.id c.change) cs) quiet

    same_node_status : (n : RecordedNode) → is_id_of (node_named r.request) n.id ≡ false → node_status k n ≡ node_status h n
    unfolding node_status
    same_node_status n is =
        ap₂ (λ (a : Bool) (b : Bool × Bool). if a then node_statuses.Marked else (if b.0 then node_statuses.Retired else (if b.1 then node_statuses.Trusted else node_statuses.Pending)))
        (same_marked n.id is) (ap₂ (λ (a b : Bool). (a, b)) (ap is_some (same_retirement n)) (same_trust n))

    same_node_row : (order : ℕ) (n : RecordedNode) → is_id_of (node_named r.request) n.id ≡ false → node_row k order n ≡ node_row h order n
    unfolding node_row
    same_node_row order n is = ap₂ (λ (s : NodeStatus) (removal : ℕ). the_node_row s removal) (same_node_status n is) (ap seqno_of (same_retirement n))
      where
        the_node_row : NodeStatus → ℕ → NodeRow
        the_node_row s removal = record { id = n.id; order = order; status = s; key = n.node.key; endorsement = n.node.endorsement; removal = removal }

  node_touched : (t : Touched) (x : History) (order : ℕ) (n : RecordedNode) → touches_node t n.id ≡ true → is_touched t (node_write (node_row x order n)) ≡ true
  unfolding node_row
  node_touched t x order n is = touched_node t n.id _ ∙ is

  all_nodes_touched : (t : Touched) (x : History) (order : ℕ) (ns : List RecordedNode) → list_all (λ (n : RecordedNode). touches_node t n.id) ns ≡ true →
      list_all (is_touched t) (map node_write (node_rows_from x order ns)) ≡ true
  all_nodes_touched t x order [] all = refl
  all_nodes_touched t x order (n ∷ ns) all =
      let both = and_parts (touches_node t n.id) (list_all (λ (m : RecordedNode). touches_node t m.id) ns) all in
      and_from (is_touched t (node_write (node_row x order n))) (list_all (is_touched t) (map node_write (node_rows_from x (suc order) ns))) (node_touched t x order n both.0) (all_nodes_touched t x (suc order) ns both.1)

  module _ (t : Touched) (quiet : k.changes ≡ h.changes) (named : t.node ≡ node_named r.request) where
    node_alike : (order : ℕ) (n : RecordedNode) → Alike t (node_write (node_row k order n)) (node_write (node_row h order n))
    node_alike order n = go (is_id_of (node_named r.request) n.id) refl
      where
        go : (b : Bool) → is_id_of (node_named r.request) n.id ≡ b → Alike t (node_write (node_row k order n)) (node_write (node_row h order n))
        go true is =
            let touches = or_right t.changes_more (is_id_of t.node n.id) (ap (λ (o : Option (List ℕ)). is_id_of o n.id) named ∙ is) in
            inr (node_touched t k order n touches, node_touched t h order n touches)
        go false is = inl (ap node_write (same_node_row quiet order n is))

    -- the rows of nodes, where a request brings nothing about, and names those that it records
    pub nodes_left : (more : List RecordedNode) → nodes k ≡ nodes h ++ more → list_all (λ (n : RecordedNode). touches_node t n.id) more ≡ true →
        left t (map node_write (node_rows k)) ≡ left t (map node_write (node_rows h))
    unfolding node_rows
    nodes_left more come all = ap (λ (ns : List RecordedNode). left t (map node_write (node_rows_from k 1 ns))) come ∙ made 1 (nodes h)
      where
        made : (order : ℕ) (ns : List RecordedNode) → left t (map node_write (node_rows_from k order (ns ++ more))) ≡ left t (map node_write (node_rows_from h order ns))
        made order [] = left_none t (map node_write (node_rows_from k order more)) (all_nodes_touched t k order more all)
        made order (n ∷ ns) =
            left-cons t (node_write (node_row k order n)) (node_write (node_row h order n)) (map node_write (node_rows_from k (suc order) (ns ++ more))) (map node_write (node_rows_from h (suc order) ns))
            (node_alike order n) (made (suc order) ns)

  -- ---- proposals

  -- the request names no such proposal
  abbrev IsUnnamed : List ℕ → Type 0
  IsUnnamed id = list_any (same_bytes id) (option_to_list (proposal_named r.request)) ≡ false

  no_answer : (id : List ℕ) (m : MemberRequest) (act : MemberAct) (agrees : Bool) → list_any (same_bytes id) (option_to_list (named_in_act m act)) ≡ false → is_answer_on id agrees act ≡ false
  no_answer id m acts.Ack agrees is = refl
  no_answer id m (acts.Propose list) agrees is = refl
  no_answer id m (acts.Ballot on given) agrees is =
      and_left (same_bytes on id) _ (same_bytes-symm on id ∙ (or_parts (same_bytes id on) false is).0)
  no_answer id m (acts.Withdraw on) agrees is = refl
  no_answer id m (acts.Share share) agrees is = refl

  no_ballot : (id : List ℕ) (number : ℕ) (agrees : Bool) (q : GovernanceRequest) → list_any (same_bytes id) (option_to_list (proposal_named q)) ≡ false → is_ballot id number agrees q ≡ false
  no_ballot id number agrees (requests.Member m) is = and_right (nat_eq m.member number) (is_answer_on id agrees m.act) (no_answer id m m.act agrees is)
  no_ballot id number agrees (requests.Genesis g) is = refl
  no_ballot id number agrees (requests.Recover x) is = refl
  no_ballot id number agrees (requests.Join n) is = refl
  no_ballot id number agrees (requests.Mark other) is = refl

  same_answered : (id : List ℕ) (agrees : Bool) (number : ℕ) → IsUnnamed id → has_answered (answers_of k) id agrees number ≡ has_answered (answers_of h) id agrees number
  unfolding has_answered answers_of
  same_answered id agrees number is =
      let p : Recorded → Bool = λ (x : Recorded). is_ballot id number agrees x.request in
      let is_its = is_answer id agrees number in
      let told : List Recorded → List Answered = λ (rs : List Recorded). filter_map (λ (x : Recorded). answer_in x.request) rs in
      ap₂ (λ (c : Carried) (rs : List Recorded). list_any is_its (c.ballots ++ told rs)) same asked
      ∙ list_any-append is_its h.carried.ballots (told (h.requests ++ r ∷ []))
      ∙ ap (λ (b : Bool). list_any is_its h.carried.ballots || b)
      (sym (answers_any (h.requests ++ r ∷ []) id agrees number) ∙ any_push p h.requests r (no_ballot id number agrees r.request is) ∙ answers_any h.requests id agrees number)
      ∙ sym (list_any-append is_its h.carried.ballots (told h.requests))

  same_vote : (id : List ℕ) → IsUnnamed id → (number : ℕ) → vote_of (answers_of k) id number ≡ vote_of (answers_of h) id number
  same_vote id is number =
      ap₂ (λ (a b : Bool). if a then Some (the_vote true) else (if b then Some (the_vote false) else None)) (same_answered id true number is) (same_answered id false number is)
    where
      the_vote : Bool → Vote
      the_vote agrees = record { member = number; agrees = agrees }

  same_votes : (id : List ℕ) → IsUnnamed id → votes (answers_of k) id ≡ votes (answers_of h) id
  unfolding votes
  same_votes id is = same_found (vote_of (answers_of k) id) (vote_of (answers_of h) id) (same_vote id is) member_numbers

  same_proposal_row : (p : Proposal) → proposal_state k p ≡ proposal_state h p → IsUnnamed p.id → proposal_row k p ≡ proposal_row h p
  unfolding proposal_row
  same_proposal_row p state is = ap₂ (λ (s : ProposalState) (vs : List Vote). the_proposal_row s vs) state (same_votes p.id is)
    where
      the_proposal_row : ProposalState → List Vote → ProposalRow
      the_proposal_row s vs = record { state = s; proposer = p.proposer; actions = p.actions; ballots = vs }

  -- the first change that settles a proposal stays the first
  settled_stays : (more : List Changed) → k.changes ≡ h.changes ++ more → (p : Proposal) → is_open h p ≡ false → proposal_state k p ≡ proposal_state h p
  unfolding proposal_state
  settled_stays more brought p settled =
      let f : Changed → Option ProposalState = λ (c : Changed). state_settled p c.seqno c.change in
      ap (λ (cs : List Changed). first_or_open (filter_map f cs)) brought ∙ ap first_or_open (filter_map-append f h.changes more) ∙ go (filter_map f h.changes) (filter_map f more) settled
    where
      go : (xs ys : List ProposalState) → is_open_state (first_or_open xs) ≡ false → first_or_open (xs ++ ys) ≡ first_or_open xs
      go [] ys is = absurd (cc)
      go (x ∷ xs) ys is = refl

  state_quiet : k.changes ≡ h.changes → (p : Proposal) → proposal_state k p ≡ proposal_state h p
  unfolding proposal_state
  state_quiet quiet p = ap (λ (cs : List Changed). first_or_open (filter_map (λ (c : Changed). state_settled p c.seqno c.change) cs)) quiet

  -- an open proposal has its identifier among those of the open ones
  open_named : (i : ℕ) (p : Proposal) → slice_get (proposals h) i ≡ Some p → is_open h p ≡ true → list_any (same_bytes p.id) (open_ids h) ≡ true
  open_named i p at is =
      let kept = filter_has (is_open h) (proposals h) i p at is in
      any_from (same_bytes p.id) (open_ids h) kept.0 p.id (map_place (λ (q : Proposal). q.id) (filter (is_open h) (proposals h)) kept.0 p kept.1) ((bytes_decides p.id p.id).1 refl)

  settled_unless_named : (i : ℕ) (p : Proposal) → slice_get (proposals h) i ≡ Some p → list_any (same_bytes p.id) (open_ids h) ≡ false → is_open h p ≡ false
  settled_unless_named i p at is = go (is_open h p) refl
    where
      go : (b : Bool) → is_open h p ≡ b → b ≡ false
      go false e = refl
      go true e = absurd (both_ways (list_any (same_bytes p.id) (open_ids h)) is (open_named i p at e))

  -- where a request doesn't change more it brings nothing about
  state_same : (is_more : Bool) (more : List Changed) → k.changes ≡ h.changes ++ more → (is_more ≡ false → k.changes ≡ h.changes) → (i : ℕ) (p : Proposal) → slice_get (proposals h) i ≡ Some p →
      list_any (same_bytes p.id) (if is_more then open_ids h else []) ≡ false → proposal_state k p ≡ proposal_state h p
  state_same true more brought quiet i p at is = settled_stays more brought p (settled_unless_named i p at is)
  state_same false more brought quiet i p at is = state_quiet (quiet refl) p

  module _ (t : Touched) (is_more : Bool) (more : List Changed) (brought : k.changes ≡ h.changes ++ more) (quiet : is_more ≡ false → k.changes ≡ h.changes)
      (names : t.proposals ≡ ids_touched is_more h r.request) where
    proposal_touched : (x : History) (p : Proposal) → touches_proposal t p.id ≡ true → is_touched t (proposal_write p.id (proposal_row x p)) ≡ true
    proposal_touched x p is = touched_proposal t p.id _ ∙ is

    proposal_alike : (i : ℕ) (p : Proposal) → slice_get (proposals h) i ≡ Some p → Alike t (proposal_write p.id (proposal_row k p)) (proposal_write p.id (proposal_row h p))
    proposal_alike i p at = go (touches_proposal t p.id) refl
      where
        go : (b : Bool) → touches_proposal t p.id ≡ b → Alike t (proposal_write p.id (proposal_row k p)) (proposal_write p.id (proposal_row h p))
        go true is = inr (proposal_touched k p is, proposal_touched h p is)
        go false is =
            let own : List (List ℕ) = option_to_list (proposal_named r.request) in
            let others : List (List ℕ) = if is_more then open_ids h else [] in
            let all = sym (list_any-append (same_bytes p.id) own others) ∙ ap (list_any (same_bytes p.id)) (sym names) ∙ is in
            let both = or_parts (list_any (same_bytes p.id) own) (list_any (same_bytes p.id) others) all in
            inl (ap (proposal_write p.id) (same_proposal_row p (state_same is_more more brought quiet i p at both.1) both.0))

    -- the proposal that a request makes is one that it names
    made_named : (m : MemberRequest) (act : MemberAct) (seqno : ℕ) → IfSome (proposal_in_act seqno m act) (λ (p : Proposal). list_any (same_bytes p.id) (option_to_list (named_in_act m act)) ≡ true)
    made_named m acts.Ack seqno = tt
    made_named m (acts.Propose list) seqno = or_left (same_bytes (proposal_id m) (proposal_id m)) false ((bytes_decides (proposal_id m) (proposal_id m)).1 refl)
    made_named m (acts.Ballot on given) seqno = tt
    made_named m (acts.Withdraw on) seqno = tt
    made_named m (acts.Share share) seqno = tt

    new_named : (q : GovernanceRequest) (seqno : ℕ) → IfSome (proposal_in seqno q) (λ (p : Proposal). list_any (same_bytes p.id) (option_to_list (proposal_named q)) ≡ true)
    new_named (requests.Member m) seqno = made_named m m.act seqno
    new_named (requests.Genesis g) seqno = tt
    new_named (requests.Recover x) seqno = tt
    new_named (requests.Join n) seqno = tt
    new_named (requests.Mark other) seqno = tt

    abbrev write_in : History → Proposal → Write
    write_in x p = proposal_write p.id (proposal_row x p)

    none_new : (o : Option Proposal) → IfSome o (λ (p : Proposal). list_any (same_bytes p.id) (option_to_list (proposal_named r.request)) ≡ true) → left t (map (write_in k) (cons_option o [])) ≡ []
    none_new None named = refl
    none_new (Some p) named =
        let own : List (List ℕ) = option_to_list (proposal_named r.request) in
        let others : List (List ℕ) = if is_more then open_ids h else [] in
        let touches = ap (list_any (same_bytes p.id)) names ∙ list_any-append (same_bytes p.id) own others ∙ or_left (list_any (same_bytes p.id) own) (list_any (same_bytes p.id) others) named in
        left_none t (write_in k p ∷ []) (and_from (is_touched t (write_in k p)) true (proposal_touched k p touches) refl)

    more_proposals : proposals k ≡ proposals h ++ cons_option (proposal_in r.seqno r.request) []
    unfolding proposals
    more_proposals =
        let f : Recorded → Option Proposal = λ (x : Recorded). proposal_in x.seqno x.request in
        ap₂ (λ (c : Carried) (rs : List Recorded). c.proposals ++ filter_map f rs) same asked
        ∙ ap (λ (ps : List Proposal). h.carried.proposals ++ ps) (filter_map-append f h.requests (r ∷ []))
        ∙ sym (append_assoc h.carried.proposals (filter_map f h.requests) (filter_map f (r ∷ [])))

    -- the rows of proposals that the request neither names nor finds open where it changes more
    pub proposals_left : left t (proposal_writes k) ≡ left t (proposal_writes h)
    unfolding proposal_writes
    proposals_left =
        let new : List Proposal = cons_option (proposal_in r.seqno r.request) [] in
        ap (λ (ps : List Proposal). left t (map (write_in k) ps)) more_proposals
        ∙ ap (left t) (map-append (write_in k) (proposals h) new)
        ∙ left-append t (map (write_in k) (proposals h)) (map (write_in k) new)
        ∙ ap₂ (λ (xs ys : List Write). xs ++ ys) (left-map t (write_in k) (write_in h) (proposals h) proposal_alike) (none_new (proposal_in r.seqno r.request) (new_named r.request r.seqno))
        ∙ append-nil (left t (map (write_in h) (proposals h)))
