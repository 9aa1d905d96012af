-- Histories that are alike stay so with the same request after.
use Rattle.std.proofs.Common.{◌≡◌, ℕ, ◌-◌, ◌<◌, ◌≤◌, List, [], ◌∷◌, ◌++◌, map, Option, Some, None, is_some, IfSome, Bool, true, false, ◌&&◌, ◌||◌, cond, find, filter_map, flat_map, nat_le, nat_lt, arith, refl, sym, ◌∙◌, ap, subst₂, append-nil, append_assoc}
use Rattle.std.specs.List.{list_any, AllByRecursion, cons_option}
use Rattle.std.specs.Option.{option_or, option_map, option_to_list}
use Rattle.std.proofs.lemmas.List.{map-append}
use Rattle.std.proofs.lemmas.List.Folds.{find-append, list_any-append}
use Rattle.std.proofs.lemmas.List.Elements.{filter_map-append}
use Rattle.std.proofs.lemmas.Grind.{flat_map-append}
use Rattle.gl_base.specs.Bytes.{same_bytes}
use Rattle.gl_vmaps.specs.LastWrite.{last_such}
use Rattle.gl_shares.specs.Joining.{joined}
use Rattle.gl_shares.specs.declared.share.Share.{Share}
use Rattle.std.proofs.lemmas.Bool.{and_parts}
use Rattle.std.proofs.lemmas.Bool.Decides.{nat_tests}
use Rattle.gl_requests.specs.Ranges.{is_member_number, is_act, is_signature_field, is_member_request, is_request}
use Rattle.gl_requests.specs.declared.request.MemberAct.{MemberAct}
use Rattle.gl_requests.specs.declared.request.MemberAct.TheVariants as acts
use Rattle.gl_requests.specs.declared.request.MemberRequest.{MemberRequest}
use Rattle.gl_requests.specs.declared.request.GovernanceRequest.{GovernanceRequest}
use Rattle.gl_requests.specs.declared.request.GovernanceRequest.TheVariants as requests
use Rattle.gl_gov_rules.specs.Service.{given_after}
use Rattle.gl_gov_rules.specs.Service.{given_share}
use Rattle.gl_gov_rules.specs.declared.request_facts.Mark.{Mark}
use Rattle.gl_gov_rules.specs.declared.change.Recorded.{Recorded}
use Rattle.gl_gov_rules.specs.declared.change.RecordedNode.{RecordedNode}
use Rattle.gl_gov_rules.specs.declared.change.Proposal.{Proposal}
use Rattle.gl_gov_rules.specs.declared.carried.Answered.{Answered}
use Rattle.gl_gov_rules.specs.History.{History}
use Rattle.gl_gov_rules.specs.Members.{members, is_removed, is_by, is_ack_by, is_acked_by, has_acked, leaf_after, leaf_after_last, leaf_carried, is_signer, next_leaf}
use Rattle.gl_gov_rules.specs.Nodes.{nodes, nodes_recorded, has_id, node, marks, retirement, is_marked, first_mark, mark, is_trust_applied, was_trusted}
use Rattle.gl_gov_rules.specs.Service.{constitution, dealing, identity, is_recovered, service_state, last_clearing, share_in, share_in_act, given, shares_given}
use Rattle.gl_gov_rules.specs.Proposals.{proposal_in, proposals, has_proposal_id, proposal, answer_in, answers_of, answers_with, is_answer, has_answered}
use Rattle.gl_gov_base.specs.SameBy.{SameBy}
use Rattle.gl_gov_base.specs.Alike.{NodeView, removed_at, node_view, proposal_view, is_view_of, is_up_to, of_member, AreByteShares, SameShares, Alike, with_asked, IsNew, given_by, shares_since}
use Rattle.gl_gov_base.proofs.SameLists.{map_alike, map_twice, last-append, same_append}
use Rattle.gl_gov_base.proofs.MoreChanges.{later_alike, or_map}
use Rattle.gl_gov_rules.proofs.Counting.{find_passes}

-- ---- members and answers

pub or_assoc : (a b c : Bool) → (a || (b || c)) ≡ ((a || b) || c)
or_assoc true b c = refl
or_assoc false b c = refl

pub or_none : (b : Bool) → (b || false) ≡ b
or_none true = refl
or_none false = refl

acked_more : (h : History) (r : Recorded) (n : ℕ) → has_acked (with_asked h r) n ≡ (has_acked h n || is_ack_by n r.request)
unfolding has_acked
acked_more h r n =
    let p : Recorded → Bool = λ (q : Recorded). is_ack_by n q.request in
    let c : Bool = list_any (is_acked_by n) h.carried.signed in
    ap (λ b. c || b) (list_any-append p h.requests (r ∷ []) ∙ ap (λ b. list_any p h.requests || b) (or_none (is_ack_by n r.request)))
    ∙ or_assoc c (list_any p h.requests) (is_ack_by n r.request)

leaf_more : (h : History) (r : Recorded) (n : ℕ) → next_leaf (with_asked h r) n ≡ cond (is_by n r.request) (leaf_after r.request) (next_leaf h n)
unfolding next_leaf
leaf_more h r n =
    let p : Recorded → Bool = λ (q : Recorded). is_by n q.request in
    let c : ℕ = leaf_carried (find (is_signer n) h.carried.signed) in
    ap (leaf_after_last c) (last-append p h.requests (r ∷ [])) ∙ by (is_by n r.request)
  where
    by : (b : Bool) → leaf_after_last (leaf_carried (find (is_signer n) h.carried.signed)) (option_or (cond b (Some r) None) (last_such (λ (q : Recorded). is_by n q.request) h.requests))
        ≡ cond b (leaf_after r.request) (leaf_after_last (leaf_carried (find (is_signer n) h.carried.signed)) (last_such (λ (q : Recorded). is_by n q.request) h.requests))
    by true = refl
    by false = refl

-- with one more element
kept_one : {A B : Type 0} (f : A → Option B) (xs : List A) (x : A) → filter_map f (xs ++ x ∷ []) ≡ filter_map f xs ++ option_to_list (f x)
kept_one {B = B} f xs x = filter_map-append f xs (x ∷ []) ∙ ap (λ ys. filter_map f xs ++ ys) (by (f x))
  where
    join : Option B → List B → List B
    join None ys = ys
    join (Some y) ys = y ∷ ys

    by : (o : Option B) → join o [] ≡ option_to_list o
    by None = refl
    by (Some y) = refl

pub answers_more : (h : History) (r : Recorded) → answers_of (with_asked h r) ≡ answers_with h r.request
unfolding answers_of
answers_more h r =
    let f : Recorded → Option Answered = λ (q : Recorded). answer_in q.request in
    ap (λ ys. h.carried.ballots ++ ys) (kept_one f h.requests r) ∙ sym (append_assoc h.carried.ballots (filter_map f h.requests) (option_to_list (answer_in r.request)))

pub answered_with : (base : ℕ) (a b : History) (g : GovernanceRequest) → Alike base a b → (id : List ℕ) (agrees : Bool) (n : ℕ) → has_answered (answers_with a g) id agrees n ≡ has_answered (answers_with b g) id agrees n
unfolding has_answered
answered_with base a b g x id agrees n =
    let p : Answered → Bool = is_answer id agrees n in
    list_any-append p (answers_of a) (option_to_list (answer_in g)) ∙ ap (λ r. r || list_any p (option_to_list (answer_in g))) (x.answers id agrees n) ∙ sym (list_any-append p (answers_of b) (option_to_list (answer_in g)))

-- ---- nodes

pub nodes_with : (h : History) (r : Recorded) → nodes (with_asked h r) ≡ nodes h ++ nodes_recorded r.seqno r.request
unfolding nodes
nodes_with h r =
    let f : Recorded → List RecordedNode = λ (q : Recorded). nodes_recorded q.seqno q.request in
    ap (λ ys. h.carried.nodes ++ ys) (flat_map-append f h.requests (r ∷ []) ∙ ap (λ ys. flat_map f h.requests ++ ys) (append-nil (f r)))
    ∙ sym (append_assoc h.carried.nodes (flat_map f h.requests) (f r))

abbrev asked_view : GovernanceRequest → NodeView → NodeView
asked_view g v = record v { marked = v.marked || marks v.id g; told = v.told || marks v.id g }

marked_more : (h : History) (r : Recorded) (id : List ℕ) → is_marked (with_asked h r) id ≡ (is_marked h id || marks id r.request)
unfolding is_marked
marked_more h r id =
    let p : Recorded → Bool = λ (q : Recorded). marks id q.request in
    let c : Bool = list_any (λ (m : Mark). same_bytes id m.id) h.carried.marks in
    ap (λ b. c || b) (list_any-append p h.requests (r ∷ []) ∙ ap (λ b. list_any p h.requests || b) (or_none (marks id r.request)))
    ∙ or_assoc c (list_any p h.requests) (marks id r.request)

-- the first mark stays
or_more : {A : Type 0} (a b c : Option A) → option_or a (option_or b c) ≡ option_or (option_or a b) c
or_more None b c = refl
or_more (Some x) b c = refl

abbrev mark_asked : Recorded → List ℕ → Option ℕ
mark_asked r id = cond (marks id r.request) (Some r.seqno) None

mark_more : (h : History) (r : Recorded) (id : List ℕ) → mark (with_asked h r) id ≡ option_or (mark h id) (mark_asked r id)
unfolding mark
mark_more h r id =
    let p : Recorded → Bool = λ (q : Recorded). marks id q.request in
    let at : Recorded → ℕ = λ (q : Recorded). q.seqno in
    let c : Option ℕ = first_mark id h.carried.marks in
    ap (λ o. option_or c (option_map at o)) (find-append p h.requests (r ∷ []))
    ∙ ap (option_or c) (or_map at (find p h.requests) (cond (p r) (Some r) None) ∙ ap (option_or (option_map at (find p h.requests))) (by (p r)))
    ∙ or_more c (option_map at (find p h.requests)) (mark_asked r id)
  where
    by : (b : Bool) → option_map (λ (q : Recorded). q.seqno) (cond b (Some r) None) ≡ cond b (Some r.seqno) None
    by true = refl
    by false = refl

-- a node is marked where it has a mark
pub some_mark : (h : History) (id : List ℕ) → is_some (mark h id) ≡ is_marked h id
unfolding mark is_marked
some_mark h id =
    let q : Mark → Bool = λ (m : Mark). same_bytes id m.id in
    let p : Recorded → Bool = λ (r : Recorded). marks id r.request in
    by (find q h.carried.marks) (find p h.requests) ∙ (λ i. find_passes q h.carried.marks i || find_passes p h.requests i)
  where
    by : (a : Option Mark) (b : Option Recorded) → is_some (option_or (option_map (λ (m : Mark). m.seqno) a) (option_map (λ (r : Recorded). r.seqno) b)) ≡ (is_some a || is_some b)
    by None None = refl
    by None (Some r) = refl
    by (Some m) b = refl

up_to_first : (s : ℕ) (o p : Option ℕ) → is_up_to s (option_or o p) ≡ cond (is_some o) (is_up_to s o) (is_up_to s p)
up_to_first s None p = refl
up_to_first s (Some m) p = refl

mark_asked_up_to : (h : History) (r : Recorded) (id : List ℕ) (s : ℕ) → is_up_to s (mark (with_asked h r) id) ≡ cond (is_marked h id) (is_up_to s (mark h id)) (is_up_to s (mark_asked r id))
mark_asked_up_to h r id s = ap (is_up_to s) (mark_more h r id) ∙ up_to_first s (mark h id) (mark_asked r id) ∙ ap (λ b. cond b (is_up_to s (mark h id)) (is_up_to s (mark_asked r id))) (some_mark h id)

told_asked : (m k r w : Bool) → ((m || k) || (r || w)) ≡ ((m || (r || w)) || k)
told_asked true k r w = refl
told_asked false true true w = refl
told_asked false true false true = refl
told_asked false true false false = refl
told_asked false false r w = sym (or_none (r || w))

pub node_asked : (base : ℕ) (h : History) (r : Recorded) (n : RecordedNode) → node_view base (with_asked h r) n ≡ asked_view r.request (node_view base h n)
unfolding retirement was_trusted is_trust_applied
node_asked base h r n =
    let marked = marked_more h r n.id in
    let told = (λ i. marked i || (is_some (removed_at h n) || was_trusted h n)) ∙ told_asked (is_marked h n.id) (marks n.id r.request) (is_some (removed_at h n)) (was_trusted h n) in
    λ i. record { id = n.id; node = n.node; late = n.seqno - base; removal = removed_at h n; marked = marked i; told = told i }

-- ---- proposals

pub proposals_with : (h : History) (r : Recorded) → proposals (with_asked h r) ≡ proposals h ++ option_to_list (proposal_in r.seqno r.request)
unfolding proposals
proposals_with h r =
    let f : Recorded → Option Proposal = λ (q : Recorded). proposal_in q.seqno q.request in
    ap (λ ys. h.carried.proposals ++ ys) (kept_one f h.requests r) ∙ sym (append_assoc h.carried.proposals (filter_map f h.requests) (option_to_list (f r)))

none_before : {A : Type 0} (o p : Option A) → option_or o p ≡ None → o ≡ None
none_before None p e = refl
none_before (Some x) p e = absurd cc

-- ---- shares

abbrev pub given_one : ℕ → Recorded → List Share
given_one c r = filter_map (given_after c) (option_to_list (given_by r))

pub given_more : (h : History) (r : Recorded) (c : ℕ) → shares_since (with_asked h r) c ≡ shares_since h c ++ given_one c r
unfolding given
given_more h r c =
    ap (filter_map (given_after c)) (ap (λ ys. h.carried.shares ++ ys) (kept_one given_by h.requests r) ∙ sym (append_assoc h.carried.shares (filter_map given_by h.requests) (option_to_list (given_by r))))
    ∙ filter_map-append (given_after c) (h.carried.shares ++ filter_map given_by h.requests) (option_to_list (given_by r))

given_alike : (r : Recorded) (c d : ℕ) → nat_lt c r.seqno ≡ nat_lt d r.seqno → given_one c r ≡ given_one d r
given_alike r c d e = by (share_in r.request)
  where
    by : (o : Option Share) → filter_map (given_after c) (option_to_list (option_map (given_share r.seqno) o)) ≡ filter_map (given_after d) (option_to_list (option_map (given_share r.seqno) o))
    by None = refl
    by (Some s) = ap (λ (b : Bool). cons_option (cond b (Some s) None) []) e

-- who signs has a number that is a byte
pub byte_member : (m : MemberRequest) → is_member_request m ≡ true → m.member < 256
byte_member m fits =
    let number = (and_parts (is_member_number m.member) (is_act m.act) (and_parts (is_member_number m.member && is_act m.act) (is_signature_field m.signature) fits).0).0 in
    let byte = (and_parts (nat_le 1 m.member) (nat_lt m.member 256) number).1 in
    grind (arith, nat_tests, byte)

byte_shares : (c : ℕ) (r : Recorded) → is_request r.request ≡ true → AreByteShares (given_one c r)
byte_shares c r fits = by (share_in r.request) (member_of r.request fits)
  where
    act_member : (m : MemberRequest) (act : MemberAct) → m.member < 256 → IfSome (share_in_act m.member act) (λ (s : Share). s.member < 256)
    act_member m acts.Ack small = tt
    act_member m (acts.Propose list) small = tt
    act_member m (acts.Ballot id agrees) small = tt
    act_member m (acts.Withdraw id) small = tt
    act_member m (acts.Share share) small = small

    member_of : (g : GovernanceRequest) → is_request g ≡ true → IfSome (share_in g) (λ (s : Share). s.member < 256)
    member_of (requests.Genesis g) fits = tt
    member_of (requests.Recover q) fits = tt
    member_of (requests.Join n) fits = tt
    member_of (requests.Mark id) fits = tt
    member_of (requests.Member m) fits = act_member m m.act (byte_member m fits)

    late : (b : Bool) (s : Share) → s.member < 256 → AreByteShares (cons_option (cond b (Some s) None) [])
    late true s small = (small, tt)
    late false s small = tt

    by : (o : Option Share) → IfSome o (λ (s : Share). s.member < 256) → AreByteShares (filter_map (given_after c) (option_to_list (option_map (given_share r.seqno) o)))
    by None small = tt
    by (Some s) small = late (nat_lt c r.seqno) s small

bytes_both : (xs ys : List Share) → AreByteShares xs → AreByteShares ys → AreByteShares (xs ++ ys)
bytes_both [] ys one two = two
bytes_both (x ∷ xs) ys one two = (one.0, bytes_both xs ys one.1 two)

pub shares_append : (xs ys zs : List Share) → AreByteShares zs → SameShares xs ys → SameShares (xs ++ zs) (ys ++ zs)
shares_append xs ys zs bytes s = record {
  same = same_append of_member xs ys zs s.same;
  join = λ more small. ap joined (append_assoc xs zs more) ∙ s.join (zs ++ more) (bytes_both zs more bytes small) ∙ sym (ap joined (append_assoc ys zs more));
}

-- ---- all readings

module _ (base : ℕ) (a b : History) (r : Recorded) (x : Alike base a b) (new : IsNew base a r) where
  leaves_same : (n : ℕ) → next_leaf (with_asked a r) n ≡ next_leaf (with_asked b r) n
  leaves_same n = leaf_more a r n ∙ ap (cond (is_by n r.request) (leaf_after r.request)) (x.leaves n) ∙ sym (leaf_more b r n)

  acked_same : (n : ℕ) → (is_removed (with_asked a r) n || has_acked (with_asked a r) n) ≡ (is_removed (with_asked b r) n || has_acked (with_asked b r) n)
  unfolding is_removed
  acked_same n =
      let one = λ (h : History). ap (λ q. is_removed h n || q) (acked_more h r n) ∙ or_assoc (is_removed h n) (has_acked h n) (is_ack_by n r.request) in
      one a ∙ ap (λ q. q || is_ack_by n r.request) (x.acked n) ∙ sym (one b)

  answers_same : (id : List ℕ) (agrees : Bool) (n : ℕ) → has_answered (answers_of (with_asked a r)) id agrees n ≡ has_answered (answers_of (with_asked b r)) id agrees n
  answers_same id agrees n =
      ap (λ l. has_answered l id agrees n) (answers_more a r) ∙ answered_with base a b r.request x id agrees n ∙ sym (ap (λ l. has_answered l id agrees n) (answers_more b r))

  views_new : (ns : List RecordedNode) → AllByRecursion (λ (n : RecordedNode). (base < n.seqno) × (node a n.id ≡ None)) ns → map (node_view base a) ns ≡ map (node_view base b) ns
  views_new [] all = refl
  views_new (n ∷ ns) all = λ i. x.new_nodes n all.0.0 all.0.1 i ∷ views_new ns all.1 i

  nodes_same : map (node_view base (with_asked a r)) (nodes (with_asked a r)) ≡ map (node_view base (with_asked b r)) (nodes (with_asked b r))
  nodes_same =
      let made : List RecordedNode = nodes_recorded r.seqno r.request in
      let one = λ (h : History). ap (map (node_view base (with_asked h r))) (nodes_with h r)
      ∙ map_alike (node_view base (with_asked h r)) (λ n. asked_view r.request (node_view base h n)) (node_asked base h r) (nodes h ++ made)
      ∙ map_twice (asked_view r.request) (node_view base h) (nodes h ++ made)
      ∙ ap (map (asked_view r.request)) (map-append (node_view base h) (nodes h) made) in
      one a ∙ (λ i. map (asked_view r.request) (x.nodes i ++ views_new made new.nodes i)) ∙ sym (one b)

  new_nodes_same : (n : RecordedNode) → base < n.seqno → node (with_asked a r) n.id ≡ None → node_view base (with_asked a r) n ≡ node_view base (with_asked b r) n
  unfolding node
  new_nodes_same n above fresh =
      let before = none_before (node a n.id) _ (sym (ap (find (has_id n.id)) (nodes_with a r) ∙ find-append (has_id n.id) (nodes a) (nodes_recorded r.seqno r.request)) ∙ fresh) in
      node_asked base a r n ∙ ap (asked_view r.request) (x.new_nodes n above before) ∙ sym (node_asked base b r n)

  new_proposal_same : map (proposal_view base a) (option_to_list (proposal_in r.seqno r.request)) ≡ map (proposal_view base b) (option_to_list (proposal_in r.seqno r.request))
  new_proposal_same = by (proposal_in r.seqno r.request) refl
    where
      by : (o : Option Proposal) → proposal_in r.seqno r.request ≡ o → map (proposal_view base a) (option_to_list o) ≡ map (proposal_view base b) (option_to_list o)
      by None e = refl
      by (Some p) e = let n = new.proposal p e in ap (λ v. v ∷ []) (x.new_proposals p n.0 n.1)

  proposals_same : SameBy is_view_of (map (proposal_view base a) (proposals (with_asked a r))) (map (proposal_view base b) (proposals (with_asked b r)))
  proposals_same =
      let made : List Proposal = option_to_list (proposal_in r.seqno r.request) in
      let one = λ (h : History). ap (map (proposal_view base h)) (proposals_with h r) ∙ map-append (proposal_view base h) (proposals h) made in
      subst₂ (SameBy is_view_of) (sym (one a)) (sym (one b ∙ ap (λ vs. map (proposal_view base b) (proposals b) ++ vs) (sym new_proposal_same)))
      (same_append is_view_of (map (proposal_view base a) (proposals a)) (map (proposal_view base b) (proposals b)) (map (proposal_view base a) made) x.proposals)

  new_proposals_same : (p : Proposal) → base < p.seqno → proposal (with_asked a r) p.id ≡ None → proposal_view base (with_asked a r) p ≡ proposal_view base (with_asked b r) p
  unfolding proposal
  new_proposals_same p above fresh =
      x.new_proposals p above (none_before (proposal a p.id) _ (sym (ap (find (has_proposal_id p.id)) (proposals_with a r) ∙ find-append (has_proposal_id p.id) (proposals a) (option_to_list (proposal_in r.seqno r.request))) ∙ fresh))

  cleared_same : nat_lt (last_clearing a) r.seqno ≡ nat_lt (last_clearing b) r.seqno
  cleared_same = later_alike base (last_clearing a) r.seqno new.above ∙ ap (λ n. nat_lt n (r.seqno - base)) x.clearing ∙ sym (later_alike base (last_clearing b) r.seqno new.above)

  shares_given_same : SameShares (shares_given (with_asked a r)) (shares_given (with_asked b r))
  unfolding shares_given last_clearing
  shares_given_same =
      subst₂ SameShares (sym (given_more a r (last_clearing a))) (sym (given_more b r (last_clearing b) ∙ ap (λ zs. shares_since b (last_clearing b) ++ zs) (sym (given_alike r (last_clearing a) (last_clearing b) cleared_same))))
      (shares_append (shares_since a (last_clearing a)) (shares_since b (last_clearing b)) (given_one (last_clearing a) r) (byte_shares (last_clearing a) r new.fits) x.shares)

  later_shares_same : (s : ℕ) → base ≤ s → SameShares (shares_since (with_asked a r) s) (shares_since (with_asked b r) s)
  later_shares_same s above =
      subst₂ SameShares (sym (given_more a r s)) (sym (given_more b r s)) (shares_append (shares_since a s) (shares_since b s) (given_one s r) (byte_shares s r new.fits) (x.later_shares s above))

  pub alike_asked : Alike base (with_asked a r) (with_asked b r)
  unfolding members is_removed constitution dealing identity is_recovered service_state last_clearing
  alike_asked = record {
    members = x.members;
    removed = x.removed;
    acked = acked_same;
    leaves = leaves_same;
    nodes = nodes_same;
    marked = λ id. marked_more a r id ∙ ap (λ b. b || marks id r.request) (x.marked id) ∙ sym (marked_more b r id);
    marks = λ id s high. mark_asked_up_to a r id s ∙ (λ i. cond (x.marked id i) (x.marks id s high i) (is_up_to s (mark_asked r id))) ∙ sym (mark_asked_up_to b r id s);
    new_nodes = new_nodes_same;
    proposals = proposals_same;
    new_proposals = new_proposals_same;
    answers = answers_same;
    constitution = x.constitution;
    dealing = x.dealing;
    identity = x.identity;
    recovered = x.recovered;
    state = x.state;
    clearing = x.clearing;
    shares = shares_given_same;
    later_shares = later_shares_same;
  }
