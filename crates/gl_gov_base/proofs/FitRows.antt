-- The values of the rows of requests that were accepted are in their ranges.
use Rattle.std.proofs.Common.{◌≡◌, ℕ, zero, suc, ◌+◌, ◌<◌, ◌≤◌, ◌^◌, List, [], ◌∷◌, map, reverse, length, Option, Some, None, IfSome, Bool, true, false, ◌&&◌, ◌==◌, cond, filter_map, get_or, nat_le, nat_lt, Result, Ok, Err, refl, ◌∙◌, ap, arith}
use Rattle.std.specs.List.{list_all, range_with_len, cons_option, AllByRecursion}
use Rattle.std.proofs.lemmas.Bool.{and_parts, and_from, eqb-true}
use Rattle.std.proofs.lemmas.Bool.Decides.{nat_tests}
use Rattle.gl_base.specs.Bytes.{is_byte, are_bytes, is_digest, are_sized}
use Rattle.gl_hss.specs.Order.{leaf_verdict}
use Rattle.gl_hss.specs.declared.fault.HssFault.{HssFault}
use Rattle.gl_hss.proofs.Bounds.{leaf-small}
use Rattle.gl_hss.proofs.Leaves.{leaf_verdict_ok}
use Rattle.gl_vmaps.specs.LastWrite.{last_such}
use Rattle.gl_shares.specs.declared.share.Share.{Share}
use Rattle.gl_requests.specs.Ranges.{is_node, is_member, is_rule, are_rules, is_member_number, is_signature_field, is_action, is_action_count, is_act, is_member_request, is_request}
use Rattle.gl_requests.specs.declared.genesis.NewMember.{NewMember}
use Rattle.gl_requests.specs.declared.genesis.ServiceState.{ServiceState}
use Rattle.gl_requests.specs.declared.request.MemberAct.{MemberAct}
use Rattle.gl_requests.specs.declared.request.MemberAct.TheVariants as acts
use Rattle.gl_requests.specs.declared.request.MemberRequest.{MemberRequest}
use Rattle.gl_requests.specs.declared.request.GovernanceRequest.{GovernanceRequest}
use Rattle.gl_requests.specs.declared.request.GovernanceRequest.TheVariants as requests
use Rattle.gl_gov_rules.specs.declared.change.Recorded.{Recorded}
use Rattle.gl_gov_rules.specs.declared.change.RecordedNode.{RecordedNode}
use Rattle.gl_gov_rules.specs.declared.change.Changed.{Changed}
use Rattle.gl_gov_rules.specs.declared.change.Proposal.{Proposal}
use Rattle.gl_gov_rules.specs.declared.carried.Answered.{Answered}
use Rattle.gl_gov_rules.specs.History.{History, nothing, seqno_of}
use Rattle.gl_gov_rules.specs.Signatures.{leaf_in, leaf_of}
use Rattle.gl_gov_rules.specs.Members.{members, is_by, leaf_after, leaf_after_last, next_leaf}
use Rattle.gl_gov_rules.specs.Nodes.{nodes, retires, retirement}
use Rattle.gl_gov_rules.specs.Service.{constitution, identity, is_recovered, service_state, last_clearing, share_in, share_in_act, share_after, shares_given}
use Rattle.gl_gov_rules.specs.Proposals.{proposals, proposal_in, proposal_in_act, answers_of, has_answered}
use Rattle.gl_gov_rules.specs.Changes.{history}
use Rattle.gl_gov_rules.specs.Governed.{IsAbove, IsGoverned, IsBoundedProposal}
use Rattle.gl_gov_rules.specs.Rows.{member_row, member_rows, node_row, node_rows_from, node_rows, vote_of, votes, proposal_row, service_row_of, service_row}
use Rattle.gl_gov_rules.specs.declared.row.ProposalAt.{ProposalAt}
use Rattle.gl_gov_rules.proofs.Bounded.{is_bounded}
use Rattle.gl_gov_rules.proofs.Counting.{all_find, all_reverse}
use Rattle.gl_gov_rules.proofs.FewNodes.{are_few_nodes}
use Rattle.gl_gov_rules.proofs.NothingCarried.{nothing_carried, proposals_asked, leaf_asked, shares_asked}
use Rattle.gl_gov_rules.proofs.Ranges.{key_in_range, are_in_range}
use Rattle.gl_gov_rules.proofs.RowParts.{all_found, requests_fit, members_fit, is_recorded_node, nodes_fit}
use Rattle.gl_gov_base.specs.AtBase.{proposal_at}
use Rattle.gl_gov_base.proofs.NodesAtBase.{low_found}
use Rattle.gl_gov_base.proofs.RowsRead.{is_word, are_rising, IsProposalRow}
use Rattle.gl_gov_base.proofs.RowsSpelled.{FitsMember, FitsNode, FitsShare, FitsRows}
use Rattle.gl_gov_base.proofs.SettledHistory.{low_changes}

-- ---- options and numbers

if_some_as : {A : Type 0} (P Q : A → Type 0) → ((x : A) → P x → Q x) → (o : Option A) → IfSome o P → IfSome o Q
if_some_as P Q f None all = tt
if_some_as P Q f (Some x) all = f x all

above_none : (n : ℕ) → is_member_number n ≡ true → 0 < n
above_none n fits = let low = (and_parts (nat_le 1 n) (is_byte n) fits).0 in grind (arith, nat_tests, low)

is_small : (size n : ℕ) → n < 256 ^ size → is_word size n ≡ true
is_small size n low = grind (arith, nat_tests, low)

-- ---- leaves

octets : (xs : List ℕ) → are_bytes xs ≡ true → (i : ℕ) → get_or xs i 0 < 256
octets [] h zero = omega arith
octets [] h (suc i) = omega arith
octets (x ∷ xs) h zero = let parts = and_parts (is_byte x) (are_bytes xs) h in grind (arith, nat_tests, parts.0)
octets (x ∷ xs) h (suc i) = octets xs (and_parts (is_byte x) (are_bytes xs) h).1 i

leaf_low : (s : List ℕ) → are_bytes s ≡ true → leaf_of s < 1024
unfolding leaf_of
leaf_low s bytes = by (leaf_verdict s) refl
  where
    by : (r : Result ℕ HssFault) → leaf_verdict s ≡ r → leaf_in r < 1024
    by (Ok q) is = leaf-small s q (leaf_verdict_ok s q (octets s bytes) is)
    by (Err e) is = omega arith

request_leaf : (g : GovernanceRequest) → is_request g ≡ true → leaf_after g ≤ 1024
request_leaf (requests.Member m) fits =
    let signature = (and_parts (is_member_number m.member && is_act m.act) (is_signature_field m.signature) fits).1 in
    let low = leaf_low m.signature (and_parts (are_bytes m.signature) (nat_le (length m.signature) 1048576) signature).0 in
    omega (arith, low)
request_leaf (requests.Genesis g) fits = omega arith
request_leaf (requests.Recover r) fits = omega arith
request_leaf (requests.Join x) fits = omega arith
request_leaf (requests.Mark id) fits = omega arith

last_leaf : (n : ℕ) (rs : List Recorded) → list_all (λ (r : Recorded). is_request r.request) rs ≡ true → leaf_after_last 0 (last_such (λ (r : Recorded). is_by n r.request) rs) ≤ 1024
last_leaf n rs all = by (last_such (λ (r : Recorded). is_by n r.request) rs) refl
  where
    by : (o : Option Recorded) → last_such (λ (r : Recorded). is_by n r.request) rs ≡ o → leaf_after_last 0 o ≤ 1024
    by None is = omega arith
    by (Some r) is =
        request_leaf r.request
        (all_find (λ (r : Recorded). is_request r.request) (λ (r : Recorded). is_by n r.request) (reverse rs) r (all_reverse (λ (r : Recorded). is_request r.request) rs all) is)

-- ---- votes

module _ (given : List Answered) (id : List ℕ) where
  rising : (last a len : ℕ) → last < a → are_rising last (filter_map (vote_of given id) (range_with_len a len)) ≡ true
  rising last a zero low = refl
  rising last a (suc len) low = by (has_answered given id true a) (has_answered given id false a) (rising last (a + 1) len (omega (arith, low))) (rising a (a + 1) len (omega arith))
    where
      later : nat_lt last a ≡ true
      later = grind (arith, nat_tests)

      by : (t f : Bool) → are_rising last (filter_map (vote_of given id) (range_with_len (a + 1) len)) ≡ true → are_rising a (filter_map (vote_of given id) (range_with_len (a + 1) len)) ≡ true →
          are_rising last (cons_option (cond t (Some (record { member = a; agrees = true })) (cond f (Some (record { member = a; agrees = false })) None)) (filter_map (vote_of given id) (range_with_len (a + 1) len))) ≡ true
      by true f rest next = and_from (nat_lt last a) (are_rising a (filter_map (vote_of given id) (range_with_len (a + 1) len))) later next
      by false true rest next = and_from (nat_lt last a) (are_rising a (filter_map (vote_of given id) (range_with_len (a + 1) len))) later next
      by false false rest next = rest

few_found : {A B : Type 0} (f : A → Option B) (xs : List A) → length (filter_map f xs) ≤ length xs
few_found f [] = omega arith
few_found {B = B} f (x ∷ xs) = by (f x) (few_found f xs)
  where
    by : (o : Option B) → length (filter_map f xs) ≤ length xs → length (cons_option o (filter_map f xs)) ≤ suc (length xs)
    by None rest = omega (arith, rest)
    by (Some y) rest = omega (arith, rest)

range_length : (a len : ℕ) → length (range_with_len a len) ≡ len
range_length a zero = refl
range_length a (suc len) = ap suc (range_length (a + 1) len)

votes_fit : (given : List Answered) (id : List ℕ) → (are_rising 0 (votes given id) ≡ true) × (length (votes given id) < 256)
unfolding votes
votes_fit given id = (rising given id 0 1 255 (omega arith), few (range_with_len 1 255) (range_length 1 255))
  where
    few : (ks : List ℕ) → length ks ≡ 255 → length (filter_map (vote_of given id) ks) < 256
    few ks is = omega (arith, is, few_found (vote_of given id) ks)

-- ---- shares and proposals

member_number : (m : MemberRequest) → is_member_request m ≡ true → is_member_number m.member ≡ true
member_number m fits = (and_parts (is_member_number m.member) (is_act m.act) (and_parts (is_member_number m.member && is_act m.act) (is_signature_field m.signature) fits).0).0

act_fits : (m : MemberRequest) → is_member_request m ≡ true → is_act m.act ≡ true
act_fits m fits = (and_parts (is_member_number m.member) (is_act m.act) (and_parts (is_member_number m.member && is_act m.act) (is_signature_field m.signature) fits).0).1

abbrev fits_share : Share → Bool
fits_share s = is_member_number s.member && is_digest s.value

share_of : (m : MemberRequest) (act : MemberAct) → is_member_request m ≡ true → is_act act ≡ true → IfSome (share_in_act m.member act) (λ (s : Share). fits_share s ≡ true)
share_of m acts.Ack fits act = tt
share_of m (acts.Propose list) fits act = tt
share_of m (acts.Ballot id agrees) fits act = tt
share_of m (acts.Withdraw id) fits act = tt
share_of m (acts.Share value) fits act = and_from (is_member_number m.member) (is_digest value) (member_number m fits) act

share_request : (g : GovernanceRequest) → is_request g ≡ true → IfSome (share_in g) (λ (s : Share). fits_share s ≡ true)
share_request (requests.Genesis g) fits = tt
share_request (requests.Recover r) fits = tt
share_request (requests.Join x) fits = tt
share_request (requests.Mark id) fits = tt
share_request (requests.Member m) fits = share_of m m.act fits (act_fits m fits)

share_since : (c : ℕ) (r : Recorded) → is_request r.request ≡ true → IfSome (share_after c r) (λ (s : Share). fits_share s ≡ true)
share_since c r fits = late (nat_lt c r.seqno)
  where
    late : (b : Bool) → IfSome (cond b (share_in r.request) None) (λ (s : Share). fits_share s ≡ true)
    late true = share_request r.request fits
    late false = tt

abbrev fits_proposer : Proposal → Bool
fits_proposer p = is_member_number p.proposer

proposer_of : (s : ℕ) (g : GovernanceRequest) → is_request g ≡ true → IfSome (proposal_in s g) (λ (p : Proposal). fits_proposer p ≡ true)
proposer_of s (requests.Genesis g) fits = tt
proposer_of s (requests.Recover r) fits = tt
proposer_of s (requests.Join x) fits = tt
proposer_of s (requests.Mark id) fits = tt
proposer_of s (requests.Member m) fits = by m.act
  where
    by : (act : MemberAct) → IfSome (proposal_in_act s m act) (λ (p : Proposal). fits_proposer p ≡ true)
    by acts.Ack = tt
    by (acts.Propose list) = member_number m fits
    by (acts.Ballot id agrees) = tt
    by (acts.Withdraw id) = tt
    by (acts.Share value) = tt

pub each_passes : {A : Type 0} (p : A → Bool) (xs : List A) → list_all p xs ≡ true → AllByRecursion (λ x. p x ≡ true) xs
each_passes p [] all = tt
each_passes p (x ∷ xs) all = let parts = and_parts (p x) (list_all p xs) all in (parts.0, each_passes p xs parts.1)

-- ---- the whole

module _ (rs : List Recorded) (all : IsGoverned rs) (base : ℕ) (low : IsAbove (suc base) rs) (fits : base < 256 ^ 8) where
  abbrev past : History
  past = history rs

  bare : past.carried ≡ nothing
  bare = nothing_carried rs

  rules_fit : IfSome (constitution past) (λ rules. (length rules ≡ 7) × (list_all is_rule rules ≡ true))
  rules_fit =
      if_some_as (λ rules. are_rules rules ≡ true) (λ rules. (length rules ≡ 7) × (list_all is_rule rules ≡ true))
      (λ rules e. let parts = and_parts (length rules == 7) (list_all is_rule rules) e in (eqb-true (length rules) 7 parts.0, parts.1)) (constitution past) (is_bounded rs all).rules

  members_in : AllByRecursion FitsMember (member_rows past)
  unfolding member_rows member_row
  members_in = by (members past) (members_fit past (are_in_range rs all).1)
    where
      by : (ms : List NewMember) → list_all is_member ms ≡ true → AllByRecursion FitsMember (map (member_row past) ms)
      by [] e = tt
      by (m ∷ ms) e =
          let parts = and_parts (is_member m) (list_all is_member ms) e in
          let own = and_parts (is_member_number m.number) (are_sized 60 m.key) parts.0 in
          let leaf : next_leaf past m.number < 256 ^ 4 = (let is = leaf_asked past m.number bare in let few = last_leaf m.number past.requests (requests_fit rs all) in omega (arith, is, few)) in
          (record { number = above_none m.number own.0; key = own.1; leaf = is_small 4 (next_leaf past m.number) leaf }, by ms parts.1)

  removal_in : (n : RecordedNode) → seqno_of (retirement past n) < 256 ^ 8
  unfolding retirement
  removal_in n = let there = low_found base (λ (c : Changed). nat_lt n.seqno c.seqno && retires n.id c.change) past.changes (low_changes rs all base low) in omega (arith, there, fits)

  nodes_in : AllByRecursion FitsNode (node_rows past)
  unfolding node_rows node_row
  nodes_in = by 1 (nodes past) (let few = (are_few_nodes rs all).0 in omega (arith, few)) (nodes_fit past bare (requests_fit rs all))
    where
      by : (k : ℕ) (ns : List RecordedNode) → k + length ns ≤ 65536 → list_all is_recorded_node ns ≡ true → AllByRecursion FitsNode (node_rows_from past k ns)
      by k [] few e = tt
      by k (n ∷ ns) few e =
          let parts = and_parts (is_recorded_node n) (list_all is_recorded_node ns) e in
          let order : k < 256 ^ 2 = omega (arith, few) in
          (record { order = is_small 2 k order; node = (and_parts (is_digest n.id) (is_node n.node) parts.0).1; removal = is_small 8 (seqno_of (retirement past n)) (removal_in n) }, by (suc k) ns (omega (arith, few)) parts.1)

  proposals_in : AllByRecursion (λ (p : ProposalAt). IsProposalRow p.row) (map (proposal_at past) (proposals past))
  unfolding proposal_row
  proposals_in =
      by (proposals past) (is_bounded rs all).proposed
      (each_passes fits_proposer (proposals past)
      (ap (list_all fits_proposer) (proposals_asked past bare)
      ∙ all_found (λ (r : Recorded). is_request r.request) fits_proposer (λ (r : Recorded). proposal_in r.seqno r.request) (λ r e. proposer_of r.seqno r.request e) past.requests (requests_fit rs all)))
    where
      by : (ps : List Proposal) → AllByRecursion IsBoundedProposal ps → AllByRecursion (λ (p : Proposal). fits_proposer p ≡ true) ps → AllByRecursion (λ (p : ProposalAt). IsProposalRow p.row) (map (proposal_at past) ps)
      by [] bounded proposers = tt
      by (p ∷ ps) bounded proposers =
          let given = votes_fit (answers_of past) p.id in (
            record {
              proposer = proposers.0;
              small = bounded.0.small;
              fits = (and_parts (is_action_count (length p.actions)) (list_all is_action p.actions) bounded.0.fits).1;
              rising = given.0;
              few = given.1;
            },
            by ps bounded.1 proposers.1,
          )

  service_in : IfSome (service_row past) (λ s. are_sized 60 s.identity ≡ true)
  unfolding service_row
  service_in = by (service_state past) (identity past) (key_in_range past (are_in_range rs all).1)
    where
      by : (state : Option ServiceState) (key : Option (List ℕ)) → IfSome key (λ k. are_sized 60 k ≡ true) → IfSome (service_row_of state (is_recovered past) key) (λ s. are_sized 60 s.identity ≡ true)
      by None key e = tt
      by (Some state) None e = tt
      by (Some state) (Some key) e = e

  shares_in : AllByRecursion FitsShare (shares_given past)
  shares_in =
      by (shares_given past)
      (ap (list_all fits_share) (shares_asked past bare) ∙ all_found (λ (r : Recorded). is_request r.request) fits_share (share_after (last_clearing past)) (share_since (last_clearing past)) past.requests (requests_fit rs all))
    where
      by : (ss : List Share) → list_all fits_share ss ≡ true → AllByRecursion FitsShare ss
      by [] e = tt
      by (s ∷ ss) e =
          let parts = and_parts (fits_share s) (list_all fits_share ss) e in
          let own = and_parts (is_member_number s.member) (is_digest s.value) parts.0 in
          (record { member = above_none s.member own.0; value = own.1 }, by ss parts.1)

  -- the rows of accepted requests up to a base
  pub rows_fit : FitsRows past
  rows_fit = record {
    rules = rules_fit;
    dealing = (is_bounded rs all).dealt;
    members = members_in;
    nodes = nodes_in;
    proposals = proposals_in;
    service = service_in;
    shares = shares_in;
  }

-- members of shares are bytes
pub shares_bytes : (rs : List Recorded) → IsGoverned rs → AllByRecursion (λ (s : Share). s.member < 256) (shares_given (history rs))
shares_bytes rs all =
    by (shares_given (history rs))
    (ap (list_all fits_share) (shares_asked (history rs) (nothing_carried rs))
    ∙ all_found (λ (r : Recorded). is_request r.request) fits_share (share_after (last_clearing (history rs))) (share_since (last_clearing (history rs))) (history rs).requests (requests_fit rs all))
  where
    by : (ss : List Share) → list_all fits_share ss ≡ true → AllByRecursion (λ (s : Share). s.member < 256) ss
    by [] e = tt
    by (s ∷ ss) e =
        let parts = and_parts (fits_share s) (list_all fits_share ss) e in
        let byte = (and_parts (nat_le 1 s.member) (is_byte s.member) (and_parts (is_member_number s.member) (is_digest s.value) parts.0).0).1 in
        (grind (arith, nat_tests, byte), by ss parts.1)
