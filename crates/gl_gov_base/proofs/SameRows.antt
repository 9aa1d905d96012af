-- Histories that are alike have the same rows.
use Rattle.std.proofs.Common.{◌≡◌, ℕ, suc, List, [], ◌∷◌, map, filter_map, Option, Some, None, Bool, true, false, ◌&&◌, cond, find, reverse, nat_eq, refl, sym, ◌∙◌, ap, subst, subst₂, arith}
use Rattle.std.specs.Option.{option_map}
use Rattle.std.proofs.lemmas.Bool.Decides.{nat_tests}
use Rattle.gl_base.specs.Bytes.{same_bytes}
use Rattle.gl_vmaps.specs.LastWrite.{last_such}
use Rattle.gl_vmaps.specs.Changes.{changes}
use Rattle.gl_vmaps.specs.declared.write.Write.{Write}
use Rattle.gl_vmaps.proofs.TablesLaws.{same_bytes-symm}
use Rattle.gl_shares.specs.declared.share.Share.{Share}
use Rattle.gl_requests.specs.declared.genesis.NewMember.{NewMember}
use Rattle.gl_requests.specs.declared.request.GovernanceRequest.{GovernanceRequest}
use Rattle.gl_gov_rules.specs.declared.change.Changed.{Changed}
use Rattle.gl_gov_rules.specs.declared.change.Recorded.{Recorded}
use Rattle.gl_gov_rules.specs.declared.change.RecordedNode.{RecordedNode}
use Rattle.gl_gov_rules.specs.declared.change.Proposal.{Proposal}
use Rattle.gl_gov_rules.specs.declared.change.ProposalStatus.{ProposalStatus}
use Rattle.gl_gov_rules.specs.declared.row.Vote.{Vote}
use Rattle.gl_gov_rules.specs.declared.row.NodeRow.{NodeRow}
use Rattle.gl_gov_rules.specs.History.{History, seqno_of}
use Rattle.gl_gov_rules.specs.Members.{members, has_number}
use Rattle.gl_gov_rules.specs.Nodes.{nodes, retirement}
use Rattle.gl_gov_rules.specs.Service.{constitution, dealing, shares_given}
use Rattle.gl_gov_rules.specs.Proposals.{proposals, proposal, answers_of}
use Rattle.gl_gov_rules.specs.ProposalStatus.{proposal_named, status_of, status_with, proposal_status}
use Rattle.gl_gov_rules.specs.Changes.{with_request}
use Rattle.gl_gov_rules.specs.Rows.{service_row_of, service_row, service_write, members_map, member_row, member_rows, member_write, node_row, node_rows_from, node_rows, node_write, proposals_map, vote_of, member_numbers, votes, proposal_row, proposal_write, proposal_writes, rule_writes_of, dealing_write, shares_map, share_write, write_of, all_rows, rows}
use Rattle.gl_gov_base.specs.SameBy.{SameBy}
use Rattle.gl_gov_base.specs.AtBase.{of_number}
use Rattle.gl_gov_base.specs.Alike.{NodeView, node_view, ProposalView, proposal_view, Alike, IsNew}
use Rattle.gl_gov_base.proofs.SameLists.{map_twice, map_alike, same_map}
use Rattle.gl_gov_base.proofs.SameReadings.{same_member_status, status_in, status_viewed, state_in, state_viewed, same_proposal}
use Rattle.gl_gov_base.proofs.SameChanges.{alike_request}
use Rattle.gl_gov_base.proofs.SameSets.{SameWrites, same_write_set, same_parts, same_writes, same_rows}

-- ---- the last with a key

eq_symm : (m n : ℕ) → nat_eq m n ≡ nat_eq n m
eq_symm m n = grind (arith, nat_tests)

none_found : {A : Type 0} (xs : List A) → find (λ x. false) xs ≡ None
none_found [] = refl
none_found (x ∷ xs) = none_found xs

-- those with a test that agrees with one that always fails, or with a key of the number
module _ {A : Type 0} (number : A → ℕ) (xs ys : List A) (last : (n : ℕ) → last_such (λ x. nat_eq (number x) n) xs ≡ last_such (λ x. nat_eq (number x) n) ys) where
  -- rows of one table under keys of one byte
  pub last_numbered : (t m k : List ℕ) → last_such (λ x. same_bytes m t && same_bytes k (number x ∷ [])) xs ≡ last_such (λ x. same_bytes m t && same_bytes k (number x ∷ [])) ys
  last_numbered t m k = by (same_bytes m t) k
    where
      never : (zs : List A) → last_such (λ x. false) zs ≡ None
      never zs = none_found (reverse zs)

      by : (b : Bool) (k : List ℕ) → last_such (λ x. b && same_bytes k (number x ∷ [])) xs ≡ last_such (λ x. b && same_bytes k (number x ∷ [])) ys
      by false k = never xs ∙ sym (never ys)
      by true [] = never xs ∙ sym (never ys)
      by true (n ∷ []) =
          let same : (x : A) → (nat_eq n (number x) && true) ≡ nat_eq (number x) n = λ x. grind (arith, nat_tests) in
          (λ i. last_such (λ x. same x i) xs) ∙ last n ∙ sym (λ i. last_such (λ x. same x i) ys)
      by true (n ∷ j ∷ ks) =
          let no : (x : A) → (nat_eq n (number x) && false) ≡ false = λ x. grind (arith, nat_tests) in
          (λ i. last_such (λ x. no x i) xs) ∙ never xs ∙ sym ((λ i. last_such (λ x. no x i) ys) ∙ never ys)

-- rows of one table under identifiers
pub last_named : {A : Type 0} (id : A → List ℕ) (xs ys : List A) → ((k : List ℕ) → last_such (λ x. same_bytes (id x) k) xs ≡ last_such (λ x. same_bytes (id x) k) ys) →
    (t m k : List ℕ) → last_such (λ x. same_bytes m t && same_bytes k (id x)) xs ≡ last_such (λ x. same_bytes m t && same_bytes k (id x)) ys
last_named {A = A} id xs ys last t m k = by (same_bytes m t)
  where
    by : (b : Bool) → last_such (λ (x : A). b && same_bytes k (id x)) xs ≡ last_such (λ (x : A). b && same_bytes k (id x)) ys
    by false = none_found (reverse xs) ∙ sym (none_found (reverse ys))
    by true = (λ i. last_such (λ (x : A). same_bytes-symm k (id x) i) xs) ∙ last k ∙ sym (λ i. last_such (λ (x : A). same_bytes-symm k (id x) i) ys)

-- ---- nodes of one history, by their views

abbrev or_zero : Option ℕ → ℕ
or_zero None = 0
or_zero (Some n) = n

abbrev viewed_row : ℕ → NodeView → NodeRow
viewed_row order v = record { id = v.id; order = order; status = status_in v; key = v.node.key; endorsement = v.node.endorsement; removal = or_zero v.removal }

seqno_mapped : (o : Option Changed) → seqno_of o ≡ or_zero (option_map (λ (c : Changed). c.seqno) o)
seqno_mapped None = refl
seqno_mapped (Some c) = refl

row_viewed : (base : ℕ) (h : History) (order : ℕ) (n : RecordedNode) → node_row h order n ≡ viewed_row order (node_view base h n)
unfolding node_row
row_viewed base h order n = λ i. record { id = n.id; order = order; status = status_viewed base h n i; key = n.node.key; endorsement = n.node.endorsement; removal = seqno_mapped (retirement h n) i }

abbrev viewed_rows : ℕ → List NodeView → List NodeRow
viewed_rows order [] = []
viewed_rows order (v ∷ vs) = viewed_row order v ∷ viewed_rows (suc order) vs

rows_viewed : (base : ℕ) (h : History) (order : ℕ) (ns : List RecordedNode) → node_rows_from h order ns ≡ viewed_rows order (map (node_view base h) ns)
rows_viewed base h order [] = refl
rows_viewed base h order (n ∷ ns) = λ i. row_viewed base h order n i ∷ rows_viewed base h (suc order) ns i

-- ---- proposals of one history, by their views

abbrev viewed_proposal : (List ℕ → List Vote) → ProposalView → Write
viewed_proposal given v = proposal_write v.id (record { state = state_in v; proposer = v.proposer; actions = v.actions; ballots = given v.id })

proposals_viewed : (base : ℕ) (h : History) → proposal_writes h ≡ map (viewed_proposal (votes (answers_of h))) (map (proposal_view base h) (proposals h))
unfolding proposal_writes proposal_row
proposals_viewed base h =
    (λ i. map (λ (p : Proposal). proposal_write p.id (record { state = state_viewed base h p i; proposer = p.proposer; actions = p.actions; ballots = votes (answers_of h) p.id })) (proposals h))
    ∙ map_twice (viewed_proposal (votes (answers_of h))) (proposal_view base h) (proposals h)

abbrev status_viewed_in : Option ProposalView → Option ProposalStatus
status_viewed_in o = option_map (λ (v : ProposalView). record { id = v.id; state = state_in v }) o

proposal_status_viewed : (base : ℕ) (h : History) (o : Option Proposal) → option_map (status_of h) o ≡ status_viewed_in (option_map (proposal_view base h) o)
proposal_status_viewed base h None = refl
proposal_status_viewed base h (Some p) = λ i. Some (record { id = p.id; state = state_viewed base h p i })

-- ---- of two that are alike

module _ (base : ℕ) (a b : History) (x : Alike base a b) where
  same_member_row : (m : NewMember) → member_row a m ≡ member_row b m
  unfolding member_row
  same_member_row m = λ i. record { number = m.number; status = same_member_status base a b x m.number i; key = m.key; next_leaf = x.leaves m.number i }

  pub same_member_rows : SameBy of_number (member_rows a) (member_rows b)
  unfolding member_rows member_row
  same_member_rows =
      subst (SameBy of_number (map (member_row a) (members a))) (map_alike (member_row a) (member_row b) same_member_row (members b))
      (same_map has_number of_number (member_row a) (λ k m. refl) (members a) (members b) x.members)

  same_members : SameWrites (map member_write (member_rows a)) (map member_write (member_rows b))
  unfolding member_rows member_row
  same_members =
      let one = λ (h : History) (ms : List NewMember). map_twice member_write (member_row h) ms in
      subst₂ SameWrites (one a (members a)) (map_alike (λ (m : NewMember). member_write (member_row a m)) (λ (m : NewMember). member_write (member_row b m)) (λ m. ap member_write (same_member_row m)) (members b) ∙ one b (members b))
      (same_rows (λ (m : NewMember). member_write (member_row a m)) (members a) (members b)
      (λ m k. last_numbered (λ (n : NewMember). n.number) (members a) (members b) x.members.last members_map m k))

  pub same_nodes : node_rows a ≡ node_rows b
  unfolding node_rows
  same_nodes = rows_viewed base a 1 (nodes a) ∙ ap (viewed_rows 1) x.nodes ∙ sym (rows_viewed base b 1 (nodes b))

  same_vote : (id : List ℕ) (n : ℕ) → vote_of (answers_of a) id n ≡ vote_of (answers_of b) id n
  same_vote id n = λ i.
      cond (x.answers id true n i) (Some (record { member = n; agrees = true }))
      (cond (x.answers id false n i) (Some (record { member = n; agrees = false })) None)

  same_votes : (id : List ℕ) → votes (answers_of a) id ≡ votes (answers_of b) id
  unfolding votes
  same_votes id = λ i. filter_map (λ n. same_vote id n i) member_numbers

  same_proposals : SameWrites (proposal_writes a) (proposal_writes b)
  same_proposals =
      let given : (List ℕ → List Vote) = votes (answers_of a) in
      subst₂ SameWrites (sym (proposals_viewed base a)) (sym (proposals_viewed base b ∙ (λ i. map (viewed_proposal (λ id. sym (same_votes id) i)) (map (proposal_view base b) (proposals b)))))
      (same_rows (viewed_proposal given) (map (proposal_view base a) (proposals a)) (map (proposal_view base b) (proposals b))
      (λ m k. last_named (λ (v : ProposalView). v.id) (map (proposal_view base a) (proposals a)) (map (proposal_view base b) (proposals b)) x.proposals.last proposals_map m k))

  pub same_service : service_row a ≡ service_row b
  unfolding service_row
  same_service = λ i. service_row_of (x.state i) (x.recovered i) (x.identity i)

  same_shares : SameWrites (map share_write (shares_given a)) (map share_write (shares_given b))
  same_shares =
      same_rows share_write (shares_given a) (shares_given b)
      (λ m k. last_numbered (λ (s : Share). s.member) (shares_given a) (shares_given b) x.shares.same.last shares_map m k)

  pub same_all_rows : SameWrites (all_rows a) (all_rows b)
  unfolding all_rows
  same_all_rows =
      let r = same_writes (rule_writes_of (constitution a)) (rule_writes_of (constitution b)) (ap rule_writes_of x.constitution) in
      let d = same_writes (write_of dealing_write (dealing a)) (write_of dealing_write (dealing b)) (ap (write_of dealing_write) x.dealing) in
      let n = same_writes (map node_write (node_rows a)) (map node_write (node_rows b)) (ap (map node_write) same_nodes) in
      let s = same_writes (write_of service_write (service_row a)) (write_of service_write (service_row b)) (ap (write_of service_write) same_service) in
      same_parts (same_parts (same_parts (same_parts (same_parts (same_parts r d) same_members) n) same_proposals) s) same_shares

  -- the rows are the same
  pub same_all : rows a ≡ rows b
  unfolding rows
  same_all = same_write_set (all_rows a) (all_rows b) same_all_rows

  -- and what a request tells of its proposal
  pub same_proposal_status : (g : GovernanceRequest) → proposal_status a g ≡ proposal_status b g
  unfolding proposal_status
  same_proposal_status g = by (proposal_named g)
    where
      by : (o : Option (List ℕ)) → status_with a o ≡ status_with b o
      by None = refl
      by (Some id) = proposal_status_viewed base a (proposal a id) ∙ ap status_viewed_in (same_proposal base a b x id) ∙ sym (proposal_status_viewed base b (proposal b id))

-- a new request writes the same after both
pub same_effect : (base : ℕ) (a b : History) (r : Recorded) → Alike base a b → IsNew base a r → changes (rows a) (rows (with_request a r)) ≡ changes (rows b) (rows (with_request b r))
same_effect base a b r x new =
    λ i. changes (same_all base a b x i) (same_all base (with_request a r) (with_request b r) (alike_request base a b x r new) i)
