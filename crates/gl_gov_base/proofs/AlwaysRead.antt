-- The rows that accepted requests leave are always read: each spells within the bounds of its kind, and nothing lacks.
use Rattle.std.proofs.Common.{◌≡◌, ℕ, suc, ◌+◌, ◌<◌, ◌≤◌, ◌^◌, List, [], ◌∷◌, ◌++◌, map, length, Option, Some, None, IfSome, is_some, Bool, true, false, not, ◌&&◌, ◌==◌, nat_le, cond, filter, filter_map, flat_map, count_by, Ok, Err, refl, sym, ◌∙◌, ap, subst, subst₂, arith}
use Rattle.std.specs.List.{list_all, AllByRecursion}
use Rattle.std.specs.Option.{option_to_list}
use Rattle.std.proofs.lemmas.Bool.{and_parts, and_from}
use Rattle.std.proofs.lemmas.Bool.Decides.{nat_tests}
use Rattle.sha2.specs.Sha256.{sha256}
use Rattle.gl_base.specs.Bytes.{same_bytes, is_byte, are_bytes, is_digest, are_sized}
use Rattle.gl_vmaps.specs.Name.{is_governance}
use Rattle.gl_vmaps.specs.Rows.{row_write, row_writes}
use Rattle.gl_vmaps.specs.Changes.{write_set}
use Rattle.gl_vmaps.specs.declared.row.Row.{Row}
use Rattle.gl_vmaps.specs.declared.write.Write.{Write}
use Rattle.gl_vmaps.proofs.TablesLaws.{same_bytes-itself}
use Rattle.gl_requests.specs.Encoding.{node_id, action_bytes}
use Rattle.gl_requests.specs.Ranges.{is_rule, is_dealing, is_action, is_action_count}
use Rattle.gl_requests.specs.declared.genesis.NewNode.{NewNode}
use Rattle.gl_requests.specs.declared.genesis.NewMember.{NewMember}
use Rattle.gl_requests.specs.declared.genesis.Dealing.{Dealing}
use Rattle.gl_requests.specs.declared.action.Rule.{Rule}
use Rattle.gl_requests.specs.declared.action.Action.TheVariants as actions
use Rattle.gl_requests.specs.declared.request.GovernanceRequest.{GovernanceRequest}
use Rattle.gl_requests.specs.declared.request.GovernanceRequest.TheVariants as requests
use Rattle.gl_gov_rules.specs.declared.change.Recorded.{Recorded}
use Rattle.gl_gov_rules.specs.declared.change.RecordedNode.{RecordedNode}
use Rattle.gl_gov_rules.specs.declared.change.Change.TheVariants as changes
use Rattle.gl_gov_rules.specs.declared.change.Changed.{Changed}
use Rattle.gl_gov_rules.specs.declared.change.Proposal.{Proposal}
use Rattle.gl_gov_rules.specs.declared.refusal.MemberStatus.TheVariants as statuses
use Rattle.gl_gov_rules.specs.declared.row.ServiceRow.{ServiceRow}
use Rattle.gl_gov_rules.specs.declared.row.NodeRow.{NodeRow}
use Rattle.gl_gov_rules.specs.declared.carried.Answered.{Answered}
use Rattle.gl_gov_rules.specs.History.{History, last_set}
use Rattle.gl_gov_rules.specs.Members.{members, is_removed, has_acked, member_status}
use Rattle.gl_gov_rules.specs.Nodes.{recorded_node, nodes_recorded, nodes}
use Rattle.gl_gov_rules.specs.Proposals.{proposals, answers_with}
use Rattle.gl_gov_rules.specs.Service.{sets_rules, constitution, sets_dealing, dealing, shares_given}
use Rattle.gl_gov_rules.specs.Changes.{first_rules, set_member, request_changes, changed_at, changes_of, history}
use Rattle.gl_gov_rules.specs.Governed.{is_founding, is_nothing, IsAbove, Follows, IsGoverned, IsBoundedProposal}
use Rattle.gl_gov_rules.specs.Rows.{members_map, nodes_map, constitution_map, dealing_map, service_map, member_write, member_row, member_rows, node_write, node_row, node_rows_from, node_rows, proposal_row, service_write, service_row, dealing_write, share_write, all_rows, rows}
use Rattle.gl_gov_rules.specs.declared.row.ProposalAt.{ProposalAt}
use Rattle.gl_gov_rules.specs.declared.row.RuleAt.{RuleAt}
use Rattle.gl_gov_rules.specs.declared.row.GovernedRows.{GovernedRows}
use Rattle.gl_gov_rules.specs.GovernedRows.{no_rows, is_removed_status, is_one_byte, is_node_row, numbered_from, ended_rows, governed_rows}
use Rattle.gl_gov_rules.proofs.Bounded.{is_bounded}
use Rattle.gl_gov_rules.proofs.Counting.{each_append}
use Rattle.gl_gov_rules.proofs.FewMembers.{few_left}
use Rattle.gl_gov_rules.proofs.FewNodes.{are_few_nodes}
use Rattle.gl_gov_rules.proofs.LastSet.{set_after, set_before, set_by_first}
use Rattle.gl_gov_rules.proofs.NothingCarried.{nothing_carried, nodes_of_requests}
use Rattle.gl_gov_rules.proofs.Prefixes.{changes_more, governed_induction}
use Rattle.gl_gov_rules.proofs.RowOfService.{founded_row}
use Rattle.gl_gov_rules.proofs.RowParts.{requests_fit, is_made_proposal, proposals_fit}
use Rattle.gl_gov_base.specs.SameBy.{SameBy}
use Rattle.gl_gov_base.specs.AtBase.{of_number, proposal_at}
use Rattle.gl_gov_base.proofs.SameLists.{count-map, same_length}
use Rattle.gl_gov_base.proofs.RowChanges.{last_item}
use Rattle.gl_gov_base.proofs.RowsRead.{IsProposalRow}
use Rattle.gl_gov_base.proofs.RowKinds.{is_service_key, is_dealing_key, is_rule_key, any_key, read_service, read_member, read_node, read_rule, read_dealing, service_of, node_of, dealing_of}
use Rattle.gl_gov_base.proofs.RowsCollected.{collected, last_collected, service_added, nodes_added, rules_added, dealing_added}
use Rattle.gl_gov_base.proofs.KindsKept.{of_id, any_one, same_members, same_nodes, same_service, same_dealing}
use Rattle.gl_gov_base.proofs.RowsSpelled.{FitsMember, FitsNode, FitsShare, numbered_rules, rules_at, FitsRows, dealing_all, members_all, nodes_all, service_all}
use Rattle.gl_gov_base.proofs.RowsReadable.{Spells, is_there, members_of, nodes_of, Reached, rows_put, rows_end, write_set_all, rows_all}
use Rattle.gl_gov_base.proofs.NumberedNodes.{numbered_same}
use Rattle.gl_gov_base.proofs.DifferentRows.{rule_write, proposed, AreApartRows, listed, rows_distinct, all_of}
use Rattle.gl_gov_base.proofs.OrderedRules.{rules_in_order}
use Rattle.gl_gov_base.proofs.ApartRows.{apart_rows}
use Rattle.gl_gov_base.proofs.FitRows.{rows_fit}
use Rattle.gl_gov_base.proofs.ReadRows.{rows_kept, one_last, or_none}
use Rattle.gl_gov_base.proofs.SettledHistory.{each_given}

-- ---- lists

each_written : {A : Type 0} (f : A → Write) (P : A → Type 0) → ((x : A) → P x → Spells (f x)) → (xs : List A) → AllByRecursion P xs → AllByRecursion Spells (map f xs)
each_written f P spells [] all = tt
each_written f P spells (x ∷ xs) all = (spells x all.0, each_written f P spells xs all.1)

each_there : {A : Type 0} (P : A → Type 0) (o : Option A) → IfSome o P → AllByRecursion P (option_to_list o)
each_there P None all = tt
each_there P (Some x) all = (all, tt)

-- ---- rules, nodes and proposals within the bounds of rows

pub record FitsRule (r : RuleAt) : Type 0 where
  pub high : 0 < r.number
  pub low : r.number ≤ 7
  pub rule : is_rule r.rule ≡ true

rules_within : (n : ℕ) (rs : List Rule) → 0 < n → n + length rs ≤ 8 → list_all is_rule rs ≡ true → AllByRecursion FitsRule (numbered_rules n rs)
rules_within n [] high low all = tt
rules_within n (r ∷ rs) high low all =
    let parts = and_parts (is_rule r) (list_all is_rule rs) all in
    (record { high = high; low = omega (arith, low); rule = parts.0 }, rules_within (suc n) rs (omega (arith, high)) (omega (arith, low)) parts.1)

named_ids : (s : ℕ) (b : Bool) (ns : List NewNode) → AllByRecursion (λ (n : RecordedNode). n.id ≡ node_id n.node) (map (recorded_node s b) ns)
named_ids s b [] = tt
named_ids s b (n ∷ ns) = (refl, named_ids s b ns)

recorded_ids : (s : ℕ) (g : GovernanceRequest) → AllByRecursion (λ (n : RecordedNode). n.id ≡ node_id n.node) (nodes_recorded s g)
recorded_ids s (requests.Genesis g) = named_ids s true g.nodes
recorded_ids s (requests.Recover r) = named_ids s true r.nodes
recorded_ids s (requests.Join n) = (refl, tt)
recorded_ids s (requests.Mark id) = tt
recorded_ids s (requests.Member m) = tt

node_ids : (rs : List Recorded) → AllByRecursion (λ (n : RecordedNode). n.id ≡ node_id n.node) (nodes (history rs))
node_ids rs =
    subst (AllByRecursion (λ (n : RecordedNode). n.id ≡ node_id n.node)) (sym (nodes_of_requests rs))
    (each_given (λ (r : Recorded). nodes_recorded r.seqno r.request) (λ (r : Recorded). Unit {0}) (λ (n : RecordedNode). n.id ≡ node_id n.node) (λ r u. recorded_ids r.seqno r.request) rs (all_of (λ (r : Recorded). Unit {0}) (λ r. tt) rs))

at_most : (n k : ℕ) → n ≤ k → nat_le n k ≡ true
at_most n k low = grind (arith, nat_tests)

-- ---- what a founding sets

pub record AreRuled (cs : List Changed) : Type 0 where
  pub rules : is_some (last_set sets_rules cs) ≡ true
  pub dealt : is_some (last_set sets_dealing cs) ≡ true

founding_rules : (h : History) (given : List Answered) (s : ℕ) (q : GovernanceRequest) → is_founding q ≡ true → AreRuled (map (changed_at s) (request_changes h given s q))
founding_rules h given s (requests.Genesis g) founds =
    let first : Changed = changed_at s (changes.Founded g.state g.identity) in
    let ruled : Changed = changed_at s (changes.Applied (actions.SetConstitution first_rules)) in
    let dealt : Changed = changed_at s (changes.Applied (actions.SetRecoveryThreshold g.dealing)) in
    let rest : List Changed = map (changed_at s) (map set_member g.members) in
    record {
      rules = set_after sets_rules (first ∷ []) (ruled ∷ dealt ∷ rest) (set_by_first sets_rules ruled (dealt ∷ rest) refl);
      dealt = set_after sets_dealing (first ∷ ruled ∷ []) (dealt ∷ rest) (set_by_first sets_dealing dealt rest refl);
    }
founding_rules h given s (requests.Recover r) founds = absurd cc
founding_rules h given s (requests.Join n) founds = absurd cc
founding_rules h given s (requests.Mark id) founds = absurd cc
founding_rules h given s (requests.Member m) founds = absurd cc

founding_rules_of : (h : History) (r : Recorded) → is_founding r.request ≡ true → AreRuled (map (changed_at r.seqno) (changes_of h r))
unfolding changes_of
founding_rules_of h r founds = founding_rules h (answers_with h r.request) r.seqno r.request founds

ruled : (rs : List Recorded) → IsGoverned rs → is_nothing rs ≡ false → AreRuled (history rs).changes
ruled = governed_induction (λ (rs : List Recorded). is_nothing rs ≡ false → AreRuled (history rs).changes) (λ e. absurd cc) step
  where
    more : (rs : List Recorded) (r : Recorded) → AreRuled ((history rs).changes ++ map (changed_at r.seqno) (changes_of (history rs) r)) → AreRuled (history (rs ++ r ∷ [])).changes
    more rs r set = subst AreRuled (sym (changes_more rs r)) set

    kept : (cs ds : List Changed) → AreRuled cs → AreRuled (cs ++ ds)
    kept cs ds set = record { rules = set_before sets_rules cs ds set.rules; dealt = set_before sets_dealing cs ds set.dealt }

    new : (cs ds : List Changed) → AreRuled ds → AreRuled (cs ++ ds)
    new cs ds set = record { rules = set_after sets_rules cs ds set.rules; dealt = set_after sets_dealing cs ds set.dealt }

    step : (rs : List Recorded) (r : Recorded) → IsGoverned rs → Follows rs r → (is_nothing rs ≡ false → AreRuled (history rs).changes) → is_nothing (rs ++ r ∷ []) ≡ false → AreRuled (history (rs ++ r ∷ [])).changes
    step [] r all follows old e = more [] r (new (history []).changes (map (changed_at r.seqno) (changes_of (history []) r)) (founding_rules_of (history []) r follows.founding))
    step (x ∷ rs) r all follows old e = more (x ∷ rs) r (kept (history (x ∷ rs)).changes (map (changed_at r.seqno) (changes_of (history (x ∷ rs)) r)) (old refl))

-- ---- the whole

row_count : (h : History) (k : ℕ) (ns : List RecordedNode) → length (node_rows_from h k ns) ≡ length ns
row_count h k [] = refl
row_count h k (n ∷ ns) = ap suc (row_count h (suc k) ns)

module _ (rs : List Recorded) (all : IsGoverned rs) (base : ℕ) (low : IsAbove (suc base) rs) (fits : base < 256 ^ 8) (some : is_nothing rs ≡ false) where
  abbrev past : History
  past = history rs

  fit : FitsRows past
  fit = rows_fit rs all base low fits

  apart : AreApartRows past
  apart = apart_rows rs all

  spell_rules : AllByRecursion Spells (map rule_write (rules_at (constitution past)))
  spell_rules = each_written rule_write FitsRule (λ r is. Spells.Ruled r.number r.rule refl is.high is.low is.rule) (rules_at (constitution past)) (by (constitution past) fit.rules)
    where
      by : (o : Option (List Rule)) → IfSome o (λ rs. (length rs ≡ 7) × (list_all is_rule rs ≡ true)) → AllByRecursion FitsRule (rules_at o)
      by None is = tt
      by (Some rules) is = let seven = is.0 in rules_within 1 rules (omega arith) (omega (arith, seven)) is.1

  spell_nodes : AllByRecursion Spells (map node_write (node_rows past))
  unfolding node_rows node_row
  spell_nodes = by 1 (nodes past) (omega arith) fit.nodes (node_ids rs) (are_few_nodes rs all).1
    where
      by : (k : ℕ) (ns : List RecordedNode) → 1 ≤ k → AllByRecursion FitsNode (node_rows_from past k ns) → AllByRecursion (λ (n : RecordedNode). n.id ≡ node_id n.node) ns → AllByRecursion (λ (n : RecordedNode). length n.node.endorsement ≤ 2508) ns →
          AllByRecursion Spells (map node_write (node_rows_from past k ns))
      by k [] high rows ids short = tt
      by k (n ∷ ns) high rows ids short =
          let own : same_bytes n.id (sha256 n.node.key) ≡ true = ap (same_bytes n.id) (sym ids.0) ∙ same_bytes-itself n.id in
          let is : is_node_row (node_row past k n) ≡ true =
          and_from (nat_le 1 k && same_bytes n.id (sha256 n.node.key)) (nat_le (length n.node.endorsement) 2508) (and_from (nat_le 1 k) (same_bytes n.id (sha256 n.node.key)) (at_most 1 k high) own) (at_most (length n.node.endorsement) 2508 short.0) in
          (Spells.Node (node_row past k n) refl rows.0 is, by (suc k) ns (omega arith) rows.1 ids.1 short.1)

  spell_proposals : AllByRecursion Spells (map (proposed past) (proposals past))
  unfolding proposal_row
  spell_proposals = by (proposals past) fit.proposals (proposals_fit past (nothing_carried rs) (requests_fit rs all)) (is_bounded rs all).proposed
    where
      by : (ps : List Proposal) → AllByRecursion (λ (p : ProposalAt). IsProposalRow p.row) (map (proposal_at past) ps) → list_all is_made_proposal ps ≡ true → AllByRecursion IsBoundedProposal ps → AllByRecursion Spells (map (proposed past) ps)
      by [] rows made bounded = tt
      by (p ∷ ps) rows made bounded =
          let parts = and_parts (is_made_proposal p) (list_all is_made_proposal ps) made in
          let long = (and_parts (length p.id == 32) (are_bytes p.id) (and_parts (is_digest p.id) (is_byte p.proposer) parts.0).0).0 in
          let count = (and_parts (is_action_count (length p.actions)) (list_all is_action p.actions) bounded.0.fits).0 in
          let is = and_from (nat_le 1 (length p.actions) && nat_le (length p.actions) 16) (nat_le (length (flat_map action_bytes p.actions)) 60000) count (at_most (length (flat_map action_bytes p.actions)) 60000 bounded.0.small) in
          (Spells.Proposed (proposal_at past p) refl rows.0 long is, by ps rows.1 parts.1 bounded.1)

  spelled : AllByRecursion Spells (all_rows past)
  spelled =
      subst (AllByRecursion Spells) (sym (listed past apart))
      (each_append Spells _ (map share_write (shares_given past))
      (each_append Spells _ (map service_write (option_to_list (service_row past)))
      (each_append Spells _ (map (proposed past) (proposals past))
      (each_append Spells _ (map node_write (node_rows past))
      (each_append Spells _ (map member_write (member_rows past))
      (each_append Spells (map rule_write (rules_at (constitution past))) (map dealing_write (option_to_list (dealing past))) spell_rules
      (each_written dealing_write (λ d. is_dealing d ≡ true) (λ d is. Spells.Dealt d refl is) (option_to_list (dealing past)) (each_there (λ d. is_dealing d ≡ true) (dealing past) fit.dealing)))
      (each_written member_write FitsMember (λ m is. Spells.Member m refl is) (member_rows past) fit.members))
      spell_nodes) spell_proposals)
      (each_written service_write (λ s. are_sized 60 s.identity ≡ true) (λ s is. Spells.Service s refl is) (option_to_list (service_row past)) (each_there (λ s. are_sized 60 s.identity ≡ true) (service_row past) fit.service)))
      (each_written share_write FitsShare (λ s is. Spells.Shared s refl is) (shares_given past) fit.shares))

  few_there : count_by (λ (m : NewMember). not (is_removed past m.number)) (members past) ≤ 64
  unfolding members is_removed
  few_there = few_left rs all

  there_count : count_by is_there (member_rows past) ≤ 64
  unfolding member_rows member_row member_status
  there_count = subst (λ n. n ≤ 64) (sym (sym (count-map is_there (member_row past) (members past)) ∙ alike (members past))) few_there
    where
      one : (r a : Bool) → not (is_removed_status (cond r statuses.Removed (cond a statuses.Active statuses.Accepted))) ≡ not r
      one true a = refl
      one false true = refl
      one false false = refl

      alike : (ms : List NewMember) → count_by (λ (m : NewMember). is_there (member_row past m)) ms ≡ count_by (λ (m : NewMember). not (is_removed past m.number)) ms
      alike ms = λ i. count_by (λ (m : NewMember). one (is_removed past m.number) (has_acked past m.number) i) ms

  -- rows of governance that are those of the requests
  module _ (qs : List Row) (are : row_writes (filter (λ (r : Row). is_governance r.map) qs) ≡ rows past) where
    few_members : count_by is_there (members_of qs) ≤ 64
    few_members =
        let same = subst₂ (SameBy of_number) refl (members_all past fit) (same_members (all_rows past) (rows_distinct past apart)) in
        subst (λ n. n ≤ 64) (sym (ap (count_by is_there) (rows_kept past qs are members_map is_one_byte read_member refl) ∙ same.counted is_there)) there_count

    few_nodes : length (nodes_of qs) ≤ 65535
    unfolding node_rows
    few_nodes =
        let same = subst₂ (SameBy of_id) refl (nodes_all past fit) (same_nodes (all_rows past) (rows_distinct past apart)) in
        subst (λ n. n ≤ 65535)
        (sym (ap (λ (xs : List NodeRow). length xs) (rows_kept past qs are nodes_map any_key read_node refl) ∙ same_length of_id (filter_map node_of (write_set (all_rows past))) (node_rows past) same ∙ row_count past 1 (nodes past)))
        (are_few_nodes rs all).0

    put : Reached (no_rows base) qs
    unfolding rows
    put =
        rows_put (no_rows base) qs (rows_all Spells qs (subst (AllByRecursion Spells) (sym are) (write_set_all Spells (all_rows past) spelled)))
        (let few = few_members in omega (arith, few)) (let few = few_nodes in omega (arith, few))

    abbrev last : GovernedRows
    last = put.last

    numbered : numbered_from (length last.nodes) 1 last.nodes ≡ Some (node_rows past)
    numbered =
        let is = collected nodes_map any_key read_node refl (λ n. n.nodes) nodes_added (no_rows base) qs last put.reached ∙ rows_kept past qs are nodes_map any_key read_node refl in
        numbered_same past last.nodes (subst₂ (SameBy of_id) (sym is) (nodes_all past fit) (same_nodes (all_rows past) (rows_distinct past apart)))

    service_there : is_some last.service ≡ true
    service_there =
        ap (λ (o : Option ServiceRow). is_some o)
        (last_collected service_map is_service_key read_service refl (λ n. n.service) service_added (no_rows base) qs last put.reached
        ∙ or_none (last_item (filter_map (λ (r : Row). service_of (row_write r)) qs)) ∙ ap (λ (xs : List ServiceRow). last_item xs) (rows_kept past qs are service_map is_service_key read_service refl)
        ∙ one_last (filter_map service_of (write_set (all_rows past))) (service_row past) (subst₂ (SameBy any_one) refl (service_all past fit) (same_service (all_rows past) (rows_distinct past apart))))
        ∙ by rs all some
      where
        by : (rs : List Recorded) → IsGoverned rs → is_nothing rs ≡ false → is_some (service_row (history rs)) ≡ true
        by [] all none = absurd cc
        by (r ∷ rs) all e = ap (λ (o : Option ServiceRow). is_some o) (founded_row r rs all).1

    dealing_there : is_some last.dealing ≡ true
    unfolding dealing
    dealing_there =
        ap (λ (o : Option Dealing). is_some o)
        (last_collected dealing_map is_dealing_key read_dealing refl (λ n. n.dealing) dealing_added (no_rows base) qs last put.reached
        ∙ or_none (last_item (filter_map (λ (r : Row). dealing_of (row_write r)) qs)) ∙ ap (λ (xs : List Dealing). last_item xs) (rows_kept past qs are dealing_map is_dealing_key read_dealing refl)
        ∙ one_last (filter_map dealing_of (write_set (all_rows past))) (dealing past) (subst₂ (SameBy any_one) refl (dealing_all past fit) (same_dealing (all_rows past) (rows_distinct past apart))))
        ∙ (ruled rs all some).dealt

    seven_there : (length last.rules == 7) ≡ true
    unfolding constitution
    seven_there =
        ap (λ (xs : List RuleAt). length xs == 7)
        (collected constitution_map is_rule_key read_rule refl (λ n. n.rules) rules_added (no_rows base) qs last put.reached ∙ rows_kept past qs are constitution_map is_rule_key read_rule refl ∙ rules_in_order past apart fit)
        ∙ by (constitution past) fit.rules (ruled rs all some).rules
      where
        counted : (n : ℕ) (rules : List Rule) → length (numbered_rules n rules) ≡ length rules
        counted n [] = refl
        counted n (r ∷ rules) = ap suc (counted (suc n) rules)

        by : (o : Option (List Rule)) → IfSome o (λ rs. (length rs ≡ 7) × (list_all is_rule rs ≡ true)) → is_some o ≡ true → (length (rules_at o) == 7) ≡ true
        by None is there = absurd cc
        by (Some rules) is there = ap (λ n. n == 7) (counted 1 rules ∙ is.0)

    -- they are read
    pub always_read : (g : GovernedRows) × (governed_rows base qs ≡ Ok g)
    unfolding governed_rows
    always_read =
        let end = rows_end 0 (no_rows base) qs last put.reached in
        let full = and_from (is_some last.service && is_some last.dealing) (length last.rules == 7) (and_from (is_some last.service) (is_some last.dealing) service_there dealing_there) seven_there in
        (record last { nodes = node_rows past }, end.1 ∙ ap (ended_rows end.0 last) numbered ∙ (λ i. cond (full i) (Ok (record last { nodes = node_rows past })) (Err end.0)))
