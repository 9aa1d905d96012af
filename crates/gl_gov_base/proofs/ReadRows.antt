-- The rows of requests that were accepted up to a base are read back as what the requests come to.
use Rattle.std.proofs.Common.{◌≡◌, ℕ, suc, ◌<◌, ◌^◌, List, [], ◌∷◌, map, length, Option, Some, None, is_some, Bool, true, false, not, ◌&&◌, ◌||◌, ◌==◌, filter, filter_map, nat_lt, Ok, refl, sym, ◌∙◌, ap, subst₂, arith}
use Rattle.std.specs.List.{list_any, AllByRecursion}
use Rattle.std.specs.Option.{option_or, option_to_list}
use Rattle.std.proofs.lemmas.Bool.{and_parts}
use Rattle.std.proofs.lemmas.Bool.Decides.{nat_tests}
use Rattle.std.proofs.lemmas.Option.{same_Some}
use Rattle.gl_vmaps.specs.Name.{is_governance}
use Rattle.gl_vmaps.specs.Rows.{row_write, row_writes}
use Rattle.gl_vmaps.specs.Changes.{write_set}
use Rattle.gl_vmaps.specs.declared.row.Row.{Row}
use Rattle.gl_shares.specs.declared.share.Share.{Share}
use Rattle.gl_requests.specs.declared.genesis.Dealing.{Dealing}
use Rattle.gl_requests.specs.declared.action.Rule.{Rule}
use Rattle.gl_gov_rules.specs.declared.change.Recorded.{Recorded}
use Rattle.gl_gov_rules.specs.declared.row.ServiceRow.{ServiceRow}
use Rattle.gl_gov_rules.specs.History.{History}
use Rattle.gl_gov_rules.specs.Service.{constitution, dealing, shares_given}
use Rattle.gl_gov_rules.specs.Changes.{history}
use Rattle.gl_gov_rules.specs.Governed.{IsAbove, IsGoverned}
use Rattle.gl_gov_rules.specs.Rows.{service_map, members_map, nodes_map, proposals_map, constitution_map, dealing_map, shares_map, node_rows, service_row, all_rows, rows}
use Rattle.gl_gov_rules.specs.declared.row.RuleAt.{RuleAt}
use Rattle.gl_gov_rules.specs.declared.row.GovernedRows.{GovernedRows}
use Rattle.gl_gov_rules.specs.GovernedRows.{no_rows, is_one_byte, governed_rows}
use Rattle.gl_gov_base.specs.SameBy.{SameBy}
use Rattle.gl_gov_base.specs.Alike.{of_member, AreByteShares, SameShares}
use Rattle.gl_gov_base.specs.AtBase.{of_number, is_proposal_at, IsReadOf}
use Rattle.gl_gov_base.proofs.SameLists.{same_any, same_length}
use Rattle.gl_gov_base.proofs.MoreChanges.{kept-map}
use Rattle.gl_gov_base.proofs.RowChanges.{last_item}
use Rattle.gl_gov_base.proofs.DistinctRows.{AreDistinct}
use Rattle.gl_gov_base.proofs.RowKinds.{kind_in, is_service_key, is_dealing_key, is_rule_key, any_key, read_service, read_member, read_node, read_proposal, read_rule, read_dealing, read_share, service_of, member_of, node_of, proposal_of, dealing_of, share_of}
use Rattle.gl_gov_base.proofs.RowsCollected.{Ended, rows_ended, ungoverned, collected, last_collected, seqno_collected, service_added, members_added, nodes_added, proposals_added, rules_added, dealing_added, shares_added}
use Rattle.gl_gov_base.proofs.KindsKept.{of_id, any_one, same_members, same_nodes, same_proposals, same_shares, same_service, same_dealing}
use Rattle.gl_gov_base.proofs.RowsSpelled.{numbered_rules, rules_at, FitsRows, dealing_all, members_all, nodes_all, proposals_all, service_all, shares_all}
use Rattle.gl_gov_base.proofs.NumberedNodes.{numbered_same}
use Rattle.gl_gov_base.proofs.DifferentRows.{rows_distinct}
use Rattle.gl_gov_base.proofs.OrderedRules.{made_kept, rules_in_order}
use Rattle.gl_gov_base.proofs.ApartRows.{each_false, apart_rows}
use Rattle.gl_gov_base.proofs.FitRows.{rows_fit, shares_bytes}
use Rattle.gl_gov_base.proofs.SharesInOrder.{joined_same}

-- ---- lists of one

pub one_last : {Y : Type 0} (xs : List Y) (o : Option Y) → SameBy any_one xs (option_to_list o) → last_item xs ≡ o
one_last [] None same = refl
one_last (x ∷ xs) None same = absurd (omega (arith, same_length any_one (x ∷ xs) [] same))
one_last [] (Some y) same = absurd (omega (arith, same_length any_one [] (y ∷ []) same))
one_last (x ∷ []) (Some y) same = same.first tt
one_last (x ∷ z ∷ xs) (Some y) same = absurd (omega (arith, same_length any_one (x ∷ z ∷ xs) (y ∷ []) same))

pub or_none : {Y : Type 0} (o : Option Y) → option_or o None ≡ o
or_none None = refl
or_none (Some x) = refl

rules_named : (n : ℕ) (rs : List Rule) → map (λ (r : RuleAt). r.rule) (numbered_rules n rs) ≡ rs
rules_named n [] = refl
rules_named n (r ∷ rs) = ap (λ xs. r ∷ xs) (rules_named (suc n) rs)

-- members of the same shares are bytes
same_bytes_of : (xs ys : List Share) → SameBy of_member xs ys → AreByteShares ys → AreByteShares xs
same_bytes_of xs ys same bytes =
    let large : Share → Bool = λ (s : Share). not (nat_lt s.member 256) in
    turned xs (each_false large xs (same_any of_member xs ys same large ∙ none ys bytes))
  where
    small : (n : ℕ) → n < 256 → not (nat_lt n 256) ≡ false
    small n low = grind (arith, nat_tests)

    none : (zs : List Share) → AreByteShares zs → list_any (λ (s : Share). not (nat_lt s.member 256)) zs ≡ false
    none [] all = refl
    none (z ∷ zs) all = λ i. small z.member all.0 i || none zs all.1 i

    low : (n : ℕ) → not (nat_lt n 256) ≡ false → n < 256
    low n e = grind (arith, nat_tests, e)

    turned : (zs : List Share) → AllByRecursion (λ (s : Share). not (nat_lt s.member 256) ≡ false) zs → AreByteShares zs
    turned [] all = tt
    turned (z ∷ zs) all = (low z.member all.0, turned zs all.1)

-- what rows add whose rows of governance are a history's is what the write set of the history's rows adds
pub rows_kept : (h : History) (qs : List Row) → row_writes (filter (λ (r : Row). is_governance r.map) qs) ≡ rows h →
    {Y : Type 0} (own : List ℕ) (ok : List ℕ → Bool) (reading : List ℕ → List ℕ → Option Y) → is_governance own ≡ true →
    filter_map (λ (r : Row). kind_in own ok reading (row_write r)) qs ≡ filter_map (kind_in own ok reading) (write_set (all_rows h))
unfolding rows
rows_kept h qs are own ok reading governed =
    sym (made_kept (λ (r : Row). is_governance r.map) (λ (r : Row). kind_in own ok reading (row_write r)) (ungoverned own ok reading governed) qs)
    ∙ sym (kept-map (kind_in own ok reading) row_write (filter (λ (r : Row). is_governance r.map) qs)) ∙ ap (filter_map (kind_in own ok reading)) are

module _ (rs : List Recorded) (all : IsGoverned rs) (base : ℕ) (low : IsAbove (suc base) rs) (fits : base < 256 ^ 8) (qs : List Row) (g : GovernedRows)
    (are : row_writes (filter (λ (r : Row). is_governance r.map) qs) ≡ rows (history rs)) (read : governed_rows base qs ≡ Ok g) where
  abbrev past : History
  past = history rs

  distinct : AreDistinct (all_rows past)
  distinct = rows_distinct past (apart_rows rs all)

  fit : FitsRows past
  fit = rows_fit rs all base low fits

  ended : Ended (no_rows base) qs g
  unfolding governed_rows
  ended = rows_ended 0 (no_rows base) qs g read

  kept : {Y : Type 0} (own : List ℕ) (ok : List ℕ → Bool) (reading : List ℕ → List ℕ → Option Y) → is_governance own ≡ true →
      filter_map (λ (r : Row). kind_in own ok reading (row_write r)) qs ≡ filter_map (kind_in own ok reading) (write_set (all_rows past))
  kept own ok reading governed = rows_kept past qs are own ok reading governed

  members_are : g.members ≡ filter_map member_of (write_set (all_rows past))
  members_are =
      ap (λ (n : GovernedRows). n.members) (sym ended.is)
      ∙ collected members_map is_one_byte read_member refl (λ n. n.members) members_added (no_rows base) qs ended.last ended.reached ∙ kept members_map is_one_byte read_member refl

  nodes_are : ended.last.nodes ≡ filter_map node_of (write_set (all_rows past))
  nodes_are = collected nodes_map any_key read_node refl (λ n. n.nodes) nodes_added (no_rows base) qs ended.last ended.reached ∙ kept nodes_map any_key read_node refl

  proposals_are : g.proposals ≡ filter_map proposal_of (write_set (all_rows past))
  proposals_are =
      ap (λ (n : GovernedRows). n.proposals) (sym ended.is)
      ∙ collected proposals_map any_key read_proposal refl (λ n. n.proposals) proposals_added (no_rows base) qs ended.last ended.reached ∙ kept proposals_map any_key read_proposal refl

  rules_are : g.rules ≡ rules_at (constitution past)
  rules_are =
      ap (λ (n : GovernedRows). n.rules) (sym ended.is)
      ∙ collected constitution_map is_rule_key read_rule refl (λ n. n.rules) rules_added (no_rows base) qs ended.last ended.reached ∙ kept constitution_map is_rule_key read_rule refl
      ∙ rules_in_order past (apart_rows rs all) fit

  shares_are : g.shares ≡ filter_map share_of (write_set (all_rows past))
  shares_are =
      ap (λ (n : GovernedRows). n.shares) (sym ended.is)
      ∙ collected shares_map is_one_byte read_share refl (λ n. n.shares) shares_added (no_rows base) qs ended.last ended.reached ∙ kept shares_map is_one_byte read_share refl

  service_is : g.service ≡ service_row past
  service_is =
      ap (λ (n : GovernedRows). n.service) (sym ended.is)
      ∙ last_collected service_map is_service_key read_service refl (λ n. n.service) service_added (no_rows base) qs ended.last ended.reached
      ∙ or_none (last_item (filter_map (λ (r : Row). service_of (row_write r)) qs)) ∙ ap (λ (xs : List ServiceRow). last_item xs) (kept service_map is_service_key read_service refl)
      ∙ one_last (filter_map service_of (write_set (all_rows past))) (service_row past) (subst₂ (SameBy any_one) refl (service_all past fit) (same_service (all_rows past) distinct))

  dealing_is : g.dealing ≡ dealing past
  dealing_is =
      ap (λ (n : GovernedRows). n.dealing) (sym ended.is)
      ∙ last_collected dealing_map is_dealing_key read_dealing refl (λ n. n.dealing) dealing_added (no_rows base) qs ended.last ended.reached
      ∙ or_none (last_item (filter_map (λ (r : Row). dealing_of (row_write r)) qs)) ∙ ap (λ (xs : List Dealing). last_item xs) (kept dealing_map is_dealing_key read_dealing refl)
      ∙ one_last (filter_map dealing_of (write_set (all_rows past))) (dealing past) (subst₂ (SameBy any_one) refl (dealing_all past fit) (same_dealing (all_rows past) distinct))

  nodes_same : g.nodes ≡ node_rows past
  nodes_same =
      let same : SameBy of_id ended.last.nodes (node_rows past) = subst₂ (SameBy of_id) (sym nodes_are) (nodes_all past fit) (same_nodes (all_rows past) distinct) in
      ap (λ (n : GovernedRows). n.nodes) (sym ended.is) ∙ same_Some ended.nodes (node_rows past) (sym ended.numbered ∙ numbered_same past ended.last.nodes same)

  shares_same : SameShares g.shares (shares_given past)
  shares_same =
      let same : SameBy of_member g.shares (shares_given past) = subst₂ (SameBy of_member) (sym shares_are) (shares_all past fit) (same_shares (all_rows past) distinct) in
      let bytes : AreByteShares (shares_given past) = shares_bytes rs all in
      record { same = same; join = λ more small. joined_same g.shares (shares_given past) more same.counted (same_bytes_of g.shares (shares_given past) same bytes) bytes small }

  service_there : is_some g.service ≡ true
  service_there =
      ap (λ (n : GovernedRows). is_some n.service) (sym ended.is)
      ∙ (and_parts (is_some ended.last.service) (is_some ended.last.dealing) (and_parts (is_some ended.last.service && is_some ended.last.dealing) (length ended.last.rules == 7) ended.full).0).0

  seven_rules : (length g.rules == 7) ≡ true
  seven_rules =
      ap (λ (n : GovernedRows). length n.rules == 7) (sym ended.is)
      ∙ (and_parts (is_some ended.last.service && is_some ended.last.dealing) (length ended.last.rules == 7) ended.full).1

  rules_same : constitution past ≡ Some (map (λ (r : RuleAt). r.rule) g.rules)
  rules_same = by (constitution past) rules_are
    where
      by : (o : Option (List Rule)) → g.rules ≡ rules_at o → o ≡ Some (map (λ (r : RuleAt). r.rule) g.rules)
      by None is = absurd (let none : (length g.rules == 7) ≡ false = ap (λ (xs : List RuleAt). length xs == 7) is in let some = seven_rules in cc)
      by (Some rules) is = ap (λ (xs : List Rule). Some xs) (sym (ap (map (λ (r : RuleAt). r.rule)) is ∙ rules_named 1 rules))

  -- the values are what the requests come to
  pub read_back : IsReadOf base past g
  read_back = by g.service refl
    where
      by : (o : Option ServiceRow) → g.service ≡ o → IsReadOf base past g
      by None is = absurd (let none : is_some g.service ≡ false = ap (λ (o : Option ServiceRow). is_some o) is in let some = service_there in cc)
      by (Some s) is = record {
        seqno = ap (λ (n : GovernedRows). n.seqno) (sym ended.is) ∙ seqno_collected (no_rows base) qs ended.last ended.reached;
        founder = s;
        service = is;
        founded = sym service_is ∙ is;
        members = subst₂ (SameBy of_number) (sym members_are) (members_all past fit) (same_members (all_rows past) distinct);
        nodes = nodes_same;
        proposals = subst₂ (SameBy is_proposal_at) (sym proposals_are) (proposals_all past fit) (same_proposals (all_rows past) distinct);
        rules = rules_same;
        dealing = dealing_is;
        shares = shares_same;
      }
