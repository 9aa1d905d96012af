-- The rows of a history are read back, kind by kind.
use Rattle.std.proofs.Common.{◌≡◌, ℕ, suc, ◌+◌, ◌<◌, ◌≤◌, List, [], ◌∷◌, ◌++◌, map, length, Option, Some, None, IfSome, true, ◌&&◌, nat_le, nat_lt, cond, filter_map, Ok, refl, sym, ◌∙◌, ap, append-nil, arith}
use Rattle.std.specs.List.{list_all, AllByRecursion, cons_option}
use Rattle.std.specs.Option.{option_map, option_to_list}
use Rattle.std.specs.Result.{result_ok}
use Rattle.std.proofs.lemmas.Bool.{and_parts}
use Rattle.std.proofs.lemmas.Bool.Decides.{nat_tests}
use Rattle.std.proofs.lemmas.List.Elements.{filter_map-append}
use Rattle.gl_base.specs.Bytes.{is_digest, are_sized}
use Rattle.gl_base.specs.Code.{whole}
use Rattle.gl_base.proofs.ParsedBytes.{whole-read}
use Rattle.gl_vmaps.specs.Changes.{row}
use Rattle.gl_vmaps.specs.declared.write.Write.{Write}
use Rattle.gl_shares.specs.declared.share.Share.{Share}
use Rattle.gl_requests.specs.Encoding.{rule_bytes, dealing_bytes}
use Rattle.gl_requests.specs.Parsing.{rule_at, dealing_at, digest_at}
use Rattle.gl_requests.specs.Ranges.{is_node, is_rule, is_dealing}
use Rattle.gl_requests.specs.declared.genesis.Dealing.{Dealing}
use Rattle.gl_requests.specs.declared.action.Rule.{Rule}
use Rattle.gl_requests.proofs.FieldReadings.{themselves, digest-read}
use Rattle.gl_requests.proofs.PartReadings.{rule-read, dealing-read}
use Rattle.gl_gov_rules.specs.declared.change.Proposal.{Proposal}
use Rattle.gl_gov_rules.specs.declared.row.ServiceRow.{ServiceRow}
use Rattle.gl_gov_rules.specs.declared.row.MemberRow.{MemberRow}
use Rattle.gl_gov_rules.specs.declared.row.NodeRow.{NodeRow}
use Rattle.gl_gov_rules.specs.declared.row.ProposalRow.{ProposalRow}
use Rattle.gl_gov_rules.specs.History.{History}
use Rattle.gl_gov_rules.specs.Proposals.{proposals}
use Rattle.gl_gov_rules.specs.Service.{constitution, dealing, shares_given}
use Rattle.gl_gov_rules.specs.Rows.{constitution_map, member_write, member_rows, node_write, node_rows, proposal_write, proposal_row, proposal_writes, rule_writes_from, rule_writes_of, dealing_write, service_write, service_row, share_write, write_of, all_rows}
use Rattle.gl_gov_rules.specs.declared.row.ProposalAt.{ProposalAt}
use Rattle.gl_gov_rules.specs.declared.row.RuleAt.{RuleAt}
use Rattle.gl_gov_rules.specs.GovernedRows.{service_row_at, member_row_at, node_row_at, proposal_row_at}
use Rattle.gl_gov_base.specs.AtBase.{proposal_at}
use Rattle.gl_gov_base.proofs.MoreChanges.{kept-map}
use Rattle.gl_gov_base.proofs.RowChanges.{none_each}
use Rattle.gl_gov_base.proofs.RowsRead.{is_word, service_bytes, service-read, member_bytes_of, member-read, node_bytes_of, node_row-read, proposal_bytes_of, IsProposalRow, proposal-read}
use Rattle.gl_gov_base.proofs.RowKinds.{rule_with, share_with, proposal_with, service_of, member_of, node_of, proposal_of, rule_of, dealing_of, share_of}

-- ---- one row

pub record FitsMember (m : MemberRow) : Type 0 where
  pub number : 0 < m.number
  pub key : are_sized 60 m.key ≡ true
  pub leaf : is_word 4 m.next_leaf ≡ true

pub record FitsNode (n : NodeRow) : Type 0 where
  pub order : is_word 2 n.order ≡ true
  pub node : is_node (record { key = n.key; endorsement = n.endorsement }) ≡ true
  pub removal : is_word 8 n.removal ≡ true

pub record FitsShare (s : Share) : Type 0 where
  pub member : 0 < s.member
  pub value : is_digest s.value ≡ true

pub above_zero : (n : ℕ) → 0 < n → nat_lt 0 n ≡ true
above_zero n high = grind (arith, nat_tests)

pub member_value : (m : MemberRow) → FitsMember m → result_ok (whole (member_row_at m.number) (member_bytes_of m)) ≡ Some m
member_value m fits =
    let there = member-read 0 m [] fits.key fits.leaf in
    let back : whole (member_row_at m.number) (member_bytes_of m) ≡ Ok m = ap (whole (member_row_at m.number)) (sym (append-nil (member_bytes_of m))) ∙ rw there.read refl in
    ap (λ r. result_ok r) back

member_back : (m : MemberRow) → FitsMember m → member_of (member_write m) ≡ Some m
member_back m fits = λ i. cond (above_zero m.number fits.number i) (member_value m fits i) None

pub node_value : (n : NodeRow) → FitsNode n → result_ok (whole (node_row_at n.id) (node_bytes_of n)) ≡ Some n
node_value n fits =
    let there = node_row-read 0 n [] fits.order fits.node fits.removal in
    let back : whole (node_row_at n.id) (node_bytes_of n) ≡ Ok n = ap (whole (node_row_at n.id)) (sym (append-nil (node_bytes_of n))) ∙ rw there.read refl in
    ap (λ r. result_ok r) back

pub proposal_value : (p : ProposalRow) → IsProposalRow p → result_ok (whole proposal_row_at (proposal_bytes_of p)) ≡ Some p
proposal_value p fits =
    let there = proposal-read 0 p [] fits in
    let back : whole proposal_row_at (proposal_bytes_of p) ≡ Ok p = ap (whole proposal_row_at) (sym (append-nil (proposal_bytes_of p))) ∙ rw there.read refl in
    ap (λ r. result_ok r) back

proposal_back : (p : ProposalAt) → IsProposalRow p.row → proposal_of (proposal_write p.id p.row) ≡ Some p
proposal_back p fits = ap (option_map (proposal_with p.id)) (proposal_value p.row fits)

pub service_value : (s : ServiceRow) → are_sized 60 s.identity ≡ true → result_ok (whole service_row_at (service_bytes s)) ≡ Some s
service_value s fits = ap (λ r. result_ok r) (whole-read service_row_at service_bytes (λ (s : ServiceRow). are_sized 60 s.identity) service-read s fits)

pub dealing_value : (d : Dealing) → is_dealing d ≡ true → result_ok (whole dealing_at (dealing_bytes d)) ≡ Some d
dealing_value d fits = ap (λ r. result_ok r) (whole-read dealing_at dealing_bytes is_dealing dealing-read d fits)

pub share_value : (v : List ℕ) → is_digest v ≡ true → result_ok (whole digest_at v) ≡ Some v
share_value v fits = ap (λ r. result_ok r) (whole-read digest_at themselves is_digest digest-read v fits)

share_back : (s : Share) → FitsShare s → share_of (share_write s) ≡ Some s
share_back s fits = λ i. cond (above_zero s.member fits.member i) (option_map (share_with (s.member ∷ [])) (share_value s.value fits.value i)) None

pub rule_value : (r : Rule) → is_rule r ≡ true → result_ok (whole rule_at (rule_bytes r)) ≡ Some r
rule_value r fits = ap (λ r. result_ok r) (whole-read rule_at rule_bytes is_rule rule-read r fits)

pub below_eight : (n : ℕ) → n ≤ 7 → nat_le n 7 ≡ true
below_eight n low = grind (arith, nat_tests)

rule_back : (n : ℕ) (r : Rule) → 0 < n → n ≤ 7 → is_rule r ≡ true → rule_of (row constitution_map (n ∷ []) (rule_bytes r)) ≡ Some (record { number = n; rule = r })
rule_back n r high low fits = λ i. cond (above_zero n high i && below_eight n low i) (option_map (rule_with (n ∷ [])) (rule_value r fits i)) None

-- ---- rows of one kind

read_all : {A : Type 0} (f : Write → Option A) (g : A → Write) (P : A → Type 0) → ((x : A) → P x → f (g x) ≡ Some x) → (xs : List A) → AllByRecursion P xs → filter_map f (map g xs) ≡ xs
read_all f g P back [] all = refl
read_all f g P back (x ∷ xs) all = λ i. cons_option (back x all.0 i) (read_all f g P back xs all.1 i)

read_one : {A : Type 0} (f : Write → Option A) (g : A → Write) (P : A → Type 0) → ((x : A) → P x → f (g x) ≡ Some x) → (o : Option A) → IfSome o P → filter_map f (write_of g o) ≡ option_to_list o
read_one f g P back None all = refl
read_one f g P back (Some x) all = ap (λ o. cons_option o []) (back x all)

-- the rules under their numbers
abbrev pub numbered_rules : ℕ → List Rule → List RuleAt
numbered_rules n [] = []
numbered_rules n (r ∷ rs) = record { number = n; rule = r } ∷ numbered_rules (suc n) rs

abbrev pub rules_at : Option (List Rule) → List RuleAt
rules_at None = []
rules_at (Some rs) = numbered_rules 1 rs

rules_back : (n : ℕ) (rs : List Rule) → 0 < n → n + length rs ≤ 8 → list_all is_rule rs ≡ true → filter_map rule_of (rule_writes_from n rs) ≡ numbered_rules n rs
rules_back n [] high low all = refl
rules_back n (r ∷ rs) high low all =
    let parts = and_parts (is_rule r) (list_all is_rule rs) all in
    let upper : n ≤ 7 = omega (arith, low) in
    let rest : suc n + length rs ≤ 8 = omega (arith, low) in
    λ i. cons_option (rule_back n r high upper parts.0 i) (rules_back (suc n) rs (omega (arith, high)) rest parts.1 i)

-- ---- all rows

module _ {Y : Type 0} (f : Write → Option Y) where
  none_of : {A : Type 0} (g : A → Write) → ((x : A) → f (g x) ≡ None) → (xs : List A) → filter_map f (map g xs) ≡ []
  none_of g none xs = kept-map f g xs ∙ none_each (λ x. f (g x)) none xs

  none_in : {A : Type 0} (g : A → Write) → ((x : A) → f (g x) ≡ None) → (o : Option A) → filter_map f (write_of g o) ≡ []
  none_in g none None = refl
  none_in g none (Some x) = ap (λ o. cons_option o []) (none x)

  none_from : ((n : ℕ) (r : Rule) → f (row constitution_map (n ∷ []) (rule_bytes r)) ≡ None) → (n : ℕ) (rs : List Rule) → filter_map f (rule_writes_from n rs) ≡ []
  none_from none n [] = refl
  none_from none n (r ∷ rs) = λ i. cons_option (none n r i) (none_from none (suc n) rs i)

  no_rules : ((n : ℕ) (r : Rule) → f (row constitution_map (n ∷ []) (rule_bytes r)) ≡ None) → (o : Option (List Rule)) → filter_map f (rule_writes_of o) ≡ []
  no_rules none None = refl
  no_rules none (Some rs) = none_from none 1 rs

  abbrev proposed : History → Proposal → Write
  proposed h p = proposal_write p.id (proposal_row h p)

  seven : (a b c d e s t : List Write) → filter_map f (a ++ b ++ c ++ d ++ e ++ s ++ t) ≡ filter_map f a ++ filter_map f b ++ filter_map f c ++ filter_map f d ++ filter_map f e ++ filter_map f s ++ filter_map f t
  seven a b c d e s t = simp filter_map-append refl

  seven_of : (h : History) → filter_map f (all_rows h)
      ≡ filter_map f (rule_writes_of (constitution h)) ++ filter_map f (write_of dealing_write (dealing h)) ++ filter_map f (map member_write (member_rows h)) ++ filter_map f (map node_write (node_rows h))
      ++ filter_map f (map (proposed h) (proposals h)) ++ filter_map f (write_of service_write (service_row h)) ++ filter_map f (map share_write (shares_given h))
  unfolding all_rows proposal_writes
  seven_of h = seven (rule_writes_of (constitution h)) (write_of dealing_write (dealing h)) (map member_write (member_rows h)) (map node_write (node_rows h)) (map (proposed h) (proposals h)) (write_of service_write (service_row h)) (map share_write (shares_given h))

-- nothing after
after_two : {Y : Type 0} (xs : List Y) → xs ++ [] ++ [] ≡ xs
after_two xs = simp append-nil refl

after_three : {Y : Type 0} (xs : List Y) → xs ++ [] ++ [] ++ [] ≡ xs
after_three xs = simp append-nil refl

after_four : {Y : Type 0} (xs : List Y) → xs ++ [] ++ [] ++ [] ++ [] ≡ xs
after_four xs = simp append-nil refl

after_five : {Y : Type 0} (xs : List Y) → xs ++ [] ++ [] ++ [] ++ [] ++ [] ≡ xs
after_five xs = simp append-nil refl

after_six : {Y : Type 0} (xs : List Y) → xs ++ [] ++ [] ++ [] ++ [] ++ [] ++ [] ≡ xs
after_six xs = simp append-nil refl

-- what all rows of a history have, as it is read
pub record FitsRows (h : History) : Type 0 where
  pub rules : IfSome (constitution h) (λ rs. (length rs ≡ 7) × (list_all is_rule rs ≡ true))
  pub dealing : IfSome (dealing h) (λ d. is_dealing d ≡ true)
  pub members : AllByRecursion FitsMember (member_rows h)
  pub nodes : AllByRecursion FitsNode (node_rows h)
  pub proposals : AllByRecursion (λ (p : ProposalAt). IsProposalRow p.row) (map (proposal_at h) (proposals h))
  pub service : IfSome (service_row h) (λ s. are_sized 60 s.identity ≡ true)
  pub shares : AllByRecursion FitsShare (shares_given h)

module _ (h : History) (fits : FitsRows h) where
  pub rules_read : filter_map rule_of (rule_writes_of (constitution h)) ≡ rules_at (constitution h)
  rules_read = own (constitution h) fits.rules
    where
      own : (o : Option (List Rule)) → IfSome o (λ rs. (length rs ≡ 7) × (list_all is_rule rs ≡ true)) → filter_map rule_of (rule_writes_of o) ≡ rules_at o
      own None all = refl
      own (Some rs) all = rules_back 1 rs (omega arith) (let seven = all.0 in omega (arith, seven)) all.1

  pub rules_all : filter_map rule_of (all_rows h) ≡ rules_at (constitution h)
  rules_all =
      seven_of rule_of h
      ∙ (λ i. rules_read i ++ none_in rule_of dealing_write (λ d. refl) (dealing h) i ++ none_of rule_of member_write (λ m. refl) (member_rows h) i ++ none_of rule_of node_write (λ n. refl) (node_rows h) i
      ++ none_of rule_of (proposed rule_of h) (λ p. refl) (proposals h) i ++ none_in rule_of service_write (λ s. refl) (service_row h) i ++ none_of rule_of share_write (λ s. refl) (shares_given h) i)
      ∙ after_six (rules_at (constitution h))

  pub dealing_all : filter_map dealing_of (all_rows h) ≡ option_to_list (dealing h)
  dealing_all =
      seven_of dealing_of h
      ∙ (λ i. no_rules dealing_of (λ n r. refl) (constitution h) i ++ read_one dealing_of dealing_write (λ d. is_dealing d ≡ true) dealing_value (dealing h) fits.dealing i ++ none_of dealing_of member_write (λ m. refl) (member_rows h) i
      ++ none_of dealing_of node_write (λ n. refl) (node_rows h) i ++ none_of dealing_of (proposed dealing_of h) (λ p. refl) (proposals h) i ++ none_in dealing_of service_write (λ s. refl) (service_row h) i
      ++ none_of dealing_of share_write (λ s. refl) (shares_given h) i)
      ∙ after_five (option_to_list (dealing h))

  pub members_all : filter_map member_of (all_rows h) ≡ member_rows h
  members_all =
      seven_of member_of h
      ∙ (λ i. no_rules member_of (λ n r. refl) (constitution h) i ++ none_in member_of dealing_write (λ d. refl) (dealing h) i ++ read_all member_of member_write FitsMember member_back (member_rows h) fits.members i
      ++ none_of member_of node_write (λ n. refl) (node_rows h) i ++ none_of member_of (proposed member_of h) (λ p. refl) (proposals h) i ++ none_in member_of service_write (λ s. refl) (service_row h) i
      ++ none_of member_of share_write (λ s. refl) (shares_given h) i)
      ∙ after_four (member_rows h)

  pub nodes_all : filter_map node_of (all_rows h) ≡ node_rows h
  nodes_all =
      seven_of node_of h
      ∙ (λ i. no_rules node_of (λ n r. refl) (constitution h) i ++ none_in node_of dealing_write (λ d. refl) (dealing h) i ++ none_of node_of member_write (λ m. refl) (member_rows h) i
      ++ read_all node_of node_write FitsNode node_value (node_rows h) fits.nodes i ++ none_of node_of (proposed node_of h) (λ p. refl) (proposals h) i ++ none_in node_of service_write (λ s. refl) (service_row h) i
      ++ none_of node_of share_write (λ s. refl) (shares_given h) i)
      ∙ after_three (node_rows h)

  pub proposals_all : filter_map proposal_of (all_rows h) ≡ map (proposal_at h) (proposals h)
  proposals_all =
      seven_of proposal_of h
      ∙ (λ i. no_rules proposal_of (λ n r. refl) (constitution h) i ++ none_in proposal_of dealing_write (λ d. refl) (dealing h) i ++ none_of proposal_of member_write (λ m. refl) (member_rows h) i
      ++ none_of proposal_of node_write (λ n. refl) (node_rows h) i ++ own (proposals h) fits.proposals i ++ none_in proposal_of service_write (λ s. refl) (service_row h) i
      ++ none_of proposal_of share_write (λ s. refl) (shares_given h) i)
      ∙ after_two (map (proposal_at h) (proposals h))
    where
      own : (ps : List Proposal) → AllByRecursion (λ (p : ProposalAt). IsProposalRow p.row) (map (proposal_at h) ps) → filter_map proposal_of (map (proposed proposal_of h) ps) ≡ map (proposal_at h) ps
      own [] all = refl
      own (p ∷ ps) all = λ i. cons_option (proposal_back (proposal_at h p) all.0 i) (own ps all.1 i)

  pub service_all : filter_map service_of (all_rows h) ≡ option_to_list (service_row h)
  service_all =
      seven_of service_of h
      ∙ (λ i. no_rules service_of (λ n r. refl) (constitution h) i ++ none_in service_of dealing_write (λ d. refl) (dealing h) i ++ none_of service_of member_write (λ m. refl) (member_rows h) i
      ++ none_of service_of node_write (λ n. refl) (node_rows h) i ++ none_of service_of (proposed service_of h) (λ p. refl) (proposals h) i
      ++ read_one service_of service_write (λ s. are_sized 60 s.identity ≡ true) service_value (service_row h) fits.service i ++ none_of service_of share_write (λ s. refl) (shares_given h) i)
      ∙ append-nil (option_to_list (service_row h))

  pub shares_all : filter_map share_of (all_rows h) ≡ shares_given h
  shares_all =
      seven_of share_of h
      ∙ (λ i. no_rules share_of (λ n r. refl) (constitution h) i ++ none_in share_of dealing_write (λ d. refl) (dealing h) i ++ none_of share_of member_write (λ m. refl) (member_rows h) i
      ++ none_of share_of node_write (λ n. refl) (node_rows h) i ++ none_of share_of (proposed share_of h) (λ p. refl) (proposals h) i ++ none_in share_of service_write (λ s. refl) (service_row h) i
      ++ read_all share_of share_write FitsShare share_back (shares_given h) fits.shares i)
