-- What a row of governance adds, and what all add.
use Rattle.std.proofs.Common.{◌≡◌, ℕ, suc, List, [], ◌∷◌, ◌++◌, length, Option, Some, None, is_some, Bool, true, false, ◌&&◌, ◌==◌, nat_le, nat_lt, cond, filter_map, Ok, Err, refl, sym, ◌∙◌, ap, append-nil, append_assoc}
use Rattle.std.specs.List.{cons_option}
use Rattle.std.specs.Option.{option_or, option_map, option_to_list}
use Rattle.gl_base.specs.Bytes.{same_bytes}
use Rattle.gl_vmaps.specs.Name.{is_governance}
use Rattle.gl_vmaps.specs.Rows.{row_write}
use Rattle.gl_vmaps.specs.declared.row.Row.{Row}
use Rattle.gl_vmaps.proofs.TablesLaws.{same_bytes-eq}
use Rattle.gl_requests.specs.Parsing.{rule_at, dealing_at, digest_at}
use Rattle.gl_requests.specs.declared.genesis.Dealing.{Dealing}
use Rattle.gl_requests.specs.declared.action.Rule.{Rule}
use Rattle.gl_gov_rules.specs.declared.row.ServiceRow.{ServiceRow}
use Rattle.gl_gov_rules.specs.declared.row.MemberRow.{MemberRow}
use Rattle.gl_gov_rules.specs.declared.row.NodeRow.{NodeRow}
use Rattle.gl_gov_rules.specs.declared.row.ProposalRow.{ProposalRow}
use Rattle.gl_gov_rules.specs.Rows.{service_map, service_key, members_map, nodes_map, proposals_map, constitution_map, dealing_map, dealing_key, shares_map}
use Rattle.gl_gov_rules.specs.declared.row.GovernedRows.{GovernedRows}
use Rattle.gl_gov_rules.specs.GovernedRows.{service_row_at, member_row_at, node_row_at, proposal_row_at, value_read, put_where, first_byte, is_one_byte, has_room, is_node_row, is_proposal_row, any_value, with_row, numbered_from, ended_rows, or_index, rows_from}
use Rattle.gl_gov_base.proofs.RowChanges.{last_item}
use Rattle.gl_gov_base.proofs.RowKinds.{kind_in, is_service_key, is_dealing_key, is_rule_key, any_key, proposal_with, rule_with, share_with, read_service, read_member, read_node, read_proposal, read_rule, read_dealing, read_share, service_of, member_of, node_of, proposal_of, rule_of, dealing_of, share_of}

-- a value that is put was read
put_some : {X : Type 0} (ok : Bool) (is : X → Bool) (put : X → GovernedRows) (o : Option X) (g : GovernedRows) → put_where ok is put o ≡ Some g → (x : X) × (o ≡ Some x) × (put x ≡ g) × (ok ≡ true)
put_some ok is put None g e = absurd cc
put_some {X = X} ok is put (Some x) g e = by ok (is x) refl e
  where
    by : (a b : Bool) → ok ≡ a → cond (a && b) (Some (put x)) None ≡ Some g → (y : X) × (Some x ≡ Some y) × (put y ≡ g) × (ok ≡ true)
    by true true ea e = (x, refl, cc, ea)
    by true false ea e = absurd cc
    by false b ea e = absurd cc

-- which of the maps a row is of, and what it adds
pub data Adds (g : GovernedRows) (r : Row) (next : GovernedRows) : Type 0 where
  Service : (x : ServiceRow) → same_bytes r.map service_map ≡ true → is_service_key r.key ≡ true → value_read service_row_at r ≡ Some x → record g { service = Some x } ≡ next → Adds g r next
  Member : (x : MemberRow) → same_bytes r.map members_map ≡ true → is_one_byte r.key ≡ true → value_read (member_row_at (first_byte r.key)) r ≡ Some x → record g { members = g.members ++ x ∷ [] } ≡ next → Adds g r next
  Node : (x : NodeRow) → same_bytes r.map nodes_map ≡ true → any_key r.key ≡ true → value_read (node_row_at r.key) r ≡ Some x → record g { nodes = g.nodes ++ x ∷ [] } ≡ next → Adds g r next
  Proposed : (x : ProposalRow) → same_bytes r.map proposals_map ≡ true → any_key r.key ≡ true → value_read proposal_row_at r ≡ Some x → record g { proposals = g.proposals ++ proposal_with r.key x ∷ [] } ≡ next → Adds g r next
  Ruled : (x : Rule) → same_bytes r.map constitution_map ≡ true → is_rule_key r.key ≡ true → value_read rule_at r ≡ Some x → record g { rules = g.rules ++ rule_with r.key x ∷ [] } ≡ next → Adds g r next
  Dealt : (x : Dealing) → same_bytes r.map dealing_map ≡ true → is_dealing_key r.key ≡ true → value_read dealing_at r ≡ Some x → record g { dealing = Some x } ≡ next → Adds g r next
  Shared : (x : List ℕ) → same_bytes r.map shares_map ≡ true → is_one_byte r.key ≡ true → value_read digest_at r ≡ Some x → record g { shares = g.shares ++ share_with r.key x ∷ [] } ≡ next → Adds g r next

pub row_adds : (g : GovernedRows) (r : Row) (next : GovernedRows) → with_row g r ≡ Some next → Adds g r next
unfolding with_row
row_adds g r next e = by (same_bytes r.map service_map) (same_bytes r.map members_map) (same_bytes r.map nodes_map) (same_bytes r.map proposals_map) (same_bytes r.map constitution_map) (same_bytes r.map dealing_map) (same_bytes r.map shares_map) refl refl refl refl refl refl refl e
  where
    by : (a b c d f h i : Bool) → same_bytes r.map service_map ≡ a → same_bytes r.map members_map ≡ b → same_bytes r.map nodes_map ≡ c → same_bytes r.map proposals_map ≡ d → same_bytes r.map constitution_map ≡ f → same_bytes r.map dealing_map ≡ h → same_bytes r.map shares_map ≡ i →
        (cond a (put_where (same_bytes r.key service_key) any_value (λ x. record g { service = Some x }) (value_read service_row_at r))
        (cond b (put_where (is_one_byte r.key) (has_room g) (λ x. record g { members = g.members ++ x ∷ [] }) (value_read (member_row_at (first_byte r.key)) r))
        (cond c (put_where (nat_lt (length g.nodes) 65535) is_node_row (λ x. record g { nodes = g.nodes ++ x ∷ [] }) (value_read (node_row_at r.key) r))
        (cond d (put_where (length r.key == 32) is_proposal_row (λ x. record g { proposals = g.proposals ++ proposal_with r.key x ∷ [] }) (value_read proposal_row_at r))
        (cond f (put_where (is_one_byte r.key && nat_le (first_byte r.key) 7) any_value (λ x. record g { rules = g.rules ++ rule_with r.key x ∷ [] }) (value_read rule_at r))
        (cond h (put_where (same_bytes r.key dealing_key) any_value (λ x. record g { dealing = Some x }) (value_read dealing_at r))
        (cond i (put_where (is_one_byte r.key) any_value (λ x. record g { shares = g.shares ++ share_with r.key x ∷ [] }) (value_read digest_at r)) None))))))) ≡ Some next → Adds g r next
    by true b c d f h i ea eb ec ed ef eh ei e = let p = put_some (same_bytes r.key service_key) any_value (λ x. record g { service = Some x }) (value_read service_row_at r) next e in Service p.0 ea p.3 p.1 p.2
    by false true c d f h i ea eb ec ed ef eh ei e = let p = put_some (is_one_byte r.key) (has_room g) (λ x. record g { members = g.members ++ x ∷ [] }) (value_read (member_row_at (first_byte r.key)) r) next e in Member p.0 eb p.3 p.1 p.2
    by false false true d f h i ea eb ec ed ef eh ei e = let p = put_some (nat_lt (length g.nodes) 65535) is_node_row (λ x. record g { nodes = g.nodes ++ x ∷ [] }) (value_read (node_row_at r.key) r) next e in Node p.0 ec refl p.1 p.2
    by false false false true f h i ea eb ec ed ef eh ei e = let p = put_some (length r.key == 32) is_proposal_row (λ x. record g { proposals = g.proposals ++ proposal_with r.key x ∷ [] }) (value_read proposal_row_at r) next e in Proposed p.0 ed refl p.1 p.2
    by false false false false true h i ea eb ec ed ef eh ei e = let p = put_some (is_one_byte r.key && nat_le (first_byte r.key) 7) any_value (λ x. record g { rules = g.rules ++ rule_with r.key x ∷ [] }) (value_read rule_at r) next e in Ruled p.0 ef p.3 p.1 p.2
    by false false false false false true i ea eb ec ed ef eh ei e = let p = put_some (same_bytes r.key dealing_key) any_value (λ x. record g { dealing = Some x }) (value_read dealing_at r) next e in Dealt p.0 eh p.3 p.1 p.2
    by false false false false false false true ea eb ec ed ef eh ei e = let p = put_some (is_one_byte r.key) any_value (λ x. record g { shares = g.shares ++ share_with r.key x ∷ [] }) (value_read digest_at r) next e in Shared p.0 ei p.3 p.1 p.2
    by false false false false false false false ea eb ec ed ef eh ei e = absurd cc

-- a row of another map
other_map : {Y : Type 0} (name own : List ℕ) (ok : List ℕ → Bool) (read : List ℕ → List ℕ → Option Y) (r : Row) → same_bytes r.map name ≡ true → same_bytes name own ≡ false → kind_in own ok read (row_write r) ≡ None
other_map name own ok read r is differ = ap (λ m. cond (same_bytes m own && ok r.key) (read r.key r.value) None) (same_bytes-eq r.map name is) ∙ (λ i. cond (differ i && ok r.key) (read r.key r.value) None)

no_more : {Y : Type 0} (xs : List Y) (o : Option Y) → o ≡ None → xs ≡ xs ++ option_to_list o
no_more xs o e = sym (append-nil xs) ∙ (λ i. xs ++ option_to_list (sym e i))

pub service_added : (g : GovernedRows) (r : Row) (next : GovernedRows) → Adds g r next → next.service ≡ option_or (service_of (row_write r)) g.service
service_added g r next (Service x is ok got same) = ap (λ (n : GovernedRows). n.service) (sym same) ∙ (λ i. option_or (cond (sym is i && sym ok i) (sym got i) None) g.service)
service_added g r next (Member x is ok got same) = ap (λ (n : GovernedRows). n.service) (sym same) ∙ sym (ap (λ o. option_or o g.service) (other_map members_map service_map is_service_key read_service r is refl))
service_added g r next (Node x is ok got same) = ap (λ (n : GovernedRows). n.service) (sym same) ∙ sym (ap (λ o. option_or o g.service) (other_map nodes_map service_map is_service_key read_service r is refl))
service_added g r next (Proposed x is ok got same) = ap (λ (n : GovernedRows). n.service) (sym same) ∙ sym (ap (λ o. option_or o g.service) (other_map proposals_map service_map is_service_key read_service r is refl))
service_added g r next (Ruled x is ok got same) = ap (λ (n : GovernedRows). n.service) (sym same) ∙ sym (ap (λ o. option_or o g.service) (other_map constitution_map service_map is_service_key read_service r is refl))
service_added g r next (Dealt x is ok got same) = ap (λ (n : GovernedRows). n.service) (sym same) ∙ sym (ap (λ o. option_or o g.service) (other_map dealing_map service_map is_service_key read_service r is refl))
service_added g r next (Shared x is ok got same) = ap (λ (n : GovernedRows). n.service) (sym same) ∙ sym (ap (λ o. option_or o g.service) (other_map shares_map service_map is_service_key read_service r is refl))

pub members_added : (g : GovernedRows) (r : Row) (next : GovernedRows) → Adds g r next → next.members ≡ g.members ++ option_to_list (member_of (row_write r))
members_added g r next (Service x is ok got same) = ap (λ (n : GovernedRows). n.members) (sym same) ∙ no_more g.members (member_of (row_write r)) (other_map service_map members_map is_one_byte read_member r is refl)
members_added g r next (Member x is ok got same) = ap (λ (n : GovernedRows). n.members) (sym same) ∙ (λ i. g.members ++ option_to_list (cond (sym is i && sym ok i) (sym got i) None))
members_added g r next (Node x is ok got same) = ap (λ (n : GovernedRows). n.members) (sym same) ∙ no_more g.members (member_of (row_write r)) (other_map nodes_map members_map is_one_byte read_member r is refl)
members_added g r next (Proposed x is ok got same) = ap (λ (n : GovernedRows). n.members) (sym same) ∙ no_more g.members (member_of (row_write r)) (other_map proposals_map members_map is_one_byte read_member r is refl)
members_added g r next (Ruled x is ok got same) = ap (λ (n : GovernedRows). n.members) (sym same) ∙ no_more g.members (member_of (row_write r)) (other_map constitution_map members_map is_one_byte read_member r is refl)
members_added g r next (Dealt x is ok got same) = ap (λ (n : GovernedRows). n.members) (sym same) ∙ no_more g.members (member_of (row_write r)) (other_map dealing_map members_map is_one_byte read_member r is refl)
members_added g r next (Shared x is ok got same) = ap (λ (n : GovernedRows). n.members) (sym same) ∙ no_more g.members (member_of (row_write r)) (other_map shares_map members_map is_one_byte read_member r is refl)

pub nodes_added : (g : GovernedRows) (r : Row) (next : GovernedRows) → Adds g r next → next.nodes ≡ g.nodes ++ option_to_list (node_of (row_write r))
nodes_added g r next (Service x is ok got same) = ap (λ (n : GovernedRows). n.nodes) (sym same) ∙ no_more g.nodes (node_of (row_write r)) (other_map service_map nodes_map any_key read_node r is refl)
nodes_added g r next (Member x is ok got same) = ap (λ (n : GovernedRows). n.nodes) (sym same) ∙ no_more g.nodes (node_of (row_write r)) (other_map members_map nodes_map any_key read_node r is refl)
nodes_added g r next (Node x is ok got same) = ap (λ (n : GovernedRows). n.nodes) (sym same) ∙ (λ i. g.nodes ++ option_to_list (cond (sym is i && sym ok i) (sym got i) None))
nodes_added g r next (Proposed x is ok got same) = ap (λ (n : GovernedRows). n.nodes) (sym same) ∙ no_more g.nodes (node_of (row_write r)) (other_map proposals_map nodes_map any_key read_node r is refl)
nodes_added g r next (Ruled x is ok got same) = ap (λ (n : GovernedRows). n.nodes) (sym same) ∙ no_more g.nodes (node_of (row_write r)) (other_map constitution_map nodes_map any_key read_node r is refl)
nodes_added g r next (Dealt x is ok got same) = ap (λ (n : GovernedRows). n.nodes) (sym same) ∙ no_more g.nodes (node_of (row_write r)) (other_map dealing_map nodes_map any_key read_node r is refl)
nodes_added g r next (Shared x is ok got same) = ap (λ (n : GovernedRows). n.nodes) (sym same) ∙ no_more g.nodes (node_of (row_write r)) (other_map shares_map nodes_map any_key read_node r is refl)

pub proposals_added : (g : GovernedRows) (r : Row) (next : GovernedRows) → Adds g r next → next.proposals ≡ g.proposals ++ option_to_list (proposal_of (row_write r))
proposals_added g r next (Service x is ok got same) = ap (λ (n : GovernedRows). n.proposals) (sym same) ∙ no_more g.proposals (proposal_of (row_write r)) (other_map service_map proposals_map any_key read_proposal r is refl)
proposals_added g r next (Member x is ok got same) = ap (λ (n : GovernedRows). n.proposals) (sym same) ∙ no_more g.proposals (proposal_of (row_write r)) (other_map members_map proposals_map any_key read_proposal r is refl)
proposals_added g r next (Node x is ok got same) = ap (λ (n : GovernedRows). n.proposals) (sym same) ∙ no_more g.proposals (proposal_of (row_write r)) (other_map nodes_map proposals_map any_key read_proposal r is refl)
proposals_added g r next (Proposed x is ok got same) = ap (λ (n : GovernedRows). n.proposals) (sym same) ∙ (λ i. g.proposals ++ option_to_list (cond (sym is i && sym ok i) (option_map (proposal_with r.key) (sym got i)) None))
proposals_added g r next (Ruled x is ok got same) = ap (λ (n : GovernedRows). n.proposals) (sym same) ∙ no_more g.proposals (proposal_of (row_write r)) (other_map constitution_map proposals_map any_key read_proposal r is refl)
proposals_added g r next (Dealt x is ok got same) = ap (λ (n : GovernedRows). n.proposals) (sym same) ∙ no_more g.proposals (proposal_of (row_write r)) (other_map dealing_map proposals_map any_key read_proposal r is refl)
proposals_added g r next (Shared x is ok got same) = ap (λ (n : GovernedRows). n.proposals) (sym same) ∙ no_more g.proposals (proposal_of (row_write r)) (other_map shares_map proposals_map any_key read_proposal r is refl)

pub rules_added : (g : GovernedRows) (r : Row) (next : GovernedRows) → Adds g r next → next.rules ≡ g.rules ++ option_to_list (rule_of (row_write r))
rules_added g r next (Service x is ok got same) = ap (λ (n : GovernedRows). n.rules) (sym same) ∙ no_more g.rules (rule_of (row_write r)) (other_map service_map constitution_map is_rule_key read_rule r is refl)
rules_added g r next (Member x is ok got same) = ap (λ (n : GovernedRows). n.rules) (sym same) ∙ no_more g.rules (rule_of (row_write r)) (other_map members_map constitution_map is_rule_key read_rule r is refl)
rules_added g r next (Node x is ok got same) = ap (λ (n : GovernedRows). n.rules) (sym same) ∙ no_more g.rules (rule_of (row_write r)) (other_map nodes_map constitution_map is_rule_key read_rule r is refl)
rules_added g r next (Proposed x is ok got same) = ap (λ (n : GovernedRows). n.rules) (sym same) ∙ no_more g.rules (rule_of (row_write r)) (other_map proposals_map constitution_map is_rule_key read_rule r is refl)
rules_added g r next (Ruled x is ok got same) = ap (λ (n : GovernedRows). n.rules) (sym same) ∙ (λ i. g.rules ++ option_to_list (cond (sym is i && sym ok i) (option_map (rule_with r.key) (sym got i)) None))
rules_added g r next (Dealt x is ok got same) = ap (λ (n : GovernedRows). n.rules) (sym same) ∙ no_more g.rules (rule_of (row_write r)) (other_map dealing_map constitution_map is_rule_key read_rule r is refl)
rules_added g r next (Shared x is ok got same) = ap (λ (n : GovernedRows). n.rules) (sym same) ∙ no_more g.rules (rule_of (row_write r)) (other_map shares_map constitution_map is_rule_key read_rule r is refl)

pub dealing_added : (g : GovernedRows) (r : Row) (next : GovernedRows) → Adds g r next → next.dealing ≡ option_or (dealing_of (row_write r)) g.dealing
dealing_added g r next (Service x is ok got same) = ap (λ (n : GovernedRows). n.dealing) (sym same) ∙ sym (ap (λ o. option_or o g.dealing) (other_map service_map dealing_map is_dealing_key read_dealing r is refl))
dealing_added g r next (Member x is ok got same) = ap (λ (n : GovernedRows). n.dealing) (sym same) ∙ sym (ap (λ o. option_or o g.dealing) (other_map members_map dealing_map is_dealing_key read_dealing r is refl))
dealing_added g r next (Node x is ok got same) = ap (λ (n : GovernedRows). n.dealing) (sym same) ∙ sym (ap (λ o. option_or o g.dealing) (other_map nodes_map dealing_map is_dealing_key read_dealing r is refl))
dealing_added g r next (Proposed x is ok got same) = ap (λ (n : GovernedRows). n.dealing) (sym same) ∙ sym (ap (λ o. option_or o g.dealing) (other_map proposals_map dealing_map is_dealing_key read_dealing r is refl))
dealing_added g r next (Ruled x is ok got same) = ap (λ (n : GovernedRows). n.dealing) (sym same) ∙ sym (ap (λ o. option_or o g.dealing) (other_map constitution_map dealing_map is_dealing_key read_dealing r is refl))
dealing_added g r next (Dealt x is ok got same) = ap (λ (n : GovernedRows). n.dealing) (sym same) ∙ (λ i. option_or (cond (sym is i && sym ok i) (sym got i) None) g.dealing)
dealing_added g r next (Shared x is ok got same) = ap (λ (n : GovernedRows). n.dealing) (sym same) ∙ sym (ap (λ o. option_or o g.dealing) (other_map shares_map dealing_map is_dealing_key read_dealing r is refl))

pub shares_added : (g : GovernedRows) (r : Row) (next : GovernedRows) → Adds g r next → next.shares ≡ g.shares ++ option_to_list (share_of (row_write r))
shares_added g r next (Service x is ok got same) = ap (λ (n : GovernedRows). n.shares) (sym same) ∙ no_more g.shares (share_of (row_write r)) (other_map service_map shares_map is_one_byte read_share r is refl)
shares_added g r next (Member x is ok got same) = ap (λ (n : GovernedRows). n.shares) (sym same) ∙ no_more g.shares (share_of (row_write r)) (other_map members_map shares_map is_one_byte read_share r is refl)
shares_added g r next (Node x is ok got same) = ap (λ (n : GovernedRows). n.shares) (sym same) ∙ no_more g.shares (share_of (row_write r)) (other_map nodes_map shares_map is_one_byte read_share r is refl)
shares_added g r next (Proposed x is ok got same) = ap (λ (n : GovernedRows). n.shares) (sym same) ∙ no_more g.shares (share_of (row_write r)) (other_map proposals_map shares_map is_one_byte read_share r is refl)
shares_added g r next (Ruled x is ok got same) = ap (λ (n : GovernedRows). n.shares) (sym same) ∙ no_more g.shares (share_of (row_write r)) (other_map constitution_map shares_map is_one_byte read_share r is refl)
shares_added g r next (Dealt x is ok got same) = ap (λ (n : GovernedRows). n.shares) (sym same) ∙ no_more g.shares (share_of (row_write r)) (other_map dealing_map shares_map is_one_byte read_share r is refl)
shares_added g r next (Shared x is ok got same) = ap (λ (n : GovernedRows). n.shares) (sym same) ∙ (λ i. g.shares ++ option_to_list (cond (sym is i && sym ok i) (option_map (share_with r.key) (sym got i)) None))

-- ---- all rows

abbrev pub and_then : Option GovernedRows → (GovernedRows → Option GovernedRows) → Option GovernedRows
and_then None next = None
and_then (Some g) next = next g

-- what the rows of governance add, one after another
abbrev pub with_rows : GovernedRows → List Row → Option GovernedRows
with_rows g [] = Some g
with_rows g (r ∷ rs) = cond (is_governance r.map) (and_then (with_row g r) (λ next. with_rows next rs)) (with_rows g rs)

-- the values of rows are those that all leave, but for the nodes, which stand by their numbers
pub record Ended (g : GovernedRows) (rs : List Row) (all : GovernedRows) : Type 0 where
  pub last : GovernedRows
  pub reached : with_rows g rs ≡ Some last
  pub nodes : List NodeRow
  pub numbered : numbered_from (length last.nodes) 1 last.nodes ≡ Some nodes
  pub full : (is_some last.service && is_some last.dealing && (length last.rules == 7)) ≡ true
  pub is : record last { nodes = nodes } ≡ all

pub rows_ended : (index : ℕ) (g : GovernedRows) (rs : List Row) (all : GovernedRows) → rows_from index g rs ≡ Ok all → Ended g rs all
unfolding rows_from
rows_ended index g [] all e = by (numbered_from (length g.nodes) 1 g.nodes) refl e
  where
    by : (o : Option (List NodeRow)) → numbered_from (length g.nodes) 1 g.nodes ≡ o → ended_rows index g o ≡ Ok all → Ended g [] all
    by None at e = absurd cc
    by (Some ns) at e = pick (is_some g.service && is_some g.dealing && (length g.rules == 7)) refl e
      where
        pick : (b : Bool) → (is_some g.service && is_some g.dealing && (length g.rules == 7)) ≡ b → cond b (Ok (record g { nodes = ns })) (Err index) ≡ Ok all → Ended g [] all
        pick true full e = let same : record g { nodes = ns } ≡ all = cc in record { last = g; reached = refl; nodes = ns; numbered = at; full = full; is = same }
        pick false full e = absurd cc
rows_ended index g (r ∷ rs) all e = pick (is_governance r.map) refl e (λ next. rows_ended (suc index) next rs all)
  where
    put : (o : Option GovernedRows) → with_row g r ≡ o → is_governance r.map ≡ true → or_index index o (λ next. rows_from (suc index) next rs) ≡ Ok all →
        ((next : GovernedRows) → rows_from (suc index) next rs ≡ Ok all → Ended next rs all) → Ended g (r ∷ rs) all
    put None at is e rest = absurd cc
    put (Some next) at is e rest =
        let there = rest next e in
        record { last = there.last; reached = (λ i. cond (is i) (and_then (at i) (λ next. with_rows next rs)) (with_rows g rs)) ∙ there.reached; nodes = there.nodes; numbered = there.numbered; full = there.full; is = there.is }

    pick : (b : Bool) → is_governance r.map ≡ b → cond b (or_index index (with_row g r) (λ next. rows_from (suc index) next rs)) (rows_from (suc index) g rs) ≡ Ok all →
        ((next : GovernedRows) → rows_from (suc index) next rs ≡ Ok all → Ended next rs all) → Ended g (r ∷ rs) all
    pick true is e rest = put (with_row g r) refl is e rest
    pick false is e rest =
        let there = rest g e in
        record { last = there.last; reached = (λ i. cond (is i) (and_then (with_row g r) (λ next. with_rows next rs)) (with_rows g rs)) ∙ there.reached; nodes = there.nodes; numbered = there.numbered; full = there.full; is = there.is }

-- a map that is no map of governance
pub ungoverned : {Y : Type 0} (own : List ℕ) (ok : List ℕ → Bool) (read : List ℕ → List ℕ → Option Y) → is_governance own ≡ true → (r : Row) → is_governance r.map ≡ false → kind_in own ok read (row_write r) ≡ None
ungoverned own ok read governed r is = by (same_bytes r.map own) refl
  where
    by : (b : Bool) → same_bytes r.map own ≡ b → cond (b && ok r.key) (read r.key r.value) None ≡ None
    by false e = refl
    by true e = let no : is_governance r.map ≡ true = ap is_governance (same_bytes-eq r.map own e) ∙ governed in absurd cc

module _ {Y : Type 0} (own : List ℕ) (ok : List ℕ → Bool) (read : List ℕ → List ℕ → Option Y) (governed : is_governance own ≡ true) where
  abbrev f : Row → Option Y
  f r = kind_in own ok read (row_write r)

  -- a list of values is that of the rows, in order
  module _ (field : GovernedRows → List Y) (added : (g : GovernedRows) (r : Row) (next : GovernedRows) → Adds g r next → field next ≡ field g ++ option_to_list (f r)) where
    pub collected : (g : GovernedRows) (rs : List Row) (last : GovernedRows) → with_rows g rs ≡ Some last → field last ≡ field g ++ filter_map f rs
    collected g [] last e = (let same : g ≡ last = cc in ap field (sym same)) ∙ sym (append-nil (field g))
    collected g (r ∷ rs) last e = pick (is_governance r.map) refl e (λ next. collected next rs last)
      where
        more : (xs : List Y) (o : Option Y) (ys : List Y) → (xs ++ option_to_list o) ++ ys ≡ xs ++ cons_option o ys
        more xs None ys = ap (λ zs. zs ++ ys) (append-nil xs)
        more xs (Some x) ys = append_assoc xs (x ∷ []) ys

        put : (o : Option GovernedRows) → with_row g r ≡ o → and_then o (λ next. with_rows next rs) ≡ Some last → ((next : GovernedRows) → with_rows next rs ≡ Some last → field last ≡ field next ++ filter_map f rs) → field last ≡ field g ++ cons_option (f r) (filter_map f rs)
        put None at e rest = absurd cc
        put (Some next) at e rest = rest next e ∙ ap (λ ys. ys ++ filter_map f rs) (added g r next (row_adds g r next at)) ∙ more (field g) (f r) (filter_map f rs)

        pick : (b : Bool) → is_governance r.map ≡ b → cond b (and_then (with_row g r) (λ next. with_rows next rs)) (with_rows g rs) ≡ Some last → ((next : GovernedRows) → with_rows next rs ≡ Some last → field last ≡ field next ++ filter_map f rs) →
            field last ≡ field g ++ cons_option (f r) (filter_map f rs)
        pick true is e rest = put (with_row g r) refl e rest
        pick false is e rest = rest g e ∙ (λ i. field g ++ cons_option (sym (ungoverned own ok read governed r is) i) (filter_map f rs))

  -- one value is that of the last row
  module _ (field : GovernedRows → Option Y) (added : (g : GovernedRows) (r : Row) (next : GovernedRows) → Adds g r next → field next ≡ option_or (f r) (field g)) where
    pub last_collected : (g : GovernedRows) (rs : List Row) (last : GovernedRows) → with_rows g rs ≡ Some last → field last ≡ option_or (last_item (filter_map f rs)) (field g)
    last_collected g [] last e = let same : g ≡ last = cc in ap field (sym same)
    last_collected g (r ∷ rs) last e = pick (is_governance r.map) refl e (λ next. last_collected next rs last)
      where
        more : (o p q : Option Y) → option_or o (option_or p q) ≡ option_or (option_or o p) q
        more None p q = refl
        more (Some x) p q = refl

        joined : (o : Option Y) (xs : List Y) → option_or (last_item xs) o ≡ last_item (cons_option o xs)
        joined None xs = plain (last_item xs)
          where
            plain : (o : Option Y) → option_or o None ≡ o
            plain None = refl
            plain (Some x) = refl
        joined (Some x) xs = refl

        put : (o : Option GovernedRows) → with_row g r ≡ o → and_then o (λ next. with_rows next rs) ≡ Some last → ((next : GovernedRows) → with_rows next rs ≡ Some last → field last ≡ option_or (last_item (filter_map f rs)) (field next)) →
            field last ≡ option_or (last_item (cons_option (f r) (filter_map f rs))) (field g)
        put None at e rest = absurd cc
        put (Some next) at e rest =
            rest next e ∙ ap (option_or (last_item (filter_map f rs))) (added g r next (row_adds g r next at)) ∙ more (last_item (filter_map f rs)) (f r) (field g)
            ∙ ap (λ o. option_or o (field g)) (joined (f r) (filter_map f rs))

        pick : (b : Bool) → is_governance r.map ≡ b → cond b (and_then (with_row g r) (λ next. with_rows next rs)) (with_rows g rs) ≡ Some last →
            ((next : GovernedRows) → with_rows next rs ≡ Some last → field last ≡ option_or (last_item (filter_map f rs)) (field next)) → field last ≡ option_or (last_item (cons_option (f r) (filter_map f rs))) (field g)
        pick true is e rest = put (with_row g r) refl e rest
        pick false is e rest = rest g e ∙ (λ i. option_or (last_item (cons_option (sym (ungoverned own ok read governed r is) i) (filter_map f rs))) (field g))

-- what no row of governance changes
seqno_kept : (g : GovernedRows) (r : Row) (next : GovernedRows) → Adds g r next → next.seqno ≡ g.seqno
seqno_kept g r next (Service x is ok got same) = ap (λ (n : GovernedRows). n.seqno) (sym same)
seqno_kept g r next (Member x is ok got same) = ap (λ (n : GovernedRows). n.seqno) (sym same)
seqno_kept g r next (Node x is ok got same) = ap (λ (n : GovernedRows). n.seqno) (sym same)
seqno_kept g r next (Proposed x is ok got same) = ap (λ (n : GovernedRows). n.seqno) (sym same)
seqno_kept g r next (Ruled x is ok got same) = ap (λ (n : GovernedRows). n.seqno) (sym same)
seqno_kept g r next (Dealt x is ok got same) = ap (λ (n : GovernedRows). n.seqno) (sym same)
seqno_kept g r next (Shared x is ok got same) = ap (λ (n : GovernedRows). n.seqno) (sym same)

pub seqno_collected : (g : GovernedRows) (rs : List Row) (last : GovernedRows) → with_rows g rs ≡ Some last → last.seqno ≡ g.seqno
seqno_collected g [] last e = let same : g ≡ last = cc in ap (λ (n : GovernedRows). n.seqno) (sym same)
seqno_collected g (r ∷ rs) last e = pick (is_governance r.map) e (λ next. seqno_collected next rs last)
  where
    put : (o : Option GovernedRows) → with_row g r ≡ o → and_then o (λ next. with_rows next rs) ≡ Some last → ((next : GovernedRows) → with_rows next rs ≡ Some last → last.seqno ≡ next.seqno) → last.seqno ≡ g.seqno
    put None at e rest = absurd cc
    put (Some next) at e rest = rest next e ∙ seqno_kept g r next (row_adds g r next at)

    pick : (b : Bool) → cond b (and_then (with_row g r) (λ next. with_rows next rs)) (with_rows g rs) ≡ Some last → ((next : GovernedRows) → with_rows next rs ≡ Some last → last.seqno ≡ next.seqno) → last.seqno ≡ g.seqno
    pick true e rest = put (with_row g r) refl e rest
    pick false e rest = rest g e
