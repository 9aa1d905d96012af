-- The rows of nodes that a genesis makes tell the order in which it names them.
use Rattle.std.proofs.Common.{◌≡◌, ℕ, zero, suc, ◌+◌, List, [], ◌∷◌, ◌++◌, map, Option, Some, None, Bool, true, false, not, ◌&&◌, cond, refl, sym, ◌∙◌, ap, ap₂, subst, arith, slice_get}
use Rattle.std.specs.FinMap as rows
use Rattle.std.specs.List.{list_any}
use Rattle.std.specs.Option.{option_or}
use Rattle.std.proofs.lemmas.Bool.{and_parts, or_parts, not-true}
use Rattle.gl_vmaps.specs.Tables.{Tables, Rows, no_tables, same_bytes, value_in, wrote_all}
use Rattle.gl_vmaps.specs.Versions.{is_to_row}
use Rattle.gl_vmaps.specs.LastWrite.{last_write, value_after}
use Rattle.gl_vmaps.specs.declared.write.Write.{Write}
use Rattle.gl_vmaps.proofs.LastWrites.{last_such-cons}
use Rattle.gl_vmaps.proofs.TablesLaws.{value_in-wrote_all, same_bytes-symm}
use Rattle.gl_vmaps.proofs.SameValues.{same_bytes_self}
use Rattle.gl_vmaps.proofs.WriteSets.{rows-write_set, wrote_all-append}
use Rattle.gl_requests.specs.Encoding.{node_id}
use Rattle.gl_requests.specs.declared.genesis.NewMember.{NewMember}
use Rattle.gl_requests.specs.declared.genesis.NewNode.{NewNode}
use Rattle.gl_requests.specs.declared.genesis.Genesis as founding
use Rattle.gl_gov_rules.specs.declared.refusal.NodeStatus.TheVariants as statuses
use Rattle.gl_gov_rules.specs.Changes.{first_rules}
use Rattle.gl_gov_rules.specs.Refusals.{is_node_with, are_ids_distinct}
use Rattle.gl_gov_rules.specs.Rows.{nodes_map, node_write, member_write, rule_writes_from, dealing_write, service_write}
use Rattle.gl_gov_rules.proofs.FoundingRows.{first_member_row, first_node_row, first_node_writes, first_service_row, founding_writes, founding_write_set}
use Rattle.gl_ledger.specs.Tree.{tables_of}
use Rattle.gl_ledger.specs.Ledger.{genesis_entry}
use Rattle.gl_ledger.proofs.Openings.{tables_of_genesis}

-- the row of a node that a genesis names
abbrev named_row : ℕ → NewNode → Write
named_row order n = node_write (first_node_row order n)

-- its key is the identifier of the node
to_node : (key : List ℕ) (order : ℕ) (n : NewNode) → is_to_row nodes_map key (named_row order n) ≡ is_node_with key n
to_node key order n = ap (λ (b : Bool). b && same_bytes key (node_id n)) (same_bytes_self nodes_map) ∙ same_bytes-symm key (node_id n)

-- none of these nodes has this row
no_row : (key : List ℕ) (order : ℕ) (ns : List NewNode) → list_any (is_node_with key) ns ≡ false → last_write nodes_map key (first_node_writes order ns) ≡ None
no_row key order [] none = refl
no_row key order (n ∷ ns) none =
    let both = or_parts (is_node_with key n) (list_any (is_node_with key) ns) none in
    last_such-cons (is_to_row nodes_map key) (named_row order n) (first_node_writes (suc order) ns)
    ∙ ap₂ (λ (o : Option Write) (t : Bool). option_or o (cond t (Some (named_row order n)) None)) (no_row key (suc order) ns both.1) (to_node key order n ∙ both.0)

-- the row of each has its number
its_row : (order : ℕ) (ns : List NewNode) (k : ℕ) (n : NewNode) → are_ids_distinct ns ≡ true → slice_get ns k ≡ Some n →
    last_write nodes_map (node_id n) (first_node_writes order ns) ≡ Some (named_row (order + k) n)
its_row order [] k n apart at = absurd (cc)
its_row order (m ∷ ms) zero n apart at =
    let same : m ≡ n = cc in
    let both = and_parts (not (list_any (is_node_with (node_id m)) ms)) (are_ids_distinct ms) apart in
    let place : order + 0 ≡ order = omega arith in
    subst (λ (x : NewNode). last_write nodes_map (node_id x) (first_node_writes order (m ∷ ms)) ≡ Some (named_row (order + 0) x)) same
    (last_such-cons (is_to_row nodes_map (node_id m)) (named_row order m) (first_node_writes (suc order) ms)
    ∙ ap₂ (λ (o : Option Write) (t : Bool). option_or o (cond t (Some (named_row order m)) None))
    (no_row (node_id m) (suc order) ms (not-true (list_any (is_node_with (node_id m)) ms) both.0)) (to_node (node_id m) order m ∙ same_bytes_self (node_id m))
    ∙ ap (λ (i : ℕ). Some (named_row i m)) (sym place))
its_row order (m ∷ ms) (suc k) n apart at =
    let both = and_parts (not (list_any (is_node_with (node_id m)) ms)) (are_ids_distinct ms) apart in
    let place : suc order + k ≡ order + suc k = omega arith in
    last_such-cons (is_to_row nodes_map (node_id n)) (named_row order m) (first_node_writes (suc order) ms)
    ∙ ap (λ (o : Option Write). option_or o (cond (is_to_row nodes_map (node_id n) (named_row order m)) (Some (named_row order m)) None)) (its_row (suc order) ms k n both.1 at)
    ∙ ap (λ (i : ℕ). Some (named_row i n)) place

-- after a genesis the row of its i-th node, counted from 0, has the number i + 1
pub row_of_node : (g : founding.Genesis) (i : ℕ) (node : NewNode) → are_ids_distinct g.nodes ≡ true → slice_get g.nodes i ≡ Some node →
    value_in (tables_of (genesis_entry g ∷ [])) nodes_map (node_id node)
    ≡ (node_write (record { id = node_id node; order = suc i; status = statuses.Trusted; key = node.key; endorsement = node.endorsement; removal = 0 })).value
row_of_node g i node apart at =
    let before : List Write = rule_writes_from 1 first_rules ++ dealing_write g.dealing ∷ [] ++ map (λ (m : NewMember). member_write (first_member_row m)) g.members in
    let named : List Write = first_node_writes 1 g.nodes in
    let service : List Write = service_write (first_service_row g) ∷ [] in
    let first : Tables = wrote_all no_tables before in
    let place : 1 + i ≡ suc i = omega arith in
    ap (λ (t : Tables). value_in t nodes_map (node_id node)) (tables_of_genesis g)
    ∙ ap (λ (ws : List Write). value_in (wrote_all no_tables ws) nodes_map (node_id node)) (founding_write_set g)
    ∙ ap (λ (r : Rows). rows.get r (node_id node)) (rows-write_set no_tables (founding_writes g) nodes_map)
    ∙ ap (λ (t : Tables). value_in t nodes_map (node_id node)) (wrote_all-append no_tables (before ++ named) service ∙ ap (λ (t : Tables). wrote_all t service) (wrote_all-append no_tables before named))
    ∙ value_in-wrote_all first named nodes_map (node_id node)
    ∙ ap (λ (o : Option Write). value_after o (value_in first nodes_map (node_id node))) (its_row 1 g.nodes i node apart at)
    ∙ ap (λ (k : ℕ). (named_row k node).value) place
