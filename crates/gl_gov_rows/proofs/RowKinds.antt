-- What a row of each map of governance adds to those before it, and that one of no such map adds none.
use Rattle.std.proofs.Common.{◌≡◌, ◌≢◌, ℕ, Bool, Decides, Result, Ok, Err, inl, inr, List, [], ◌∷◌, ◌++◌, ◌&&◌, ◌==◌, true, false, length, nat_le, nat_lt, Some, None, refl, sym, ap, ◌∙◌, arith}
use Rattle.std.specs.Result.{result_ok}
use Rattle.std.specs.Cmp.Lexicographic.{bytes_decides}
use Rattle.std.proofs.lemmas.Bool.Decides.{nat_tests}
use Rattle.sha2.specs.Sha256.{sha256}
use Rattle.sha2.proofs.Facts256.{length-sha256}
use Rattle.gl_base.specs.Cut.{Unread, number_at}
use Rattle.gl_base.specs.Bytes.{same_bytes}
use Rattle.gl_base.specs.Code.{field, unread_of, ended, whole}
use Rattle.gl_base.specs.declared.fault.CodeFault.{CodeFault}
use Rattle.gl_base.specs.declared.fault.CodeFault.TheVariants.{Trailing}
use Rattle.gl_base.proofs.ParsedBytes.{chosen}
use Rattle.gl_base.proofs.Steps.{bind_ok, ok_injective}
use Rattle.gl_vmaps.specs.declared.row.Row.{Row}
use Rattle.gl_requests.specs.Parsing.{node_at, rule_at, dealing_at, digest_at}
use Rattle.gl_gov_rules.specs.declared.row.NodeRow.{NodeRow}
use Rattle.gl_gov_rules.specs.declared.row.GovernedRows.{GovernedRows}
use Rattle.gl_gov_rules.specs.Rows.{node_byte, service_map, service_key, members_map, nodes_map, proposals_map, constitution_map, dealing_map, dealing_key, shares_map}
use Rattle.gl_gov_rules.specs.GovernedRows.{one_of_at, service_row_at, member_row_at, node_row_at, proposal_row_at, put_where, any_value, first_byte, is_one_byte, has_room, is_node_row, is_proposal_row, with_row}
use Rattle.gl_gov_rows.specs.Reading.{node_statuses}
use Rattle.gl_gov_rows.proofs.Spelled.{none_put}

pub service-added : (g : GovernedRows) (r : Row) (key value : List ℕ) → r.map ≡ service_map → key ≡ r.key → value ≡ r.value
    → with_row g r ≡ put_where (same_bytes key service_key) any_value (λ x. record g { service = Some x }) (result_ok (whole service_row_at value))
unfolding with_row
service-added g r key value map ek ev = rw (map, ek, ev) refl

pub member-added : (g : GovernedRows) (r : Row) (key value : List ℕ) (number : ℕ) → r.map ≡ members_map → key ≡ r.key → value ≡ r.value → number ≡ first_byte key
    → with_row g r ≡ put_where (is_one_byte key) (has_room g) (λ x. record g { members = g.members ++ x ∷ [] }) (result_ok (whole (member_row_at number) value))
unfolding with_row
member-added g r key value number map ek ev en = rw (map, en, ek, ev) refl

pub node-added : (g : GovernedRows) (r : Row) (key value : List ℕ) → r.map ≡ nodes_map → key ≡ r.key → value ≡ r.value
    → with_row g r ≡ put_where (nat_lt (length g.nodes) 65535) is_node_row (λ x. record g { nodes = g.nodes ++ x ∷ [] }) (result_ok (whole (node_row_at key) value))
unfolding with_row
node-added g r key value map ek ev = rw (map, ek, ev) refl

pub proposal-added : (g : GovernedRows) (r : Row) (key value : List ℕ) → r.map ≡ proposals_map → key ≡ r.key → value ≡ r.value
    → with_row g r ≡ put_where (length key == 32) is_proposal_row (λ x. record g { proposals = g.proposals ++ record { id = key; row = x } ∷ [] }) (result_ok (whole proposal_row_at value))
unfolding with_row
proposal-added g r key value map ek ev = rw (map, ek, ev) refl

pub rule-added : (g : GovernedRows) (r : Row) (key value : List ℕ) (number : ℕ) → r.map ≡ constitution_map → key ≡ r.key → value ≡ r.value → number ≡ first_byte key
    → with_row g r ≡ put_where (is_one_byte key && nat_le (first_byte key) 7) any_value (λ x. record g { rules = g.rules ++ record { number = number; rule = x } ∷ [] }) (result_ok (whole rule_at value))
unfolding with_row
rule-added g r key value number map ek ev en = rw (map, en, ek, ev) refl

pub dealing-added : (g : GovernedRows) (r : Row) (key value : List ℕ) → r.map ≡ dealing_map → key ≡ r.key → value ≡ r.value
    → with_row g r ≡ put_where (same_bytes key dealing_key) any_value (λ x. record g { dealing = Some x }) (result_ok (whole dealing_at value))
unfolding with_row
dealing-added g r key value map ek ev = rw (map, ek, ev) refl

pub share-added : (g : GovernedRows) (r : Row) (key value : List ℕ) (number : ℕ) → r.map ≡ shares_map → key ≡ r.key → value ≡ r.value → number ≡ first_byte key
    → with_row g r ≡ put_where (is_one_byte key) any_value (λ x. record g { shares = g.shares ++ record { member = number; value = x } ∷ [] }) (result_ok (whole digest_at value))
unfolding with_row
share-added g r key value number map ek ev en = rw (map, en, ek, ev) refl

pub none-added : (g : GovernedRows) (r : Row) → same_bytes r.map service_map ≡ false → same_bytes r.map members_map ≡ false → same_bytes r.map nodes_map ≡ false → same_bytes r.map proposals_map ≡ false
    → same_bytes r.map constitution_map ≡ false → same_bytes r.map dealing_map ≡ false → same_bytes r.map shares_map ≡ false → with_row g r ≡ None
unfolding with_row
none-added g r service members nodes proposals constitution dealing shares = rw (service, members, nodes, proposals, constitution, dealing, shares) refl

-- ---- a key that isn't an identifier's length

pub proposal-unnamed : (g : GovernedRows) (r : Row) → r.map ≡ proposals_map → length r.key ≢ 32 → with_row g r ≡ None
proposal-unnamed g r map short =
    let no : (length r.key == 32) ≡ false = grind (arith, nat_tests, short) in
    proposal-added g r r.key r.value map refl refl
    ∙ none_put (length r.key == 32) is_proposal_row (λ x. record g { proposals = g.proposals ++ record { id = r.key; row = x } ∷ [] }) (result_ok (whole proposal_row_at r.value))
    (λ p there. ap (λ b. b && is_proposal_row p) no)

ended_is : (read : NodeRow × Unread) (n : NodeRow) → ended read ≡ Ok n → read.0 ≡ n
ended_is read n e = elim (chosen {A = Result NodeRow CodeFault} (length read.1.bytes == 0) (Ok read.0) (Err (Trailing read.1.at)) (Ok n) e) [
  | inl all ↦ ok_injective {A = NodeRow} {E = CodeFault} read.0 n all.1
  | inr some ↦ cc
]

-- what is read has the key for its identifier
named : (key value : List ℕ) (n : NodeRow) → whole (node_row_at key) value ≡ Ok n → n.id ≡ key
unfolding node_row_at
named key value n e =
    let read = bind_ok {A = NodeRow × Unread} {B = NodeRow} {E = CodeFault} (node_row_at key (unread_of value)) ended n e in
    let order = bind_ok {E = CodeFault} (field (number_at 2 (unread_of value))) _ read.0 read.1 in
    let status = bind_ok {E = CodeFault} (one_of_at node_byte node_statuses order.0.1) _ read.0 order.2 in
    let node = bind_ok {E = CodeFault} (node_at status.0.1) _ read.0 status.2 in
    let removal = bind_ok {E = CodeFault} (field (number_at 8 node.0.1)) _ read.0 node.2 in
    let made : NodeRow × Unread = (
      record { id = key; order = order.0.0; status = status.0.0; key = node.0.0.key; endorsement = node.0.0.endorsement; removal = removal.0.0 },
      removal.0.1,
    ) in
    let same : made ≡ read.0 = ok_injective {A = NodeRow × Unread} {E = CodeFault} made read.0 removal.2 in
    sym (ap (λ (x : NodeRow). x.id) (ended_is read.0 n read.2)) ∙ sym (ap (λ (x : NodeRow × Unread). x.0.id) {x = made} same)

no : {A : Type 0} (b : Bool) → Decides b A → (A → ⊥) → b ≡ false
no true is never = absurd (never (is.0 refl))
no false is never = refl

read_so : (r : Result NodeRow CodeFault) (n : NodeRow) → result_ok r ≡ Some n → r ≡ Ok n
read_so (Ok x) n e = cc
read_so (Err fault) n e = cc

never_named : (ok order small same : Bool) → same ≡ false → (ok && (order && same && small)) ≡ false
never_named true true small false e = refl
never_named true false small false e = refl
never_named false order small false e = refl
never_named ok order small true e = cc

pub node-unnamed : (g : GovernedRows) (r : Row) → r.map ≡ nodes_map → length r.key ≢ 32 → with_row g r ≡ None
node-unnamed g r map short =
    node-added g r r.key r.value map refl refl
    ∙ none_put (nat_lt (length g.nodes) 65535) is_node_row (λ x. record g { nodes = g.nodes ++ x ∷ [] }) (result_ok (whole (node_row_at r.key) r.value)) (λ n there. never n (read_so (whole (node_row_at r.key) r.value) n there))
  where
    never : (n : NodeRow) → whole (node_row_at r.key) r.value ≡ Ok n → (nat_lt (length g.nodes) 65535 && is_node_row n) ≡ false
    never n read =
        let id : n.id ≡ r.key = named r.key r.value n read in
        let differs : n.id ≢ sha256 n.key = λ same. short (sym (ap length id) ∙ ap length same ∙ length-sha256 n.key) in
        never_named (nat_lt (length g.nodes) 65535) (nat_le 1 n.order) (nat_le (length n.endorsement) 2508) (same_bytes n.id (sha256 n.key)) (no (same_bytes n.id (sha256 n.key)) (bytes_decides n.id (sha256 n.key)) differs)
