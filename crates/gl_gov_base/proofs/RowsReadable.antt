-- Rows that spell within the bounds of their kinds are all put among the values.
use Rattle.std.proofs.Common.{◌≡◌, ℕ, suc, ◌+◌, ◌<◌, ◌≤◌, List, [], ◌∷◌, ◌++◌, length, Option, Some, None, Bool, true, false, not, ◌&&◌, ◌||◌, ◌==◌, nat_le, nat_lt, cond, filter, filter_map, count_by, refl, sym, ◌∙◌, ap, append-nil, length-append, arith}
use Rattle.std.specs.List.{cons_option, AllByRecursion}
use Rattle.std.specs.Option.{option_to_list}
use Rattle.std.specs.declared.cmp.Ordering.{Ordering}
use Rattle.std.specs.declared.cmp.Ordering.TheVariants.{Less, Equal, Greater}
use Rattle.std.proofs.lemmas.Bool.{and_from}
use Rattle.std.proofs.lemmas.Bool.Decides.{nat_tests}
use Rattle.std.proofs.lemmas.Option.{same_Some}
use Rattle.gl_base.specs.Bytes.{are_sized}
use Rattle.gl_vmaps.specs.Name.{is_governance}
use Rattle.gl_vmaps.specs.Rows.{row_write, row_writes}
use Rattle.gl_vmaps.specs.Writes.{write_order, with_write, put_before}
use Rattle.gl_vmaps.specs.Changes.{row, set_from, write_set}
use Rattle.gl_vmaps.specs.declared.row.Row.{Row}
use Rattle.gl_vmaps.specs.declared.write.Write.{Write}
use Rattle.gl_shares.specs.declared.share.Share.{Share}
use Rattle.gl_requests.specs.Encoding.{rule_bytes, dealing_bytes}
use Rattle.gl_requests.specs.Ranges.{is_rule, is_dealing}
use Rattle.gl_requests.specs.declared.genesis.Dealing.{Dealing}
use Rattle.gl_requests.specs.declared.action.Rule.{Rule}
use Rattle.gl_gov_rules.specs.declared.row.ServiceRow.{ServiceRow}
use Rattle.gl_gov_rules.specs.declared.row.MemberRow.{MemberRow}
use Rattle.gl_gov_rules.specs.declared.row.NodeRow.{NodeRow}
use Rattle.gl_gov_rules.specs.Rows.{service_map, service_key, members_map, nodes_map, proposals_map, constitution_map, dealing_map, dealing_key, shares_map, member_write, node_write, proposal_write, dealing_write, service_write, share_write}
use Rattle.gl_gov_rules.specs.declared.row.ProposalAt.{ProposalAt}
use Rattle.gl_gov_rules.specs.declared.row.GovernedRows.{GovernedRows}
use Rattle.gl_gov_rules.specs.GovernedRows.{is_removed_status, put_where, is_one_byte, has_room, is_node_row, is_proposal_row, any_value, with_row, numbered_from, ended_rows, or_index, rows_from}
use Rattle.gl_gov_rules.proofs.Counting.{one_if, count-cons, count-append}
use Rattle.gl_gov_base.proofs.KnownFacts.{clash}
use Rattle.gl_gov_base.proofs.RowsRead.{service_bytes, member_bytes_of, node_bytes_of, proposal_bytes_of, IsProposalRow}
use Rattle.gl_gov_base.proofs.RowKinds.{proposal_with, rule_with, share_with, member_of, node_of}
use Rattle.gl_gov_base.proofs.RowsCollected.{row_adds, members_added, nodes_added, with_rows, and_then}
use Rattle.gl_gov_base.proofs.RowsSpelled.{FitsMember, FitsNode, FitsShare, above_zero, below_eight, member_value, node_value, proposal_value, service_value, dealing_value, share_value, rule_value}

-- ---- one row

-- what a write spells, within the bounds of its kind
pub data Spells (w : Write) : Type 0 where
  Service : (s : ServiceRow) → w ≡ service_write s → are_sized 60 s.identity ≡ true → Spells w
  Member : (m : MemberRow) → w ≡ member_write m → FitsMember m → Spells w
  Node : (n : NodeRow) → w ≡ node_write n → FitsNode n → is_node_row n ≡ true → Spells w
  Proposed : (p : ProposalAt) → w ≡ proposal_write p.id p.row → IsProposalRow p.row → (length p.id == 32) ≡ true → is_proposal_row p.row ≡ true → Spells w
  Ruled : (n : ℕ) (r : Rule) → w ≡ row constitution_map (n ∷ []) (rule_bytes r) → 0 < n → n ≤ 7 → is_rule r ≡ true → Spells w
  Dealt : (d : Dealing) → w ≡ dealing_write d → is_dealing d ≡ true → Spells w
  Shared : (s : Share) → w ≡ share_write s → FitsShare s → Spells w

put_ok : {X : Type 0} (ok : Bool) (is : X → Bool) (put : X → GovernedRows) (o : Option X) (x : X) → ok ≡ true → is x ≡ true → o ≡ Some x → put_where ok is put o ≡ Some (put x)
put_ok ok is put o x one two three = (λ i. put_where (one i) is put (three i)) ∙ (λ i. cond (two i) (Some (put x)) None)

row_is : (r : Row) (m k v : List ℕ) → row_write r ≡ row m k v → r ≡ record { map = m; key = k; value = v }
row_is r m k v e =
    let value : r.value ≡ v = same_Some r.value v (ap (λ (w : Write). w.value) e) in
    λ i. record { map = ap (λ (w : Write). w.map) e i; key = ap (λ (w : Write). w.key) e i; value = value i }

-- there is room for what the row adds
pub record HasRoom (g : GovernedRows) (w : Write) : Type 0 where
  pub members : (m : MemberRow) → w ≡ member_write m → FitsMember m → has_room g m ≡ true
  pub nodes : (n : NodeRow) → w ≡ node_write n → FitsNode n → nat_lt (length g.nodes) 65535 ≡ true

row_put : (g : GovernedRows) (r : Row) → Spells (row_write r) → HasRoom g (row_write r) → (next : GovernedRows) × (with_row g r ≡ Some next)
unfolding with_row
row_put g r (Service s e fits) room =
    (record g { service = Some s }, ap (with_row g) (row_is r service_map service_key (service_bytes s) e) ∙ put_ok true any_value (λ x. record g { service = Some x }) _ s refl refl (service_value s fits))
row_put g r (Member m e fits) room = (
  record g { members = g.members ++ m ∷ [] },
  ap (with_row g) (row_is r members_map (m.number ∷ []) (member_bytes_of m) e)
      ∙ put_ok (is_one_byte (m.number ∷ [])) (has_room g) (λ x. record g { members = g.members ++ x ∷ [] }) _ m (above_zero m.number fits.number) (room.members m e fits) (member_value m fits),
)
row_put g r (Node n e fits is) room = (
  record g { nodes = g.nodes ++ n ∷ [] },
  ap (with_row g) (row_is r nodes_map n.id (node_bytes_of n) e)
      ∙ put_ok (nat_lt (length g.nodes) 65535) is_node_row (λ x. record g { nodes = g.nodes ++ x ∷ [] }) _ n (room.nodes n e fits) is (node_value n fits),
)
row_put g r (Proposed p e fits long is) room = (
  record g { proposals = g.proposals ++ p ∷ [] },
  ap (with_row g) (row_is r proposals_map p.id (proposal_bytes_of p.row) e)
      ∙ put_ok (length p.id == 32) is_proposal_row (λ x. record g { proposals = g.proposals ++ proposal_with p.id x ∷ [] }) _ p.row long is (proposal_value p.row fits),
)
row_put g r (Ruled n q e high low fits) room = (
  record g { rules = g.rules ++ rule_with (n ∷ []) q ∷ [] },
  ap (with_row g) (row_is r constitution_map (n ∷ []) (rule_bytes q) e)
      ∙ put_ok (is_one_byte (n ∷ []) && nat_le n 7) any_value (λ x. record g { rules = g.rules ++ rule_with (n ∷ []) x ∷ [] }) _ q
      (and_from (is_one_byte (n ∷ [])) (nat_le n 7) (above_zero n high) (below_eight n low)) refl (rule_value q fits),
)
row_put g r (Dealt d e fits) room =
    (record g { dealing = Some d }, ap (with_row g) (row_is r dealing_map dealing_key (dealing_bytes d) e) ∙ put_ok true any_value (λ x. record g { dealing = Some x }) _ d refl refl (dealing_value d fits))
row_put g r (Shared s e fits) room = (
  record g { shares = g.shares ++ share_with (s.member ∷ []) s.value ∷ [] },
  ap (with_row g) (row_is r shares_map (s.member ∷ []) s.value e)
      ∙ put_ok (is_one_byte (s.member ∷ [])) any_value (λ x. record g { shares = g.shares ++ share_with (s.member ∷ []) x ∷ [] }) _ s.value (above_zero s.member fits.member) refl (share_value s.value fits.value),
)

-- ---- rows one after another

abbrev pub is_there : MemberRow → Bool
is_there m = not (is_removed_status m.status)

length_kept : {A : Type 0} (p : A → Bool) (xs : List A) → length (filter p xs) ≡ count_by p xs
length_kept p [] = refl
length_kept p (x ∷ xs) = by (p x) ∙ ap (λ n. one_if (p x) + n) (length_kept p xs) ∙ sym (count-cons p x xs)
  where
    by : (b : Bool) → length (cond b (x ∷ filter p xs) (filter p xs)) ≡ one_if b + length (filter p xs)
    by true = omega arith
    by false = omega arith

count_moved : {A : Type 0} (p : A → Bool) (xs ys : List A) (o : Option A) → count_by p (xs ++ option_to_list o) + count_by p ys ≡ count_by p xs + count_by p (cons_option o ys)
count_moved p xs ys None = ap (λ zs. count_by p zs + count_by p ys) (append-nil xs)
count_moved p xs ys (Some x) = omega (arith, count-append p xs (x ∷ []), count-cons p x [], count-cons p x ys)

length_moved : {A : Type 0} (xs ys : List A) (o : Option A) → length (xs ++ option_to_list o) + length ys ≡ length xs + length (cons_option o ys)
length_moved xs ys None = ap (λ zs. length zs + length ys) (append-nil xs)
length_moved xs ys (Some x) = omega (arith, length-append xs (x ∷ []))

more_count : {A : Type 0} (p : A → Bool) (o : Option A) (ys : List A) → count_by p ys ≤ count_by p (cons_option o ys)
more_count p None ys = omega arith
more_count p (Some x) ys = omega (arith, count-cons p x ys)

more_length : {A : Type 0} (o : Option A) (ys : List A) → length ys ≤ length (cons_option o ys)
more_length None ys = omega arith
more_length (Some x) ys = omega arith

abbrev pub members_of : List Row → List MemberRow
members_of rs = filter_map (λ (r : Row). member_of (row_write r)) rs

abbrev pub nodes_of : List Row → List NodeRow
nodes_of rs = filter_map (λ (r : Row). node_of (row_write r)) rs

-- there is room where all that is still to come has room
room_left : (g : GovernedRows) (r : Row) (rs : List Row) → count_by is_there g.members + count_by is_there (members_of (r ∷ rs)) ≤ 64 → length g.nodes + length (nodes_of (r ∷ rs)) ≤ 65535 → HasRoom g (row_write r)
room_left g r rs few nodes = record { members = λ m e fits. by m e fits (is_removed_status m.status) refl; nodes = node_room }
  where
    kept : (m : MemberRow) → row_write r ≡ member_write m → FitsMember m → member_of (row_write r) ≡ Some m
    kept m e fits = ap member_of e ∙ (λ i. cond (above_zero m.number fits.number i) (member_value m fits i) None)

    by : (m : MemberRow) → row_write r ≡ member_write m → FitsMember m → (b : Bool) → is_removed_status m.status ≡ b → has_room g m ≡ true
    by m e fits true is = ap (λ b. b || nat_lt (length (filter is_there g.members)) 64) is
    by m e fits false is =
        let one : one_if (is_there m) ≡ 1 = ap (λ b. one_if (not b)) is in
        let counted : count_by is_there (members_of (r ∷ rs)) ≡ one_if (is_there m) + count_by is_there (members_of rs) =
        ap (λ o. count_by is_there (cons_option o (members_of rs))) (kept m e fits) ∙ count-cons is_there m (members_of rs) in
        let low : length (filter is_there g.members) < 64 = omega (arith, few, one, counted, length_kept is_there g.members) in
        ap (λ b. b || nat_lt (length (filter is_there g.members)) 64) is ∙ grind (arith, nat_tests, low)

    node_room : (n : NodeRow) → row_write r ≡ node_write n → FitsNode n → nat_lt (length g.nodes) 65535 ≡ true
    node_room n e fits =
        let counted : length (nodes_of (r ∷ rs)) ≡ suc (length (nodes_of rs)) = ap (λ o. length (cons_option o (nodes_of rs))) (ap node_of e ∙ node_value n fits) in
        let low : length g.nodes < 65535 = omega (arith, nodes, counted) in
        grind (arith, nat_tests, low)

-- rows that spell are all put among the values
pub record Reached (g : GovernedRows) (rs : List Row) : Type 0 where
  pub last : GovernedRows
  pub reached : with_rows g rs ≡ Some last

pub rows_put : (g : GovernedRows) (rs : List Row) → AllByRecursion (λ (r : Row). is_governance r.map ≡ true → Spells (row_write r)) rs →
    count_by is_there g.members + count_by is_there (members_of rs) ≤ 64 → length g.nodes + length (nodes_of rs) ≤ 65535 → Reached g rs
rows_put g [] all few nodes = record { last = g; reached = refl }
rows_put g (r ∷ rs) all few nodes = by (is_governance r.map) refl (λ next. rows_put next rs all.1)
  where
    there : (next : (n : GovernedRows) × (with_row g r ≡ Some n)) → is_governance r.map ≡ true →
        ((n : GovernedRows) → count_by is_there n.members + count_by is_there (members_of rs) ≤ 64 → length n.nodes + length (nodes_of rs) ≤ 65535 → Reached n rs) → Reached g (r ∷ rs)
    there next is rest =
        let adds = row_adds g r next.0 next.1 in
        let members = ap (λ ms. count_by is_there ms + count_by is_there (members_of rs)) (members_added g r next.0 adds) ∙ count_moved is_there g.members (members_of rs) (member_of (row_write r)) in
        let ns = ap (λ xs. length xs + length (nodes_of rs)) (nodes_added g r next.0 adds) ∙ length_moved g.nodes (nodes_of rs) (node_of (row_write r)) in
        let end = rest next.0 (omega (arith, members, few)) (omega (arith, ns, nodes)) in
        record { last = end.last; reached = (λ i. cond (is i) (and_then (next.1 i) (λ next. with_rows next rs)) (with_rows g rs)) ∙ end.reached }

    by : (b : Bool) → is_governance r.map ≡ b →
        ((n : GovernedRows) → count_by is_there n.members + count_by is_there (members_of rs) ≤ 64 → length n.nodes + length (nodes_of rs) ≤ 65535 → Reached n rs) → Reached g (r ∷ rs)
    by true is rest = there (row_put g r (all.0 is) (room_left g r rs few nodes)) is rest
    by false is rest =
        let fewer = more_count is_there (member_of (row_write r)) (members_of rs) in
        let shorter = more_length (node_of (row_write r)) (nodes_of rs) in
        let end = rest g (omega (arith, few, fewer)) (omega (arith, nodes, shorter)) in
        record { last = end.last; reached = (λ i. cond (is i) (and_then (with_row g r) (λ next. with_rows next rs)) (with_rows g rs)) ∙ end.reached }

-- then they are read where all is there
pub rows_end : (index : ℕ) (g : GovernedRows) (rs : List Row) (last : GovernedRows) → with_rows g rs ≡ Some last → (k : ℕ) × (rows_from index g rs ≡ ended_rows k last (numbered_from (length last.nodes) 1 last.nodes))
unfolding rows_from
rows_end index g [] last e = (let same : g ≡ last = same_Some g last e in (index, ap (λ (x : GovernedRows). ended_rows index x (numbered_from (length x.nodes) 1 x.nodes)) same))
rows_end index g (r ∷ rs) last e = pick (is_governance r.map) refl e (λ next. rows_end (suc index) next rs last)
  where
    put : (o : Option GovernedRows) → and_then o (λ next. with_rows next rs) ≡ Some last →
        ((next : GovernedRows) → with_rows next rs ≡ Some last → (k : ℕ) × (rows_from (suc index) next rs ≡ ended_rows k last (numbered_from (length last.nodes) 1 last.nodes))) →
        (k : ℕ) × (or_index index o (λ next. rows_from (suc index) next rs) ≡ ended_rows k last (numbered_from (length last.nodes) 1 last.nodes))
    put None e rest = absurd cc
    put (Some next) e rest = rest next e

    pick : (b : Bool) → is_governance r.map ≡ b → cond b (and_then (with_row g r) (λ next. with_rows next rs)) (with_rows g rs) ≡ Some last →
        ((next : GovernedRows) → with_rows next rs ≡ Some last → (k : ℕ) × (rows_from (suc index) next rs ≡ ended_rows k last (numbered_from (length last.nodes) 1 last.nodes))) →
        (k : ℕ) × (cond (is_governance r.map) (or_index index (with_row g r) (λ next. rows_from (suc index) next rs)) (rows_from (suc index) g rs) ≡ ended_rows k last (numbered_from (length last.nodes) 1 last.nodes))
    pick true is e rest = let there = put (with_row g r) e rest in (there.0, (λ i. cond (is i) (or_index index (with_row g r) (λ next. rows_from (suc index) next rs)) (rows_from (suc index) g rs)) ∙ there.1)
    pick false is e rest = let there = rest g e in (there.0, (λ i. cond (is i) (or_index index (with_row g r) (λ next. rows_from (suc index) next rs)) (rows_from (suc index) g rs)) ∙ there.1)

-- ---- write sets

with_all : (P : Write → Type 0) (set : List Write) (w : Write) → AllByRecursion P set → P w → AllByRecursion P (with_write set w)
with_all P [] w all one = (one, tt)
with_all P (x ∷ xs) w all one = by (write_order w x) (with_all P xs w all.1 one)
  where
    by : (o : Ordering) → AllByRecursion P (with_write xs w) → AllByRecursion P (put_before o w x xs (with_write xs w))
    by Less rest = (one, all)
    by Equal rest = (one, all.1)
    by Greater rest = (all.0, rest)

set_all : (P : Write → Type 0) (set ws : List Write) → AllByRecursion P set → AllByRecursion P ws → AllByRecursion P (set_from set ws)
set_all P set [] one two = one
set_all P set (w ∷ ws) one two = set_all P (with_write set w) ws (with_all P set w one two.0) two.1

pub write_set_all : (P : Write → Type 0) (ws : List Write) → AllByRecursion P ws → AllByRecursion P (write_set ws)
write_set_all P ws all = set_all P [] ws tt all

-- rows of governance that are these writes
pub rows_all : (P : Write → Type 0) (qs : List Row) → AllByRecursion P (row_writes (filter (λ (r : Row). is_governance r.map) qs)) → AllByRecursion (λ (r : Row). is_governance r.map ≡ true → P (row_write r)) qs
rows_all P [] all = tt
rows_all P (r ∷ qs) all = by (is_governance r.map) refl all (rows_all P qs)
  where
    by : (b : Bool) → is_governance r.map ≡ b → AllByRecursion P (row_writes (cond b (r ∷ filter (λ (r : Row). is_governance r.map) qs) (filter (λ (r : Row). is_governance r.map) qs))) →
        (AllByRecursion P (row_writes (filter (λ (r : Row). is_governance r.map) qs)) → AllByRecursion (λ (r : Row). is_governance r.map ≡ true → P (row_write r)) qs) →
        AllByRecursion (λ (r : Row). is_governance r.map ≡ true → P (row_write r)) (r ∷ qs)
    by true is all rest = (λ e. all.0, rest all.1)
    by false is all rest = (λ e. absurd (clash (is_governance r.map) is e), rest all)
