-- What is read of a write set by a kind of rows has the same elements as what is read of the writes.
use Rattle.std.proofs.Common.{◌≡◌, ℕ, suc, List, [], ◌∷◌, length, Option, Some, None, is_some, Bool, true, false, ◌&&◌, ◌==◌, nat_le, nat_lt, nat_eq, cond, filter_map, Result, Ok, Err, refl, sym, ◌∙◌, ap, arith}
use Rattle.std.specs.Option.{option_map}
use Rattle.std.specs.Result.{result_ok}
use Rattle.std.proofs.lemmas.Bool.{and_parts}
use Rattle.std.proofs.lemmas.Bool.Decides.{nat_tests}
use Rattle.gl_base.specs.Bytes.{same_bytes}
use Rattle.gl_base.specs.Steps.{◌>>=◌}
use Rattle.gl_base.specs.Cut.{Unread, bytes_at, number_at}
use Rattle.gl_base.specs.Code.{field, whole, ended}
use Rattle.gl_base.specs.declared.fault.CodeFault.{CodeFault}
use Rattle.gl_base.specs.declared.fault.CodeFault.TheVariants as faults
use Rattle.gl_vmaps.specs.Changes.{write_set}
use Rattle.gl_vmaps.specs.declared.write.Write.{Write}
use Rattle.gl_vmaps.proofs.TablesLaws.{same_bytes-symm}
use Rattle.gl_requests.specs.Parsing.{rule_at, digest_at, node_at}
use Rattle.gl_requests.specs.declared.genesis.NewNode.{NewNode}
use Rattle.gl_gov_rules.specs.declared.refusal.MemberStatus.{MemberStatus}
use Rattle.gl_gov_rules.specs.declared.refusal.MemberStatus.TheVariants as statuses
use Rattle.gl_gov_rules.specs.declared.refusal.NodeStatus.{NodeStatus}
use Rattle.gl_gov_rules.specs.declared.refusal.NodeStatus.TheVariants as node_statuses
use Rattle.gl_gov_rules.specs.declared.row.MemberRow.{MemberRow}
use Rattle.gl_gov_rules.specs.declared.row.NodeRow.{NodeRow}
use Rattle.gl_gov_rules.specs.Rows.{service_map, service_key, members_map, member_byte, nodes_map, node_byte, proposals_map, constitution_map, dealing_map, dealing_key, shares_map}
use Rattle.gl_gov_rules.specs.declared.row.RuleAt.{RuleAt}
use Rattle.gl_gov_rules.specs.GovernedRows.{one_of_at, is_one_byte, first_byte, member_row_at, node_row_at, proposal_row_at}
use Rattle.gl_gov_base.specs.SameBy.{SameBy}
use Rattle.gl_gov_base.specs.Alike.{of_member}
use Rattle.gl_gov_base.specs.AtBase.{of_number, is_proposal_at}
use Rattle.gl_gov_base.proofs.KeptLists.{passes, same_kept}
use Rattle.gl_gov_base.proofs.DistinctRows.{RowKey, is_row, AreDistinct, same_as_set}
use Rattle.gl_gov_base.proofs.RowKinds.{valued, kind_in, is_service_key, is_dealing_key, is_rule_key, any_key, proposal_with, rule_with, share_with, read_service, read_member, read_node, read_proposal, read_rule, read_dealing, read_share, service_of, member_of, node_of, proposal_of, rule_of, dealing_of, share_of}

and_none : (b : Bool) → false ≡ (b && false)
and_none true = refl
and_none false = refl

-- what is read has the key of its row
module _ {L Y : Type 0} (own : List ℕ) (ok : List ℕ → Bool) (read : List ℕ → List ℕ → Option Y) (had : L → Y → Bool) (key : L → List ℕ)
    (reads : (l : L) (p : Y → Bool) (k v : List ℕ) → ok k ≡ true → passes (λ y. had l y && p y) (read k v) ≡ (same_bytes (key l) k && passes p (read k v))) where
  abbrev row_of : L → RowKey
  row_of l = record { map = own; key = key l }

  kept_key : (l : L) (w : Write) (p : Y → Bool) → passes (λ y. had l y && p y) (kind_in own ok read w) ≡ (is_row (row_of l) w && passes p (kind_in own ok read w))
  kept_key l w p = by (same_bytes w.map own) (ok w.key) refl refl
    where
      value : (v : Option (List ℕ)) → ok w.key ≡ true → passes (λ y. had l y && p y) (valued (read w.key) v) ≡ (same_bytes (key l) w.key && passes p (valued (read w.key) v))
      value None e = and_none (same_bytes (key l) w.key)
      value (Some v) e = reads l p w.key v e

      by : (a b : Bool) → same_bytes w.map own ≡ a → ok w.key ≡ b →
          passes (λ y. had l y && p y) (cond (a && b) (valued (read w.key) w.value) None) ≡ (is_row (row_of l) w && passes p (cond (a && b) (valued (read w.key) w.value) None))
      by true true ea eb =
          value w.value eb ∙ (λ i. (sym (same_bytes-symm own w.map ∙ ea) i && same_bytes (key l) w.key) && passes p (valued (read w.key) w.value))
      by true false ea eb = and_none (is_row (row_of l) w)
      by false b ea eb = and_none (is_row (row_of l) w)

  pub kept_alone : (l : L) (w : Write) → passes (had l) (kind_in own ok read w) ≡ (is_row (row_of l) w && is_some (kind_in own ok read w))
  kept_alone l w = plain (kind_in own ok read w) ∙ kept_key l w (λ y. true) ∙ ap (λ b. is_row (row_of l) w && b) (some (kind_in own ok read w))
    where
      and_yes : (b : Bool) → b ≡ (b && true)
      and_yes true = refl
      and_yes false = refl

      plain : (o : Option Y) → passes (had l) o ≡ passes (λ y. had l y && true) o
      plain None = refl
      plain (Some y) = and_yes (had l y)

      some : (o : Option Y) → passes (λ y. true) o ≡ is_some o
      some None = refl
      some (Some y) = refl

  pub same_kind : (ws : List Write) → AreDistinct ws → SameBy had (filter_map (kind_in own ok read) (write_set ws)) (filter_map (kind_in own ok read) ws)
  same_kind ws distinct = same_kept is_row had row_of (kind_in own ok read) (λ l w p. kept_key l w p) (λ l w. kept_alone l w) (write_set ws) ws (same_as_set ws distinct)

-- ---- members

-- what is read has the number that it was read for
module _ (k n : ℕ) (p : MemberRow → Bool) where
  abbrev Keeps : Result MemberRow CodeFault → Type 0
  Keeps r = passes (λ y. nat_eq y.number n && p y) (result_ok r) ≡ (nat_eq k n && passes p (result_ok r))

  number_kept : (v : List ℕ) → Keeps (whole (member_row_at k) v)
  unfolding member_row_at
  number_kept v = status (one_of_at member_byte (statuses.Accepted ∷ statuses.Active ∷ statuses.Removed ∷ []) (record { at = 0; bytes = v }))
    where
      last : (s : MemberStatus) (key : List ℕ) (r : Result (ℕ × Unread) CodeFault) → Keeps ((r >>= λ leaf. Ok (record { number = k; status = s; key = key; next_leaf = leaf.0 }, leaf.1)) >>= ended)
      last s key (Err e) = and_none (nat_eq k n)
      last s key (Ok x) = pick (length x.1.bytes == 0)
        where
          pick : (b : Bool) → Keeps (cond b (Ok (record { number = k; status = s; key = key; next_leaf = x.0 })) (Err (faults.Trailing x.1.at)))
          pick true = refl
          pick false = and_none (nat_eq k n)

      key_then : (s : MemberStatus) (r : Result (List ℕ × Unread) CodeFault) → Keeps ((r >>= λ key. (field (number_at 4 key.1) >>= λ leaf. Ok (record { number = k; status = s; key = key.0; next_leaf = leaf.0 }, leaf.1))) >>= ended)
      key_then s (Err e) = and_none (nat_eq k n)
      key_then s (Ok x) = last s x.0 (field (number_at 4 x.1))

      status : (r : Result (MemberStatus × Unread) CodeFault) → Keeps ((r >>= λ s. (field (bytes_at 60 s.1) >>= λ key. (field (number_at 4 key.1) >>= λ leaf. Ok (record { number = k; status = s.0; key = key.0; next_leaf = leaf.0 }, leaf.1)))) >>= ended)
      status (Err e) = and_none (nat_eq k n)
      status (Ok x) = key_then x.0 (field (bytes_at 60 x.1))

-- a key of one byte
one_key : (n : ℕ) (key : List ℕ) → is_one_byte key ≡ true → nat_eq (first_byte key) n ≡ same_bytes (n ∷ []) key
one_key n [] e = absurd cc
one_key n (k ∷ []) e = grind (arith, nat_tests)
one_key n (k ∷ j ∷ ks) e = absurd (long (length ks) (and_parts (length (k ∷ j ∷ ks) == 1) (nat_lt 0 k) e).0)
  where
    long : (m : ℕ) → (suc (suc m) == 1) ≡ true → ⊥
    long m e = grind (arith, nat_tests, e)

abbrev pub one_key_of : ℕ → List ℕ
one_key_of n = n ∷ []

pub same_members : (ws : List Write) → AreDistinct ws → SameBy of_number (filter_map member_of (write_set ws)) (filter_map member_of ws)
same_members = same_kind members_map is_one_byte read_member of_number one_key_of
    (λ n p k v e. number_kept (first_byte k) n p v ∙ ap (λ b. b && passes p (read_member k v)) (one_key n k e))

-- ---- nodes

abbrev pub of_id : List ℕ → NodeRow → Bool
of_id id n = same_bytes n.id id

module _ (k id : List ℕ) (p : NodeRow → Bool) where
  abbrev KeepsId : Result NodeRow CodeFault → Type 0
  KeepsId r = passes (λ y. same_bytes y.id id && p y) (result_ok r) ≡ (same_bytes k id && passes p (result_ok r))

  abbrev node_made : ℕ → NodeStatus → NewNode → ℕ × Unread → Result (NodeRow × Unread) CodeFault
  node_made order s n x = Ok (record { id = k; order = order; status = s; key = n.key; endorsement = n.endorsement; removal = x.0 }, x.1)

  pub id_kept : (v : List ℕ) → KeepsId (whole (node_row_at k) v)
  unfolding node_row_at
  id_kept v = order_then (field (number_at 2 (record { at = 0; bytes = v })))
    where
      last : (order : ℕ) (s : NodeStatus) (n : NewNode) (r : Result (ℕ × Unread) CodeFault) → KeepsId ((r >>= node_made order s n) >>= ended)
      last order s n (Err e) = and_none (same_bytes k id)
      last order s n (Ok x) = pick (length x.1.bytes == 0)
        where
          pick : (b : Bool) → KeepsId (cond b (Ok (record { id = k; order = order; status = s; key = n.key; endorsement = n.endorsement; removal = x.0 })) (Err (faults.Trailing x.1.at)))
          pick true = refl
          pick false = and_none (same_bytes k id)

      node_then : (order : ℕ) (s : NodeStatus) (r : Result (NewNode × Unread) CodeFault) → KeepsId ((r >>= λ n. (field (number_at 8 n.1) >>= node_made order s n.0)) >>= ended)
      node_then order s (Err e) = and_none (same_bytes k id)
      node_then order s (Ok x) = last order s x.0 (field (number_at 8 x.1))

      status_then : (order : ℕ) (r : Result (NodeStatus × Unread) CodeFault) → KeepsId ((r >>= λ s. (node_at s.1 >>= λ n. (field (number_at 8 n.1) >>= node_made order s.0 n.0))) >>= ended)
      status_then order (Err e) = and_none (same_bytes k id)
      status_then order (Ok x) = node_then order x.0 (node_at x.1)

      order_then : (r : Result (ℕ × Unread) CodeFault) →
          KeepsId ((r >>= λ order. (one_of_at node_byte (node_statuses.Pending ∷ node_statuses.Trusted ∷ node_statuses.Retired ∷ node_statuses.Marked ∷ []) order.1
          >>= λ s. (node_at s.1 >>= λ n. (field (number_at 8 n.1) >>= node_made order.0 s.0 n.0)))) >>= ended)
      order_then (Err e) = and_none (same_bytes k id)
      order_then (Ok x) = status_then x.0 (one_of_at node_byte (node_statuses.Pending ∷ node_statuses.Trusted ∷ node_statuses.Retired ∷ node_statuses.Marked ∷ []) x.1)

abbrev pub own_key : List ℕ → List ℕ
own_key id = id

pub same_nodes : (ws : List Write) → AreDistinct ws → SameBy of_id (filter_map node_of (write_set ws)) (filter_map node_of ws)
same_nodes = same_kind nodes_map any_key read_node of_id own_key (λ id p k v e. id_kept k id p v ∙ ap (λ b. b && passes p (read_node k v)) (same_bytes-symm k id))

-- ---- values that are put beside their keys

mapped : {X Y : Type 0} (f : X → Y) (h p : Y → Bool) (b : Bool) → ((x : X) → h (f x) ≡ b) → (o : Option X) → passes (λ y. h y && p y) (option_map f o) ≡ (b && passes p (option_map f o))
mapped f h p b e None = and_none b
mapped f h p b e (Some x) = λ i. e x i && p (f x)

pub same_proposals : (ws : List Write) → AreDistinct ws → SameBy is_proposal_at (filter_map proposal_of (write_set ws)) (filter_map proposal_of ws)
same_proposals = same_kind proposals_map any_key read_proposal is_proposal_at own_key
    (λ id p k v e. mapped (proposal_with k) (is_proposal_at id) p (same_bytes k id) (λ x. refl) (result_ok (whole proposal_row_at v)) ∙ ap (λ b. b && passes p (read_proposal k v)) (same_bytes-symm k id))

abbrev pub of_rule : ℕ → RuleAt → Bool
of_rule n r = nat_eq r.number n

pub same_rules : (ws : List Write) → AreDistinct ws → SameBy of_rule (filter_map rule_of (write_set ws)) (filter_map rule_of ws)
same_rules = same_kind constitution_map is_rule_key read_rule of_rule one_key_of
    (λ n p k v e. mapped (rule_with k) (of_rule n) p (nat_eq (first_byte k) n) (λ x. refl) (result_ok (whole rule_at v))
    ∙ ap (λ b. b && passes p (read_rule k v)) (one_key n k (and_parts (is_one_byte k) (nat_le (first_byte k) 7) e).0))

pub same_shares : (ws : List Write) → AreDistinct ws → SameBy of_member (filter_map share_of (write_set ws)) (filter_map share_of ws)
same_shares = same_kind shares_map is_one_byte read_share of_member one_key_of
    (λ n p k v e. mapped (share_with k) (of_member n) p (nat_eq (first_byte k) n) (λ x. refl) (result_ok (whole digest_at v)) ∙ ap (λ b. b && passes p (read_share k v)) (one_key n k e))

-- ---- values of which there is one

abbrev pub any_one : {Y : Type 0} → Unit {0} → Y → Bool
any_one u y = true

abbrev service_alone : Unit {0} → List ℕ
service_alone u = service_key

abbrev dealing_alone : Unit {0} → List ℕ
dealing_alone u = dealing_key

pub same_service : (ws : List Write) → AreDistinct ws → SameBy any_one (filter_map service_of (write_set ws)) (filter_map service_of ws)
same_service = same_kind service_map is_service_key read_service any_one service_alone
    (λ u p k v e. λ i. sym (same_bytes-symm service_key k ∙ e) i && passes p (read_service k v))

pub same_dealing : (ws : List Write) → AreDistinct ws → SameBy any_one (filter_map dealing_of (write_set ws)) (filter_map dealing_of ws)
same_dealing = same_kind dealing_map is_dealing_key read_dealing any_one dealing_alone
    (λ u p k v e. λ i. sym (same_bytes-symm dealing_key k ∙ e) i && passes p (read_dealing k v))
