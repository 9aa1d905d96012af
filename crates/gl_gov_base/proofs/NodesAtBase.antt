-- The nodes of a history that begins with the rows of another are read as those of the other.
use Rattle.std.proofs.Common.{◌≡◌, ℕ, suc, ◌-◌, ◌<◌, ◌≤◌, List, [], ◌∷◌, ◌++◌, map, Option, Some, None, is_some, Bool, true, false, ◌&&◌, ◌||◌, cond, find, filter_map, min, nat_lt, refl, sym, ◌∙◌, ap, subst₂, append-nil, arith}
use Rattle.std.specs.List.{list_any, cons_option, AllByRecursion}
use Rattle.std.specs.Option.{option_or, option_map}
use Rattle.std.proofs.lemmas.Option.{same_Some}
use Rattle.std.proofs.lemmas.Bool.{and_parts}
use Rattle.std.proofs.lemmas.Bool.Decides.{nat_tests}
use Rattle.std.proofs.lemmas.List.Elements.{filter_map-append}
use Rattle.gl_base.specs.Bytes.{same_bytes}
use Rattle.gl_vmaps.proofs.TablesLaws.{same_bytes-eq}
use Rattle.gl_requests.specs.declared.action.Action.TheVariants as actions
use Rattle.gl_gov_rules.specs.declared.change.RecordedNode.{RecordedNode}
use Rattle.gl_gov_rules.specs.declared.change.Change.{Change}
use Rattle.gl_gov_rules.specs.declared.change.Change.TheVariants as changes
use Rattle.gl_gov_rules.specs.declared.change.Changed.{Changed}
use Rattle.gl_gov_rules.specs.declared.refusal.NodeStatus.TheVariants as statuses
use Rattle.gl_gov_rules.specs.declared.row.NodeRow.{NodeRow}
use Rattle.gl_gov_rules.specs.declared.request_facts.Mark.{Mark}
use Rattle.gl_gov_rules.proofs.Counting.{find_passes}
use Rattle.gl_gov_rules.proofs.Finding.{found_at}
use Rattle.gl_gov_rules.specs.History.{History, seqno_of}
use Rattle.gl_gov_rules.specs.Nodes.{nodes, has_id, node, retires, trusts, retirement, is_marked, mark, is_trust_applied, was_trusted, node_status, is_trusted_status}
use Rattle.gl_gov_rules.specs.Changes.{changed_at}
use Rattle.gl_gov_rules.specs.Rows.{node_row, node_rows_from, node_rows}
use Rattle.gl_gov_base.specs.Alike.{removed_at, node_view, first_of_list, is_up_to}
use Rattle.gl_gov_rules.specs.declared.row.GovernedRows.{GovernedRows}
use Rattle.gl_gov_rules.specs.GovernedRows.{carried_node, mark_carried, is_marked_status, node_removed_by, changes_at_base, changes_of_rows, begin_with}
use Rattle.gl_gov_base.specs.AtBase.{IsReadOf, IsOneNode, IsSettled}
use Rattle.gl_gov_base.proofs.MoreChanges.{kept-map}
use Rattle.gl_gov_base.proofs.MoreRequests.{or_none, some_mark}
use Rattle.gl_gov_base.proofs.RowChanges.{where_it, find_kept, any_kept, none_each, none_or, kept_kept, on_recovered, on_founded, on_dealt, on_members, on_removed, on_settled, on_nodes, kept_parts}

never : (k : ℕ) → nat_lt k 0 ≡ false
never k = grind (arith, nat_tests)

not_below : (k s base : ℕ) → s ≤ base → base < k → nat_lt k s ≡ false
not_below k s base low high = grind (arith, nat_tests)

above_zero : (k s : ℕ) → nat_lt k s ≡ true → nat_lt 0 s ≡ true
above_zero k s e = grind (arith, nat_tests)

-- ---- changes up to a base

pub low_found : (base : ℕ) (p : Changed → Bool) (cs : List Changed) → AllByRecursion (λ (c : Changed). c.seqno ≤ base) cs → seqno_of (find p cs) ≤ base
low_found base p [] all = omega arith
low_found base p (c ∷ cs) all = by (p c) (low_found base p cs all.1)
  where
    by : (b : Bool) → seqno_of (find p cs) ≤ base → seqno_of (cond b (Some c) (find p cs)) ≤ base
    by true rest = all.0
    by false rest = rest

none_above : (base k : ℕ) (id : List ℕ) (cs : List Changed) → base < k → AllByRecursion (λ (c : Changed). c.seqno ≤ base) cs → find (λ (c : Changed). nat_lt k c.seqno && retires id c.change) cs ≡ None
none_above base k id [] high all = refl
none_above base k id (c ∷ cs) high all =
    ap (λ b. cond (b && retires id c.change) (Some c) (find (λ (c : Changed). nat_lt k c.seqno && retires id c.change) cs)) (not_below k c.seqno base all.0 high)
    ∙ none_above base k id cs high all.1

-- ---- removals among rows

abbrev takes : ℕ → List ℕ → Changed → Bool
takes k id c = nat_lt k c.seqno && retires id c.change

abbrev removal_in : ℕ → List ℕ → NodeRow → Option Changed
removal_in k id r = cond (nat_lt 0 r.removal) (cond (nat_lt k r.removal && same_bytes id r.id) (Some (changed_at r.removal (changes.Applied (actions.RemoveNode r.id)))) None) None

-- the removal of a node by its row, where it is up to the base
abbrev node_out : NodeRow → Option Changed
node_out n = cond (nat_lt 0 n.removal) (Some (changed_at n.removal (changes.Applied (actions.RemoveNode n.id)))) None

abbrev AreLow : ℕ → List NodeRow → Type 0
AreLow base rs = AllByRecursion (λ (r : NodeRow). r.removal ≤ base) rs

low_out : (base : ℕ) (rs : List NodeRow) → AreLow base rs → filter_map (node_removed_by base) rs ≡ filter_map node_out rs
low_out base [] low = refl
low_out base (r ∷ rs) low = λ i. cons_option (cond (nat_lt 0 r.removal) (Some (changed_at (least i) (changes.Applied (actions.RemoveNode r.id)))) None) (low_out base rs low.1 i)
  where
    least : min r.removal base ≡ r.removal
    least = (let is : r.removal ≤ base = low.0 in omega arith)

removal_is : (k : ℕ) (id : List ℕ) (r : NodeRow) → none_or (where_it (takes k id)) (node_out r) ≡ removal_in k id r
removal_is k id r = by (nat_lt 0 r.removal)
  where
    by : (b : Bool) → none_or (where_it (takes k id)) (cond b (Some (changed_at r.removal (changes.Applied (actions.RemoveNode r.id)))) None) ≡ cond b (cond (nat_lt k r.removal && same_bytes id r.id) (Some (changed_at r.removal (changes.Applied (actions.RemoveNode r.id)))) None) None
    by true = refl
    by false = refl

module _ (g : GovernedRows) where
  abbrev begun : History
  begun = begin_with (Some g)

  base_retirement : AreLow g.seqno g.nodes → (n : RecordedNode) → retirement begun n ≡ first_of_list (filter_map (removal_in n.seqno n.id) g.nodes)
  unfolding retirement
  base_retirement low n =
      let p : Changed → Bool = takes n.seqno n.id in
      let none : (c : Change) → where_it p (changed_at 0 c) ≡ None = λ c. ap (λ b. cond (b && retires n.id c) (Some (changed_at 0 c)) None) (never n.seqno) in
      find_kept p (changes_of_rows g)
      ∙ ap (λ (xs : List Changed). first_of_list xs) (filter_map-append (where_it p) (map (changed_at 0) (changes_at_base g)) (filter_map (node_removed_by g.seqno) g.nodes)
      ∙ (λ i. (kept-map (where_it p) (changed_at 0) (changes_at_base g) ∙ none_each (λ c. where_it p (changed_at 0 c)) none (changes_at_base g)) i ++ (ap (filter_map (where_it p)) (low_out g.seqno g.nodes low) ∙ kept_kept (where_it p) node_out g.nodes) i))
      ∙ (λ i. first_of_list (filter_map (λ r. removal_is n.seqno n.id r i) g.nodes))

  base_trust : (id : List ℕ) → is_trust_applied begun id ≡ false
  unfolding is_trust_applied
  base_trust id =
      let p : Changed → Bool = λ (c : Changed). trusts id c.change in
      let f : ℕ → Change → Option Changed = λ s c. where_it p (changed_at s c) in
      any_kept p (changes_of_rows g)
      ∙ ap (λ (xs : List Changed). is_some (first_of_list xs)) (kept_parts f g
      ∙ (λ i. on_recovered f (λ key. refl) g.service i ++ on_founded f (λ s key. refl) g.service i ++ [] ++ on_dealt f (λ d. refl) g.dealing i ++ on_members f (λ m. refl) g.members i ++ on_removed f (λ n. refl) g.members i ++ on_settled f (λ id s. refl) g.proposals i ++ on_nodes f g.seqno (λ s id. refl) g.nodes i))

  base_nodes : nodes begun ≡ map carried_node g.nodes
  unfolding nodes
  base_nodes = append-nil (map carried_node g.nodes)

  any_marked : (id : List ℕ) (rs : List NodeRow) → list_any (λ (m : Mark). same_bytes id m.id) (filter_map (mark_carried g.seqno) rs) ≡ list_any (λ (r : NodeRow). is_marked_status r.status && same_bytes id r.id) rs
  any_marked id [] = refl
  any_marked id (r ∷ rs) = by (is_marked_status r.status) (any_marked id rs)
    where
      p : Mark → Bool
      p m = same_bytes id m.id

      by : (b : Bool) → list_any (λ (m : Mark). same_bytes id m.id) (filter_map (mark_carried g.seqno) rs) ≡ list_any (λ (r : NodeRow). is_marked_status r.status && same_bytes id r.id) rs →
          list_any (λ (m : Mark). same_bytes id m.id) (cons_option (cond b (Some (record { id = r.id; seqno = g.seqno })) None) (filter_map (mark_carried g.seqno) rs)) ≡ ((b && same_bytes id r.id) || list_any (λ (r : NodeRow). is_marked_status r.status && same_bytes id r.id) rs)
      by true e = ap (λ q. same_bytes id r.id || q) e
      by false e = e

  base_marked : (id : List ℕ) → is_marked begun id ≡ list_any (λ (r : NodeRow). is_marked_status r.status && same_bytes id r.id) g.nodes
  unfolding is_marked
  base_marked id = or_none (list_any (λ (m : Mark). same_bytes id m.id) (filter_map (mark_carried g.seqno) g.nodes)) ∙ any_marked id g.nodes

-- ---- the status of a node of a history

marked_status : (h : History) (n : RecordedNode) → is_marked_status (node_status h n) ≡ is_marked h n.id
unfolding node_status
marked_status h n = by (is_marked h n.id) (is_some (retirement h n)) (was_trusted h n)
  where
    by : (m r w : Bool) → is_marked_status (cond m statuses.Marked (cond r statuses.Retired (cond w statuses.Trusted statuses.Pending))) ≡ m
    by true r w = refl
    by false true w = refl
    by false false true = refl
    by false false false = refl

told_status : (h : History) (n : RecordedNode) → (is_marked h n.id || (is_some (removed_at h n) || (is_trusted_status (node_status h n) || false))) ≡ (is_marked h n.id || (is_some (removed_at h n) || was_trusted h n))
unfolding node_status
told_status h n = by (is_marked h n.id) (retirement h n) (was_trusted h n)
  where
    by : (m : Bool) (r : Option Changed) (w : Bool) → (m || (is_some (option_map (λ (c : Changed). c.seqno) r) || (is_trusted_status (cond m statuses.Marked (cond (is_some r) statuses.Retired (cond w statuses.Trusted statuses.Pending))) || false))) ≡ (m || (is_some (option_map (λ (c : Changed). c.seqno) r) || w))
    by true r w = refl
    by false (Some c) w = refl
    by false None true = refl
    by false None false = refl

module _ (base : ℕ) (h : History) (g : GovernedRows) (read : IsReadOf base h g) (known : IsSettled base h) where
  -- ---- marks

  marks_rows : (id : List ℕ) (order : ℕ) (ms : List RecordedNode) → list_any (λ (r : NodeRow). is_marked_status r.status && same_bytes id r.id) (node_rows_from h order ms) ≡ (is_marked h id && list_any (λ (m : RecordedNode). same_bytes id m.id) ms)
  unfolding node_row
  marks_rows id order [] = none (is_marked h id)
    where
      none : (b : Bool) → false ≡ (b && false)
      none true = refl
      none false = refl
  marks_rows id order (m ∷ ms) =
      (λ i. head (same_bytes id m.id) refl i || marks_rows id (suc order) ms i) ∙ join (is_marked h id) (same_bytes id m.id) (list_any (λ (m : RecordedNode). same_bytes id m.id) ms)
    where
      head : (s : Bool) → same_bytes id m.id ≡ s → (is_marked_status (node_status h m) && same_bytes id m.id) ≡ (is_marked h id && same_bytes id m.id)
      head true is = ap (λ b. b && same_bytes id m.id) (marked_status h m ∙ ap (is_marked h) (sym (same_bytes-eq id m.id is)))
      head false is = both (is_marked_status (node_status h m)) (is_marked h id) (same_bytes id m.id) is
        where
          both : (a b s : Bool) → s ≡ false → (a && s) ≡ (b && s)
          both a b true e = absurd cc
          both true true false e = refl
          both true false false e = refl
          both false true false e = refl
          both false false false e = refl

      join : (k s r : Bool) → ((k && s) || (k && r)) ≡ (k && (s || r))
      join true s r = refl
      join false s r = refl

  pub same_marked : (id : List ℕ) → is_marked h id ≡ is_marked (begun g) id
  unfolding node_rows
  same_marked id =
      sym (base_marked g id ∙ ap (list_any (λ (r : NodeRow). is_marked_status r.status && same_bytes id r.id)) read.nodes ∙ marks_rows id 1 (nodes h) ∙ by (is_marked h id) refl)
    where
      by : (b : Bool) → is_marked h id ≡ b → (b && list_any (λ (m : RecordedNode). same_bytes id m.id) (nodes h)) ≡ b
      by true is = known.marked_nodes id is
      by false is = refl

  -- marks up to a seqno from the base on
  marked_up_to : (o : Option ℕ) (s : ℕ) → base ≤ s → ((m : ℕ) → o ≡ Some m → m ≤ base) → is_up_to s o ≡ is_some o
  marked_up_to None s high low = refl
  marked_up_to (Some m) s high low = let below : m ≤ base = low m refl in grind (arith, nat_tests, below, high)

  carried_mark : (id : List ℕ) (k : ℕ) (ns : List NodeRow) (m : Mark) → find (λ (m : Mark). same_bytes id m.id) (filter_map (mark_carried k) ns) ≡ Some m → m.seqno ≡ k
  carried_mark id k [] m e = absurd cc
  carried_mark id k (n ∷ ns) m e = by (is_marked_status n.status) e (carried_mark id k ns m)
    where
      here : (b : Bool) → cond b (Some (record { id = n.id; seqno = k })) (find (λ (m : Mark). same_bytes id m.id) (filter_map (mark_carried k) ns)) ≡ Some m → (find (λ (m : Mark). same_bytes id m.id) (filter_map (mark_carried k) ns) ≡ Some m → m.seqno ≡ k) → m.seqno ≡ k
      here true e rest = (let same : record { id = n.id; seqno = k } ≡ m = same_Some (record { id = n.id; seqno = k }) m e in ap (λ (x : Mark). x.seqno) (sym same))
      here false e rest = rest e

      by : (b : Bool) → find (λ (m : Mark). same_bytes id m.id) (cons_option (cond b (Some (record { id = n.id; seqno = k })) None) (filter_map (mark_carried k) ns)) ≡ Some m → (find (λ (m : Mark). same_bytes id m.id) (filter_map (mark_carried k) ns) ≡ Some m → m.seqno ≡ k) → m.seqno ≡ k
      by true e rest = here (same_bytes id n.id) e rest
      by false e rest = rest e

  begun_mark : (id : List ℕ) (m : ℕ) → mark (begun g) id ≡ Some m → m ≤ base
  unfolding mark
  begun_mark id m e = by (find (λ (m : Mark). same_bytes id m.id) (filter_map (mark_carried g.seqno) g.nodes)) refl e
    where
      by : (o : Option Mark) → find (λ (m : Mark). same_bytes id m.id) (filter_map (mark_carried g.seqno) g.nodes) ≡ o → option_or (option_map (λ (m : Mark). m.seqno) o) None ≡ Some m → m ≤ base
      by None is e = absurd cc
      by (Some x) is e =
          let one : x.seqno ≡ m = same_Some x.seqno m e in
          let at : x.seqno ≡ g.seqno = carried_mark id g.seqno g.nodes x is in
          let same : g.seqno ≡ base = read.seqno in
          omega (arith, one, at, same)

  pub marks_at_base : (id : List ℕ) (s : ℕ) → base ≤ s → is_up_to s (mark h id) ≡ is_up_to s (mark (begun g) id)
  marks_at_base id s high =
      marked_up_to (mark h id) s high (known.low_marks id) ∙ some_mark h id ∙ same_marked id ∙ sym (some_mark (begun g) id) ∙ sym (marked_up_to (mark (begun g) id) s high (begun_mark id))

  -- ---- removals

  low_removal : (m : RecordedNode) → seqno_of (retirement h m) ≤ base
  unfolding retirement
  low_removal m = low_found base (λ (c : Changed). nat_lt m.seqno c.seqno && retires m.id c.change) h.changes known.low_changes

  low_rows : (order : ℕ) (ms : List RecordedNode) → AreLow base (node_rows_from h order ms)
  unfolding node_row
  low_rows order [] = tt
  low_rows order (m ∷ ms) = (low_removal m, low_rows (suc order) ms)

  rows_low : AreLow g.seqno g.nodes
  unfolding node_rows
  rows_low = subst₂ AreLow (sym read.seqno) (sym read.nodes) (low_rows 1 (nodes h))

  none_new : (k : ℕ) (id : List ℕ) (order : ℕ) (ms : List RecordedNode) → base < k → filter_map (removal_in k id) (node_rows_from h order ms) ≡ []
  unfolding node_row
  none_new k id order [] high = refl
  none_new k id order (m ∷ ms) high =
      ap (λ b. cons_option (cond (nat_lt 0 (seqno_of (retirement h m))) (cond (b && same_bytes id m.id) (Some (changed_at (seqno_of (retirement h m)) (changes.Applied (actions.RemoveNode m.id)))) None) None) (filter_map (removal_in k id) (node_rows_from h (suc order) ms)))
      (not_below k (seqno_of (retirement h m)) base (low_removal m) high)
      ∙ nothing (nat_lt 0 (seqno_of (retirement h m))) ∙ none_new k id (suc order) ms high
    where
      nothing : (b : Bool) → cons_option (cond {A = Option Changed} b None None) (filter_map (removal_in k id) (node_rows_from h (suc order) ms)) ≡ filter_map (removal_in k id) (node_rows_from h (suc order) ms)
      nothing true = refl
      nothing false = refl

  module _ (n : RecordedNode) where
    abbrev first_removal : ℕ → List RecordedNode → Option ℕ
    first_removal order ms = option_map (λ (c : Changed). c.seqno) (first_of_list (filter_map (removal_in 0 n.id) (node_rows_from h order ms)))

    abbrev IsApart : RecordedNode → Type 0
    IsApart m = same_bytes n.id m.id ≡ true → m ≡ n

    abbrev removal_of_row : ℕ → Bool → List ℕ → Option Changed
    removal_of_row s b id = cond (nat_lt 0 s) (cond (nat_lt 0 s && b) (Some (changed_at s (changes.Applied (actions.RemoveNode id)))) None) None

    unlike : (s : ℕ) (b : Bool) (id : List ℕ) → b ≡ false → removal_of_row s b id ≡ None
    unlike s b id e = ap (λ q. removal_of_row s q id) e ∙ by (nat_lt 0 s)
      where
        by : (z : Bool) → cond z (cond (z && false) (Some (changed_at s (changes.Applied (actions.RemoveNode id)))) None) None ≡ None
        by true = refl
        by false = refl

    none_removed : (order : ℕ) (ms : List RecordedNode) → retirement h n ≡ None → AllByRecursion IsApart ms → filter_map (removal_in 0 n.id) (node_rows_from h order ms) ≡ []
    unfolding node_row
    none_removed order [] none all = refl
    none_removed order (m ∷ ms) none all =
        ap (λ o. cons_option o (filter_map (removal_in 0 n.id) (node_rows_from h (suc order) ms))) (by (same_bytes n.id m.id) refl) ∙ none_removed (suc order) ms none all.1
      where
        by : (b : Bool) → same_bytes n.id m.id ≡ b → removal_of_row (seqno_of (retirement h m)) (same_bytes n.id m.id) m.id ≡ None
        by true is = ap (λ o. removal_of_row (seqno_of o) (same_bytes n.id m.id) m.id) (ap (retirement h) (all.0 is) ∙ none)
        by false is = unlike (seqno_of (retirement h m)) (same_bytes n.id m.id) m.id is

    one_removed : (order : ℕ) (ms : List RecordedNode) (c : Changed) → retirement h n ≡ Some c → nat_lt 0 c.seqno ≡ true → list_any (λ (m : RecordedNode). same_bytes n.id m.id) ms ≡ true → AllByRecursion IsApart ms → first_removal order ms ≡ Some c.seqno
    unfolding node_row
    one_removed order [] c is high stands all = absurd cc
    one_removed order (m ∷ ms) c is high stands all = by (same_bytes n.id m.id) refl (one_removed (suc order) ms c is high)
      where
        hit : (s : ℕ) (b : Bool) → s ≡ c.seqno → b ≡ true → option_map (λ (c : Changed). c.seqno) (first_of_list (cons_option (removal_of_row s b m.id) (filter_map (removal_in 0 n.id) (node_rows_from h (suc order) ms)))) ≡ Some c.seqno
        hit s b same e = rw (same, e, high) refl

        by : (b : Bool) → same_bytes n.id m.id ≡ b → (list_any (λ (m : RecordedNode). same_bytes n.id m.id) ms ≡ true → AllByRecursion IsApart ms → first_removal (suc order) ms ≡ Some c.seqno) → first_removal order (m ∷ ms) ≡ Some c.seqno
        by true same rest = hit (seqno_of (retirement h m)) (same_bytes n.id m.id) (ap (λ x. seqno_of (retirement h x)) (all.0 same) ∙ ap seqno_of is) same
        by false same rest =
            ap (λ o. option_map (λ (c : Changed). c.seqno) (first_of_list (cons_option o (filter_map (removal_in 0 n.id) (node_rows_from h (suc order) ms))))) (unlike (seqno_of (retirement h m)) (same_bytes n.id m.id) m.id same)
            ∙ rest (sym (ap (λ b. b || list_any (λ (m : RecordedNode). same_bytes n.id m.id) ms) same) ∙ stands) all.1

    passed : (c : Changed) → retirement h n ≡ Some c → nat_lt 0 c.seqno ≡ true
    unfolding retirement
    passed c is =
        let at = found_at (takes n.seqno n.id) h.changes c is in
        above_zero n.seqno c.seqno (and_parts (nat_lt n.seqno c.seqno) (retires n.id c.change) at.passes).0

    same_removal : IsOneNode base (nodes h) n → first_removal 1 (nodes h) ≡ removed_at h n
    same_removal one = by (retirement h n) refl
      where
        by : (o : Option Changed) → retirement h n ≡ o → first_removal 1 (nodes h) ≡ option_map (λ (c : Changed). c.seqno) o
        by None is = ap (λ (xs : List Changed). option_map (λ (c : Changed). c.seqno) (first_of_list xs)) (none_removed 1 (nodes h) is one.apart)
        by (Some c) is = one_removed 1 (nodes h) c is (passed c is) one.stands one.apart

  -- ---- views

  view_carried : (order : ℕ) (n : RecordedNode) → IsOneNode base (nodes h) n → node_view base h n ≡ node_view base (begun g) (carried_node (node_row h order n))
  unfolding node_row was_trusted node_rows
  view_carried order n one =
      let removal : removed_at (begun g) (carried_node (node_row h order n)) ≡ removed_at h n =
      ap (option_map (λ (c : Changed). c.seqno)) (base_retirement g rows_low (carried_node (node_row h order n)) ∙ ap (λ rs. first_of_list (filter_map (removal_in 0 n.id) rs)) read.nodes) ∙ same_removal n one in
      let late : n.seqno - base ≡ 0 - base = (let low : n.seqno ≤ base = one.low in omega arith) in
      let told : (is_marked h n.id || (is_some (removed_at h n) || was_trusted h n)) ≡ (is_marked (begun g) n.id || (is_some (removed_at (begun g) (carried_node (node_row h order n))) || (is_trusted_status (node_status h n) || is_trust_applied (begun g) n.id))) =
      sym (told_status h n) ∙ (λ i. same_marked n.id i || (is_some (sym removal i) || (is_trusted_status (node_status h n) || sym (base_trust g n.id) i))) in
      λ i. record { id = n.id; node = n.node; late = late i; removal = sym removal i; marked = same_marked n.id i; told = told i }

  views_carried : (order : ℕ) (ns : List RecordedNode) → AllByRecursion (IsOneNode base (nodes h)) ns → map (node_view base h) ns ≡ map (node_view base (begun g)) (map carried_node (node_rows_from h order ns))
  views_carried order [] all = refl
  views_carried order (n ∷ ns) all = λ i. view_carried order n all.0 i ∷ views_carried (suc order) ns all.1 i

  pub nodes_at_base : map (node_view base h) (nodes h) ≡ map (node_view base (begun g)) (nodes (begun g))
  unfolding node_rows
  nodes_at_base = views_carried 1 (nodes h) known.each_node ∙ ap (λ rs. map (node_view base (begun g)) (map carried_node rs)) (sym read.nodes) ∙ sym (ap (map (node_view base (begun g))) (base_nodes g))

  -- a node that isn't recorded yet
  pub new_node_at_base : (n : RecordedNode) → base < n.seqno → node h n.id ≡ None → node_view base h n ≡ node_view base (begun g) n
  unfolding node node_rows was_trusted retirement
  new_node_at_base n high fresh =
      let none : removed_at h n ≡ None = ap (option_map (λ (c : Changed). c.seqno)) (none_above base n.seqno n.id h.changes high known.low_changes) in
      let none_too : removed_at (begun g) n ≡ None =
      ap (option_map (λ (c : Changed). c.seqno)) (base_retirement g rows_low n ∙ ap (λ rs. first_of_list (filter_map (removal_in n.seqno n.id) rs)) read.nodes ∙ ap (λ (xs : List Changed). first_of_list xs) (none_new n.seqno n.id 1 (nodes h) high)) in
      let unknown : list_any (has_id n.id) (nodes h) ≡ false = sym (find_passes (has_id n.id) (nodes h)) ∙ ap (λ (o : Option RecordedNode). is_some o) fresh in
      let untrusted : is_trust_applied h n.id ≡ is_trust_applied (begun g) n.id = by (is_trust_applied h n.id) refl unknown ∙ sym (base_trust g n.id) in
      λ i. record { id = n.id; node = n.node; late = n.seqno - base; removal = (none ∙ sym none_too) i; marked = same_marked n.id i; told = same_marked n.id i || (is_some ((none ∙ sym none_too) i) || (n.is_founding || untrusted i)) }
    where
      by : (b : Bool) → is_trust_applied h n.id ≡ b → list_any (has_id n.id) (nodes h) ≡ false → is_trust_applied h n.id ≡ false
      by true is unknown = let there = known.trusted_nodes n.id is in absurd cc
      by false is unknown = is
