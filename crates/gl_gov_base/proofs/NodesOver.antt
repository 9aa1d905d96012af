-- The nodes behind a base: their removals and Marks stay, and come with the last request; no two of
-- them have one identifier, where the rows of the base stood in order.
use Rattle.std.proofs.Common.{◌≡◌, ◌⊎◌, inl, inr, ⊎_elim, ℕ, zero, suc, ◌+◌, ◌<◌, ◌≤◌, List, [], ◌∷◌, ◌++◌, length, map, filter_map, Option, Some, None, is_some, Bool, true, false, ◌&&◌, if◌then◌else◌, find, count_by, nat_eq, nat_lt, min, slice_get, refl, sym, ◌∙◌, ap, subst, append-nil, arith}
use Rattle.std.specs.List.{list_any, cons_option, AllByRecursion}
use Rattle.std.specs.Option.{option_or, option_map}
use Rattle.std.proofs.lemmas.Bool.{eqb-true}
use Rattle.std.proofs.lemmas.Option.{same_Some}
use Rattle.gl_base.specs.Bytes.{same_bytes}
use Rattle.gl_vmaps.specs.Rows.{row_write, row_writes, are_ascending}
use Rattle.gl_vmaps.specs.declared.row.Row.{Row}
use Rattle.gl_vmaps.specs.declared.write.Write.{Write}
use Rattle.gl_vmaps.proofs.TablesLaws.{same_bytes-itself, same_bytes-symm}
use Rattle.gl_requests.specs.declared.action.Action.TheVariants as actions
use Rattle.gl_requests.specs.declared.request.GovernanceRequest.TheVariants as requests
use Rattle.gl_gov_rules.specs.declared.change.Recorded.{Recorded}
use Rattle.gl_gov_rules.specs.declared.change.RecordedNode.{RecordedNode}
use Rattle.gl_gov_rules.specs.declared.change.Change.{Change}
use Rattle.gl_gov_rules.specs.declared.change.Change.TheVariants as changes
use Rattle.gl_gov_rules.specs.declared.change.Changed.{Changed}
use Rattle.gl_gov_rules.specs.declared.row.NodeRow.{NodeRow}
use Rattle.gl_gov_rules.specs.declared.row.GovernedRows.{GovernedRows}
use Rattle.gl_gov_rules.specs.declared.request_facts.Mark.{Mark}
use Rattle.gl_gov_rules.specs.declared.carried.Carried.{Carried}
use Rattle.gl_gov_rules.specs.History.{History, no_history}
use Rattle.gl_gov_rules.specs.Nodes.{nodes_recorded, nodes, has_id, node, marks, retirement, trusted, removal, first_mark, mark}
use Rattle.gl_gov_rules.specs.Changes.{changes_of, changed_at, with_request, history}
use Rattle.gl_gov_rules.specs.Rows.{nodes_map}
use Rattle.gl_gov_rules.specs.Governed.{IsAbove}
use Rattle.gl_gov_rules.specs.GovernedRows.{no_rows, is_marked_status, carried_node, mark_carried, node_removed_by, changes_at_base, begin_with, history_behind, history_over, with_next, numbered_from, governed_rows}
use Rattle.gl_gov_rules.specs.Refusals.{refusal}
use Rattle.gl_gov_rules.proofs.Counting.{one_if, count-cons, count_weaker, each_append}
use Rattle.gl_gov_rules.proofs.Finding.{At, found_at, find_kept, find_new, each_at, map_at}
use Rattle.gl_gov_rules.proofs.HistoryLists.{requests_onto, AreBelow, below_at, below_onto, nodes_after}
use Rattle.gl_gov_rules.proofs.NewNodes.{AreDistinct, recorded_distinct, recorded_fresh, distinct_after, node_in}
use Rattle.gl_gov_rules.proofs.NothingCarried.{carried_with, carried_onto}
use Rattle.gl_gov_rules.proofs.Prefixes.{requests_with, changes_with}
use Rattle.gl_gov_rules.proofs.Removals.{Removed, removal_read, removal_from, takes_out, retirement_is, node_is, recorded_seqno, brought_seqno, not_before, marks_same}
use Rattle.gl_gov_rules.proofs.Statuses.{mark_removed, trusted_at, out_untrusted}
use Rattle.gl_gov_base.specs.GovernedOver.{base_seqno, FollowsOver, IsGovernedOver, IsReadFrom, IsReadInOrder}
use Rattle.gl_vmaps.proofs.WriteLaws.{each_row_once}
use Rattle.gl_gov_base.proofs.DistinctRows.{RowKey, is_row}
use Rattle.gl_gov_base.proofs.KeptLists.{passes, count_made}
use Rattle.gl_gov_base.proofs.KindsKept.{of_id, id_kept, own_key, kept_alone}
use Rattle.gl_gov_base.proofs.MoreChanges.{kept-map}
use Rattle.gl_gov_base.proofs.RequestsOver.{over_more, over_none, over_induction}
use Rattle.gl_gov_base.proofs.RowKinds.{any_key, read_node, node_of}
use Rattle.gl_gov_base.proofs.RowsCollected.{Ended, rows_ended, collected, nodes_added}

-- ---- one request more

module _ (h : History) (r : Recorded) where
  abbrev more : List Changed
  more = map (changed_at r.seqno) (changes_of h r)

  retirement_more : (n : RecordedNode) → retirement (with_request h r) n ≡ find (takes_out n) (h.changes ++ more)
  retirement_more n = retirement_is (with_request h r) n ∙ ap (find (takes_out n)) (changes_with h r)

  node_more : (id : List ℕ) → node (with_request h r) id ≡ find (has_id id) (nodes h ++ nodes_recorded r.seqno r.request)
  node_more id = node_is (with_request h r) id ∙ ap (find (has_id id)) (nodes_after h r)

  -- a removal stays
  removal_stays : (id : List ℕ) (s : ℕ) → removal h id ≡ Some s → removal (with_request h r) id ≡ Some s
  removal_stays id s e =
      let old = removal_read h id s e in
      removal_from (with_request h r) id s (record {
        of = old.of;
        recorded = node_more id ∙ find_kept (has_id id) (nodes h) (nodes_recorded r.seqno r.request) old.of (sym (node_is h id) ∙ old.recorded);
        by = old.by;
        retired = retirement_more old.of ∙ find_kept (takes_out old.of) h.changes more old.by (sym (retirement_is h old.of) ∙ old.retired);
        seqno = old.seqno;
      })

  -- a removal was there, or has the seqno of the last request
  module _ (below : AreBelow r.seqno h.changes) (id : List ℕ) (s : ℕ) (e : removal (with_request h r) id ≡ Some s) where
    new : Removed (with_request h r) id s
    new = removal_read (with_request h r) id s e

    changes_found : (find (takes_out new.of) h.changes ≡ Some new.by) ⊎ ((find (takes_out new.of) h.changes ≡ None) × (find (takes_out new.of) more ≡ Some new.by))
    changes_found = find_new (takes_out new.of) h.changes more new.by (sym (retirement_more new.of) ∙ new.retired)

    by_more : find (takes_out new.of) more ≡ Some new.by → s ≡ r.seqno
    by_more late = let place = found_at (takes_out new.of) more new.by late in sym new.seqno ∙ brought_seqno r.seqno (changes_of h r) place.place new.by place.stands

    by_node : (find (has_id id) (nodes h) ≡ Some new.of) ⊎ ((find (has_id id) (nodes h) ≡ None) × (find (has_id id) (nodes_recorded r.seqno r.request) ≡ Some new.of)) →
        (removal h id ≡ Some s) ⊎ (s ≡ r.seqno)
    by_node (inl old) =
        ⊎_elim
        (λ (before : find (takes_out new.of) h.changes ≡ Some new.by).
        inl (removal_from h id s (record { of = new.of; recorded = node_is h id ∙ old; by = new.by; retired = retirement_is h new.of ∙ before; seqno = new.seqno })))
        (λ (late : (find (takes_out new.of) h.changes ≡ None) × (find (takes_out new.of) more ≡ Some new.by)). inr (by_more late.1)) changes_found
    by_node (inr late) =
        let at = found_at (has_id id) (nodes_recorded r.seqno r.request) new.of late.1 in
        let own = recorded_seqno r.seqno r.request at.place new.of at.stands in
        ⊎_elim
        (λ (old : find (takes_out new.of) h.changes ≡ Some new.by).
        let place = found_at (takes_out new.of) h.changes new.by old in
        let low : new.by.seqno < r.seqno = each_at (λ (c : Changed). c.seqno < r.seqno) h.changes below place.place new.by place.stands in
        let high = not_before new.of new.by place.passes in
        absurd (omega (arith, low, high, own)))
        (λ (new_one : (find (takes_out new.of) h.changes ≡ None) × (find (takes_out new.of) more ≡ Some new.by)). inr (by_more new_one.1)) changes_found

    removal_is_new : (removal h id ≡ Some s) ⊎ (s ≡ r.seqno)
    removal_is_new = by_node (find_new (has_id id) (nodes h) (nodes_recorded r.seqno r.request) new.of (sym (node_more id) ∙ new.recorded))

  -- a Mark of what is carried, or else of the requests
  mark_with : (id : List ℕ) → mark (with_request h r) id ≡ option_or (first_mark id h.carried.marks) (option_map (λ (q : Recorded). q.seqno) (find (λ (q : Recorded). marks id q.request) (h.requests ++ r ∷ [])))
  unfolding mark
  mark_with id =
      ap (λ (c : Carried). option_or (first_mark id c.marks) (option_map (λ (q : Recorded). q.seqno) (find (λ (q : Recorded). marks id q.request) (with_request h r).requests))) (carried_with h r)
      ∙ ap (λ (rs : List Recorded). option_or (first_mark id h.carried.marks) (option_map (λ (q : Recorded). q.seqno) (find (λ (q : Recorded). marks id q.request) rs))) (requests_with h r)

  -- it stays
  mark_stays : (id : List ℕ) (s : ℕ) → mark h id ≡ Some s → mark (with_request h r) id ≡ Some s
  unfolding mark
  mark_stays id s e = mark_with id ∙ by (first_mark id h.carried.marks) (find (λ (q : Recorded). marks id q.request) h.requests) refl e
    where
      by : (o : Option ℕ) (p : Option Recorded) → find (λ (q : Recorded). marks id q.request) h.requests ≡ p → option_or o (option_map (λ (q : Recorded). q.seqno) p) ≡ Some s →
          option_or o (option_map (λ (q : Recorded). q.seqno) (find (λ (q : Recorded). marks id q.request) (h.requests ++ r ∷ []))) ≡ Some s
      by (Some m) p is e = e
      by None (Some q) is e = ap (option_map (λ (x : Recorded). x.seqno)) (find_kept (λ (x : Recorded). marks id x.request) h.requests (r ∷ []) q is) ∙ e
      by None None is e = absurd cc

  -- and was there, or is the last request
  mark_is_new : (id : List ℕ) (s : ℕ) → mark (with_request h r) id ≡ Some s → (mark h id ≡ Some s) ⊎ ((s ≡ r.seqno) × (r.request ≡ requests.Mark id))
  unfolding mark
  mark_is_new id s e = by (first_mark id h.carried.marks) (find is_mark (h.requests ++ r ∷ [])) refl (sym (mark_with id) ∙ e)
    where
      is_mark : Recorded → Bool
      is_mark q = marks id q.request

      only : {x : Recorded} → (i : ℕ) → slice_get (r ∷ []) i ≡ Some x → r ≡ x
      only zero at = same_Some _ _ at
      only (suc i) at = absurd cc

      by : (o : Option ℕ) (p : Option Recorded) → find is_mark (h.requests ++ r ∷ []) ≡ p → option_or o (option_map (λ (q : Recorded). q.seqno) p) ≡ Some s →
          (option_or o (option_map (λ (q : Recorded). q.seqno) (find is_mark h.requests)) ≡ Some s) ⊎ ((s ≡ r.seqno) × (r.request ≡ requests.Mark id))
      by (Some m) p is e = inl e
      by None None is e = absurd cc
      by None (Some q) is e =
          ⊎_elim
          (λ (old : find is_mark h.requests ≡ Some q). inl (ap (option_map (λ (x : Recorded). x.seqno)) old ∙ e))
          (λ (late : (find is_mark h.requests ≡ None) × (find is_mark (r ∷ []) ≡ Some q)).
          let at = found_at is_mark (r ∷ []) q late.1 in
          let same : r ≡ q = only at.place at.stands in
          inr (sym (same_Some q.seqno s e) ∙ ap (λ (x : Recorded). x.seqno) (sym same), ap (λ (x : Recorded). x.request) same ∙ marks_same id q.request at.passes))
          (find_new is_mark h.requests (r ∷ []) q is)

-- ---- behind a base

module _ (base : Option GovernedRows) (rs : List Recorded) (r : Recorded) where
  pub removal_kept_over : (id : List ℕ) (s : ℕ) → removal (history_over base rs) id ≡ Some s → removal (history_over base (rs ++ r ∷ [])) id ≡ Some s
  removal_kept_over id s e = ap (λ (h : History). removal h id) (over_more base rs r) ∙ removal_stays (history_over base rs) r id s e

  pub mark_kept_over : (id : List ℕ) (s : ℕ) → mark (history_over base rs) id ≡ Some s → mark (history_over base (rs ++ r ∷ [])) id ≡ Some s
  mark_kept_over id s e = ap (λ (h : History). mark h id) (over_more base rs r) ∙ mark_stays (history_over base rs) r id s e

  pub mark_new_over : (id : List ℕ) (s : ℕ) → mark (history_over base (rs ++ r ∷ [])) id ≡ Some s → (mark (history_over base rs) id ≡ Some s) ⊎ ((s ≡ r.seqno) × (r.request ≡ requests.Mark id))
  mark_new_over id s e = mark_is_new (history_over base rs) r id s (ap (λ (h : History). mark h id) (sym (over_more base rs r)) ∙ e)

  pub marked_over : (id : List ℕ) → FollowsOver base rs r → r.request ≡ requests.Mark id → (s : ℕ) × (removal (history_over base rs) id ≡ Some s)
  marked_over id follows is = mark_removed (history_over base rs) r.seqno id (ap (refusal (history_over base rs) r.seqno) (sym is) ∙ follows.accepted)

  pub nodes_kept_over : nodes (history_over base (rs ++ r ∷ [])) ≡ nodes (history_over base rs) ++ nodes_recorded r.seqno r.request
  nodes_kept_over = ap nodes (over_more base rs r) ∙ nodes_after (history_over base rs) r

-- ---- seqnos of what the base carries

zero_below : (n : ℕ) (cs : List Change) → 0 < n → AreBelow n (map (changed_at 0) cs)
zero_below n cs high = below_at n 0 cs high

removals_below : (n seqno : ℕ) (ns : List NodeRow) → seqno < n → AreBelow n (filter_map (node_removed_by seqno) ns)
removals_below n seqno [] high = tt
removals_below n seqno (x ∷ ns) high = by (nat_lt 0 x.removal) (removals_below n seqno ns high)
  where
    by : (b : Bool) → AreBelow n (filter_map (node_removed_by seqno) ns) →
        AreBelow n (cons_option (if b then Some (changed_at (min x.removal seqno) (changes.Applied (actions.RemoveNode x.id))) else None) (filter_map (node_removed_by seqno) ns))
    by true rest = (omega (arith, high), rest)
    by false rest = rest

begins_below : (base : Option GovernedRows) (n : ℕ) → base_seqno base < n → AreBelow n (begin_with base).changes
begins_below None n high = tt
begins_below (Some g) n high =
    each_append (λ (c : Changed). c.seqno < n) (map (changed_at 0) (changes_at_base g)) (filter_map (node_removed_by g.seqno) g.nodes)
    (zero_below n (changes_at_base g) (omega (arith, high))) (removals_below n g.seqno g.nodes high)

-- a seqno above the base and the requests is above those of the changes
changes_below_over : (base : Option GovernedRows) (rs : List Recorded) (n : ℕ) → base_seqno base < n → IsAbove n rs → AreBelow n (history_over base rs).changes
unfolding history history_behind
changes_below_over None rs n high above = below_onto n no_history rs tt above
changes_below_over (Some g) rs n high above = below_onto n (begin_with (Some g)) rs (begins_below (Some g) n high) above

pub removal_within_over : (base : Option GovernedRows) (rs : List Recorded) (id : List ℕ) (s n : ℕ) → removal (history_over base rs) id ≡ Some s → base_seqno base < n → IsAbove n rs → s < n
removal_within_over base rs id s n e high above =
    let h : History = history_over base rs in
    let r = removal_read h id s e in
    let place = found_at (takes_out r.of) h.changes r.by (sym (retirement_is h r.of) ∙ r.retired) in
    let low : r.by.seqno < n = each_at (λ (c : Changed). c.seqno < n) h.changes (changes_below_over base rs n high above) place.place r.by place.stands in
    omega (arith, low, r.seqno)

-- without a base there are no changes before the first request
below_follows : (base : Option GovernedRows) (rs : List Recorded) (r : Recorded) → FollowsOver base rs r → AreBelow r.seqno (history_over base rs).changes
unfolding history history_behind
below_follows None rs r follows = below_onto r.seqno no_history rs tt follows.above
below_follows (Some g) rs r follows = below_onto r.seqno (begin_with (Some g)) rs (begins_below (Some g) r.seqno follows.above_base) follows.above

pub removal_new_over : (base : Option GovernedRows) (rs : List Recorded) (r : Recorded) (id : List ℕ) (s : ℕ) → FollowsOver base rs r → removal (history_over base (rs ++ r ∷ [])) id ≡ Some s →
    (removal (history_over base rs) id ≡ Some s) ⊎ (s ≡ r.seqno)
removal_new_over base rs r id s follows e =
    removal_is_new (history_over base rs) r (below_follows base rs r follows) id s (ap (λ (h : History). removal h id) (sym (over_more base rs r)) ∙ e)

requests_over : (base : Option GovernedRows) (rs : List Recorded) → (history_over base rs).requests ≡ rs
unfolding history history_behind
requests_over None rs = requests_onto no_history rs
requests_over (Some g) rs = requests_onto (begin_with (Some g)) rs

carried_over : (base : Option GovernedRows) (rs : List Recorded) → (history_over base rs).carried ≡ (begin_with base).carried
unfolding history history_behind
carried_over None rs = carried_onto no_history rs
carried_over (Some g) rs = carried_onto (begin_with (Some g)) rs

-- the marks that are carried have the seqno of the base
carried_marks : (seqno : ℕ) (ns : List NodeRow) → AllByRecursion (λ (m : Mark). m.seqno ≡ seqno) (filter_map (mark_carried seqno) ns)
carried_marks seqno [] = tt
carried_marks seqno (x ∷ ns) = by (is_marked_status x.status) (carried_marks seqno ns)
  where
    by : (b : Bool) → AllByRecursion (λ (m : Mark). m.seqno ≡ seqno) (filter_map (mark_carried seqno) ns) →
        AllByRecursion (λ (m : Mark). m.seqno ≡ seqno) (cons_option (if b then Some (record { id = x.id; seqno = seqno }) else None) (filter_map (mark_carried seqno) ns))
    by true rest = (refl, rest)
    by false rest = rest

first_carried : (base : Option GovernedRows) (id : List ℕ) (s : ℕ) → first_mark id (begin_with base).carried.marks ≡ Some s → s ≡ base_seqno base
first_carried None id s e = absurd cc
first_carried (Some g) id s e = by (find (λ (m : Mark). same_bytes id m.id) (filter_map (mark_carried g.seqno) g.nodes)) refl e
  where
    by : (o : Option Mark) → find (λ (m : Mark). same_bytes id m.id) (filter_map (mark_carried g.seqno) g.nodes) ≡ o → option_map (λ (m : Mark). m.seqno) o ≡ Some s → s ≡ g.seqno
    by None is e = absurd cc
    by (Some m) is e =
        let at = found_at (λ (m : Mark). same_bytes id m.id) (filter_map (mark_carried g.seqno) g.nodes) m is in
        sym (same_Some m.seqno s e) ∙ each_at (λ (m : Mark). m.seqno ≡ g.seqno) (filter_map (mark_carried g.seqno) g.nodes) (carried_marks g.seqno g.nodes) at.place m at.stands

pub mark_within_over : (base : Option GovernedRows) (rs : List Recorded) (id : List ℕ) (s n : ℕ) → mark (history_over base rs) id ≡ Some s → base_seqno base < n → IsAbove n rs → s < n
unfolding mark
mark_within_over base rs id s n e high above =
    by (first_mark id (begin_with base).carried.marks) (find is_mark rs) refl refl
    (ap (λ (c : Carried). option_or (first_mark id c.marks) (option_map (λ (q : Recorded). q.seqno) (find is_mark rs))) (sym (carried_over base rs))
    ∙ ap (λ (qs : List Recorded). option_or (first_mark id (history_over base rs).carried.marks) (option_map (λ (q : Recorded). q.seqno) (find is_mark qs))) (sym (requests_over base rs)) ∙ e)
  where
    is_mark : Recorded → Bool
    is_mark q = marks id q.request

    by : (o : Option ℕ) (p : Option Recorded) → first_mark id (begin_with base).carried.marks ≡ o → find is_mark rs ≡ p → option_or o (option_map (λ (q : Recorded). q.seqno) p) ≡ Some s → s < n
    by (Some m) p first is e = let own = first_carried base id s (first ∙ e) in omega (arith, own, high)
    by None None first is e = absurd cc
    by None (Some q) first is e =
        let at = found_at is_mark rs q is in
        let low : q.seqno < n = each_at (λ (x : Recorded). x.seqno < n) rs above at.place q at.stands in
        omega (arith, low, same_Some q.seqno s e)

-- ---- nodes of rows that stood in order

-- what passes at a place is counted
counted_at : {A : Type 0} (p : A → Bool) (xs : List A) (i : ℕ) (x : A) → slice_get xs i ≡ Some x → p x ≡ true → 1 ≤ count_by p xs
counted_at p [] i x at is = absurd cc
counted_at p (y ∷ xs) zero x at is = let one : one_if (p y) ≡ 1 = ap one_if (ap p (same_Some y x at) ∙ is) in omega (arith, count-cons p y xs, one)
counted_at p (y ∷ xs) (suc i) x at is = omega (arith, count-cons p y xs, counted_at p xs i x at is)

-- where at most one passes, it stands at one place
one_place : {A : Type 0} (p : A → Bool) (xs : List A) (i j : ℕ) (x y : A) → count_by p xs ≤ 1 → slice_get xs i ≡ Some x → p x ≡ true → slice_get xs j ≡ Some y → p y ≡ true → i ≡ j
one_place p [] i j x y few here is there also = absurd cc
one_place p (z ∷ xs) zero zero x y few here is there also = refl
one_place p (z ∷ xs) zero (suc j) x y few here is there also =
    let one : one_if (p z) ≡ 1 = ap one_if (ap p (same_Some z x here) ∙ is) in
    absurd (omega (arith, few, count-cons p z xs, one, counted_at p xs j y there also))
one_place p (z ∷ xs) (suc i) zero x y few here is there also =
    let one : one_if (p z) ≡ 1 = ap one_if (ap p (same_Some z y there) ∙ also) in
    absurd (omega (arith, few, count-cons p z xs, one, counted_at p xs i x here is))
one_place p (z ∷ xs) (suc i) (suc j) x y few here is there also = ap suc (one_place p xs i j x y (omega (arith, few, count-cons p z xs)) here is there also)

-- the node at a place of those that stand by their numbers is the first with its number
numbered_at : (n k : ℕ) (ns xs : List NodeRow) → numbered_from n k ns ≡ Some xs → (i : ℕ) (x : NodeRow) → slice_get xs i ≡ Some x → find (λ (y : NodeRow). nat_eq y.order (k + i)) ns ≡ Some x
numbered_at zero k ns xs e i x at = absurd (let none : [] ≡ xs = same_Some [] xs e in let no = ap (λ (ys : List NodeRow). slice_get ys i) none ∙ at in cc)
numbered_at (suc n) k ns xs e i x at = go (find (λ (y : NodeRow). nat_eq y.order k) ns) (numbered_from n (suc k) ns) refl refl e (λ ys others i at. numbered_at n (suc k) ns ys others i x at) i at
  where
    go : (o : Option NodeRow) (rest : Option (List NodeRow)) → find (λ (y : NodeRow). nat_eq y.order k) ns ≡ o → numbered_from n (suc k) ns ≡ rest → with_next o rest ≡ Some xs →
        ((ys : List NodeRow) → numbered_from n (suc k) ns ≡ Some ys → (i : ℕ) → slice_get ys i ≡ Some x → find (λ (y : NodeRow). nat_eq y.order (suc k + i)) ns ≡ Some x) →
        (i : ℕ) → slice_get xs i ≡ Some x → find (λ (y : NodeRow). nat_eq y.order (k + i)) ns ≡ Some x
    go None rest found others e later i at = absurd cc
    go (Some y) None found others e later i at = absurd cc
    go (Some y) (Some ys) found others e later zero at =
        let whole : y ∷ ys ≡ xs = same_Some (y ∷ ys) xs e in
        let same : y ≡ x = same_Some y x (ap (λ (zs : List NodeRow). slice_get zs 0) whole ∙ at) in
        let place : k + 0 ≡ k = omega arith in
        ap (λ (m : ℕ). find (λ (z : NodeRow). nat_eq z.order m) ns) place ∙ found ∙ ap Some same
    go (Some y) (Some ys) found others e later (suc i) at =
        let whole : y ∷ ys ≡ xs = same_Some (y ∷ ys) xs e in
        let place : k + suc i ≡ suc k + i = omega arith in
        ap (λ (m : ℕ). find (λ (z : NodeRow). nat_eq z.order m) ns) place ∙ later ys others i (ap (λ (zs : List NodeRow). slice_get zs (suc i)) whole ∙ at)

-- rows in order have at most one node with an identifier
once_read : (all : List Row) → are_ascending all ≡ true → (id : List ℕ) → count_by (of_id id) (filter_map node_of (row_writes all)) ≤ 1
once_read all ascending id =
    let key : RowKey = record { map = nodes_map; key = id } in
    let weaker : (w : Write) → one_if (passes (of_id id) (node_of w)) ≤ one_if (is_row key w) =
    λ w. subst (λ (b : Bool). one_if b ≤ one_if (is_row key w))
    (sym (kept_alone nodes_map any_key read_node of_id own_key (λ id p k v e. id_kept k id p v ∙ ap (λ b. b && passes p (read_node k v)) (same_bytes-symm k id)) id w)) (both (is_row key w) (is_some (node_of w))) in
    let counted = count_made node_of (of_id id) (row_writes all) in
    let few = count_weaker (λ (w : Write). passes (of_id id) (node_of w)) (is_row key) weaker (row_writes all) in
    omega (arith, counted, few, each_row_once nodes_map id (row_writes all) ascending)
  where
    both : (a b : Bool) → one_if (a && b) ≤ one_if a
    both true true = omega arith
    both true false = omega arith
    both false b = omega arith

module _ (all : List Row) (g : GovernedRows) (read : IsReadFrom all g) (ascending : are_ascending all ≡ true) where
  ended : Ended (no_rows g.seqno) all g
  unfolding governed_rows
  ended = rows_ended 0 (no_rows g.seqno) all g read.read

  nodes_read : ended.last.nodes ≡ filter_map node_of (row_writes all)
  nodes_read = collected nodes_map any_key read_node refl (λ n. n.nodes) nodes_added (no_rows g.seqno) all ended.last ended.reached ∙ sym (kept-map node_of row_write all)

  -- a node at a place of the base's, and its place among those that were read
  place_read : (i : ℕ) (x : NodeRow) → slice_get g.nodes i ≡ Some x → At (λ (y : NodeRow). nat_eq y.order (1 + i)) ended.last.nodes x
  place_read i x at =
      found_at (λ (y : NodeRow). nat_eq y.order (1 + i)) ended.last.nodes x
      (numbered_at (length ended.last.nodes) 1 ended.last.nodes ended.nodes ended.numbered i x (ap (λ (n : GovernedRows). slice_get n.nodes i) ended.is ∙ at))

  rows_apart : (i j : ℕ) (x y : NodeRow) → slice_get g.nodes i ≡ Some x → slice_get g.nodes j ≡ Some y → x.id ≡ y.id → i ≡ j
  rows_apart i j x y here there same =
      let a = place_read i x here in
      let b = place_read j y there in
      let once : count_by (of_id x.id) ended.last.nodes ≤ 1 = subst (λ (ns : List NodeRow). count_by (of_id x.id) ns ≤ 1) (sym nodes_read) (once_read all ascending x.id) in
      let place : a.place ≡ b.place =
      one_place (of_id x.id) ended.last.nodes a.place b.place x y once a.stands (same_bytes-itself x.id) b.stands (ap (λ (id : List ℕ). same_bytes id x.id) (sym same) ∙ same_bytes-itself x.id) in
      let equal : x ≡ y = same_Some x y (sym a.stands ∙ ap (slice_get ended.last.nodes) place ∙ b.stands) in
      let one : x.order ≡ 1 + i = eqb-true x.order (1 + i) a.passes in
      let two : y.order ≡ 1 + j = eqb-true y.order (1 + j) b.passes in
      let order : x.order ≡ y.order = ap (λ (n : NodeRow). n.order) equal in
      omega (arith, one, two, order)

  carried_apart : AreDistinct (map carried_node g.nodes)
  carried_apart i j m n here there same =
      let x = map_at carried_node g.nodes i m here in
      let y = map_at carried_node g.nodes j n there in
      rows_apart i j x.0 y.0 x.1 y.1 (ap (λ (k : RecordedNode). k.id) x.2 ∙ same ∙ sym (ap (λ (k : RecordedNode). k.id) y.2))

begins_apart : (base : Option GovernedRows) → IsReadInOrder base → AreDistinct (nodes (begin_with base))
unfolding nodes
begins_apart None read = λ i j m n here there same. absurd cc
begins_apart (Some g) read = subst AreDistinct (sym (append-nil (map carried_node g.nodes))) (carried_apart read.0 g read.1 read.2)

-- no two nodes have one identifier
pub nodes_distinct_over : (base : Option GovernedRows) (rs : List Recorded) → IsReadInOrder base → IsGovernedOver base rs → AreDistinct (nodes (history_over base rs))
nodes_distinct_over base rs read all =
    over_induction base (λ (rs : List Recorded). AreDistinct (nodes (history_over base rs)))
    (λ rs r all follows old.
    subst AreDistinct (sym (nodes_kept_over base rs r))
    (distinct_after (nodes (history_over base rs)) (nodes_recorded r.seqno r.request) old (recorded_distinct (history_over base rs) r.seqno r.request follows.accepted)
    (recorded_fresh (history_over base rs) r.seqno r.request follows.accepted)))
    (subst (λ (h : History). AreDistinct (nodes h)) (sym (over_none base)) (begins_apart base read)) rs all

-- who was taken out of service isn't trusted
pub not_trusted_over : (base : Option GovernedRows) (rs : List Recorded) (id : List ℕ) (s : ℕ) → IsReadInOrder base → IsGovernedOver base rs → removal (history_over base rs) id ≡ Some s →
    list_any (same_bytes id) (trusted (history_over base rs)) ≡ false
not_trusted_over base rs id s read all e = go (list_any (same_bytes id) (trusted (history_over base rs))) refl
  where
    go : (b : Bool) → list_any (same_bytes id) (trusted (history_over base rs)) ≡ b → b ≡ false
    go false is = refl
    go true is =
        let h : History = history_over base rs in
        let r = removal_read h id s e in
        let t = trusted_at h id is in
        let found : node h id ≡ Some t.0 = ap (node h) (sym t.2) ∙ node_in h t.1.place t.0 (nodes_distinct_over base rs read all) t.1.stands in
        let same : t.0 ≡ r.of = same_Some t.0 r.of (sym found ∙ r.recorded) in
        absurd (out_untrusted h t.0 r.by (ap (retirement h) same ∙ r.retired) t.1.passes)
