-- The seqnos of a node's removal and of its Mark: once there they stay, and a new one is that of
-- the last request.
use Rattle.std.proofs.Common.{◌≡◌, ◌⊎◌, inl, inr, ⊎_elim, ℕ, zero, suc, ◌<◌, List, [], ◌∷◌, ◌++◌, map, Option, Some, None, Bool, true, false, ◌&&◌, find, option_map, nat_lt, slice_get, refl, sym, ◌∙◌, ap, arith}
use Rattle.std.specs.Cmp.Lexicographic.{bytes_decides}
use Rattle.std.proofs.lemmas.Bool.{and_parts, ltb-true}
use Rattle.std.proofs.lemmas.Option.{same_Some}
use Rattle.gl_requests.specs.declared.request.GovernanceRequest.{GovernanceRequest}
use Rattle.gl_requests.specs.declared.request.GovernanceRequest.TheVariants as requests
use Rattle.gl_gov_rules.specs.declared.change.Recorded.{Recorded}
use Rattle.gl_gov_rules.specs.declared.change.RecordedNode.{RecordedNode}
use Rattle.gl_gov_rules.specs.declared.change.Change.{Change}
use Rattle.gl_gov_rules.specs.declared.change.Changed.{Changed}
use Rattle.gl_gov_rules.specs.History.{History}
use Rattle.gl_gov_rules.specs.Nodes.{recorded_node, nodes_recorded, nodes, has_id, node, retires, marks, retirement, removal_of, removal, mark}
use Rattle.gl_gov_rules.specs.Changes.{changes_of, changed_at, history}
use Rattle.gl_gov_rules.specs.Governed.{IsAbove}
use Rattle.gl_gov_rules.proofs.Finding.{found_at, find_kept, find_new, each_at, map_at}
use Rattle.gl_gov_rules.proofs.Prefixes.{changes_more}
use Rattle.gl_gov_rules.proofs.HistoryLists.{requests_of, changes_below, nodes_more}
use Rattle.gl_gov_rules.proofs.NothingCarried.{nothing_carried, mark_asked}

-- ---- what a removal is

-- the node, and the change that took it out of service
pub record Removed (h : History) (id : List ℕ) (s : ℕ) : Type 0 where
  pub of : RecordedNode
  pub recorded : node h id ≡ Some of
  pub by : Changed
  pub retired : retirement h of ≡ Some by
  pub seqno : by.seqno ≡ s

pub removal_read : (h : History) (id : List ℕ) (s : ℕ) → removal h id ≡ Some s → Removed h id s
unfolding removal
removal_read h id s e = node_case (node h id) refl e
  where
    change_case : (n : RecordedNode) (o : Option Changed) → node h id ≡ Some n → retirement h n ≡ o → option_map (λ (c : Changed). c.seqno) o ≡ Some s → Removed h id s
    change_case n None found is e = absurd cc
    change_case n (Some c) found is e = record { of = n; recorded = found; by = c; retired = is; seqno = same_Some c.seqno s e }

    node_case : (o : Option RecordedNode) → node h id ≡ o → removal_of h o ≡ Some s → Removed h id s
    node_case None is e = absurd cc
    node_case (Some n) is e = change_case n (retirement h n) is refl e

pub removal_from : (h : History) (id : List ℕ) (s : ℕ) → Removed h id s → removal h id ≡ Some s
unfolding removal
removal_from h id s r =
    ap (removal_of h) r.recorded ∙ ap (option_map (λ (c : Changed). c.seqno)) r.retired ∙ ap Some r.seqno

-- what takes the node out of service after its own entry
abbrev pub takes_out : RecordedNode → Changed → Bool
takes_out n c = nat_lt n.seqno c.seqno && retires n.id c.change

pub retirement_is : (h : History) (n : RecordedNode) → retirement h n ≡ find (takes_out n) h.changes
unfolding retirement
retirement_is h n = refl

pub node_is : (h : History) (id : List ℕ) → node h id ≡ find (has_id id) (nodes h)
unfolding node
node_is h id = refl

-- ---- removals with one request more

retirement_more : (rs : List Recorded) (r : Recorded) (n : RecordedNode) →
    retirement (history (rs ++ r ∷ [])) n ≡ find (takes_out n) ((history rs).changes ++ map (changed_at r.seqno) (changes_of (history rs) r))
retirement_more rs r n = retirement_is (history (rs ++ r ∷ [])) n ∙ ap (find (takes_out n)) (changes_more rs r)

node_more : (rs : List Recorded) (r : Recorded) (id : List ℕ) → node (history (rs ++ r ∷ [])) id ≡ find (has_id id) (nodes (history rs) ++ nodes_recorded r.seqno r.request)
node_more rs r id = node_is (history (rs ++ r ∷ [])) id ∙ ap (find (has_id id)) (nodes_more rs r)

-- the node that has an identifier stays the one that has it
pub node_kept : (rs : List Recorded) (r : Recorded) (id : List ℕ) (n : RecordedNode) → node (history rs) id ≡ Some n → node (history (rs ++ r ∷ [])) id ≡ Some n
node_kept rs r id n found =
    node_more rs r id ∙ find_kept (has_id id) (nodes (history rs)) (nodes_recorded r.seqno r.request) n (sym (node_is (history rs) id) ∙ found)

-- a removal stays
pub removal_kept : (rs : List Recorded) (r : Recorded) (id : List ℕ) (s : ℕ) → removal (history rs) id ≡ Some s → removal (history (rs ++ r ∷ [])) id ≡ Some s
removal_kept rs r id s e =
    let old = removal_read (history rs) id s e in
    removal_from (history (rs ++ r ∷ [])) id s (record {
      of = old.of;
      recorded = node_kept rs r id old.of old.recorded;
      by = old.by;
      retired =
          retirement_more rs r old.of
          ∙ find_kept (takes_out old.of) (history rs).changes (map (changed_at r.seqno) (changes_of (history rs) r)) old.by (sym (retirement_is (history rs) old.of) ∙ old.retired);
      seqno = old.seqno;
    })

-- the nodes that a request records have its seqno
pub recorded_seqno : (s : ℕ) (q : GovernanceRequest) (i : ℕ) (n : RecordedNode) → slice_get (nodes_recorded s q) i ≡ Some n → n.seqno ≡ s
recorded_seqno s (requests.Genesis g) i n at = let r = map_at (recorded_node s true) g.nodes i n at in ap (λ (m : RecordedNode). m.seqno) (sym r.2)
recorded_seqno s (requests.Recover q) i n at = let r = map_at (recorded_node s true) q.nodes i n at in ap (λ (m : RecordedNode). m.seqno) (sym r.2)
recorded_seqno s (requests.Join m) zero n at = ap (λ (m : RecordedNode). m.seqno) (sym (same_Some (recorded_node s false m) n at))
recorded_seqno s (requests.Join m) (suc i) n at = absurd cc
recorded_seqno s (requests.Mark id) i n at = absurd cc
recorded_seqno s (requests.Member m) i n at = absurd cc

-- what a request brings about has its seqno
pub brought_seqno : (s : ℕ) (cs : List Change) (i : ℕ) (c : Changed) → slice_get (map (changed_at s) cs) i ≡ Some c → c.seqno ≡ s
brought_seqno s cs i c at = let r = map_at (changed_at s) cs i c at in ap (λ (x : Changed). x.seqno) (sym r.2)

-- nothing takes a node out of service in the entry that records it, nor before
pub not_before : (n : RecordedNode) (c : Changed) → takes_out n c ≡ true → n.seqno < c.seqno
not_before n c t = ltb-true n.seqno c.seqno (and_parts (nat_lt n.seqno c.seqno) (retires n.id c.change) t).0

-- a removal was there, or has the seqno of the last request
pub removal_new : (rs : List Recorded) (r : Recorded) (id : List ℕ) (s : ℕ) → IsAbove r.seqno rs → removal (history (rs ++ r ∷ [])) id ≡ Some s →
    (removal (history rs) id ≡ Some s) ⊎ (s ≡ r.seqno)
removal_new rs r id s above e = by_node (find_new (has_id id) (nodes (history rs)) (nodes_recorded r.seqno r.request) new.of (sym (node_more rs r id) ∙ new.recorded))
  where
    new : Removed (history (rs ++ r ∷ [])) id s
    new = removal_read (history (rs ++ r ∷ [])) id s e

    more : List Changed
    more = map (changed_at r.seqno) (changes_of (history rs) r)

    by_change : node (history rs) id ≡ Some new.of → (find (takes_out new.of) (history rs).changes ≡ Some new.by) ⊎ ((find (takes_out new.of) (history rs).changes ≡ None) × (find (takes_out new.of) more ≡ Some new.by)) →
        (removal (history rs) id ≡ Some s) ⊎ (s ≡ r.seqno)
    by_change found (inl old) = inl (removal_from (history rs) id s (record { of = new.of; recorded = found; by = new.by; retired = retirement_is (history rs) new.of ∙ old; seqno = new.seqno }))
    by_change found (inr late) =
        let place = found_at (takes_out new.of) more new.by late.1 in
        inr (sym new.seqno ∙ brought_seqno r.seqno (changes_of (history rs) r) place.place new.by place.stands)

    changes_found : (find (takes_out new.of) (history rs).changes ≡ Some new.by) ⊎ ((find (takes_out new.of) (history rs).changes ≡ None) × (find (takes_out new.of) more ≡ Some new.by))
    changes_found = find_new (takes_out new.of) (history rs).changes more new.by (sym (retirement_more rs r new.of) ∙ new.retired)

    by_node : (find (has_id id) (nodes (history rs)) ≡ Some new.of) ⊎ ((find (has_id id) (nodes (history rs)) ≡ None) × (find (has_id id) (nodes_recorded r.seqno r.request) ≡ Some new.of)) →
        (removal (history rs) id ≡ Some s) ⊎ (s ≡ r.seqno)
    by_node (inl old) = by_change (node_is (history rs) id ∙ old) changes_found
    by_node (inr late) =
        let at = found_at (has_id id) (nodes_recorded r.seqno r.request) new.of late.1 in
        let own = recorded_seqno r.seqno r.request at.place new.of at.stands in
        ⊎_elim
        (λ (old : find (takes_out new.of) (history rs).changes ≡ Some new.by).
        let place = found_at (takes_out new.of) (history rs).changes new.by old in
        let low : new.by.seqno < r.seqno = each_at (λ (c : Changed). c.seqno < r.seqno) (history rs).changes (changes_below r.seqno rs above) place.place new.by place.stands in
        let high = not_before new.of new.by place.passes in
        absurd (omega (arith, low, high, own)))
        (λ (new_one : (find (takes_out new.of) (history rs).changes ≡ None) × (find (takes_out new.of) more ≡ Some new.by)).
        let place = found_at (takes_out new.of) more new.by new_one.1 in
        inr (sym new.seqno ∙ brought_seqno r.seqno (changes_of (history rs) r) place.place new.by place.stands))
        changes_found

-- a removal has the seqno of a change, so one below what is above the requests
pub removal_within : (rs : List Recorded) (id : List ℕ) (s n : ℕ) → removal (history rs) id ≡ Some s → IsAbove n rs → s < n
removal_within rs id s n e above =
    let r = removal_read (history rs) id s e in
    let place = found_at (takes_out r.of) (history rs).changes r.by (sym (retirement_is (history rs) r.of) ∙ r.retired) in
    let low : r.by.seqno < n = each_at (λ (c : Changed). c.seqno < n) (history rs).changes (changes_below n rs above) place.place r.by place.stands in
    omega (arith, low, r.seqno)

-- ---- marks

-- the request that marks the node
pub record MarkedBy (rs : List Recorded) (id : List ℕ) (s : ℕ) : Type 0 where
  pub by : Recorded
  pub found : find (λ (r : Recorded). marks id r.request) rs ≡ Some by
  pub seqno : by.seqno ≡ s

pub mark_read : (rs : List Recorded) (id : List ℕ) (s : ℕ) → mark (history rs) id ≡ Some s → MarkedBy rs id s
mark_read rs id s e =
    go (find (λ (r : Recorded). marks id r.request) rs) refl
    (ap (λ (xs : List Recorded). option_map (λ (r : Recorded). r.seqno) (find (λ (r : Recorded). marks id r.request) xs)) (sym (requests_of rs))
    ∙ sym (mark_asked (history rs) id (nothing_carried rs)) ∙ e)
  where
    go : (o : Option Recorded) → find (λ (r : Recorded). marks id r.request) rs ≡ o → option_map (λ (r : Recorded). r.seqno) o ≡ Some s → MarkedBy rs id s
    go None is e = absurd cc
    go (Some r) is e = record { by = r; found = is; seqno = same_Some r.seqno s e }

pub mark_from : (rs : List Recorded) (id : List ℕ) (s : ℕ) → MarkedBy rs id s → mark (history rs) id ≡ Some s
mark_from rs id s m =
    mark_asked (history rs) id (nothing_carried rs)
    ∙ ap (λ (xs : List Recorded). option_map (λ (r : Recorded). r.seqno) (find (λ (r : Recorded). marks id r.request) xs)) (requests_of rs)
    ∙ ap (option_map (λ (r : Recorded). r.seqno)) m.found ∙ ap Some m.seqno

-- a Mark stays
pub mark_kept : (rs : List Recorded) (r : Recorded) (id : List ℕ) (s : ℕ) → mark (history rs) id ≡ Some s → mark (history (rs ++ r ∷ [])) id ≡ Some s
mark_kept rs r id s e =
    let old = mark_read rs id s e in
    mark_from (rs ++ r ∷ []) id s (record { by = old.by; found = find_kept (λ (r : Recorded). marks id r.request) rs (r ∷ []) old.by old.found; seqno = old.seqno })

-- what marks a node is the Mark with its identifier
pub marks_same : (id : List ℕ) (q : GovernanceRequest) → marks id q ≡ true → q ≡ requests.Mark id
marks_same id (requests.Genesis g) e = absurd cc
marks_same id (requests.Recover r) e = absurd cc
marks_same id (requests.Join n) e = absurd cc
marks_same id (requests.Mark other) e = ap requests.Mark (sym ((bytes_decides id other).0 e))
marks_same id (requests.Member m) e = absurd cc

-- a Mark was there, or is the last request
pub mark_new : (rs : List Recorded) (r : Recorded) (id : List ℕ) (s : ℕ) → mark (history (rs ++ r ∷ [])) id ≡ Some s →
    (mark (history rs) id ≡ Some s) ⊎ ((s ≡ r.seqno) × (r.request ≡ requests.Mark id))
mark_new rs r id s e =
    let m = mark_read (rs ++ r ∷ []) id s e in
    ⊎_elim
    (λ (old : find (λ (r : Recorded). marks id r.request) rs ≡ Some m.by). inl (mark_from rs id s (record { by = m.by; found = old; seqno = m.seqno })))
    (λ (late : (find (λ (r : Recorded). marks id r.request) rs ≡ None) × (find (λ (r : Recorded). marks id r.request) (r ∷ []) ≡ Some m.by)).
    let at = found_at (λ (r : Recorded). marks id r.request) (r ∷ []) m.by late.1 in
    let same : r ≡ m.by = only at.place at.stands in
    inr (sym m.seqno ∙ ap (λ (x : Recorded). x.seqno) (sym same), ap (λ (x : Recorded). x.request) same ∙ marks_same id m.by.request at.passes))
    (find_new (λ (r : Recorded). marks id r.request) rs (r ∷ []) m.by m.found)
  where
    only : {x : Recorded} → (i : ℕ) → slice_get (r ∷ []) i ≡ Some x → r ≡ x
    only zero e = same_Some _ _ e
    only (suc i) e = absurd cc

-- a Mark has the seqno of a request
pub mark_within : (rs : List Recorded) (id : List ℕ) (s n : ℕ) → mark (history rs) id ≡ Some s → IsAbove n rs → s < n
mark_within rs id s n e above =
    let m = mark_read rs id s e in
    let at = found_at (λ (r : Recorded). marks id r.request) rs m.by m.found in
    let low : m.by.seqno < n = each_at (λ (r : Recorded). r.seqno < n) rs above at.place m.by at.stands in
    omega (arith, low, m.seqno)
