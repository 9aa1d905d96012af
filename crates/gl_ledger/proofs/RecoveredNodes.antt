-- After a recovery the nodes that it names are trusted, in its order, and none that was recorded
-- before.
use Rattle.std.proofs.Common.{◌≡◌, ⊎_elim, ℕ, suc, ◌+◌, ◌<◌, List, [], ◌∷◌, ◌++◌, length, map, filter, Some, None, Bool, true, false, ◌||◌, nat_lt, slice_get, refl, sym, ◌∙◌, ap, arith}
use Rattle.std.specs.List.{list_any, flat_map}
use Rattle.std.proofs.lemmas.Bool.{and_from, or_from, or_left, or_right, or_cases, both_ways, false_from_ne_true, cond-true, cond-false}
use Rattle.std.proofs.lemmas.Bool.Decides.{nat_tests}
use Rattle.std.proofs.lemmas.List.Folds.{list_any-append}
use Rattle.std.proofs.lemmas.List.Elements.{filter-append}
use Rattle.gl_base.proofs.Lists.{slice_get-of_append, slice_get-push}
use Rattle.gl_requests.specs.Encoding.{node_id}
use Rattle.gl_requests.specs.declared.genesis.NewNode.{NewNode}
use Rattle.gl_requests.specs.declared.genesis.Recovery.{Recovery}
use Rattle.gl_requests.specs.declared.request.GovernanceRequest.TheVariants as requests
use Rattle.gl_gov_rules.specs.declared.change.Recorded.{Recorded}
use Rattle.gl_gov_rules.specs.declared.change.RecordedNode.{RecordedNode}
use Rattle.gl_gov_rules.specs.declared.change.Change.{Change}
use Rattle.gl_gov_rules.specs.declared.change.Change.TheVariants as changes
use Rattle.gl_gov_rules.specs.declared.change.Changed.{Changed}
use Rattle.gl_gov_rules.specs.History.{History}
use Rattle.gl_gov_rules.specs.Nodes.{recorded_node, nodes_recorded, nodes, node, marks, trusted}
use Rattle.gl_gov_rules.specs.Changes.{changes_of, changed_at, history}
use Rattle.gl_gov_rules.specs.Governed.{IsAbove, Follows, IsGoverned}
use Rattle.gl_gov_rules.proofs.Prefixes.{changes_more, governed_induction}
use Rattle.gl_gov_rules.proofs.Finding.{any_false, each_at, map_at}
use Rattle.gl_gov_rules.proofs.HistoryLists.{requests_of, changes_below, nodes_more}
use Rattle.gl_gov_rules.proofs.Removals.{removal_read, takes_out, node_kept, recorded_seqno, not_before, marks_same}
use Rattle.gl_gov_rules.proofs.NewNodes.{recorded_new}
use Rattle.gl_gov_rules.proofs.Statuses.{marked, is_trusted_in}
use Rattle.gl_gov_rules.proofs.NothingCarried.{nothing_carried, nodes_of_requests}
use Rattle.gl_gov_rules.proofs.TrustedBy.{marked_in, trust_in, trusted_read, trusted_from}

-- ---- filters

module _ {A : Type 0} (p : A → Bool) where
  -- what no element passes keeps none
  none_kept : (xs : List A) → ((i : ℕ) (x : A) → slice_get xs i ≡ Some x → p x ≡ false) → filter p xs ≡ []
  none_kept [] none = refl
  none_kept (x ∷ xs) none = cond-false (p x) (x ∷ filter p xs) (filter p xs) (none 0 x refl) ∙ none_kept xs (λ i y at. none (suc i) y at)

  -- and what each passes keeps all
  all_kept : (xs : List A) → ((i : ℕ) (x : A) → slice_get xs i ≡ Some x → p x ≡ true) → filter p xs ≡ xs
  all_kept [] all = refl
  all_kept (x ∷ xs) all =
      cond-true (p x) (x ∷ filter p xs) (filter p xs) (all 0 x refl) ∙ ap (λ (ys : List A). x ∷ ys) (all_kept xs (λ i y at. all (suc i) y at))

-- ---- nodes that were recorded before

-- a node that was marked was recorded
abbrev AreMarkedRecorded : List Recorded → Type 0
AreMarkedRecorded rs = (id : List ℕ) → marked_in rs id ≡ true → (n : RecordedNode) × (node (history rs) id ≡ Some n)

marked_recorded : (rs : List Recorded) → IsGoverned rs → AreMarkedRecorded rs
marked_recorded = governed_induction AreMarkedRecorded
    (λ id e. absurd cc)
    (λ rs r all follows old id e.
    ⊎_elim
    (λ (before : marked_in rs id ≡ true). let f = old id before in (f.0, node_kept rs r id f.0 f.1))
    (λ (now : marked_in (r ∷ []) id ≡ true).
    let removed = marked rs r id follows (marks_same id r.request (alone (marks id r.request) now)) in
    let read = removal_read (history rs) id removed.0 removed.1 in
    (read.of, node_kept rs r id read.of read.recorded))
    (or_cases (marked_in rs id) (marked_in (r ∷ []) id) (sym (list_any-append (λ (x : Recorded). marks id x.request) rs (r ∷ [])) ∙ e)))
  where
    alone : (b : Bool) → (b || false) ≡ true → b ≡ true
    alone true e = refl
    alone false e = e

-- the nodes that requests record
abbrev nodes_of : List Recorded → List RecordedNode
nodes_of rs = flat_map (λ (r : Recorded). nodes_recorded r.seqno r.request) rs

-- have seqnos below one that is above the requests
nodes_below : (seqno : ℕ) (rs : List Recorded) → IsAbove seqno rs → (i : ℕ) (n : RecordedNode) → slice_get (nodes_of rs) i ≡ Some n → n.seqno < seqno
nodes_below seqno [] above i n at = absurd cc
nodes_below seqno (r ∷ rs) above i n at = ⊎_elim
    (λ (here : slice_get (nodes_recorded r.seqno r.request) i ≡ Some n).
    let own = recorded_seqno r.seqno r.request i n here in let low = above.0 in omega (arith, own, low))
    (λ (later : (j : ℕ) × (i ≡ length (nodes_recorded r.seqno r.request) + j) × (slice_get (nodes_of rs) j ≡ Some n)).
    nodes_below seqno rs above.1 later.0 n later.2)
    (slice_get-of_append (nodes_recorded r.seqno r.request) (nodes_of rs) i n at)

-- ---- a recovery

ids_named : (seqno : ℕ) (ns : List NewNode) → map (λ (n : RecordedNode). n.id) (map (recorded_node seqno true) ns) ≡ map node_id ns
ids_named seqno [] = refl
ids_named seqno (n ∷ ns) = ap (λ (ids : List (List ℕ)). node_id n ∷ ids) (ids_named seqno ns)

module _ (rs : List Recorded) (s : ℕ) (q : Recovery) (all : IsGoverned rs) (follows : Follows rs (record { seqno = s; request = requests.Recover q })) where
  abbrev recovering : Recorded
  recovering = record { seqno = s; request = requests.Recover q }

  abbrev before : History
  before = history rs

  abbrev after : History
  after = history (rs ++ recovering ∷ [])

  -- the one change that it brings about
  abbrev recovered : Changed
  recovered = changed_at s (changes.Recovered q.identity)

  brought : changes_of before recovering ≡ changes.Recovered q.identity ∷ []
  unfolding changes_of
  brought = refl

  changes_after : after.changes ≡ before.changes ++ recovered ∷ []
  changes_after = changes_more rs recovering ∙ ap (λ (cs : List Change). before.changes ++ map (changed_at s) cs) brought

  earlier : (i : ℕ) (n : RecordedNode) → slice_get (nodes before) i ≡ Some n → n.seqno < s
  earlier i n at = nodes_below s rs follows.above i n (ap (λ (ns : List RecordedNode). slice_get ns i) (sym (nodes_of_requests rs)) ∙ at)

  -- takes each node out of service that was recorded before
  retired : (i : ℕ) (n : RecordedNode) → slice_get (nodes before) i ≡ Some n → is_trusted_in after n ≡ false
  retired i n at = false_from_ne_true (is_trusted_in after n) (λ stays.
      let low = earlier i n at in
      let suffix : nat_lt n.seqno s ≡ true = grind (arith, nat_tests, low) in
      let out : list_any (takes_out n) after.changes ≡ true =
      ap (list_any (takes_out n)) changes_after ∙ list_any-append (takes_out n) before.changes (recovered ∷ [])
      ∙ or_right (list_any (takes_out n) before.changes) (takes_out n recovered || false) (or_left (takes_out n recovered) false (and_from (nat_lt n.seqno s) true suffix refl)) in
      both_ways (list_any (takes_out n) after.changes) (trusted_read after n (nothing_carried (rs ++ recovering ∷ [])) stays).serves out)

  -- the nodes that it names
  abbrev named : List RecordedNode
  named = map (recorded_node s true) q.nodes

  -- were not marked before
  unmarked : (i : ℕ) (n : RecordedNode) → slice_get named i ≡ Some n → marked_in rs n.id ≡ false
  unmarked i n at = false_from_ne_true (marked_in rs n.id) (λ mark.
      let found = marked_recorded rs all n.id mark in
      let none = recorded_new before s (requests.Recover q) i n follows.accepted at in
      let clash : None ≡ Some found.0 = sym none ∙ found.1 in
      cc)

  -- nothing takes one of them out of service
  serves : (i : ℕ) (n : RecordedNode) → slice_get named i ≡ Some n → list_any (takes_out n) after.changes ≡ false
  serves i n at =
      let own : n.seqno ≡ s = recorded_seqno s (requests.Recover q) i n at in
      any_false (takes_out n) after.changes (λ j c there out.
      let later = not_before n c out in
      ⊎_elim
      (λ (old : slice_get before.changes j ≡ Some c).
      let low : c.seqno < s = each_at (λ (x : Changed). x.seqno < s) before.changes (changes_below s rs follows.above) j c old in
      absurd (omega (arith, low, later, own)))
      (λ (last : (j ≡ length before.changes) × (c ≡ recovered)).
      let same : c.seqno ≡ s = ap (λ (x : Changed). x.seqno) last.1 in absurd (omega (arith, same, later, own)))
      (slice_get-push before.changes recovered j c (ap (λ (cs : List Changed). slice_get cs j) (sym changes_after) ∙ there)))

  -- so they are trusted
  serving : (i : ℕ) (n : RecordedNode) → slice_get named i ≡ Some n → is_trusted_in after n ≡ true
  serving i n at =
      let founding : n.is_founding ≡ true = let r = map_at (recorded_node s true) q.nodes i n at in ap (λ (m : RecordedNode). m.is_founding) (sym r.2) in
      trusted_from after n (nothing_carried (rs ++ recovering ∷ [])) (record {
        unmarked =
            ap (λ (xs : List Recorded). marked_in xs n.id) (requests_of (rs ++ recovering ∷ [])) ∙ list_any-append (λ (x : Recorded). marks n.id x.request) rs (recovering ∷ [])
            ∙ or_from (marked_in rs n.id) (false || false) (unmarked i n at) refl;
        serves = serves i n at;
        trust = ap (λ (b : Bool). b || trust_in after.changes n.id) founding;
      })

  -- and they alone
  pub recovered_trusted : trusted after ≡ map node_id q.nodes
  unfolding trusted
  recovered_trusted =
      let ids : List RecordedNode → List (List ℕ) = map (λ (n : RecordedNode). n.id) in
      ap (λ (ns : List RecordedNode). ids (filter (is_trusted_in after) ns)) (nodes_more rs recovering)
      ∙ ap ids (filter-append (is_trusted_in after) (nodes before) named
      ∙ ap (λ (ns : List RecordedNode). ns ++ filter (is_trusted_in after) named) (none_kept (is_trusted_in after) (nodes before) retired)
      ∙ all_kept (is_trusted_in after) named serving)
      ∙ ids_named s q.nodes
