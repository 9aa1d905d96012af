-- With what a node is recorded: one of a founding as the founding names it, and each, where no
-- recovery stands, with an endorsement by the service's key.
use Rattle.std.proofs.Common.{◌≡◌, ℕ, zero, suc, List, [], ◌∷◌, ◌++◌, map, flat_map, find, Some, None, Bool, true, false, not, ◌&&◌, slice_get, refl, sym, ◌∙◌, ap, subst}
use Rattle.std.specs.List.{list_any, list_all, AllByRecursion}
use Rattle.std.specs.Cmp.Lexicographic.{bytes_decides}
use Rattle.std.proofs.lemmas.Bool.{and_parts, or_parts, not-true, both_ways, cond-true, cond-false, false_from_ne_true}
use Rattle.std.proofs.lemmas.List.Folds.{list_any-append}
use Rattle.gl_base.specs.Bytes.{are_sized, same_bytes}
use Rattle.gl_requests.specs.Encoding.{node_id}
use Rattle.gl_requests.specs.Ranges as ranges
use Rattle.gl_requests.specs.declared.genesis.Genesis.{Genesis}
use Rattle.gl_requests.specs.declared.genesis.NewNode.{NewNode}
use Rattle.gl_requests.specs.declared.request.GovernanceRequest.{GovernanceRequest}
use Rattle.gl_requests.specs.declared.request.GovernanceRequest.TheVariants as requests
use Rattle.gl_gov_rules.specs.declared.change.Recorded.{Recorded}
use Rattle.gl_gov_rules.specs.declared.change.RecordedNode.{RecordedNode}
use Rattle.gl_gov_rules.specs.History.{History}
use Rattle.gl_gov_rules.specs.Signatures.{is_endorsed}
use Rattle.gl_gov_rules.specs.Nodes.{recorded_node, nodes_recorded, nodes, has_id, node}
use Rattle.gl_gov_rules.specs.Service.{identity}
use Rattle.gl_gov_rules.specs.Changes.{history}
use Rattle.gl_gov_rules.specs.Refusals.{is_node_with, are_ids_distinct, are_endorsed, key_in_force, refusal}
use Rattle.gl_gov_rules.specs.Governed.{Follows, IsGoverned, is_founding, is_nothing, is_recovery}
use Rattle.gl_gov_rules.proofs.Counting.{each_append}
use Rattle.gl_gov_rules.proofs.Finding.{any_from, each_at, find_kept, found_at}
use Rattle.gl_gov_rules.proofs.Prefixes.{governed_induction, history_of_none}
use Rattle.gl_gov_rules.proofs.HistoryLists.{nodes_more, requests_of}
use Rattle.gl_gov_rules.proofs.Removals.{node_is}
use Rattle.gl_gov_rules.proofs.FewNodes.{genesis_passes, join_passes}
use Rattle.gl_gov_rules.proofs.FoundingReadings.{founding_recorded}
use Rattle.gl_gov_rules.proofs.KeptIdentity.{has_recovery, identity_kept, founding_named}
use Rattle.gl_gov_rules.proofs.NothingCarried.{nothing_carried, nodes_asked}

-- ---- a founding

-- of distinct nodes the first with an identifier is the one that has it
first_with : (s : ℕ) (ns : List NewNode) (i : ℕ) (n : NewNode) → are_ids_distinct ns ≡ true → slice_get ns i ≡ Some n →
    find (has_id (node_id n)) (map (recorded_node s true) ns) ≡ Some (recorded_node s true n)
first_with s [] i n apart at = absurd cc
first_with s (m ∷ ms) zero n apart at =
    let same : m ≡ n = cc in
    cond-true (same_bytes (node_id m) (node_id n)) (Some (recorded_node s true m)) (find (has_id (node_id n)) (map (recorded_node s true) ms)) ((bytes_decides (node_id m) (node_id n)).1 (ap node_id same))
    ∙ ap (λ (x : NewNode). Some (recorded_node s true x)) same
first_with s (m ∷ ms) (suc i) n apart at =
    let again : Bool = list_any (is_node_with (node_id m)) ms in
    let both = and_parts (not again) (are_ids_distinct ms) apart in
    let other : same_bytes (node_id m) (node_id n) ≡ false =
    false_from_ne_true (same_bytes (node_id m) (node_id n)) (λ same.
    both_ways again (not-true again both.0)
    (any_from (is_node_with (node_id m)) ms i n at ((bytes_decides (node_id n) (node_id m)).1 (sym ((bytes_decides (node_id m) (node_id n)).0 same))))) in
    cond-false (same_bytes (node_id m) (node_id n)) (Some (recorded_node s true m)) (find (has_id (node_id n)) (map (recorded_node s true) ms)) other
    ∙ first_with s ms i n both.1 at

-- whatever requests follow a founding, its nodes are recorded as it names them
pub founding_node : (g : Genesis) (rs : List Recorded) (i : ℕ) (n : NewNode) → are_ids_distinct g.nodes ≡ true → slice_get g.nodes i ≡ Some n →
    node (history (founding_recorded g ∷ rs)) (node_id n) ≡ Some (recorded_node 1 true n)
unfolding node
founding_node g rs i n apart at =
    let recorded : Recorded → List RecordedNode = λ (r : Recorded). nodes_recorded r.seqno r.request in
    let h : History = history (founding_recorded g ∷ rs) in
    ap (find (has_id (node_id n))) (nodes_asked h (nothing_carried (founding_recorded g ∷ rs)))
    ∙ ap (λ (xs : List Recorded). find (has_id (node_id n)) (flat_map recorded xs)) (requests_of (founding_recorded g ∷ rs))
    ∙ find_kept (has_id (node_id n)) (map (recorded_node 1 true) g.nodes) (flat_map recorded rs) (recorded_node 1 true n) (first_with 1 g.nodes i n apart at)

-- ---- endorsements

-- A node has the identifier of its key, its fields are in their ranges, and this key endorses it.
pub record IsEndorsedBy (key : List ℕ) (n : RecordedNode) : Type 0 where
  pub named : n.id ≡ node_id n.node
  pub fits : ranges.is_node n.node ≡ true
  pub endorsed : is_endorsed key n.node.key n.node.endorsement ≡ true

-- the service's key after these requests
abbrev key_after : List Recorded → List ℕ
key_after rs = key_in_force (identity (history rs))

-- where no recovery stands, it endorses each node
abbrev AreEndorsed : List Recorded → Type 0
AreEndorsed rs = has_recovery rs ≡ false → AllByRecursion (IsEndorsedBy (key_after rs)) (nodes (history rs))

-- no request records no node
none_yet : (P : RecordedNode → Type 0) → AllByRecursion P (nodes (history []))
unfolding nodes
none_yet P = subst (λ (h : History). AllByRecursion P (nodes h)) (sym history_of_none) tt

nothing : (rs : List Recorded) → is_nothing rs ≡ true → rs ≡ []
nothing [] h = refl
nothing (r ∷ rs) h = absurd cc

-- the nodes of a founding are in their ranges
nodes_fit : (g : Genesis) → ranges.is_genesis g ≡ true → list_all ranges.is_node g.nodes ≡ true
nodes_fit g fits =
    let state : Bool = ranges.is_first_state g.state in
    let key : Bool = are_sized 60 g.identity in
    let nodes : Bool = ranges.are_counted ranges.is_node g.nodes in
    let members : Bool = ranges.are_counted ranges.is_member g.members in
    let a = and_parts (state && key && nodes && members) (ranges.is_dealing g.dealing) fits in
    let b = and_parts (state && key && nodes) members a.0 in
    let c = and_parts (state && key) nodes b.0 in
    (and_parts _ (list_all ranges.is_node g.nodes) c.1).1

-- and its key endorses them
all_endorsed : (key : List ℕ) (s : ℕ) (ns : List NewNode) → list_all ranges.is_node ns ≡ true → are_endorsed key ns ≡ true → AllByRecursion (IsEndorsedBy key) (map (recorded_node s true) ns)
unfolding are_endorsed
all_endorsed key s [] fit all = tt
all_endorsed key s (n ∷ ns) fit all =
    let these = and_parts (ranges.is_node n) (list_all ranges.is_node ns) fit in
    let both = and_parts (is_endorsed key n.key n.endorsement) (list_all (λ (m : NewNode). is_endorsed key m.key m.endorsement) ns) all in
    (record { named = refl; fits = these.0; endorsed = both.0 }, all_endorsed key s ns these.1 both.1)

module _ (rs : List Recorded) (r : Recorded) (follows : Follows rs r) (old : AreEndorsed rs) (none : has_recovery (rs ++ r ∷ []) ≡ false) where
  -- neither those before it nor the request is a recovery
  parts : (has_recovery rs ≡ false) × (has_recovery (r ∷ []) ≡ false)
  parts = or_parts (has_recovery rs) (has_recovery (r ∷ [])) (sym (list_any-append (λ (x : Recorded). is_recovery x.request) rs (r ∷ [])) ∙ none)

  fits : (q : GovernanceRequest) → r.request ≡ q → ranges.is_request q ≡ true
  fits q is = ap ranges.is_request (sym is) ∙ follows.fits

  accepted : (q : GovernanceRequest) → r.request ≡ q → refusal (history rs) r.seqno q ≡ None
  accepted q is = ap (refusal (history rs) r.seqno) (sym is) ∙ follows.accepted

  -- by a key that endorses those before it and those of the request
  with_key : (key : List ℕ) (q : GovernanceRequest) → r.request ≡ q → key_after (rs ++ r ∷ []) ≡ key → AllByRecursion (IsEndorsedBy key) (nodes (history rs)) →
      AllByRecursion (IsEndorsedBy key) (nodes_recorded r.seqno q) → AllByRecursion (IsEndorsedBy (key_after (rs ++ r ∷ []))) (nodes (history (rs ++ r ∷ [])))
  with_key key q is reported before new =
      subst (λ (k : List ℕ). AllByRecursion (IsEndorsedBy k) (nodes (history (rs ++ r ∷ [])))) (sym reported)
      (subst (AllByRecursion (IsEndorsedBy key)) (sym (nodes_more rs r ∙ ap (λ (x : GovernanceRequest). nodes (history rs) ++ nodes_recorded r.seqno x) is))
      (each_append (IsEndorsedBy key) (nodes (history rs)) (nodes_recorded r.seqno q) before new))

  -- with a request that names no key
  with_same : (q : GovernanceRequest) → r.request ≡ q → is_founding q ≡ false → is_recovery q ≡ false → AllByRecursion (IsEndorsedBy (key_after rs)) (nodes_recorded r.seqno q) →
      AllByRecursion (IsEndorsedBy (key_after (rs ++ r ∷ []))) (nodes (history (rs ++ r ∷ [])))
  with_same q is founds recovers new =
      with_key (key_after rs) q is (ap key_in_force (identity_kept rs r (ap is_founding is ∙ founds) (ap is_recovery is ∙ recovers))) (old parts.0) new

  by_request : (q : GovernanceRequest) → r.request ≡ q → AllByRecursion (IsEndorsedBy (key_after (rs ++ r ∷ []))) (nodes (history (rs ++ r ∷ [])))
  by_request (requests.Genesis g) is =
      let first : rs ≡ [] = nothing rs (sym follows.founding ∙ ap is_founding is) in
      let whole : r ≡ record { seqno = r.seqno; request = requests.Genesis g } = ap (λ (q : GovernanceRequest). record { seqno = r.seqno; request = q }) is in
      with_key g.identity (requests.Genesis g) is (ap (λ (x : Recorded). key_after (rs ++ x ∷ [])) whole ∙ ap key_in_force (founding_named rs r.seqno g))
      (subst (λ (xs : List Recorded). AllByRecursion (IsEndorsedBy g.identity) (nodes (history xs))) (sym first) (none_yet (IsEndorsedBy g.identity)))
      (all_endorsed g.identity r.seqno g.nodes (nodes_fit g (fits (requests.Genesis g) is)) (genesis_passes (history rs) r.seqno g (accepted (requests.Genesis g) is)).1)
  by_request (requests.Recover q) is = absurd (let both = or_parts (is_recovery r.request) false parts.1 in let w = sym (ap is_recovery is) ∙ both.0 in cc)
  by_request (requests.Join n) is =
      let passed = join_passes (history rs) r.seqno n (accepted (requests.Join n) is) in
      with_same (requests.Join n) is refl refl (record { named = refl; fits = fits (requests.Join n) is; endorsed = passed.0 }, tt)
  by_request (requests.Mark id) is = with_same (requests.Mark id) is refl refl tt
  by_request (requests.Member m) is = with_same (requests.Member m) is refl refl tt

are_endorsed_nodes : (rs : List Recorded) → IsGoverned rs → AreEndorsed rs
are_endorsed_nodes =
    governed_induction AreEndorsed (λ none. none_yet (IsEndorsedBy (key_after []))) (λ rs r all follows old none. by_request rs r follows old none r.request refl)

-- of requests that follow one another, none of which is a recovery, each node that is recorded has
-- its own identifier, and the service's key endorses it
pub endorsed_node : (rs : List Recorded) → IsGoverned rs → list_any (λ (r : Recorded). is_recovery r.request) rs ≡ false → (x : List ℕ) (n : RecordedNode) → node (history rs) x ≡ Some n →
    IsEndorsedBy (key_in_force (identity (history rs))) n × (n.id ≡ x)
endorsed_node rs all none x n is =
    let at = found_at (has_id x) (nodes (history rs)) n (sym (node_is (history rs) x) ∙ is) in
    (each_at (IsEndorsedBy (key_after rs)) (nodes (history rs)) (are_endorsed_nodes rs all none) at.place n at.stands, (bytes_decides n.id x).0 at.passes)
