-- The nodes that are recorded: those up to a seqno stand in front, as many as are counted.
use Rattle.std.proofs.Common.{◌≡◌, ℕ, zero, suc, nat_le, Bool, true, false, cond, List, [], ◌∷◌, ◌++◌, length, take, map, fold, Option, Some, None, refl, sym, ap, ap₂, ◌∙◌, append_assoc, arith}
use Rattle.std.specs.List.{count_by, filter, flat_map}
use Rattle.std.proofs.Math.Seq.{take-append_seam}
use Rattle.std.proofs.lemmas.Bool.{le-leb}
use Rattle.std.proofs.lemmas.List.{append-nil}
use Rattle.std.proofs.lemmas.List.Elements.{filter-append}
use Rattle.std.proofs.lemmas.List.Sums.{length-filter}
use Rattle.std.proofs.lemmas.Grind.{flat_map-append}
use Rattle.gl_requests.specs.declared.genesis.NewNode.{NewNode}
use Rattle.gl_requests.specs.declared.request.GovernanceRequest.{GovernanceRequest}
use Rattle.gl_requests.specs.declared.request.GovernanceRequest.TheVariants as requests
use Rattle.gl_rules.specs.Identity.{NodeId}
use Rattle.gl_gov_rules.specs.declared.change.Recorded.{Recorded}
use Rattle.gl_gov_rules.specs.declared.change.RecordedNode.{RecordedNode}
use Rattle.gl_gov_rules.specs.Nodes.{nodes, recorded_node, nodes_recorded}
use Rattle.gl_gov_rules.specs.Changes.{with_request}
use Rattle.gl_gov_rules.specs.GovernedRows.{begin_with, carried_node, history_over}
use Rattle.gl_gov_rules.specs.History.{History}
use Rattle.gl_gov_rules.specs.declared.row.GovernedRows.{GovernedRows}
use Rattle.gl_gov_rules.specs.declared.row.NodeRow.{NodeRow}
use Rattle.gl_gov_rules.specs.Governed.{up_to}
use Rattle.gl_gov_rules.specs.Rising.{IsRising}
use Rattle.gl_gov_rules.proofs.CutLists.{requests_above, requests_split}
use Rattle.gl_gov_rules.proofs.HistoryLists.{nodes_after}
use Rattle.gl_gov_rules.proofs.OverBase.{over_fold}

-- what passes a test, where all of it stands first
prefix : {X : Type 0} (p : X → Bool) (xs rest : List X) → xs ≡ filter p xs ++ rest → take (count_by p xs) xs ≡ filter p xs
prefix p xs rest whole =
    ap (λ n. take n xs) (sym (length-filter p xs)) ∙ ap (λ ys. take (length (filter p xs)) ys) whole ∙ take-append_seam (filter p xs) rest

-- ---- the nodes of the requests up to a seqno

abbrev nodes_up_to : ℕ → List RecordedNode → List RecordedNode
nodes_up_to seqno ns = filter (λ (n : RecordedNode). nat_le n.seqno seqno) ns

founding_nodes_stay : (p q : ℕ) (b : Bool) (ns : List NewNode) → nat_le q p ≡ true → nodes_up_to p (map (recorded_node q b) ns) ≡ map (recorded_node q b) ns
founding_nodes_stay p q b [] e = refl
founding_nodes_stay p q b (n ∷ ns) e = let rest = founding_nodes_stay p q b ns e in rw (e, rest) refl

founding_nodes_go : (p q : ℕ) (b : Bool) (ns : List NewNode) → nat_le q p ≡ false → nodes_up_to p (map (recorded_node q b) ns) ≡ []
founding_nodes_go p q b [] e = refl
founding_nodes_go p q b (n ∷ ns) e = rw e (founding_nodes_go p q b ns e)

nodes_stay : (p q : ℕ) (g : GovernanceRequest) → nat_le q p ≡ true → nodes_up_to p (nodes_recorded q g) ≡ nodes_recorded q g
nodes_stay p q (requests.Genesis g) e = founding_nodes_stay p q true g.nodes e
nodes_stay p q (requests.Recover r) e = founding_nodes_stay p q true r.nodes e
nodes_stay p q (requests.Join n) e = founding_nodes_stay p q false (n ∷ []) e
nodes_stay p q (requests.Mark id) e = refl
nodes_stay p q (requests.Member m) e = refl

nodes_go : (p q : ℕ) (g : GovernanceRequest) → nat_le q p ≡ false → nodes_up_to p (nodes_recorded q g) ≡ []
nodes_go p q (requests.Genesis g) e = founding_nodes_go p q true g.nodes e
nodes_go p q (requests.Recover r) e = founding_nodes_go p q true r.nodes e
nodes_go p q (requests.Join n) e = founding_nodes_go p q false (n ∷ []) e
nodes_go p q (requests.Mark id) e = refl
nodes_go p q (requests.Member m) e = refl

abbrev nodes_in : Recorded → List RecordedNode
nodes_in r = nodes_recorded r.seqno r.request

nodes_step : (p : ℕ) (r : Recorded) (rs : List Recorded) (b : Bool) → nat_le r.seqno p ≡ b →
    flat_map nodes_in (up_to p rs) ≡ nodes_up_to p (flat_map nodes_in rs) →
    flat_map nodes_in (cond b (r ∷ up_to p rs) (up_to p rs)) ≡ nodes_up_to p (nodes_in r ++ flat_map nodes_in rs)
nodes_step p r rs true e rest =
    ap (λ xs. nodes_in r ++ xs) rest
    ∙ sym (filter-append (λ (n : RecordedNode). nat_le n.seqno p) (nodes_in r) (flat_map nodes_in rs) ∙ ap (λ xs. xs ++ nodes_up_to p (flat_map nodes_in rs)) (nodes_stay p r.seqno r.request e))
nodes_step p r rs false e rest =
    rest ∙ sym (filter-append (λ (n : RecordedNode). nat_le n.seqno p) (nodes_in r) (flat_map nodes_in rs) ∙ ap (λ xs. xs ++ nodes_up_to p (flat_map nodes_in rs)) (nodes_go p r.seqno r.request e))

all_nodes : (p : ℕ) (rs : List Recorded) → flat_map nodes_in (up_to p rs) ≡ nodes_up_to p (flat_map nodes_in rs)
all_nodes p [] = refl
all_nodes p (r ∷ rs) = nodes_step p r rs (nat_le r.seqno p) refl (all_nodes p rs)

abbrev pub count : ℕ → List RecordedNode → ℕ
count upto ns = count_by (λ (n : RecordedNode). nat_le n.seqno upto) ns

-- ---- and of a base

nodes_fold : (h : History) (rs : List Recorded) → nodes (fold with_request h rs) ≡ nodes h ++ flat_map nodes_in rs
nodes_fold h [] = sym (append-nil (nodes h))
nodes_fold h (r ∷ rs) =
    nodes_fold (with_request h r) rs ∙ ap (λ ns. ns ++ flat_map nodes_in rs) (nodes_after h r) ∙ append_assoc (nodes h) (nodes_in r) (flat_map nodes_in rs)

nodes_begun : (base : Option GovernedRows) (rs : List Recorded) → nodes (history_over base rs) ≡ nodes (begin_with base) ++ flat_map nodes_in rs
nodes_begun base rs = ap nodes (over_fold base rs) ∙ nodes_fold (begin_with base) rs

carried_stay : (p : ℕ) (ns : List NodeRow) → nodes_up_to p (map carried_node ns) ≡ map carried_node ns
carried_stay p [] = refl
carried_stay p (n ∷ ns) = let rest = carried_stay p ns in rw (le-leb 0 p (omega arith)) (ap (λ xs. carried_node n ∷ xs) rest)

begun_stay : (p : ℕ) (base : Option GovernedRows) → nodes_up_to p (nodes (begin_with base)) ≡ nodes (begin_with base)
unfolding nodes
begun_stay p None = refl
begun_stay p (Some g) =
    let same : nodes (begin_with (Some g)) ≡ map carried_node g.nodes = append-nil (map carried_node g.nodes) in
    ap (nodes_up_to p) same ∙ carried_stay p g.nodes ∙ sym same

pub nodes_prefix : (upto : ℕ) (base : Option GovernedRows) (rs : List Recorded) → IsRising rs →
    take (count upto (nodes (history_over base rs))) (nodes (history_over base rs)) ≡ nodes (history_over base (up_to upto rs))
nodes_prefix upto base rs rising =
    let k = nodes (begin_with base) in
    let left = flat_map nodes_in (up_to upto rs) in
    let rest = flat_map nodes_in (requests_above upto rs) in
    let kept : nodes_up_to upto (k ++ flat_map nodes_in rs) ≡ k ++ left =
    filter-append (λ (n : RecordedNode). nat_le n.seqno upto) k (flat_map nodes_in rs) ∙ ap₂ (λ xs ys. xs ++ ys) (begun_stay upto base) (sym (all_nodes upto rs)) in
    let whole : k ++ flat_map nodes_in rs ≡ nodes_up_to upto (k ++ flat_map nodes_in rs) ++ rest =
    ap (λ xs. k ++ xs) (ap (flat_map nodes_in) (requests_split upto rs rising) ∙ flat_map-append nodes_in (up_to upto rs) (requests_above upto rs))
    ∙ sym (append_assoc k left rest) ∙ ap (λ xs. xs ++ rest) (sym kept) in
    ap (λ (ns : List RecordedNode). take (count upto ns) ns) (nodes_begun base rs)
    ∙ prefix (λ (n : RecordedNode). nat_le n.seqno upto) (k ++ flat_map nodes_in rs) rest whole ∙ kept ∙ sym (nodes_begun base (up_to upto rs))

-- so their identifiers do too
map-taken : {A B : Type 0} (f : A → B) (n : ℕ) (xs : List A) → take n (map f xs) ≡ map f (take n xs)
map-taken f zero xs = refl
map-taken f (suc n) [] = refl
map-taken f (suc n) (x ∷ xs) = ap (λ ys. f x ∷ ys) (map-taken f n xs)

abbrev pub ids : List RecordedNode → List NodeId
ids ns = map (λ (n : RecordedNode). n.id) ns

pub ids_prefix : (upto : ℕ) (base : Option GovernedRows) (rs : List Recorded) → IsRising rs →
    take (count upto (nodes (history_over base rs))) (ids (nodes (history_over base rs))) ≡ ids (nodes (history_over base (up_to upto rs)))
ids_prefix upto base rs rising =
    map-taken (λ (n : RecordedNode). n.id) (count upto (nodes (history_over base rs))) (nodes (history_over base rs)) ∙ ap ids (nodes_prefix upto base rs rising)
