-- What is left of the lists where a ledger is cut, and that they stand before longer ones.
use Rattle.std.proofs.Common.{◌≡◌, ℕ, zero, suc, ◌≤◌, ◌+◌, ◌-◌, nat_le, List, [], ◌∷◌, length, take, refl, sym, ap, ap₂, ◌∙◌, arith, Bool, true, false, cond}
use Rattle.std.specs.List.{count_by, filter}
use Rattle.std.proofs.lemmas.List.Sums.{length-filter}
use Rattle.gl_rules.specs.Identity.{NodeId}
use Rattle.gl_config.specs.declared.configuration.Configuration.{Configuration}
use Rattle.gl_config.specs.Active.{upto}
use Rattle.gl_gov_rules.specs.declared.change.RecordedNode.{RecordedNode}
use Rattle.gl_gov_rules.specs.Nodes as nodes
use Rattle.gl_gov_base.proofs.RequestsOver.{over_rise}
use Rattle.gl_audit.specs.GovState.{Governed, IsGoverned, governed_up_to, history_of}
use Rattle.gl_store_book.specs.Lists.{AreListsBefore, AreListsOf, StandBehind, configurations_behind, nodes_of}
use Rattle.gl_store_book.specs.declared.node_lists.NodeLists.{NodeLists}
use Rattle.gl_store_book.proofs.Growing.{behind_lower}
use Rattle.gl_store_book.proofs.ListPrefixes.{counted_prefix, first_ones}
use Rattle.gl_store_book.proofs.RecordedPrefixes.{ids, ids_prefix}

abbrev pub count_configurations : ℕ → List Configuration → ℕ
count_configurations seqno cs = count_by (λ (c : Configuration). nat_le c.seqno seqno) cs

abbrev pub count_nodes : ℕ → List RecordedNode → ℕ
count_nodes seqno ns = count_by (λ (n : RecordedNode). nat_le n.seqno seqno) ns

-- the configurations of the entries up to a seqno stand in front
configured_cut : (base count to : ℕ) (g : Governed) → base ≤ to → to ≤ base + count →
    take (count_configurations to (configurations_behind base g count)) (configurations_behind base g count) ≡ configurations_behind base (governed_up_to to g) (to - base)
configured_cut base count to g low within =
    let long : (to - base) + (count - (to - base)) ≡ count = omega (arith, low, within) in
    let at : base + (to - base) ≡ to = omega (arith, low) in
    counted_prefix base g count to low
    ∙ ap₂ (λ (s n : ℕ). upto s (configurations_behind base g n)) (sym at) (sym long)
    ∙ first_ones base g (to - base) (count - (to - base))
    ∙ sym (behind_lower base g (to - base) (to - base) (omega arith))
    ∙ ap (λ (s : ℕ). configurations_behind base (governed_up_to s g) (to - base)) at

-- and so do the nodes
pub recorded_cut : (to : ℕ) (g : Governed) → IsGoverned g → take (count_nodes to (nodes.nodes (history_of g))) (nodes_of g) ≡ nodes_of (governed_up_to to g)
recorded_cut to g all = ids_prefix to g.base g.requests (over_rise g.base g.requests all.accepted)

pub listed_cut : (base count to : ℕ) (g : Governed) (old new : NodeLists) → StandBehind base g count → AreListsOf base g count old → base ≤ to → to ≤ base + count →
    new.configurations.items ≡ take (count_configurations to old.configurations.items) old.configurations.items →
    new.recorded.items ≡ take (count_nodes to (nodes.nodes (history_of g))) old.recorded.items → AreListsOf base (governed_up_to to g) (to - base) new
listed_cut base count to g old new stand are low within cs ns = record {
  configured = cs ∙ ap (λ (us : List Configuration). take (count_configurations to us) us) are.configured ∙ configured_cut base count to g low within;
  recorded = ns ∙ ap (take (count_nodes to (nodes.nodes (history_of g)))) are.recorded ∙ recorded_cut to g stand.governed;
}

-- ---- with one more entry

-- as many of a list as a prefix of it has
again : {A : Type 0} (n : ℕ) (xs : List A) → take n xs ≡ take (length (take n xs)) xs
again zero xs = refl
again (suc n) [] = refl
again (suc n) (x ∷ xs) = ap (λ ys. x ∷ ys) (again n xs)

-- those that were recorded before stand in front
pub pushed_prefix : (base count : ℕ) (g : Governed) (lists : NodeLists) → AreListsBefore base count g lists → lists.recorded.items ≡ take (length lists.recorded.items) (nodes_of g)
pushed_prefix base count g lists are =
    let n = count_nodes (base + count) (nodes.nodes (history_of g)) in
    let before : lists.recorded.items ≡ take n (nodes_of g) = are.listed.recorded ∙ sym (recorded_cut (base + count) g are.stand.governed) in
    before ∙ again n (nodes_of g) ∙ ap (λ (xs : List NodeId). take (length xs) (nodes_of g)) (sym before)

-- ---- what is counted

filter_few : {A : Type 0} (p : A → Bool) (xs : List A) → length (filter p xs) ≤ length xs
filter_few p [] = omega arith
filter_few p (x ∷ xs) = go (p x) (filter_few p xs)
  where
    go : (b : Bool) → length (filter p xs) ≤ length xs → length (cond b (x ∷ filter p xs) (filter p xs)) ≤ length (x ∷ xs)
    go true low = omega (arith, low)
    go false low = omega (arith, low)

as_many : (ns : List RecordedNode) → length (ids ns) ≡ length ns
as_many [] = refl
as_many (n ∷ ns) = ap suc (as_many ns)

-- no more nodes are counted than are recorded
pub counted_few : (seqno : ℕ) (g : Governed) → count_nodes seqno (nodes.nodes (history_of g)) ≤ length (nodes_of g)
counted_few seqno g =
    let few = filter_few (λ (n : RecordedNode). nat_le n.seqno seqno) (nodes.nodes (history_of g)) in
    let count = length-filter (λ (n : RecordedNode). nat_le n.seqno seqno) (nodes.nodes (history_of g)) in
    let all : length (nodes_of g) ≡ length (nodes.nodes (history_of g)) = as_many (nodes.nodes (history_of g)) in
    omega (arith, few, count, all)
