-- The configurations behind a base and the nodes that are recorded, with one more entry.
use Rattle.std.proofs.Common.{◌≡◌, ⊎_elim, ℕ, zero, suc, ◌+◌, ◌-◌, ◌≤◌, ◌<◌, List, [], ◌∷◌, ◌++◌, length, Option, Some, None, Bool, true, false, nat_le, cond, if◌then◌else◌, refl, sym, ap, ap₂, ◌∙◌, arith, nat_eq, true≢false, slice_get, length-append}
use Rattle.std.specs.Cmp.Lexicographic.{bytes_decides, pointwise}
use Rattle.std.proofs.lemmas.Bool.{and_from, and_parts, cases_lt, le-leb, lt-leb}
use Rattle.std.proofs.lemmas.List.{append-nil}
use Rattle.gl_base.specs.Bytes.{same_bytes}
use Rattle.gl_base.proofs.Lists.{slice_get-last}
use Rattle.gl_vmaps.proofs.SameValues.{same_bytes_self}
use Rattle.gl_rules.specs.Identity.{NodeId}
use Rattle.gl_config.specs.declared.configuration.Configuration.{Configuration}
use Rattle.gl_config.specs.Active.{at_seqno}
use Rattle.gl_gov_rules.specs.declared.change.Recorded.{Recorded}
use Rattle.gl_gov_rules.specs.declared.row.GovernedRows.{GovernedRows}
use Rattle.gl_gov_rules.specs.Changes.{history}
use Rattle.gl_gov_rules.specs.Governed.{up_to}
use Rattle.gl_gov_rules.specs.GovernedRows.{history_over}
use Rattle.gl_gov_rules.specs.Nodes as nodes
use Rattle.gl_audit.specs.GovState.{Governed, governed_up_to, history_of, ungoverned}
use Rattle.gl_ledger.specs.Recordings.{same_nodes, changed_set}
use Rattle.gl_ledger.proofs.Configurations.{same_nodes_are}
use Rattle.gl_store_book.specs.Lists.{AreListsBefore, AreListsOf, StandBehind, begun_at, configuration_at_base, configurations_behind, last_nodes, nodes_in, nodes_of, trusted_up_to}
use Rattle.gl_store_book.specs.declared.node_lists.NodeLists.{NodeLists}

-- ---- sets of nodes

same_nodes_self : (xs : List NodeId) → same_nodes xs xs ≡ true
same_nodes_self [] = refl
same_nodes_self (x ∷ xs) = and_from (same_bytes x x) (same_nodes xs xs) (same_bytes_self x) (same_nodes_self xs)

pub unchanged : (xs : List NodeId) → changed_set xs xs ≡ None
unchanged xs = ap (λ (b : Bool). if b then None else Some xs) (same_nodes_self xs)

pub changed : (before now : List NodeId) → (before ≡ now → ⊥) → changed_set before now ≡ Some now
changed before now other = go (same_nodes before now) refl
  where
    go : (b : Bool) → same_nodes before now ≡ b → (if b then None else Some now) ≡ Some now
    go true is = absurd (other (same_nodes_are before now is))
    go false is = refl

pub stayed : (before now : List NodeId) → changed_set before now ≡ None → before ≡ now
stayed before now none = go (same_nodes before now) refl none
  where
    go : (b : Bool) → same_nodes before now ≡ b → (if b then None else Some now) ≡ None → before ≡ now
    go true is none = same_nodes_are before now is
    go false is none = absurd (cc)

pub came : (before now set : List NodeId) → changed_set before now ≡ Some set → set ≡ now
came before now set some = go (same_nodes before now) some
  where
    go : (b : Bool) → (if b then None else Some now) ≡ Some set → set ≡ now
    go true some = absurd (cc)
    go false some = cc

-- ---- requests up to two seqnos

up_to_lower : (p q : ℕ) (rs : List Recorded) → p ≤ q → up_to p (up_to q rs) ≡ up_to p rs
up_to_lower p q [] low = refl
up_to_lower p q (r ∷ rs) low =
    let again = up_to_lower p q rs low in
    ⊎_elim
    (λ (late : q < r.seqno). rw (lt-leb r.seqno q late, lt-leb r.seqno p (omega (arith, low, late))) again)
    (λ (early : r.seqno ≤ q). rw (le-leb r.seqno q early) (ap (λ (xs : List Recorded). cond (nat_le r.seqno p) (r ∷ xs) xs) again))
    (cases_lt q r.seqno)

up_to_upper : (p q : ℕ) (rs : List Recorded) → p ≤ q → up_to q (up_to p rs) ≡ up_to p rs
up_to_upper p q [] low = refl
up_to_upper p q (r ∷ rs) low =
    let again = up_to_upper p q rs low in
    ⊎_elim
    (λ (late : p < r.seqno). rw (lt-leb r.seqno p late) again)
    (λ (early : r.seqno ≤ p). rw (le-leb r.seqno p early, le-leb r.seqno q (omega (arith, low, early))) (ap (λ (xs : List Recorded). r ∷ xs) again))
    (cases_lt p r.seqno)

pub up_to_beyond : (p q : ℕ) (rs : List Recorded) → p ≤ q → up_to p rs ≡ rs → up_to q rs ≡ rs
up_to_beyond p q rs low all = ap (up_to q) (sym all) ∙ up_to_upper p q rs low ∙ all

pub governed_lower : (p q : ℕ) (g : Governed) → p ≤ q → governed_up_to p (governed_up_to q g) ≡ governed_up_to p g
governed_lower p q g low = ap (λ (rs : List Recorded). record g { requests = rs }) (up_to_lower p q g.requests low)

pub governed_all : (seqno : ℕ) (g : Governed) → up_to seqno g.requests ≡ g.requests → governed_up_to seqno g ≡ g
governed_all seqno g all = ap (λ (rs : List Recorded). record g { requests = rs }) all

trusted_lower : (p q : ℕ) (g : Governed) → p ≤ q → trusted_up_to (governed_up_to q g) p ≡ trusted_up_to g p
trusted_lower p q g low = ap (λ (x : Governed). nodes.trusted (history_of x)) (governed_lower p q g low)

trusted_all : (seqno : ℕ) (g : Governed) → up_to seqno g.requests ≡ g.requests → trusted_up_to g seqno ≡ nodes.trusted (history_of g)
trusted_all seqno g all = ap (λ (x : Governed). nodes.trusted (history_of x)) (governed_all seqno g all)

-- the configurations of the first entries read no request above
pub behind_lower : (base : ℕ) (g : Governed) (n k : ℕ) → n ≤ k → configurations_behind base (governed_up_to (base + k) g) n ≡ configurations_behind base g n
unfolding configurations_behind
behind_lower base g zero k low = ap (configuration_at_base base) (trusted_lower base (base + k) g (omega arith))
behind_lower base g (suc n) k low =
    ap₂ (λ (cs : List Configuration) (o : Option (List NodeId)). cs ++ at_seqno (base + suc n) o) (behind_lower base g n k (omega (arith, low)))
    (ap₂ changed_set (trusted_lower (base + suc n - 1) (base + k) g (omega (arith, low))) (trusted_lower (base + suc n) (base + k) g (omega (arith, low))))

-- ---- the last configuration

last_of_push : (cs : List Configuration) (c : Configuration) → last_nodes (cs ++ c ∷ []) ≡ c.nodes
last_of_push cs c =
    let long : length (cs ++ c ∷ []) - 1 ≡ length cs = let l = length-append cs (c ∷ []) in omega arith in
    ap (λ (n : ℕ). nodes_in (slice_get (cs ++ c ∷ []) n)) long ∙ ap nodes_in (slice_get-last cs c)

none_trusted : nodes.trusted (history_over None []) ≡ []
unfolding nodes.trusted nodes.nodes history
none_trusted = refl

none_at_first : (base : ℕ) (g : Governed) (count : ℕ) → StandBehind base g count → base ≡ 0 → trusted_up_to g 0 ≡ []
none_at_first base g count stand zero_base =
    ap₂ (λ (o : Option GovernedRows) (rs : List Recorded). nodes.trusted (history_over o rs)) (stand.unfounded zero_base)
    (ap (λ (n : ℕ). up_to n g.requests) (sym zero_base) ∙ stand.behind)
    ∙ none_trusted

-- it has the nodes that are trusted
last_trusted : (base : ℕ) (g : Governed) (n : ℕ) → (base ≡ 0 → trusted_up_to g 0 ≡ []) → last_nodes (configurations_behind base g n) ≡ trusted_up_to g (base + n)
unfolding configurations_behind
last_trusted zero g zero none = sym (none refl)
last_trusted (suc b) g zero none = let same : suc b ≡ suc b + 0 = omega arith in ap (trusted_up_to g) same
last_trusted base g (suc n) none = go (begun_at base g (base + suc n)) refl (last_trusted base g n none)
  where
    here : base + suc n - 1 ≡ base + n
    here = omega arith

    go : (o : Option (List NodeId)) → begun_at base g (base + suc n) ≡ o → last_nodes (configurations_behind base g n) ≡ trusted_up_to g (base + n) →
        last_nodes (configurations_behind base g n ++ at_seqno (base + suc n) o) ≡ trusted_up_to g (base + suc n)
    go None is before =
        ap last_nodes (append-nil (configurations_behind base g n)) ∙ before
        ∙ ap (trusted_up_to g) (sym here) ∙ stayed (trusted_up_to g (base + suc n - 1)) (trusted_up_to g (base + suc n)) is
    go (Some set) is before =
        last_of_push (configurations_behind base g n) (record { seqno = base + suc n; nodes = set })
        ∙ came (trusted_up_to g (base + suc n - 1)) (trusted_up_to g (base + suc n)) set is

-- ---- one entry more

-- where it adds what begins with it
pub configured_next : (base count seqno : ℕ) (g : Governed) (lists : NodeLists) → seqno ≡ base + suc count → AreListsBefore base count g lists →
    lists.configurations.items ++ at_seqno seqno (changed_set (last_nodes lists.configurations.items) (nodes.trusted (history_of g))) ≡ configurations_behind base g (suc count)
unfolding configurations_behind
configured_next base count seqno g lists at before =
    let cs : lists.configurations.items ≡ configurations_behind base g count = before.listed.configured ∙ behind_lower base g count count (omega arith) in
    let here : base + count ≡ base + suc count - 1 = omega arith in
    let last : last_nodes lists.configurations.items ≡ trusted_up_to g (base + suc count - 1) =
    ap last_nodes cs ∙ last_trusted base g count (none_at_first base g (suc count) before.stand) ∙ ap (trusted_up_to g) here in
    let now : nodes.trusted (history_of g) ≡ trusted_up_to g (base + suc count) = sym (trusted_all (base + suc count) g before.stand.within) in
    ap₂ (λ (us : List Configuration) (s : ℕ). us ++ at_seqno s (changed_set (last_nodes lists.configurations.items) (nodes.trusted (history_of g)))) cs at
    ∙ ap₂ (λ (x y : List NodeId). configurations_behind base g count ++ at_seqno (base + suc count) (changed_set x y)) last now

-- where no request comes with it both stay
pub listed_quiet : (base count : ℕ) (g : Governed) (lists : NodeLists) → up_to (base + count) g.requests ≡ g.requests → AreListsOf base g count lists → AreListsOf base g (suc count) lists
unfolding configurations_behind
listed_quiet base count g lists within are =
    let here : base + suc count - 1 ≡ base + count = omega arith in
    let before : trusted_up_to g (base + suc count - 1) ≡ nodes.trusted (history_of g) = ap (trusted_up_to g) here ∙ trusted_all (base + count) g within in
    let now : trusted_up_to g (base + suc count) ≡ nodes.trusted (history_of g) =
    trusted_all (base + suc count) g (up_to_beyond (base + count) (base + suc count) g.requests (omega arith) within) in
    let none : begun_at base g (base + suc count) ≡ None = ap₂ changed_set before now ∙ unchanged (nodes.trusted (history_of g)) in
    record {
      configured = are.configured ∙ sym (append-nil (configurations_behind base g count))
          ∙ ap (λ (o : Option (List NodeId)). configurations_behind base g count ++ at_seqno (base + suc count) o) (sym none);
      recorded = are.recorded;
    }

-- ---- no entries

none_recorded : nodes_of ungoverned ≡ []
unfolding nodes.nodes history
none_recorded = refl

none_configured : configurations_behind 0 ungoverned 0 ≡ []
unfolding configurations_behind
none_configured = refl

-- behind a base above 0 there is the one in force there
first_configured : (base : ℕ) (g : Governed) → 0 < base → g.requests ≡ [] → record { seqno = base; nodes = nodes.trusted (history_of g) } ∷ [] ≡ configurations_behind base g 0
unfolding configurations_behind
first_configured zero g above none = absurd (omega (arith, above))
first_configured (suc b) g above none =
    let all : up_to (suc b) g.requests ≡ g.requests = ap (up_to (suc b)) none ∙ sym none in
    ap (λ (set : List NodeId). record { seqno = suc b; nodes = set } ∷ []) (sym (trusted_all (suc b) g all))

pub configured_at_base : (base : ℕ) (g : Governed) (before cs : List Configuration) (set : List NodeId) → 0 < base → g.requests ≡ [] →
    cs ≡ before ++ record { seqno = base; nodes = set } ∷ [] → before ≡ [] → set ≡ nodes.trusted (history_of g) → cs ≡ configurations_behind base g 0
configured_at_base base g before cs set above none more first is =
    more ∙ ap₂ (λ (us : List Configuration) (ids : List NodeId). us ++ record { seqno = base; nodes = ids } ∷ []) first is ∙ first_configured base g above none

pub listed_none : (lists : NodeLists) → lists.configurations.items ≡ [] → lists.recorded.items ≡ [] → AreListsOf 0 ungoverned 0 lists
listed_none lists none no_node = record {
  configured = none ∙ sym none_configured;
  recorded = no_node ∙ sym none_recorded;
}

-- ---- lists that a test compares

pub lists_are : (xs ys : List (List ℕ)) → pointwise (pointwise nat_eq) xs ys ≡ true → xs ≡ ys
lists_are [] [] h = refl
lists_are [] (y ∷ ys) h = absurd (cc)
lists_are (x ∷ xs) [] h = absurd (cc)
lists_are (x ∷ xs) (y ∷ ys) h =
    let both = and_parts (pointwise nat_eq x y) (pointwise (pointwise nat_eq) xs ys) h in
    let first : x ≡ y = (bytes_decides x y).0 both.0 in
    ap₂ (λ (z : List ℕ) (zs : List (List ℕ)). z ∷ zs) first (lists_are xs ys both.1)

lists_self : (xs : List (List ℕ)) → pointwise (pointwise nat_eq) xs xs ≡ true
lists_self [] = refl
lists_self (x ∷ xs) = and_from (pointwise nat_eq x x) (pointwise (pointwise nat_eq) xs xs) ((bytes_decides x x).1 refl) (lists_self xs)

pub lists_differ : (xs ys : List (List ℕ)) → pointwise (pointwise nat_eq) xs ys ≡ false → xs ≡ ys → ⊥
lists_differ xs ys h same = true≢false (sym (lists_self xs) ∙ ap (pointwise (pointwise nat_eq) xs) same ∙ h)
