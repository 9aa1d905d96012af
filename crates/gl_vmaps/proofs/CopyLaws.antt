-- Ordered maps made entry by entry hold what the one they are made from does.
use Rattle.std.proofs.Common.{◌≡◌, ℕ, Bool, true, false, cond, List, [], ◌∷◌, Option, Some, None, refl, sym, ◌∙◌, ap, if◌then◌else◌, Vec, Bor}
use Rattle.std.specs.BTreeMap.{BTreeMap, UpdatesBy}
use Rattle.std.specs.Map.Iter.{TakesFirst, deref_pair}
use Rattle.std.proofs.lemmas.Map.Iter.{rest_more, rest_all}
use Rattle.std.specs.Cmp.Lexicographic.{slice_cmp}
use Rattle.std.specs.FinMap.{get, get-empty, empty}
use Rattle.std.specs.List.{AllByRecursion}
use Rattle.std.specs.List.Sorted.{IsStrictlySortedBy}
use Rattle.std.specs.Map.{keys_of}
use Rattle.std.specs.Ordering.{nat_cmp, is_eq}
use Rattle.std.specs.declared.alloc.Global.{Global}
use Rattle.std.specs.declared.cmp.Ordering.TheVariants.{Less}
use Rattle.std.specs.declared.collections.VecDeque.{VecDeque}
use Rattle.std.proofs.lemmas.Map.Text.{is_eq-slice_cmp}
use Rattle.gl_vmaps.specs.Tables.{same_bytes}
use Rattle.gl_vmaps.specs.Kept.{Chains}
use Rattle.gl_vmaps.specs.Chains.{with_chain, chains_by, Maps, rows_in, with_rows, maps_by}
use Rattle.gl_vmaps.specs.declared.table.Version.{Version}
use Rattle.gl_vmaps.proofs.TablesLaws.{same_bytes-eq}
use Rattle.gl_vmaps.proofs.ChainLaws.{found, some_versions, items_of, get-with_chain, get-chains_by, same_chains, chains_by-updated}
use Rattle.gl_vmaps.proofs.MapLaws.{rows_of, rows_in-with, rows_in-by, same_maps, IsProper, proper-by, proper-with, maps_by-updated}

-- the keys ascend
abbrev pub AreAscending : {X : Type 0} → List (Vec ℕ Global × X) → Type 0
AreAscending es = IsStrictlySortedBy (λ x y. slice_cmp nat_cmp x.items y.items) (keys_of es)

-- no later key is the first one
pub not_later : {X : Type 0} (key : List ℕ) (es : List (Vec ℕ Global × X)) → AllByRecursion (λ (y : Vec ℕ Global). slice_cmp nat_cmp key y.items ≡ Less) (keys_of es) → found key es ≡ None
not_later key [] all = refl
not_later key (e ∷ es) all = ap (λ o. cond (is_eq o) (Some e.1) (found key es)) all.0 ∙ not_later key es all.1

-- ---- rows

-- rows with others put in, one after another
abbrev pub chains_with : Chains → List (Vec ℕ Global × VecDeque Version Global) → Chains
chains_with t [] = t
chains_with t (e ∷ es) = chains_with (with_chain t e.0.items e.1.items) es

abbrev put_over : Option (VecDeque Version Global) → Option (List Version) → Option (List Version)
put_over None before = before
put_over (Some chain) before = some_versions chain.items

get-chains_with : (t : Chains) (es : List (Vec ℕ Global × VecDeque Version Global)) → AreAscending es → (key : List ℕ) → get (chains_with t es) key ≡ put_over (found key es) (get t key)
unfolding IsStrictlySortedBy
get-chains_with t [] ascending key = refl
get-chains_with t (e ∷ es) ascending key =
    get-chains_with (with_chain t e.0.items e.1.items) es ascending.1 key
    ∙ ap (put_over (found key es)) (get-with_chain t e.0.items e.1.items key)
    ∙ go (same_bytes key e.0.items) (is_eq (slice_cmp nat_cmp key e.0.items)) refl (is_eq-slice_cmp key e.0.items)
  where
    go : (b c : Bool) → same_bytes key e.0.items ≡ b → c ≡ same_bytes key e.0.items →
        put_over (found key es) (if b then some_versions e.1.items else get t key) ≡ put_over (cond c (Some e.1) (found key es)) (get t key)
    go true true same is = ap (λ o. put_over o (some_versions e.1.items)) (ap (λ k. found k es) (same_bytes-eq key e.0.items same) ∙ not_later e.0.items es ascending.0)
    go false false same is = refl
    go true false same is = absurd (cc)
    go false true same is = absurd (cc)

pub chains_with-all : (es : List (Vec ℕ Global × VecDeque Version Global)) → AreAscending es → chains_with empty es ≡ chains_by es
chains_with-all es ascending =
    same_chains (chains_with empty es) (chains_by es)
    (λ key. get-chains_with empty es ascending key ∙ ap (put_over (found key es)) (get-empty (slice_cmp nat_cmp) key) ∙ go (found key es) ∙ sym (get-chains_by es key))
  where
    go : (o : Option (VecDeque Version Global)) → put_over o None ≡ some_versions (items_of o)
    go None = refl
    go (Some chain) = refl

-- ---- maps

abbrev pub maps_with : Maps → List (Vec ℕ Global × Chains) → Maps
maps_with t [] = t
maps_with t (e ∷ es) = maps_with (with_rows t e.0.items e.1) es

abbrev rows_over : Option Chains → Chains → Chains
rows_over None before = before
rows_over (Some rows) before = rows

rows_in-maps_with : (t : Maps) (es : List (Vec ℕ Global × Chains)) → AreAscending es → (name : List ℕ) → rows_in (maps_with t es) name ≡ rows_over (found name es) (rows_in t name)
unfolding IsStrictlySortedBy
rows_in-maps_with t [] ascending name = refl
rows_in-maps_with t (e ∷ es) ascending name =
    rows_in-maps_with (with_rows t e.0.items e.1) es ascending.1 name
    ∙ ap (rows_over (found name es)) (rows_in-with t e.0.items e.1 name)
    ∙ go (same_bytes name e.0.items) (is_eq (slice_cmp nat_cmp name e.0.items)) refl (is_eq-slice_cmp name e.0.items)
  where
    go : (b c : Bool) → same_bytes name e.0.items ≡ b → c ≡ same_bytes name e.0.items →
        rows_over (found name es) (if b then e.1 else rows_in t name) ≡ rows_over (cond c (Some e.1) (found name es)) (rows_in t name)
    go true true same is = ap (λ o. rows_over o e.1) (ap (λ k. found k es) (same_bytes-eq name e.0.items same) ∙ not_later e.0.items es ascending.0)
    go false false same is = refl
    go true false same is = absurd (cc)
    go false true same is = absurd (cc)

proper-maps_with : (t : Maps) (es : List (Vec ℕ Global × Chains)) → IsProper t → IsProper (maps_with t es)
proper-maps_with t [] proper = proper
proper-maps_with t (e ∷ es) proper = proper-maps_with (with_rows t e.0.items e.1) es (proper-with t e.0.items e.1 proper)

pub maps_with-all : (es : List (Vec ℕ Global × Chains)) → AreAscending es → maps_with (maps_by []) es ≡ maps_by es
maps_with-all es ascending =
    same_maps (maps_with (maps_by []) es) (maps_by es) (proper-maps_with (maps_by []) es (proper-by [])) (proper-by es)
    (λ name. rows_in-maps_with (maps_by []) es ascending name ∙ ap (rows_over (found name es)) (rows_in-by [] name) ∙ go (found name es) ∙ sym (rows_in-by es name))
  where
    go : (o : Option Chains) → rows_over o empty ≡ rows_of o
    go None = refl
    go (Some rows) = refl

-- ---- a turn of the loops, and their end

pub maps-step : (all : List (Vec ℕ Global × Chains)) (copy more : BTreeMap (Vec ℕ Global) Chains) (rest left : List (Vec ℕ Global × Chains)) (r : Option (Bor (Vec ℕ Global) × Bor Chains)) (name : Bor (Vec ℕ Global)) (rows : Bor Chains)
    (k : Vec ℕ Global) (one : Chains) →
    maps_with (maps_by copy.entries) rest ≡ maps_with (maps_by []) all → r ≡ Some (name, rows) → TakesFirst deref_pair rest r left →
    UpdatesBy (λ x y. slice_cmp nat_cmp x.items y.items) (λ y. slice_cmp nat_cmp k.items y.items) copy more (Some one) → k.items ≡ name.now.items → one ≡ rows.now →
    maps_with (maps_by more.entries) left ≡ maps_with (maps_by []) all
maps-step all copy more rest left r name rows k one so_far is takes updates named same =
    let turn : rest ≡ (name.now, rows.now) ∷ left = rest_more deref_pair rest left r (name, rows) is takes in
    ap (λ (t : Maps). maps_with t left)
    (maps_by-updated copy more k.items (Some one) updates
    ∙ ap (λ bytes. with_rows (maps_by copy.entries) bytes one) named
    ∙ ap (with_rows (maps_by copy.entries) name.now.items) same)
    ∙ sym (ap (maps_with (maps_by copy.entries)) turn) ∙ so_far

pub chains-step : (all : List (Vec ℕ Global × VecDeque Version Global)) (copy more : BTreeMap (Vec ℕ Global) (VecDeque Version Global)) (rest left : List (Vec ℕ Global × VecDeque Version Global)) (r : Option (Bor (Vec ℕ Global) × Bor (VecDeque Version Global))) (key : Bor (Vec ℕ Global)) (chain : Bor (VecDeque Version Global))
    (k : Vec ℕ Global) (one : VecDeque Version Global) →
    chains_with (chains_by copy.entries) rest ≡ chains_with empty all → r ≡ Some (key, chain) → TakesFirst deref_pair rest r left →
    UpdatesBy (λ x y. slice_cmp nat_cmp x.items y.items) (λ y. slice_cmp nat_cmp k.items y.items) copy more (Some one) → k.items ≡ key.now.items → one.items ≡ chain.now.items →
    chains_with (chains_by more.entries) left ≡ chains_with empty all
chains-step all copy more rest left r key chain k one so_far is takes updates named same =
    let turn : rest ≡ (key.now, chain.now) ∷ left = rest_more deref_pair rest left r (key, chain) is takes in
    ap (λ (t : Chains). chains_with t left)
    (chains_by-updated copy more k.items (Some one) updates
    ∙ ap (λ bytes. with_chain (chains_by copy.entries) bytes one.items) named
    ∙ ap (with_chain (chains_by copy.entries) key.now.items) same)
    ∙ sym (ap (chains_with (chains_by copy.entries)) turn) ∙ so_far

pub maps-end : (all : List (Vec ℕ Global × Chains)) (copy : BTreeMap (Vec ℕ Global) Chains) (rest left : List (Vec ℕ Global × Chains)) (r : Option (Bor (Vec ℕ Global) × Bor Chains)) →
    maps_with (maps_by copy.entries) rest ≡ maps_with (maps_by []) all → r ≡ None → TakesFirst deref_pair rest r left → AreAscending all → maps_by copy.entries ≡ maps_by all
maps-end all copy rest left r so_far is takes ascending =
    sym (ap (maps_with (maps_by copy.entries)) (rest_all deref_pair rest left r is takes)) ∙ so_far ∙ maps_with-all all ascending

pub chains-end : (all : List (Vec ℕ Global × VecDeque Version Global)) (copy : BTreeMap (Vec ℕ Global) (VecDeque Version Global)) (rest left : List (Vec ℕ Global × VecDeque Version Global)) (r : Option (Bor (Vec ℕ Global) × Bor (VecDeque Version Global))) →
    chains_with (chains_by copy.entries) rest ≡ chains_with empty all → r ≡ None → TakesFirst deref_pair rest r left → AreAscending all → chains_by copy.entries ≡ chains_by all
chains-end all copy rest left r so_far is takes ascending =
    sym (ap (chains_with (chains_by copy.entries)) (rest_all deref_pair rest left r is takes)) ∙ so_far ∙ chains_with-all all ascending
