-- Maps that are kept in an ordered map: what their rows are, and what they are after a change of
-- one row.
use Rattle.std.proofs.Common.{◌≡◌, ℕ, ◌==◌, Bool, true, false, ◌&&◌, cond, List, [], ◌∷◌, ◌++◌, Option, Some, None, refl, sym, ◌∙◌, ap, subst, unwrap_or, IsSome, if◌then◌else◌, Vec, arith}
use Rattle.std.specs.BTreeMap.{BTreeMap, UpdatesBy}
use Rattle.std.specs.Cmp.Lexicographic.{slice_cmp}
use Rattle.std.specs.FinMap.{get, get-insert, get-remove, get-empty, len, len-empty, empty_of_len, insert, remove, empty, same_map, slice_cmp-IsAntisymmetric, nat_cmp-IsAntisymmetric}
use Rattle.std.specs.Ordering.{nat_cmp, is_eq}
use Rattle.std.specs.declared.alloc.Global.{Global}
use Rattle.std.proofs.lemmas.Bool.{and_parts}
use Rattle.std.proofs.lemmas.Bool.Decides.{nat_tests}
use Rattle.std.proofs.lemmas.Cmp.{nat_list_cmp_total}
use Rattle.std.proofs.lemmas.Map.Text.{is_eq-slice_cmp}
use Rattle.gl_vmaps.specs.Tables.{same_bytes}
use Rattle.gl_vmaps.specs.Kept.{Chains}
use Rattle.gl_vmaps.specs.Chains.{chain_of, with_chain, newest_place, Maps, rows_in, found_in, with_rows, maps_by, with_versions, without_last}
use Rattle.gl_vmaps.specs.Journal.{IsTidy}
use Rattle.gl_vmaps.specs.declared.table.Version.{Version}
use Rattle.gl_vmaps.proofs.TablesLaws.{same_bytes-eq, same_bytes-itself}
use Rattle.gl_vmaps.proofs.ChainLaws.{found, found-updated, some_versions, chain_of-with, get-with_chain, same_chains}

-- ---- the rows of a map

-- rows, where there are some
abbrev pub some_rows : Chains → Option Chains
some_rows chains = if len chains == 0 then None else Some chains

abbrev pub rows_of : Option Chains → Chains
rows_of o = unwrap_or o empty

pub get-with_rows : (maps : Maps) (name : List ℕ) (chains : Chains) (other : List ℕ) →
    get (with_rows maps name chains) other ≡ (if same_bytes other name then some_rows chains else get maps other)
get-with_rows maps name chains other = go (len chains == 0)
  where
    go : (b : Bool) → get (if b then remove maps name else insert maps name chains) other ≡ (if same_bytes other name then (if b then None else Some chains) else get maps other)
    go true = get-remove nat_list_cmp_total maps name other ∙ ap (λ (b : Bool). cond b None (get maps other)) (is_eq-slice_cmp other name)
    go false = get-insert nat_list_cmp_total maps name chains other ∙ ap (λ (b : Bool). cond b (Some chains) (get maps other)) (is_eq-slice_cmp other name)

some_or_empty : (chains : Chains) → rows_of (some_rows chains) ≡ chains
some_or_empty chains = go (len chains == 0) refl
  where
    go : (b : Bool) → (len chains == 0) ≡ b → rows_of (if b then None else Some chains) ≡ chains
    go true none = let zero : len chains ≡ 0 = grind (arith, nat_tests, none) in sym (empty_of_len chains zero)
    go false some = refl

some_empty : some_rows empty ≡ None
some_empty = ap (λ (n : ℕ). if n == 0 then None else Some empty) (len-empty (slice_cmp nat_cmp) (List Version))

pub get-maps_by : (es : List (Vec ℕ Global × Chains)) (name : List ℕ) → get (maps_by es) name ≡ some_rows (rows_of (found name es))
get-maps_by [] name = get-empty (slice_cmp nat_cmp) name ∙ sym some_empty
get-maps_by (e ∷ es) name =
    get-with_rows (maps_by es) e.0.items e.1 name
    ∙ go (same_bytes name e.0.items) (is_eq (slice_cmp nat_cmp name e.0.items)) (is_eq-slice_cmp name e.0.items) (get-maps_by es name)
  where
    go : (b c : Bool) → c ≡ b → get (maps_by es) name ≡ some_rows (rows_of (found name es)) →
        (if b then some_rows e.1 else get (maps_by es) name) ≡ some_rows (rows_of (cond c (Some e.1) (found name es)))
    go true true same rest = refl
    go false false same rest = rest
    go true false same rest = absurd (cc)
    go false true same rest = absurd (cc)

pub rows_in-by : (es : List (Vec ℕ Global × Chains)) (name : List ℕ) → rows_in (maps_by es) name ≡ rows_of (found name es)
rows_in-by es name = ap rows_of (get-maps_by es name) ∙ some_or_empty (rows_of (found name es))

pub rows_in-with : (maps : Maps) (name : List ℕ) (chains : Chains) (other : List ℕ) →
    rows_in (with_rows maps name chains) other ≡ (if same_bytes other name then chains else rows_in maps other)
rows_in-with maps name chains other = ap rows_of (get-with_rows maps name chains other) ∙ go (same_bytes other name)
  where
    go : (b : Bool) → rows_of (if b then some_rows chains else get maps other) ≡ (if b then chains else rows_in maps other)
    go true = some_or_empty chains
    go false = refl

-- ---- maps in which no map is kept without a row

abbrev pub IsProper : Maps → Type 0
IsProper maps = (name : List ℕ) → get maps name ≡ some_rows (rows_in maps name)

pub proper-by : (es : List (Vec ℕ Global × Chains)) → IsProper (maps_by es)
proper-by es name = get-maps_by es name ∙ ap some_rows (sym (rows_in-by es name))

pub proper-with : (maps : Maps) (name : List ℕ) (chains : Chains) → IsProper maps → IsProper (with_rows maps name chains)
proper-with maps name chains proper other =
    get-with_rows maps name chains other ∙ go (same_bytes other name) ∙ ap some_rows (sym (rows_in-with maps name chains other))
  where
    go : (b : Bool) → (if b then some_rows chains else get maps other) ≡ some_rows (if b then chains else rows_in maps other)
    go true = refl
    go false = proper other

-- maps that have the same rows are the same
pub same_maps : (a b : Maps) → IsProper a → IsProper b → ((name : List ℕ) → rows_in a name ≡ rows_in b name) → a ≡ b
same_maps a b proper_a proper_b same =
    same_map nat_list_cmp_total (slice_cmp-IsAntisymmetric nat_cmp-IsAntisymmetric) a b (λ name. proper_a name ∙ ap some_rows (same name) ∙ sym (proper_b name))

tidy_get : (chains : Chains) (key : List ℕ) → (get chains key ≡ Some [] → ⊥) → get chains key ≡ some_versions (chain_of chains key)
tidy_get chains key tidy = go (get chains key) refl
  where
    go : (o : Option (List Version)) → get chains key ≡ o → o ≡ some_versions (unwrap_or o [])
    go None is = refl
    go (Some []) is = absurd (tidy is)
    go (Some (v ∷ vs)) is = refl

-- and so are those that have the same versions, where none has a row without one
pub same_found : (a b : Maps) → IsProper a → IsProper b → IsTidy a → IsTidy b → ((name key : List ℕ) → found_in a name key ≡ found_in b name key) → a ≡ b
same_found a b proper_a proper_b tidy_a tidy_b same =
    same_maps a b proper_a proper_b
    (λ name. same_chains (rows_in a name) (rows_in b name)
    (λ key. tidy_get (rows_in a name) key (tidy_a name key) ∙ ap some_versions (same name key) ∙ sym (tidy_get (rows_in b name) key (tidy_b name key))))

-- ---- one row given other versions

pub found_in-with : (maps : Maps) (name key : List ℕ) (vs : List Version) (n k : List ℕ) →
    found_in (with_versions maps name key vs) n k ≡ (if same_bytes n name && same_bytes k key then vs else found_in maps n k)
found_in-with maps name key vs n k =
    ap (λ (t : Chains). chain_of t k) (rows_in-with maps name (with_chain (rows_in maps name) key vs) n) ∙ go (same_bytes n name) refl
  where
    go : (b : Bool) → same_bytes n name ≡ b → chain_of (if b then with_chain (rows_in maps name) key vs else rows_in maps n) k ≡ (if b && same_bytes k key then vs else found_in maps n k)
    go true same =
        chain_of-with (rows_in maps name) key vs k
        ∙ ap (λ m. if same_bytes k key then vs else found_in maps m k) (sym (same_bytes-eq n name same))
    go false differ = refl

pub proper-versions : (maps : Maps) (name key : List ℕ) (vs : List Version) → IsProper maps → IsProper (with_versions maps name key vs)
proper-versions maps name key vs proper = proper-with maps name (with_chain (rows_in maps name) key vs) proper

some_not : (vs : List Version) → some_versions vs ≡ Some [] → ⊥
some_not [] e = cc
some_not (v ∷ vs) e = cc

pub tidy-versions : (maps : Maps) (name key : List ℕ) (vs : List Version) → IsTidy maps → IsTidy (with_versions maps name key vs)
tidy-versions maps name key vs tidy n k e =
    go (same_bytes n name) refl (ap (λ (t : Chains). get t k) (sym (rows_in-with maps name (with_chain (rows_in maps name) key vs) n)) ∙ e)
  where
    inner : (b : Bool) → (if b then some_versions vs else get (rows_in maps name) k) ≡ Some [] → ⊥
    inner true is = some_not vs is
    inner false is = tidy name k is

    go : (b : Bool) → same_bytes n name ≡ b → get (if b then with_chain (rows_in maps name) key vs else rows_in maps n) k ≡ Some [] → ⊥
    go true same is = inner (same_bytes k key) (sym (get-with_chain (rows_in maps name) key vs k) ∙ is)
    go false differ is = tidy n k is

-- a row that is given its own versions leaves all as it is
pub with_same : (maps : Maps) (name key : List ℕ) (vs : List Version) → IsProper maps → IsTidy maps → vs ≡ found_in maps name key → with_versions maps name key vs ≡ maps
with_same maps name key vs proper tidy same =
    same_found (with_versions maps name key vs) maps (proper-versions maps name key vs proper) proper (tidy-versions maps name key vs tidy) tidy
    (λ n k. found_in-with maps name key vs n k ∙ go n k (same_bytes n name && same_bytes k key) refl)
  where
    go : (n k : List ℕ) (b : Bool) → (same_bytes n name && same_bytes k key) ≡ b → (if b then vs else found_in maps n k) ≡ found_in maps n k
    go n k true is =
        let both = and_parts (same_bytes n name) (same_bytes k key) is in
        same ∙ ap (λ m. found_in maps m key) (sym (same_bytes-eq n name both.0)) ∙ ap (found_in maps n) (sym (same_bytes-eq k key both.1))
    go n k false is = refl

-- ---- the ordered map after a change of one of its maps

pub maps_by-updated : (m n : BTreeMap (Vec ℕ Global) Chains) (name : List ℕ) (w : Option Chains) →
    UpdatesBy (λ x y. slice_cmp nat_cmp x.items y.items) (λ k. slice_cmp nat_cmp name k.items) m n w →
    maps_by n.entries ≡ with_rows (maps_by m.entries) name (rows_of w)
maps_by-updated m n name w updates =
    same_maps (maps_by n.entries) (with_rows (maps_by m.entries) name (rows_of w)) (proper-by n.entries) (proper-with (maps_by m.entries) name (rows_of w) (proper-by m.entries))
    (λ other.
    rows_in-by n.entries other
    ∙ ap rows_of (found-updated m n name w updates other)
    ∙ go other (same_bytes other name)
    ∙ sym (rows_in-with (maps_by m.entries) name (rows_of w) other))
  where
    go : (other : List ℕ) (b : Bool) → rows_of (if b then w else found other m.entries) ≡ (if b then rows_of w else rows_in (maps_by m.entries) other)
    go other true = refl
    go other false = sym (rows_in-by m.entries other)

-- a map that was changed in its place
pub maps_by-through : (m n : BTreeMap (Vec ℕ Global) Chains) (name key : List ℕ) (before after : Chains) (f : List Version → List Version) →
    Some before ≡ found name m.entries →
    (IsSome (found name m.entries) → UpdatesBy (λ x y. slice_cmp nat_cmp x.items y.items) (λ k. slice_cmp nat_cmp name k.items) m n (Some after)) →
    after ≡ with_chain before key (f (chain_of before key)) →
    maps_by n.entries ≡ with_versions (maps_by m.entries) name key (f (found_in (maps_by m.entries) name key))
maps_by-through m n name key before after f there updates made =
    let rows : before ≡ rows_in (maps_by m.entries) name = ap rows_of there ∙ sym (rows_in-by m.entries name) in
    maps_by-updated m n name (Some after) (updates (subst IsSome there refl))
    ∙ ap (with_rows (maps_by m.entries) name) (made ∙ ap (λ (t : Chains). with_chain t key (f (chain_of t key))) rows)

pub rows_in-through : (m n : BTreeMap (Vec ℕ Global) Chains) (name : List ℕ) (before after : Chains) →
    Some before ≡ found name m.entries →
    (IsSome (found name m.entries) → UpdatesBy (λ x y. slice_cmp nat_cmp x.items y.items) (λ k. slice_cmp nat_cmp name k.items) m n (Some after)) →
    rows_in (maps_by n.entries) name ≡ after
rows_in-through m n name before after there updates =
    let at_name : found name n.entries ≡ Some after =
    found-updated m n name (Some after) (updates (subst IsSome there refl)) name ∙ ap (λ (b : Bool). if b then Some after else found name m.entries) (same_bytes-itself name) in
    rows_in-by n.entries name ∙ ap rows_of at_name

-- a map that is not there has no versions to take back
pub no_map : (es : List (Vec ℕ Global × Chains)) (name key : List ℕ) (f : List Version → List Version) → f [] ≡ [] → found name es ≡ None →
    maps_by es ≡ with_versions (maps_by es) name key (f (found_in (maps_by es) name key))
no_map es name key f nothing none =
    let rows : rows_in (maps_by es) name ≡ empty = rows_in-by es name ∙ ap rows_of none in
    let no_versions : found_in (maps_by es) name key ≡ [] = ap (λ (t : Chains). chain_of t key) rows ∙ ap (λ (o : Option (List Version)). unwrap_or o []) (get-empty (slice_cmp nat_cmp) key) in
    let gone : with_chain (rows_in (maps_by es) name) key [] ≡ rows_in (maps_by es) name =
    same_chains (with_chain (rows_in (maps_by es) name) key []) (rows_in (maps_by es) name)
    (λ other. get-with_chain (rows_in (maps_by es) name) key [] other ∙ go other rows (same_bytes other key)) in
    same_maps (maps_by es) (with_rows (maps_by es) name (rows_in (maps_by es) name)) (proper-by es) (proper-with (maps_by es) name (rows_in (maps_by es) name) (proper-by es))
    (λ other. sym (rows_in-with (maps_by es) name (rows_in (maps_by es) name) other ∙ itself other (same_bytes other name) refl))
    ∙ ap (with_rows (maps_by es) name) (sym gone ∙ ap (with_chain (rows_in (maps_by es) name) key) (sym nothing ∙ ap f (sym no_versions)))
  where
    go : (other : List ℕ) → rows_in (maps_by es) name ≡ empty → (b : Bool) → (if b then None else get (rows_in (maps_by es) name) other) ≡ get (rows_in (maps_by es) name) other
    go other rows true = sym (ap (λ (t : Chains). get t other) rows ∙ get-empty (slice_cmp nat_cmp) other)
    go other rows false = refl

    itself : (other : List ℕ) (b : Bool) → same_bytes other name ≡ b → (if b then rows_in (maps_by es) name else rows_in (maps_by es) other) ≡ rows_in (maps_by es) other
    itself other true same = ap (rows_in (maps_by es)) (sym (same_bytes-eq other name same))
    itself other false differ = refl

-- a map that was put in
pub maps_by-new : (m l n : BTreeMap (Vec ℕ Global) Chains) (name key : List ℕ) (k : Vec ℕ Global) (none one : Chains) (v : Version) →
    l ≡ m → found name m.entries ≡ None →
    UpdatesBy (λ x y. slice_cmp nat_cmp x.items y.items) (λ y. slice_cmp nat_cmp k.items y.items) l n (Some one) →
    k.items ≡ name → none ≡ empty → one ≡ with_chain none key (chain_of none key ++ v ∷ []) →
    maps_by n.entries ≡ with_versions (maps_by m.entries) name key (found_in (maps_by m.entries) name key ++ v ∷ [])
maps_by-new m l n name key k none one v same absent updates named nothing filled =
    let rows : none ≡ rows_in (maps_by m.entries) name = nothing ∙ sym (rows_in-by m.entries name ∙ ap rows_of absent) in
    maps_by-updated l n k.items (Some one) updates
    ∙ ap (λ (b : BTreeMap (Vec ℕ Global) Chains). with_rows (maps_by b.entries) k.items one) same
    ∙ ap (λ bytes. with_rows (maps_by m.entries) bytes one) named
    ∙ ap (with_rows (maps_by m.entries) name) (filled ∙ ap (λ (t : Chains). with_chain t key (chain_of t key ++ v ∷ [])) rows)

-- a map whose rows all have no version is taken out with no other change, where it has no rows
-- without
pub maps_by-removed : (m n : BTreeMap (Vec ℕ Global) Chains) (name : List ℕ) →
    UpdatesBy (λ x y. slice_cmp nat_cmp x.items y.items) (λ k. slice_cmp nat_cmp name k.items) m n None →
    rows_in (maps_by m.entries) name ≡ empty → maps_by n.entries ≡ maps_by m.entries
maps_by-removed m n name updates none =
    maps_by-updated m n name None updates
    ∙ same_maps (with_rows (maps_by m.entries) name empty) (maps_by m.entries) (proper-with (maps_by m.entries) name empty (proper-by m.entries)) (proper-by m.entries)
    (λ other. rows_in-with (maps_by m.entries) name empty other ∙ go other (same_bytes other name) refl)
  where
    go : (other : List ℕ) (b : Bool) → same_bytes other name ≡ b → (if b then empty else rows_in (maps_by m.entries) other) ≡ rows_in (maps_by m.entries) other
    go other true same = sym none ∙ ap (rows_in (maps_by m.entries)) (sym (same_bytes-eq other name same))
    go other false differ = refl

-- what was the newest version before, as the map's own rows have it
pub newest-here : (es : List (Vec ℕ Global × Chains)) (name key : List ℕ) (rows : Chains) (before : ℕ) → Some rows ≡ found name es →
    before ≡ newest_place (rows_in (with_versions (maps_by es) name key (without_last (found_in (maps_by es) name key))) name) →
    before ≡ newest_place (with_chain rows key (without_last (chain_of rows key)))
newest-here es name key rows before there is =
    let here : rows_in (maps_by es) name ≡ rows = rows_in-by es name ∙ sym (ap rows_of there) in
    let chain = with_chain (rows_in (maps_by es) name) key (without_last (found_in (maps_by es) name key)) in
    is
    ∙ ap newest_place (rows_in-with (maps_by es) name chain name ∙ ap (λ (b : Bool). if b then chain else rows_in (maps_by es) name) (same_bytes-itself name))
    ∙ ap (λ (t : Chains). newest_place (with_chain t key (without_last (chain_of t key)))) here

-- a map that a call left as it was
pub maps_by-kept : (m n : BTreeMap (Vec ℕ Global) Chains) (name : List ℕ) (before after : Chains) →
    Some before ≡ found name m.entries →
    (IsSome (found name m.entries) → UpdatesBy (λ x y. slice_cmp nat_cmp x.items y.items) (λ k. slice_cmp nat_cmp name k.items) m n (Some after)) →
    after ≡ before → maps_by n.entries ≡ maps_by m.entries
maps_by-kept m n name before after there updates kept =
    let rows : before ≡ rows_in (maps_by m.entries) name = ap rows_of there ∙ sym (rows_in-by m.entries name) in
    maps_by-updated m n name (Some after) (updates (subst IsSome there refl))
    ∙ same_maps (with_rows (maps_by m.entries) name after) (maps_by m.entries) (proper-with (maps_by m.entries) name after (proper-by m.entries)) (proper-by m.entries)
    (λ other. rows_in-with (maps_by m.entries) name after other ∙ go other (kept ∙ rows) (same_bytes other name) refl)
  where
    go : (other : List ℕ) → after ≡ rows_in (maps_by m.entries) name → (b : Bool) → same_bytes other name ≡ b → (if b then after else rows_in (maps_by m.entries) other) ≡ rows_in (maps_by m.entries) other
    go other is true same = is ∙ ap (rows_in (maps_by m.entries)) (sym (same_bytes-eq other name same))
    go other is false differ = refl
