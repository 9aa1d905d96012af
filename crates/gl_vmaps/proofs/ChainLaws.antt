-- Rows that are kept in an ordered map: what they answer, and what they are after a change of one
-- of them.
use Rattle.std.proofs.Common.{◌≡◌, ◌≤◌, Bool, true, false, ◌&&◌, cond, List, [], ◌∷◌, ◌++◌, Option, Some, None, refl, sym, ◌∙◌, ap, subst, unwrap_or, IsSome, is_some, nat_lt, zero, suc, ◌+◌, if◌then◌else◌, length, Vec, ℕ, ◌<◌, ◌-◌, ◌↔◌, IfSome, get_or, Bor, Result, Ok, Err, OnErr, arith}
use Rattle.std.specs.BTreeMap.{BTreeMap, UpdatesBy, is_at}
use Rattle.std.specs.Cmp.Lexicographic.{slice_cmp}
use Rattle.std.specs.FinMap.{entries, keys, len, len-empty, empty_of_len, get-entries, contains_key-keys, get, get-insert, get-remove, get-empty, empty, same_map, slice_cmp-IsAntisymmetric, nat_cmp-IsAntisymmetric}
use Rattle.std.specs.List.{last_or, list_any}
use Rattle.std.specs.Option.{option_copied, option_and_then}
use Rattle.std.specs.Map.{lookup, KeepsOthers, IsKeyTest, AreApart}
use Rattle.std.specs.Ordering.{nat_cmp, is_eq, eq_by_cmp}
use Rattle.std.specs.declared.collections.VecDeque.{VecDeque}
use Rattle.std.specs.declared.alloc.Global.{Global}
use Rattle.std.proofs.lemmas.Cmp.{nat_list_cmp_total}
use Rattle.std.proofs.lemmas.Map.Text.{is_eq-slice_cmp}
use Rattle.gl_vmaps.specs.Tables.{Rows, same_bytes, with_row}
use Rattle.gl_vmaps.specs.Kept.{Chains, last_value, last_place, place_or_zero, present_rows}
use Rattle.gl_vmaps.specs.Chains.{chain_of, newest_place, present, with_chain, chains_by, trimmed}
use Rattle.gl_vmaps.specs.declared.table.Version.{Version}
use Rattle.gl_vmaps.proofs.TablesLaws.{same_bytes-eq, same_bytes-itself, get-with_row, sized, len-with_row}
use Rattle.gl_vmaps.proofs.StandingLaws.{present_rows-get, same_rows, greatest-found, greatest-below}
use Rattle.gl_vmaps.proofs.VersionLists.{last_or-append}

-- ---- a look-up by bytes in an ordered map

-- what the map has at these bytes
abbrev pub found : {X : Type 0} → List ℕ → List (Vec ℕ Global × X) → Option X
found key es = lookup (is_at (λ (k : Vec ℕ Global). slice_cmp nat_cmp key k.items)) es

key_test : (key : List ℕ) → IsKeyTest (eq_by_cmp (λ (x y : Vec ℕ Global). slice_cmp nat_cmp x.items y.items)) (is_at (λ (k : Vec ℕ Global). slice_cmp nat_cmp key k.items))
key_test key x y is =
    let same : key ≡ x.items = same_bytes-eq key x.items (sym (is_eq-slice_cmp key x.items) ∙ is) in
    ap (λ bytes. is_eq (slice_cmp nat_cmp bytes y.items)) same

apart : (key other : List ℕ) → same_bytes other key ≡ false → AreApart (is_at (λ (k : Vec ℕ Global). slice_cmp nat_cmp key k.items)) (is_at (λ (k : Vec ℕ Global). slice_cmp nat_cmp other k.items))
apart key other differ x is =
    let same : key ≡ x.items = same_bytes-eq key x.items (sym (is_eq-slice_cmp key x.items) ∙ is) in
    is_eq-slice_cmp other x.items ∙ ap (same_bytes other) (sym same) ∙ differ

-- after a change at some bytes the map has the new value there, and elsewhere what it had
pub found-updated : {X : Type 0} (m n : BTreeMap (Vec ℕ Global) X) (key : List ℕ) (w : Option X) →
    UpdatesBy (λ x y. slice_cmp nat_cmp x.items y.items) (λ k. slice_cmp nat_cmp key k.items) m n w →
    (other : List ℕ) → found other n.entries ≡ (if same_bytes other key then w else found other m.entries)
found-updated {X} m n key w updates other = go (same_bytes other key) refl
  where
    go : (b : Bool) → same_bytes other key ≡ b → found other n.entries ≡ (if b then w else found other m.entries)
    go true same = subst (λ bytes. found bytes n.entries ≡ w) (sym (same_bytes-eq other key same)) updates.1
    go false differ = unfold KeepsOthers in updates.3 (is_at (λ (k : Vec ℕ Global). slice_cmp nat_cmp other k.items)) (key_test other) (apart key other differ)

-- ---- the rows that such a map holds

-- versions, where there are some
abbrev pub some_versions : List Version → Option (List Version)
some_versions [] = None
some_versions (v ∷ vs) = Some (v ∷ vs)

abbrev pub items_of : Option (VecDeque Version Global) → List Version
items_of None = []
items_of (Some chain) = chain.items

pub get-with_chain : (chains : Chains) (key : List ℕ) (vs : List Version) (other : List ℕ) →
    get (with_chain chains key vs) other ≡ (if same_bytes other key then some_versions vs else get chains other)
get-with_chain chains key [] other = get-remove nat_list_cmp_total chains key other ∙ ap (λ (b : Bool). cond b None (get chains other)) (is_eq-slice_cmp other key)
get-with_chain chains key (v ∷ vs) other = get-insert nat_list_cmp_total chains key (v ∷ vs) other ∙ ap (λ (b : Bool). cond b (Some (v ∷ vs)) (get chains other)) (is_eq-slice_cmp other key)

pub get-chains_by : (es : List (Vec ℕ Global × VecDeque Version Global)) (key : List ℕ) → get (chains_by es) key ≡ some_versions (items_of (found key es))
get-chains_by [] key = get-empty (slice_cmp nat_cmp) key
get-chains_by (e ∷ es) key =
    get-with_chain (chains_by es) e.0.items e.1.items key
    ∙ go (same_bytes key e.0.items) (is_eq (slice_cmp nat_cmp key e.0.items)) (is_eq-slice_cmp key e.0.items) (get-chains_by es key)
  where
    go : (b c : Bool) → c ≡ b → get (chains_by es) key ≡ some_versions (items_of (found key es)) →
        (if b then some_versions e.1.items else get (chains_by es) key) ≡ some_versions (items_of (cond c (Some e.1) (found key es)))
    go true true same rest = refl
    go false false same rest = rest
    go true false same rest = absurd (cc)
    go false true same rest = absurd (cc)

some_or_none : (vs : List Version) → unwrap_or (some_versions vs) [] ≡ vs
some_or_none [] = refl
some_or_none (v ∷ vs) = refl

pub chain_of-by : (es : List (Vec ℕ Global × VecDeque Version Global)) (key : List ℕ) → chain_of (chains_by es) key ≡ items_of (found key es)
chain_of-by es key = ap (λ (o : Option (List Version)). unwrap_or o []) (get-chains_by es key) ∙ some_or_none (items_of (found key es))

pub chain_of-with : (chains : Chains) (key : List ℕ) (vs : List Version) (other : List ℕ) →
    chain_of (with_chain chains key vs) other ≡ (if same_bytes other key then vs else chain_of chains other)
chain_of-with chains key vs other = ap (λ (o : Option (List Version)). unwrap_or o []) (get-with_chain chains key vs other) ∙ go (same_bytes other key)
  where
    go : (b : Bool) → unwrap_or (if b then some_versions vs else get chains other) [] ≡ (if b then vs else chain_of chains other)
    go true = some_or_none vs
    go false = refl

-- rows that answer alike are the same
pub same_chains : (a b : Chains) → ((key : List ℕ) → get a key ≡ get b key) → a ≡ b
same_chains a b same = same_map nat_list_cmp_total (slice_cmp-IsAntisymmetric nat_cmp-IsAntisymmetric) a b same

-- a map in which one row was given a list is that with the row
pub chains_by-updated : (m n : BTreeMap (Vec ℕ Global) (VecDeque Version Global)) (key : List ℕ) (w : Option (VecDeque Version Global)) →
    UpdatesBy (λ x y. slice_cmp nat_cmp x.items y.items) (λ k. slice_cmp nat_cmp key k.items) m n w →
    chains_by n.entries ≡ with_chain (chains_by m.entries) key (items_of w)
chains_by-updated m n key w updates =
    same_chains (chains_by n.entries) (with_chain (chains_by m.entries) key (items_of w))
    (λ other.
    get-chains_by n.entries other
    ∙ ap (λ o. some_versions (items_of o)) (found-updated m n key w updates other)
    ∙ go other (same_bytes other key)
    ∙ sym (get-with_chain (chains_by m.entries) key (items_of w) other))
  where
    go : (other : List ℕ) (b : Bool) → some_versions (items_of (if b then w else found other m.entries)) ≡ (if b then some_versions (items_of w) else get (chains_by m.entries) other)
    go other true = refl
    go other false = sym (get-chains_by m.entries other)

-- a row that is given its own versions leaves all as it is
pub chains_by-same : (es : List (Vec ℕ Global × VecDeque Version Global)) (key : List ℕ) → with_chain (chains_by es) key (chain_of (chains_by es) key) ≡ chains_by es
chains_by-same es key =
    same_chains (with_chain (chains_by es) key (chain_of (chains_by es) key)) (chains_by es)
    (λ other. get-with_chain (chains_by es) key (chain_of (chains_by es) key) other ∙ go other (same_bytes other key) refl)
  where
    go : (other : List ℕ) (b : Bool) → same_bytes other key ≡ b → (if b then some_versions (chain_of (chains_by es) key) else get (chains_by es) other) ≡ get (chains_by es) other
    go other true same =
        let k : key ≡ other = sym (same_bytes-eq other key same) in
        ap some_versions (ap (chain_of (chains_by es)) k ∙ chain_of-by es other) ∙ sym (get-chains_by es other)
    go other false differ = refl

-- so a row that has no version is taken out with no other change
pub chains_by-removed : (m n : BTreeMap (Vec ℕ Global) (VecDeque Version Global)) (key : List ℕ) →
    UpdatesBy (λ x y. slice_cmp nat_cmp x.items y.items) (λ k. slice_cmp nat_cmp key k.items) m n None →
    chain_of (chains_by m.entries) key ≡ [] → chains_by n.entries ≡ chains_by m.entries
chains_by-removed m n key updates none =
    chains_by-updated m n key None updates
    ∙ ap (with_chain (chains_by m.entries) key) (sym none)
    ∙ chains_by-same m.entries key

-- a row that is not there has no versions to take back
pub nothing_to_take : (es : List (Vec ℕ Global × VecDeque Version Global)) (key : List ℕ) (f : List Version → List Version) → f [] ≡ [] → found key es ≡ None →
    chains_by es ≡ with_chain (chains_by es) key (f (chain_of (chains_by es) key))
nothing_to_take es key f empty none =
    let no_chain : chain_of (chains_by es) key ≡ [] = chain_of-by es key ∙ ap items_of none in
    sym (chains_by-same es key) ∙ ap (with_chain (chains_by es) key) (no_chain ∙ sym empty ∙ ap f (sym no_chain))

-- a row that was changed in its place has what was made of its versions
pub chains_by-through : (m n : BTreeMap (Vec ℕ Global) (VecDeque Version Global)) (key : List ℕ) (before after : VecDeque Version Global) (f : List Version → List Version) →
    Some before ≡ found key m.entries →
    (IsSome (found key m.entries) → UpdatesBy (λ x y. slice_cmp nat_cmp x.items y.items) (λ k. slice_cmp nat_cmp key k.items) m n (Some after)) →
    after.items ≡ f before.items → chains_by n.entries ≡ with_chain (chains_by m.entries) key (f (chain_of (chains_by m.entries) key))
chains_by-through m n key before after f there updates made =
    let is : IsSome (found key m.entries) = subst IsSome there refl in
    let chain : before.items ≡ chain_of (chains_by m.entries) key = ap items_of there ∙ sym (chain_of-by m.entries key) in
    chains_by-updated m n key (Some after) (updates is) ∙ ap (with_chain (chains_by m.entries) key) (made ∙ ap f chain)

pub chain_of-through : (m n : BTreeMap (Vec ℕ Global) (VecDeque Version Global)) (key : List ℕ) (before after : VecDeque Version Global) →
    Some before ≡ found key m.entries →
    (IsSome (found key m.entries) → UpdatesBy (λ x y. slice_cmp nat_cmp x.items y.items) (λ k. slice_cmp nat_cmp key k.items) m n (Some after)) →
    chain_of (chains_by n.entries) key ≡ after.items
chain_of-through m n key before after there updates =
    let at_key : found key n.entries ≡ Some after =
    found-updated m n key (Some after) (updates (subst IsSome there refl)) key ∙ ap (λ (b : Bool). if b then Some after else found key m.entries) (same_bytes-itself key) in
    chain_of-by n.entries key ∙ ap items_of at_key

-- ---- lists of versions in a queue

pub none_by_length : (vs : List Version) → length vs ≡ 0 → vs ≡ []
none_by_length [] e = refl
none_by_length (v ∷ vs) e = absurd (omega arith)

pub last_or-at : (o : Option Version) (v : Version) (vs : List Version) (d : Version) → last_or o (v ∷ vs) ≡ Some (get_or (v ∷ vs) (length vs) d)
last_or-at o v [] d = refl
last_or-at o v (w ∷ vs) d = last_or-at (Some v) w vs d

pub back-last : (r : Option (Bor Version)) (vs : List Version) (n : ℕ) → n ≡ length vs → (IsSome r ↔ (0 < n)) → IfSome r (λ x. x.now ≡ get_or vs (n - 1) x.now) →
    option_copied r ≡ last_or None vs
back-last None [] n len some there = refl
back-last None (v ∷ vs) n len some there = let is : IsSome {T = Bor Version} None = some.1 (omega arith) in absurd (cc)
back-last (Some x) [] n len some there = let lt : 0 < n = some.0 refl in absurd (omega arith)
back-last (Some x) (v ∷ vs) n len some there =
    let last : n - 1 ≡ length vs = omega arith in
    ap (λ y. Some y) (there ∙ ap (λ k. get_or (v ∷ vs) k x.now) last) ∙ sym (last_or-at None v vs x.now)

pub on_err : {T E : Type 0} (r : Result T E) (P : Type 0) → P → OnErr r P
on_err (Ok x) P p = tt
on_err (Err e) P p = p

-- a row that was put in has what was put
pub chains_by-new : (m l n : BTreeMap (Vec ℕ Global) (VecDeque Version Global)) (key : List ℕ) (k : Vec ℕ Global) (none one : VecDeque Version Global) (v : Version) →
    l ≡ m → found key m.entries ≡ None →
    UpdatesBy (λ x y. slice_cmp nat_cmp x.items y.items) (λ y. slice_cmp nat_cmp k.items y.items) l n (Some one) →
    k.items ≡ key → none.items ≡ [] → one.items ≡ none.items ++ v ∷ [] →
    chains_by n.entries ≡ with_chain (chains_by m.entries) key (chain_of (chains_by m.entries) key ++ v ∷ [])
chains_by-new m l n key k none one v same absent updates named empty filled =
    let no_chain : chain_of (chains_by m.entries) key ≡ [] = chain_of-by m.entries key ∙ ap items_of absent in
    let added : one.items ≡ chain_of (chains_by m.entries) key ++ v ∷ [] = filled ∙ ap (λ vs. vs ++ v ∷ []) (empty ∙ sym no_chain) in
    chains_by-updated l n k.items (Some one) updates
    ∙ ap (λ (b : BTreeMap (Vec ℕ Global) (VecDeque Version Global)). with_chain (chains_by b.entries) k.items one.items) same
    ∙ ap (λ bytes. with_chain (chains_by m.entries) bytes one.items) named
    ∙ ap (with_chain (chains_by m.entries) key) added

-- ---- counts and the newest_place version

present_get : (chains : Chains) (key : List ℕ) → get (present_rows (entries chains)) key ≡ last_value (chain_of chains key)
present_get chains key = present_rows-get (entries chains) key ∙ ap (λ (o : Option (List Version)). last_value (unwrap_or o [])) (sym (get-entries chains key))

picked : (b : Bool) (xs ys : List Version) → last_value (if b then xs else ys) ≡ (if b then last_value xs else last_value ys)
picked true xs ys = refl
picked false xs ys = refl

-- how many rows have a value when one of them is given other versions
pub present-with : (chains : Chains) (key : List ℕ) (vs : List Version) →
    present (with_chain chains key vs) ≡ sized (last_value vs) (is_some (last_value (chain_of chains key))) (present chains)
present-with chains key vs =
    let rows = present_rows (entries chains) in
    let same : present_rows (entries (with_chain chains key vs)) ≡ with_row rows key (last_value vs) =
    same_rows (present_rows (entries (with_chain chains key vs))) (with_row rows key (last_value vs))
    (λ other.
    present_get (with_chain chains key vs) other
    ∙ ap last_value (chain_of-with chains key vs other)
    ∙ picked (same_bytes other key) vs (chain_of chains other)
    ∙ ap (λ o. if same_bytes other key then last_value vs else o) (sym (present_get chains other))
    ∙ sym (get-with_row rows key (last_value vs) other)) in
    ap len same ∙ len-with_row rows key (last_value vs) ∙ ap (λ o. sized (last_value vs) (is_some o) (len rows)) (present_get chains key)

pub present-alike : (a b : Chains) → ((key : List ℕ) → last_value (chain_of a key) ≡ last_value (chain_of b key)) → present a ≡ present b
present-alike a b same =
    ap len (same_rows (present_rows (entries a)) (present_rows (entries b)) (λ key. present_get a key ∙ same key ∙ sym (present_get b key)))

pub present-empty : present empty ≡ 0
present-empty =
    let nothing : Chains = empty in
    ap len (same_rows (present_rows (entries nothing)) empty
    (λ key. present_get nothing key
    ∙ ap (λ (o : Option (List Version)). last_value (unwrap_or o [])) (get-empty (slice_cmp nat_cmp) key)
    ∙ sym (get-empty (slice_cmp nat_cmp) key)))
    ∙ len-empty (slice_cmp nat_cmp) (List ℕ)

sized-more : (value : Option (List ℕ)) (has : Bool) (size : ℕ) → sized value has size ≤ size + 1
sized-more None true size = omega arith
sized-more None false size = omega arith
sized-more (Some v) true size = omega arith
sized-more (Some v) false size = omega arith

-- no more rows have a value than there are
pub present-few : (es : List (Vec ℕ Global × VecDeque Version Global)) → present (chains_by es) ≤ length es
present-few [] = let none = present-empty in omega (arith, none)
present-few (e ∷ es) =
    let one = present-with (chains_by es) e.0.items e.1.items in
    let more = sized-more (last_value e.1.items) (is_some (last_value (chain_of (chains_by es) e.0.items))) (present (chains_by es)) in
    let rest = present-few es in
    omega (arith, one, more, rest)

-- where a row has a value, one has
pub present-some : (chains : Chains) (key : List ℕ) → is_some (last_value (chain_of chains key)) ≡ true → 1 ≤ present chains
present-some chains key has = go (present chains) refl
  where
    go : (n : ℕ) → present chains ≡ n → 1 ≤ n
    go zero none =
        let nothing : get (present_rows (entries chains)) key ≡ None = ap (λ (rows : Rows). get rows key) (empty_of_len (present_rows (entries chains)) none) ∙ get-empty (slice_cmp nat_cmp) key in
        let value = present_get chains key in
        absurd (cc)
    go (suc n) some = omega arith

-- no row has a version above the newest_place
pub newest-above : (chains : Chains) (key : List ℕ) → last_place (chain_of chains key) ≤ newest_place chains
newest-above chains key = go (get chains key) refl
  where
    go : (o : Option (List Version)) → get chains key ≡ o → last_place (unwrap_or o []) ≤ newest_place chains
    go None none = omega arith
    go (Some vs) some =
        let found : list_any (eq_by_cmp (slice_cmp nat_cmp) key) (keys chains) ≡ true = sym (contains_key-keys chains key) ∙ ap is_some some in
        let version : last_place (chain_of chains key) ≡ last_place vs = ap (λ (o : Option (List Version)). last_place (unwrap_or o [])) some in
        let le = greatest-found (λ k. last_place (chain_of chains k)) key (keys chains) found in
        omega (arith, version, le)

pub newest-below : (chains : Chains) (n : ℕ) → ((key : List ℕ) → last_place (chain_of chains key) ≤ n) → newest_place chains ≤ n
newest-below chains n each = greatest-below (λ k. last_place (chain_of chains k)) (keys chains) n each

pub newest-alike : (a b : Chains) → ((key : List ℕ) → last_place (chain_of a key) ≡ last_place (chain_of b key)) → newest_place a ≡ newest_place b
newest-alike a b same =
    let up = newest-below a (newest_place b) (λ key. let e = same key in let le = newest-above b key in omega (arith, e, le)) in
    let down = newest-below b (newest_place a) (λ key. let e = same key in let le = newest-above a key in omega (arith, e, le)) in
    omega (arith, up, down)

pub newest-empty : newest_place empty ≡ 0
newest-empty =
    let le = newest-below empty 0 (λ key. let e : chain_of empty key ≡ [] = ap (λ (o : Option (List Version)). unwrap_or o []) (get-empty (slice_cmp nat_cmp) key) in let z : last_place (chain_of empty key) ≡ 0 = ap last_place e in omega (arith, z)) in
    omega (arith, le)

-- a version that is not below the newest_place is the newest_place
pub newest-pushed : (chains : Chains) (key : List ℕ) (v : Version) → newest_place chains ≤ v.place → newest_place (with_chain chains key (chain_of chains key ++ v ∷ [])) ≡ v.place
newest-pushed chains key v le =
    let after : Chains = with_chain chains key (chain_of chains key ++ v ∷ []) in
    let at_key : last_place (chain_of after key) ≡ v.place =
    ap last_place (chain_of-with chains key (chain_of chains key ++ v ∷ []) key ∙ ap (λ (b : Bool). if b then chain_of chains key ++ v ∷ [] else chain_of chains key) (same_bytes-itself key))
    ∙ ap place_or_zero (last_or-append None (chain_of chains key) (v ∷ [])) in
    let up = newest-below after v.place (λ other. one other (same_bytes other key) (chain_of-with chains key (chain_of chains key ++ v ∷ []) other)) in
    let down = newest-above after key in
    omega (arith, at_key, up, down)
  where
    one : (other : List ℕ) (b : Bool) → chain_of (with_chain chains key (chain_of chains key ++ v ∷ [])) other ≡ (if b then chain_of chains key ++ v ∷ [] else chain_of chains other) →
        last_place (chain_of (with_chain chains key (chain_of chains key ++ v ∷ [])) other) ≤ v.place
    one other true is = let e : last_place (chain_of (with_chain chains key (chain_of chains key ++ v ∷ [])) other) ≡ v.place = ap last_place is ∙ ap place_or_zero (last_or-append None (chain_of chains key) (v ∷ [])) in omega (arith, e)
    one other false is = let e : last_place (chain_of (with_chain chains key (chain_of chains key ++ v ∷ [])) other) ≡ last_place (chain_of chains other) = ap last_place is in let n = newest-above chains other in omega (arith, e, n)

-- what is let go before another leaves the last version
pub last-trimmed : (place : ℕ) (vs : List Version) → last_or None (trimmed place vs) ≡ last_or None vs
last-trimmed place [] = refl
last-trimmed place (v ∷ []) = refl
last-trimmed place (v ∷ w ∷ vs) = elim (nat_lt 1 (length (v ∷ w ∷ vs)) && nat_lt v.place place) as (λ b. last_or None (if b then w ∷ vs else v ∷ w ∷ vs) ≡ last_or (Some w) vs) [ true ↦ refl | false ↦ refl ]

pub trimmed-alike : (place : ℕ) (chains : Chains) (key other : List ℕ) →
    last_or None (chain_of (with_chain chains key (trimmed place (chain_of chains key))) other) ≡ last_or None (chain_of chains other)
trimmed-alike place chains key other = ap (last_or None) (chain_of-with chains key (trimmed place (chain_of chains key)) other) ∙ go (same_bytes other key) refl
  where
    go : (b : Bool) → same_bytes other key ≡ b → last_or None (if b then trimmed place (chain_of chains key) else chain_of chains other) ≡ last_or None (chain_of chains other)
    go true same = last-trimmed place (chain_of chains key) ∙ ap (λ k. last_or None (chain_of chains k)) (sym (same_bytes-eq other key same))
    go false differ = refl

-- ---- what a table knows of its rows, after a change of one of them

recounted : (value : Option (List ℕ)) (had : Bool) (count : ℕ) →
    (if is_some value then (if had then count else count + 1) else (if had then count - 1 else count)) ≡ sized value had count
recounted None had count = refl
recounted (Some v) had count = refl

-- C is S as its fields have it, and N is what it becomes
pub counted-with : (C S N : Chains) (key : List ℕ) (vs : List Version) (count result : ℕ) (had has : Bool) →
    C ≡ S → N ≡ with_chain C key vs → count ≡ present S → had ≡ is_some (last_value (chain_of S key)) → has ≡ is_some (last_value vs) →
    result ≡ (if has then (if had then count else count + 1) else (if had then count - 1 else count)) → result ≡ present N
counted-with C S N key vs count result had has view becomes counts hads hass is =
    is
    ∙ ap (λ (b : Bool). if b then (if had then count else count + 1) else (if had then count - 1 else count)) hass
    ∙ recounted (last_value vs) had count
    ∙ ap (λ (b : Bool). sized (last_value vs) b count) hads
    ∙ ap (sized (last_value vs) (is_some (last_value (chain_of S key)))) counts
    ∙ ap (λ (t : Chains). sized (last_value vs) (is_some (last_value (chain_of t key))) (present t)) (sym view)
    ∙ sym (present-with C key vs)
    ∙ ap present (sym becomes)

pub last_value-pushed : (vs : List Version) (v : Version) → last_value (vs ++ v ∷ []) ≡ v.value
last_value-pushed vs v = ap (λ (o : Option Version). option_and_then (λ (w : Version). w.value) o) (last_or-append None vs (v ∷ []))

pub some-count : (S : Chains) (key : List ℕ) (count : ℕ) (had : Bool) → count ≡ present S → had ≡ is_some (last_value (chain_of S key)) → had ≡ true → 1 ≤ count
some-count S key count had counts hads is = let one = present-some S key (sym hads ∙ is) in omega (arith, one, counts)

pub nothing_in : (es : List (Vec ℕ Global × VecDeque Version Global)) → length es ≡ 0 → chains_by es ≡ empty
nothing_in [] none = refl
nothing_in (e ∷ es) none = absurd (omega arith)
