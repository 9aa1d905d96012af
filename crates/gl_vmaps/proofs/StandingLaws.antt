-- Tables that stand for writes answer as those, and go on doing so after a write set, a cut and a
-- compaction.
use Rattle.std.proofs.Common.{◌≡◌, ℕ, ◌≤◌, ◌<◌, max, nat_le, Bool, true, false, ◌||◌, cond, List, [], ◌∷◌, ◌++◌, Option, Some, None, refl, sym, ◌∙◌, ap, subst, is_some, unwrap_or, if◌then◌else◌, Result, Ok, Err, OnOk, OnErr, arith}
use Rattle.std.specs.Cmp.Lexicographic.{slice_cmp}
use Rattle.std.specs.FinMap.{get, entries, get-entries, keys, contains_key, contains_key-keys, get-empty, len, same_map, slice_cmp-IsAntisymmetric, nat_cmp-IsAntisymmetric}
use Rattle.std.specs.FinMap.Entries.{find}
use Rattle.std.specs.List.{AllByRecursion, list_any, last_or}
use Rattle.std.specs.Ordering.{nat_cmp, eq_by_cmp}
use Rattle.std.proofs.lemmas.Cmp.{nat_list_cmp_total}
use Rattle.std.proofs.lemmas.Map.Text.{is_eq-slice_cmp}
use Rattle.gl_vmaps.specs.Tables.{Rows, same_bytes, value_in, has_key, size_of}
use Rattle.gl_vmaps.specs.Versions.{Placed, placed_at, is_to_row, written_by, version_in, map_version_in, up_to, AreRising}
use Rattle.gl_vmaps.specs.Kept.{Kept, chains_of, versions_of, last_value, last_place, place_or_zero, value_of, has_row, version_of, greatest, map_version_of, present_rows, tables_of, count_of}
use Rattle.gl_vmaps.specs.Standing.{StandsFor, HasApplied, HasCut, HasCompacted, value_up_to, versions_in, versions_up_to, latest_from}
use Rattle.gl_vmaps.specs.declared.table.Version.{Version}
use Rattle.gl_vmaps.specs.declared.write.Write.{Write}
use Rattle.gl_vmaps.proofs.TablesLaws.{get-with_row, same_bytes-eq}
use Rattle.gl_vmaps.proofs.VersionLists.{last_or-append, last_or-latest, latest-append, latest-latest, latest-up_to}
use Rattle.gl_vmaps.proofs.VersionLaws.{with_first, versions_in-first, versions_in-append, versions_in-up_to, value_in-versions, version_in-versions, all_below, version_in-map, map_version_in-below}

-- ---- the answers

-- the last version is that of the writes
last_alike : (t : Kept) (ps : List Placed) → StandsFor t ps → (map key : List ℕ) → last_or None (versions_of t map key) ≡ last_or None (versions_in ps map key)
last_alike t ps stands map key =
    sym (last_or-latest None t.compacted (versions_of t map key)) ∙ ap (last_or None) (stands.rows map key) ∙ last_or-latest None t.compacted (versions_in ps map key)

pub value_of-stands : (t : Kept) (ps : List Placed) → StandsFor t ps → (map key : List ℕ) → value_of t map key ≡ value_in (written_by ps) map key
value_of-stands t ps stands map key =
    ap (λ (o : Option Version). Rattle.std.specs.Option.option_and_then (λ (v : Version). v.value) o) (last_alike t ps stands map key) ∙ sym (value_in-versions ps map key)

pub has_row-stands : (t : Kept) (ps : List Placed) → StandsFor t ps → (map key : List ℕ) → has_row t map key ≡ has_key (written_by ps) map key
has_row-stands t ps stands map key = ap is_some (value_of-stands t ps stands map key)

pub version_of-stands : (t : Kept) (ps : List Placed) → StandsFor t ps → (map key : List ℕ) → version_of t map key ≡ version_in ps map key
version_of-stands t ps stands map key = ap place_or_zero (last_alike t ps stands map key) ∙ sym (version_in-versions ps map key stands.rising)

-- the rows as they stand have the value of the last version
pub present_rows-get : (es : List (List ℕ × List Version)) (key : List ℕ) → get (present_rows es) key ≡ last_value (unwrap_or (find (slice_cmp nat_cmp) key es) [])
present_rows-get [] key = get-empty (slice_cmp nat_cmp) key
present_rows-get (e ∷ es) key = get-with_row (present_rows es) e.0 (last_value e.1) key ∙ go (same_bytes key e.0) (eq_by_cmp (slice_cmp nat_cmp) key e.0) (is_eq-slice_cmp key e.0) (present_rows-get es key)
  where
    go : (b c : Bool) → c ≡ b → get (present_rows es) key ≡ last_value (unwrap_or (find (slice_cmp nat_cmp) key es) []) → (if b then last_value e.1 else get (present_rows es) key) ≡ last_value (unwrap_or (cond c (Some e.1) (find (slice_cmp nat_cmp) key es)) [])
    go true true same rest = refl
    go false false same rest = rest
    go true false same rest = absurd (cc)
    go false true same rest = absurd (cc)

pub value_in-tables_of : (t : Kept) (map key : List ℕ) → value_in (tables_of t) map key ≡ value_of t map key
value_in-tables_of t map key =
    present_rows-get (entries (chains_of t map)) key ∙ ap (λ (o : Option (List Version)). last_value (unwrap_or o [])) (sym (get-entries (chains_of t map) key))

-- rows that have the same values are the same
pub same_rows : (a b : Rows) → ((key : List ℕ) → get a key ≡ get b key) → a ≡ b
same_rows a b same = same_map nat_list_cmp_total (slice_cmp-IsAntisymmetric nat_cmp-IsAntisymmetric) a b same

pub tables_of-stands : (t : Kept) (ps : List Placed) → StandsFor t ps → (map : List ℕ) → tables_of t map ≡ written_by ps map
tables_of-stands t ps stands map = same_rows (tables_of t map) (written_by ps map) (λ key. value_in-tables_of t map key ∙ value_of-stands t ps stands map key)

pub count_of-stands : (t : Kept) (ps : List Placed) → StandsFor t ps → (map : List ℕ) → count_of t map ≡ size_of (written_by ps) map
count_of-stands t ps stands map = ap len (tables_of-stands t ps stands map)

-- ---- the version of a map

pub greatest-found : (f : List ℕ → ℕ) (key : List ℕ) (ks : List (List ℕ)) → list_any (eq_by_cmp (slice_cmp nat_cmp) key) ks ≡ true → f key ≤ greatest f ks
greatest-found f key [] found = absurd (cc)
greatest-found f key (k ∷ ks) found = go (eq_by_cmp (slice_cmp nat_cmp) key k) (sym (is_eq-slice_cmp key k)) (λ e. greatest-found f key ks e) found
  where
    go : (b : Bool) → same_bytes key k ≡ b → (list_any (eq_by_cmp (slice_cmp nat_cmp) key) ks ≡ true → f key ≤ greatest f ks) → (b || list_any (eq_by_cmp (slice_cmp nat_cmp) key) ks) ≡ true → f key ≤ max (f k) (greatest f ks)
    go true same rest either = let e : f key ≡ f k = ap f (same_bytes-eq key k same) in omega (arith, e)
    go false same rest either = let le = rest either in omega (arith, le)

pub greatest-below : (f : List ℕ → ℕ) (ks : List (List ℕ)) (n : ℕ) → ((key : List ℕ) → f key ≤ n) → greatest f ks ≤ n
greatest-below f [] n each = omega arith
greatest-below f (k ∷ ks) n each = let here = each k in let rest = greatest-below f ks n each in omega (arith, here, rest)

-- no row has a version above that of its map
pub version_of-map : (t : Kept) (map key : List ℕ) → version_of t map key ≤ map_version_of t map
version_of-map t map key = go (get (chains_of t map) key) refl
  where
    go : (o : Option (List Version)) → get (chains_of t map) key ≡ o → last_place (unwrap_or o []) ≤ map_version_of t map
    go None none = omega arith
    go (Some vs) some =
        let found : list_any (eq_by_cmp (slice_cmp nat_cmp) key) (keys (chains_of t map)) ≡ true = sym (contains_key-keys (chains_of t map) key) ∙ ap is_some some in
        let version : version_of t map key ≡ last_place vs = ap (λ (o : Option (List Version)). last_place (unwrap_or o [])) some in
        let le = greatest-found (version_of t map) key (keys (chains_of t map)) found in
        omega (arith, version, le)

pub map_version_of-stands : (t : Kept) (ps : List Placed) → StandsFor t ps → (map : List ℕ) → map_version_of t map ≡ map_version_in ps map
map_version_of-stands t ps stands map =
    let up : map_version_of t map ≤ map_version_in ps map =
    greatest-below (version_of t map) (keys (chains_of t map)) (map_version_in ps map)
    (λ key. let same = version_of-stands t ps stands map key in let le = version_in-map ps map key in omega (arith, same, le)) in
    let down : map_version_in ps map ≤ map_version_of t map =
    map_version_in-below ps map (map_version_of t map)
    (λ key. let same = version_of-stands t ps stands map key in let le = version_of-map t map key in omega (arith, same, le)) in
    omega (arith, up, down)

-- ---- a write set

all_above : (low place : ℕ) (qs : List Placed) → low < place → AllByRecursion (λ (q : Placed). place ≤ q.place) qs → AllByRecursion (λ (q : Placed). low ≤ q.place) qs
all_above low place [] lt all = tt
all_above low place (q ∷ qs) lt all = let le : place ≤ q.place = all.0 in (omega (arith, lt, le), all_above low place qs lt all.1)

all_joined : (low : ℕ) (ps qs : List Placed) → AllByRecursion (λ (q : Placed). low ≤ q.place) ps → AllByRecursion (λ (q : Placed). low ≤ q.place) qs → AllByRecursion (λ (q : Placed). low ≤ q.place) (ps ++ qs)
all_joined low [] qs all others = others
all_joined low (p ∷ ps) qs all others = (all.0, all_joined low ps qs all.1 others)

rising_append : (ps qs : List Placed) (place : ℕ) → AreRising ps → AreRising qs → AllByRecursion (λ (p : Placed). p.place < place) ps → AllByRecursion (λ (q : Placed). place ≤ q.place) qs → AreRising (ps ++ qs)
rising_append [] qs place rising others below above = others
rising_append (p ∷ ps) qs place rising others below above =
    (all_joined p.place ps qs rising.0 (all_above p.place place qs below.0 above), rising_append ps qs place rising.1 others below.1 above)

at_place : (place : ℕ) (ws : List Write) → AllByRecursion (λ (q : Placed). place ≤ q.place) (placed_at place ws)
at_place place [] = tt
at_place place (w ∷ ws) = (omega arith, at_place place ws)

pub rising_placed_at : (place : ℕ) (ws : List Write) → AreRising (placed_at place ws)
rising_placed_at place [] = tt
rising_placed_at place (w ∷ ws) = (at_place place ws, rising_placed_at place ws)

pub stands-applied : (old : Kept) (place : ℕ) (ws : List Write) (new : Kept) (ps : List Placed) → ((map key : List ℕ) → version_of old map key < place) →
    HasApplied old place ws new → StandsFor old ps → StandsFor new (ps ++ placed_at place ws)
stands-applied old place ws new ps above applied stands =
    let below = all_below ps place (λ map key. let same = version_of-stands old ps stands map key in let lt = above map key in omega (arith, same, lt)) in
    record {
      rising = rising_append ps (placed_at place ws) place stands.rising (rising_placed_at place ws) below (at_place place ws);
      rows = λ map key.
          let c = old.compacted in
          let more = versions_in (placed_at place ws) map key in
          let at_old : latest_from c (versions_of new map key) ≡ latest_from c (versions_in (ps ++ placed_at place ws) map key) =
          ap (latest_from c) (applied.rows map key)
          ∙ latest-append c (versions_of old map key) more
          ∙ ap (λ vs. latest_from c (vs ++ more)) (stands.rows map key)
          ∙ sym (latest-append c (versions_in ps map key) more)
          ∙ ap (latest_from c) (sym (versions_in-append ps (placed_at place ws) map key)) in
          subst (λ d. latest_from d (versions_of new map key) ≡ latest_from d (versions_in (ps ++ placed_at place ws) map key)) (sym applied.compacted) at_old;
    }

-- ---- a cut

kept_above : (to : ℕ) (p : Placed) (xs : List Placed) → AllByRecursion (λ (q : Placed). p.place ≤ q.place) xs → AllByRecursion (λ (q : Placed). p.place ≤ q.place) (up_to to xs)
kept_above to p [] all = tt
kept_above to p (x ∷ xs) all = go (nat_le x.place to) (kept_above to p xs all.1)
  where
    go : (b : Bool) → AllByRecursion (λ (q : Placed). p.place ≤ q.place) (up_to to xs) → AllByRecursion (λ (q : Placed). p.place ≤ q.place) (cond b (x ∷ up_to to xs) (up_to to xs))
    go true rest = (all.0, rest)
    go false rest = rest

rising_up_to : (to : ℕ) (ps : List Placed) → AreRising ps → AreRising (up_to to ps)
rising_up_to to [] rising = tt
rising_up_to to (p ∷ ps) rising = go (nat_le p.place to) (rising_up_to to ps rising.1)
  where
    go : (b : Bool) → AreRising (up_to to ps) → AreRising (cond b (p ∷ up_to to ps) (up_to to ps))
    go true rest = (kept_above to p ps rising.0, rest)
    go false rest = rest

pub stands-cut : (old : Kept) (to : ℕ) (new : Kept) (ps : List Placed) → old.compacted ≤ to → HasCut old to new → StandsFor old ps → StandsFor new (up_to to ps)
stands-cut old to new ps le is stands = record {
  rising = rising_up_to to ps stands.rising;
  rows = λ map key.
      let c = old.compacted in
      let at_old : latest_from c (versions_of new map key) ≡ latest_from c (versions_in (up_to to ps) map key) =
      ap (latest_from c) (is.rows map key)
      ∙ latest-up_to (versions_of old map key) c to le
      ∙ ap (versions_up_to to) (stands.rows map key)
      ∙ sym (latest-up_to (versions_in ps map key) c to le)
      ∙ ap (latest_from c) (sym (versions_in-up_to to ps map key)) in
      subst (λ d. latest_from d (versions_of new map key) ≡ latest_from d (versions_in (up_to to ps) map key)) (sym is.compacted) at_old;
}

-- the values of a place are those of the writes up to it
pub value_up_to-stands : (t : Kept) (to : ℕ) (ps : List Placed) → t.compacted ≤ to → StandsFor t ps → (map key : List ℕ) → value_up_to t to map key ≡ value_in (written_by (up_to to ps)) map key
value_up_to-stands t to ps le stands map key =
    let c = t.compacted in
    let vs = versions_of t map key in
    let us = versions_in ps map key in
    ap (λ (o : Option Version). Rattle.std.specs.Option.option_and_then (λ (v : Version). v.value) o)
    (sym (last_or-latest None c (versions_up_to to vs))
    ∙ ap (last_or None) (latest-up_to vs c to le ∙ ap (versions_up_to to) (stands.rows map key) ∙ sym (latest-up_to us c to le))
    ∙ last_or-latest None c (versions_up_to to us)
    ∙ ap (last_or None) (sym (versions_in-up_to to ps map key)))
    ∙ sym (value_in-versions (up_to to ps) map key)

-- and those of the tables cut to it
pub value_up_to-cut : (t : Kept) (to : ℕ) (cut : Kept) → HasCut t to cut → (map key : List ℕ) → value_up_to t to map key ≡ value_in (tables_of cut) map key
value_up_to-cut t to cut is map key = ap last_value (sym (is.rows map key)) ∙ sym (value_in-tables_of cut map key)

-- ---- a compaction

pub stands-compacted : (old : Kept) (to : ℕ) (new : Kept) (ps : List Placed) → HasCompacted old to new → StandsFor old ps → StandsFor new ps
stands-compacted old to new ps is stands = record {
  rising = stands.rising;
  rows = λ map key.
      let c = old.compacted in
      let d = max c to in
      let at_max : latest_from d (versions_of new map key) ≡ latest_from d (versions_in ps map key) =
      ap (latest_from d) (is.rows map key)
      ∙ latest-latest (versions_of old map key) to d (omega arith)
      ∙ sym (latest-latest (versions_of old map key) c d (omega arith))
      ∙ ap (latest_from d) (stands.rows map key)
      ∙ latest-latest (versions_in ps map key) c d (omega arith) in
      subst (λ n. latest_from n (versions_of new map key) ≡ latest_from n (versions_in ps map key)) (sym is.compacted) at_max;
}

-- ---- the next place

last_at : (place : ℕ) (ws : List Write) (map key : List ℕ) (o : Option Version) → place_or_zero o ≤ place → place_or_zero (last_or o (versions_in (placed_at place ws) map key)) ≤ place
last_at place [] map key o le = le
last_at place (w ∷ ws) map key o le =
    subst (λ vs. place_or_zero (last_or o vs) ≤ place) (sym (versions_in-first (record { place = place; write = w }) (placed_at place ws) map key))
    (go (is_to_row map key w) (last_at place ws map key (Some (record { place = place; value = w.value })) (omega arith)) (last_at place ws map key o le))
  where
    go : (b : Bool) → place_or_zero (last_or (Some (record { place = place; value = w.value })) (versions_in (placed_at place ws) map key)) ≤ place →
        place_or_zero (last_or o (versions_in (placed_at place ws) map key)) ≤ place →
        place_or_zero (last_or o (with_first b (record { place = place; value = w.value }) (versions_in (placed_at place ws) map key))) ≤ place
    go true with without = with
    go false with without = without

-- no row has a version above the place of the last write set
pub version_of-applied : (old : Kept) (place : ℕ) (ws : List Write) (new : Kept) → ((map key : List ℕ) → version_of old map key < place) → HasApplied old place ws new →
    (map key : List ℕ) → version_of new map key ≤ place
version_of-applied old place ws new above applied map key =
    let before = above map key in
    let e : version_of new map key ≡ place_or_zero (last_or (last_or None (versions_of old map key)) (versions_in (placed_at place ws) map key)) =
    ap last_place (applied.rows map key) ∙ ap place_or_zero (last_or-append None (versions_of old map key) (versions_in (placed_at place ws) map key)) in
    let le = last_at place ws map key (last_or None (versions_of old map key)) (omega arith) in
    omega (arith, e, le)

-- whether it was applied or not
pub record IsAfter (old : Kept) (place : ℕ) (new : Kept) : Type 0 where
  pub base : new.base ≡ old.base
  pub compacted : new.compacted ≡ old.compacted
  pub last : (map key : List ℕ) → version_of new map key ≤ place

pub after-apply : {E : Type 0} (r : Result (Unit {0}) E) (old : Kept) (place : ℕ) (ws : List Write) (new : Kept) → ((map key : List ℕ) → version_of old map key < place) →
    OnOk r (HasApplied old place ws new) → OnErr r (new ≡ old) → IsAfter old place new
after-apply (Ok u) old place ws new above applied kept = record { base = applied.base; compacted = applied.compacted; last = version_of-applied old place ws new above applied }
after-apply (Err e) old place ws new above applied kept =
    subst (λ (t : Kept). IsAfter old place t) (sym kept)
    (record { base = refl; compacted = refl; last = λ map key. let lt = above map key in omega (arith, lt) })
