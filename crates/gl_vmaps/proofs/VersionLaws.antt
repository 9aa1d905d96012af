-- The versions that a list of writes gives a row: its value and version by them, and those of
-- longer and shorter lists.
use Rattle.std.proofs.Common.{◌≡◌, ℕ, ◌≤◌, ◌<◌, max, nat_le, Bool, true, false, ◌&&◌, cond, List, [], ◌∷◌, ◌++◌, Option, Some, None, refl, sym, ◌∙◌, ap, subst, if◌then◌else◌, arith}
use Rattle.std.proofs.Math.Nat.{max-zero, zero-max}
use Rattle.std.specs.List.{AllByRecursion, last_or}
use Rattle.std.specs.Option.{option_and_then}
use Rattle.gl_vmaps.specs.Tables.{Tables, no_tables, same_bytes, wrote, value_in}
use Rattle.gl_vmaps.specs.Versions.{Placed, written_after, written_by, is_to_map, is_to_row, greatest_place, version_in, map_version_in, up_to, AreRising}
use Rattle.gl_vmaps.specs.Kept.{last_value, last_place, place_or_zero}
use Rattle.gl_vmaps.specs.Standing.{version, versions_in, versions_up_to}
use Rattle.gl_vmaps.specs.declared.table.Version.{Version}
use Rattle.gl_vmaps.proofs.TablesLaws.{value_in-wrote, value_in-nothing, same_bytes-itself, same_bytes-eq}

-- the versions with those of one more write in front
abbrev pub with_first : Bool → Version → List Version → List Version
with_first true v vs = v ∷ vs
with_first false v vs = vs

pub versions_in-first : (p : Placed) (ps : List Placed) (map key : List ℕ) →
    versions_in (p ∷ ps) map key ≡ with_first (is_to_row map key p.write) (version p) (versions_in ps map key)
versions_in-first p ps map key = go (is_to_row map key p.write) refl
  where
    go : (b : Bool) → is_to_row map key p.write ≡ b → versions_in (p ∷ ps) map key ≡ with_first b (version p) (versions_in ps map key)
    go true is = rw is refl
    go false is = rw is refl

-- ---- longer and shorter lists

pub versions_in-append : (ps qs : List Placed) (map key : List ℕ) → versions_in (ps ++ qs) map key ≡ versions_in ps map key ++ versions_in qs map key
versions_in-append [] qs map key = refl
versions_in-append (p ∷ ps) qs map key =
    versions_in-first p (ps ++ qs) map key
    ∙ go (is_to_row map key p.write) (versions_in-append ps qs map key)
    ∙ ap (λ vs. vs ++ versions_in qs map key) (sym (versions_in-first p ps map key))
  where
    go : (b : Bool) → versions_in (ps ++ qs) map key ≡ versions_in ps map key ++ versions_in qs map key →
        with_first b (version p) (versions_in (ps ++ qs) map key) ≡ with_first b (version p) (versions_in ps map key) ++ versions_in qs map key
    go true rest = ap (λ vs. version p ∷ vs) rest
    go false rest = rest

pub versions_in-up_to : (to : ℕ) (ps : List Placed) (map key : List ℕ) → versions_in (up_to to ps) map key ≡ versions_up_to to (versions_in ps map key)
versions_in-up_to to [] map key = refl
versions_in-up_to to (p ∷ ps) map key =
    go (is_to_row map key p.write) (nat_le p.place to) refl refl (versions_in-up_to to ps map key)
    ∙ ap (versions_up_to to) (sym (versions_in-first p ps map key))
  where
    go : (b u : Bool) → is_to_row map key p.write ≡ b → nat_le p.place to ≡ u → versions_in (up_to to ps) map key ≡ versions_up_to to (versions_in ps map key) →
        versions_in (cond u (p ∷ up_to to ps) (up_to to ps)) map key ≡ versions_up_to to (with_first (is_to_row map key p.write) (version p) (versions_in ps map key))
    go true true is up rest = versions_in-first p (up_to to ps) map key ∙ rw (is, up) (ap (λ vs. version p ∷ vs) rest)
    go true false is up rest = rw (is, up) rest
    go false true is up rest = versions_in-first p (up_to to ps) map key ∙ rw is rest
    go false false is up rest = rw is rest

-- ---- a row's value

value_after_all : (t : Tables) (ps : List Placed) (map key : List ℕ) (o : Option Version) → value_in t map key ≡ option_and_then (λ (v : Version). v.value) o →
    value_in (written_after t ps) map key ≡ option_and_then (λ (v : Version). v.value) (last_or o (versions_in ps map key))
value_after_all t [] map key o before = before
value_after_all t (p ∷ ps) map key o before =
    go (is_to_row map key p.write) (value_in-wrote t p.write map key)
    (λ u e. value_after_all (wrote t p.write) ps map key u e)
    ∙ ap (λ vs. option_and_then (λ (v : Version). v.value) (last_or o vs)) (sym (versions_in-first p ps map key))
  where
    go : (b : Bool) → value_in (wrote t p.write) map key ≡ (if b then p.write.value else value_in t map key) →
        ((u : Option Version) → value_in (wrote t p.write) map key ≡ option_and_then (λ (v : Version). v.value) u →
        value_in (written_after (wrote t p.write) ps) map key ≡ option_and_then (λ (v : Version). v.value) (last_or u (versions_in ps map key))) →
        value_in (written_after (wrote t p.write) ps) map key ≡ option_and_then (λ (v : Version). v.value) (last_or o (with_first b (version p) (versions_in ps map key)))
    go true after rest = rest (Some (version p)) after
    go false after rest = rest o (after ∙ before)

-- a row has what its last version wrote
pub value_in-versions : (ps : List Placed) (map key : List ℕ) → value_in (written_by ps) map key ≡ last_value (versions_in ps map key)
value_in-versions ps map key = value_after_all no_tables ps map key None (value_in-nothing map key)

-- ---- a row's version

greatest_last : (ps : List Placed) (map key : List ℕ) (o : Option Version) → AreRising ps → AllByRecursion (λ (p : Placed). place_or_zero o ≤ p.place) ps →
    place_or_zero (last_or o (versions_in ps map key)) ≡ max (place_or_zero o) (greatest_place (is_to_row map key) ps)
greatest_last [] map key o rising all = sym (max-zero (place_or_zero o))
greatest_last (p ∷ ps) map key o rising all =
    ap (λ vs. place_or_zero (last_or o vs)) (versions_in-first p ps map key)
    ∙ go (is_to_row map key p.write) (greatest_last ps map key (Some (version p)) rising.1 rising.0) (greatest_last ps map key o rising.1 all.1)
  where
    go : (b : Bool) →
        place_or_zero (last_or (Some (version p)) (versions_in ps map key)) ≡ max p.place (greatest_place (is_to_row map key) ps) →
        place_or_zero (last_or o (versions_in ps map key)) ≡ max (place_or_zero o) (greatest_place (is_to_row map key) ps) →
        place_or_zero (last_or o (with_first b (version p) (versions_in ps map key)))
        ≡ max (place_or_zero o) (max (if b then p.place else 0) (greatest_place (is_to_row map key) ps))
    go true with without = let first : place_or_zero o ≤ p.place = all.0 in omega (arith, with, first)
    go false with without = omega (arith, without)

zero_below : (ps : List Placed) → AllByRecursion (λ (p : Placed). 0 ≤ p.place) ps
zero_below [] = tt
zero_below (p ∷ ps) = (omega arith, zero_below ps)

-- where places do not fall, a row's version is the place of its last one
pub version_in-versions : (ps : List Placed) (map key : List ℕ) → AreRising ps → version_in ps map key ≡ last_place (versions_in ps map key)
version_in-versions ps map key rising = sym (greatest_last ps map key None rising (zero_below ps) ∙ zero-max (version_in ps map key))

-- ---- versions of rows and of maps

widen : (f g : Placed → Type 0) (ps : List Placed) → ((p : Placed) → f p → g p) → AllByRecursion f ps → AllByRecursion g ps
widen f g [] each all = tt
widen f g (p ∷ ps) each all = (each p all.0, widen f g ps each all.1)

-- no write has a place above the version of its row
pub each_below : (ps : List Placed) → AllByRecursion (λ (p : Placed). p.place ≤ version_in ps p.write.map p.write.key) ps
each_below [] = tt
each_below (p ∷ ps) =
    let itself : is_to_row p.write.map p.write.key p.write ≡ true = rw (same_bytes-itself p.write.map, same_bytes-itself p.write.key) refl in
    let here : p.place ≤ max (if is_to_row p.write.map p.write.key p.write then p.place else 0) (version_in ps p.write.map p.write.key) = rw itself (omega arith) in
    (here, widen (λ (q : Placed). q.place ≤ version_in ps q.write.map q.write.key) (λ (q : Placed). q.place ≤ version_in (p ∷ ps) q.write.map q.write.key) ps (λ q le. omega (arith, le)) (each_below ps))

-- a place that no version reaches is above all writes
pub all_below : (ps : List Placed) (place : ℕ) → ((map key : List ℕ) → version_in ps map key < place) → AllByRecursion (λ (p : Placed). p.place < place) ps
all_below ps place above =
    widen (λ (p : Placed). p.place ≤ version_in ps p.write.map p.write.key) (λ (p : Placed). p.place < place) ps
    (λ p le. let over = above p.write.map p.write.key in omega (arith, le, over)) (each_below ps)

row_map : (a b : Bool) (n m k : ℕ) → m ≤ k → max (if a && b then n else 0) m ≤ max (if a then n else 0) k
row_map true true n m k le = omega arith
row_map true false n m k le = omega arith
row_map false b n m k le = omega arith

-- no row has a version above its map's
pub version_in-map : (ps : List Placed) (map key : List ℕ) → version_in ps map key ≤ map_version_in ps map
version_in-map [] map key = omega arith
version_in-map (p ∷ ps) map key =
    row_map (same_bytes map p.write.map) (same_bytes key p.write.key) p.place (version_in ps map key) (map_version_in ps map) (version_in-map ps map key)

-- and a number that no row's version passes, the map's does not pass
map_below_all : (ps : List Placed) (map : List ℕ) (n : ℕ) → AllByRecursion (λ (p : Placed). is_to_map map p.write ≡ true → p.place ≤ n) ps → map_version_in ps map ≤ n
map_below_all [] map n all = omega arith
map_below_all (p ∷ ps) map n all = go (is_to_map map p.write) all.0 (map_below_all ps map n all.1)
  where
    go : (b : Bool) → (b ≡ true → p.place ≤ n) → map_version_in ps map ≤ n → max (if b then p.place else 0) (map_version_in ps map) ≤ n
    go true le rest = let here = le refl in omega (arith, here)
    go false le rest = omega arith

pub map_version_in-below : (ps : List Placed) (map : List ℕ) (n : ℕ) → ((key : List ℕ) → version_in ps map key ≤ n) → map_version_in ps map ≤ n
map_version_in-below ps map n each =
    map_below_all ps map n (widen (λ (p : Placed). p.place ≤ version_in ps p.write.map p.write.key) (λ (p : Placed). is_to_map map p.write ≡ true → p.place ≤ n) ps
    (λ p le is.
    let same : map ≡ p.write.map = same_bytes-eq map p.write.map is in
    let here : p.place ≤ version_in ps map p.write.key = subst (λ m. p.place ≤ version_in ps m p.write.key) (sym same) le in
    let row = each p.write.key in
    omega (arith, here, row))
    (each_below ps))
