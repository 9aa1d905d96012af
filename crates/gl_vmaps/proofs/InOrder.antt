-- Rows whose names are within their limits and whose versions rise: they stay so after each change
-- of the maps.
use Rattle.std.proofs.Common.{◌≡◌, ℕ, zero, suc, ◌<◌, ◌-◌, nat_lt, Bool, true, false, ◌&&◌, List, [], ◌∷◌, ◌++◌, refl, sym, ◌∙◌, ap, subst, None, if◌then◌else◌, take, drop, length, get_or, arith}
use Rattle.std.specs.FinMap.{empty}
use Rattle.std.specs.List.{AllByRecursion}
use Rattle.std.specs.List.Sorted.{IsNonDecreasingBy}
use Rattle.std.proofs.lemmas.Bool.{and_parts}
use Rattle.std.proofs.lemmas.List.Sorted.{IsNonDecreasingBy-short, IsNonDecreasingBy-push}
use Rattle.gl_vmaps.specs.Tables.{same_bytes}
use Rattle.gl_vmaps.specs.Name.{is_map_name, is_key}
use Rattle.gl_vmaps.specs.Writes.{is_write, is_written_value}
use Rattle.gl_vmaps.specs.Kept.{last_place, place_or_zero}
use Rattle.gl_vmaps.specs.Chains.{Maps, found_in, with_versions, without_last, is_first_below, trimmed}
use Rattle.gl_vmaps.specs.Journal.{IsNamed, AreNamed, IsSettled, IsJournal, popped, popped_last, pushed, pushed_maps, settled, settled_first}
use Rattle.gl_vmaps.specs.declared.journal.Written.{Written}
use Rattle.gl_vmaps.specs.declared.table.Version.{Version}
use Rattle.gl_vmaps.specs.declared.write.Write.{Write}
use Rattle.gl_vmaps.proofs.MapLaws.{found_in-with}
use Rattle.gl_vmaps.proofs.JournalLaws.{row_is, found_in-empty, has_last}
use Rattle.gl_vmaps.proofs.ChainLaws.{last_or-at}

-- ---- names

named-any : (name key : List ℕ) (vs : List Version) → is_map_name name ≡ true → is_key key ≡ true → IsNamed name key vs
named-any name key [] map_is key_is = tt
named-any name key (v ∷ vs) map_is key_is = (map_is, key_is)

named-take : (name key : List ℕ) (i : ℕ) (vs : List Version) → IsNamed name key vs → IsNamed name key (take i vs)
named-take name key zero [] named = tt
named-take name key zero (v ∷ vs) named = tt
named-take name key (suc i) [] named = tt
named-take name key (suc i) (v ∷ vs) named = named

named-trimmed : (name key : List ℕ) (place : ℕ) (vs : List Version) → IsNamed name key vs → IsNamed name key (trimmed place vs)
named-trimmed name key place vs named = go (nat_lt 1 (length vs) && is_first_below place vs)
  where
    rest : (us : List Version) → IsNamed name key us → IsNamed name key (drop 1 us)
    rest [] named = tt
    rest (v ∷ []) named = tt
    rest (v ∷ w ∷ us) named = named

    go : (b : Bool) → IsNamed name key (if b then drop 1 vs else vs)
    go true = rest vs named
    go false = named

named-with : (maps : Maps) (m k : List ℕ) (vs : List Version) → AreNamed maps → IsNamed m k vs → AreNamed (with_versions maps m k vs)
named-with maps m k vs all one name key =
    subst (IsNamed name key) (sym (found_in-with maps m k vs name key)) (go (same_bytes name m && same_bytes key k) refl)
  where
    go : (b : Bool) → (same_bytes name m && same_bytes key k) ≡ b → IsNamed name key (if b then vs else found_in maps name key)
    go true is =
        let row = row_is name key m k is in
        subst (λ n. IsNamed n key vs) (sym row.0) (subst (λ j. IsNamed m j vs) (sym row.1) one)
    go false differ = all name key

pub named-empty : AreNamed empty
named-empty name key = subst (IsNamed name key) (sym (found_in-empty name key)) tt

pub named-pushed : (maps : Maps) (place : ℕ) (w : Write) → is_map_name w.map ≡ true → is_key w.key ≡ true → AreNamed maps → AreNamed (pushed maps place w)
named-pushed maps place w map_is key_is all =
    let v : Version = record { place = place; value = w.value } in
    let vs = found_in maps w.map w.key ++ v ∷ [] in
    named-with maps w.map w.key vs all (named-any w.map w.key vs map_is key_is)

pub named-pushed_maps : (maps : Maps) (place : ℕ) (ws : List Write) → AllByRecursion (λ (w : Write). is_write w ≡ true) ws → AreNamed maps → AreNamed (pushed_maps maps place ws)
named-pushed_maps maps place [] within all = all
named-pushed_maps maps place (w ∷ ws) within all =
    let names = and_parts (is_map_name w.map && is_key w.key) (is_written_value w.value) within.0 in
    let both = and_parts (is_map_name w.map) (is_key w.key) names.0 in
    named-pushed_maps (pushed maps place w) place ws within.1 (named-pushed maps place w both.0 both.1 all)

named-popped : (maps : Maps) (w : Written) → AreNamed maps → AreNamed (popped maps w)
named-popped maps w all =
    let vs = found_in maps w.map w.key in
    named-with maps w.map w.key (without_last vs) all (named-take w.map w.key (length vs - 1) vs (all w.map w.key))

pub named-popped_last : (maps : Maps) (es : List Written) → AreNamed maps → AreNamed (popped_last maps es)
named-popped_last maps [] all = all
named-popped_last maps (w ∷ es) all = named-popped maps w all

pub named-settled_first : (maps : Maps) (es : List Written) → AreNamed maps → AreNamed (settled_first maps es)
named-settled_first maps [] all = all
named-settled_first maps (w ∷ es) all =
    let vs = found_in maps w.map w.key in
    named-with maps w.map w.key (trimmed w.place vs) all (named-trimmed w.map w.key w.place vs (all w.map w.key))

-- ---- places

abbrev place_of : Version → ℕ
place_of v = v.place

rising-settled : (c : ℕ) (vs : List Version) → IsSettled c vs → IsNonDecreasingBy place_of vs
rising-settled c [] settled = IsNonDecreasingBy-short place_of [] (omega arith)
rising-settled c (v ∷ []) settled = IsNonDecreasingBy-short place_of (v ∷ []) (omega arith)
rising-settled c (v ∷ w ∷ vs) settled = absurd settled

last-at : (vs : List Version) (d : Version) → 0 < length vs → (get_or vs (length vs - 1) d).place ≡ last_place vs
last-at [] d some = absurd (omega arith)
last-at (v ∷ vs) d some =
    let n : length (v ∷ vs) - 1 ≡ length vs = omega arith in
    ap (λ i. (get_or (v ∷ vs) i d).place) n ∙ sym (ap place_or_zero (last_or-at None v vs d))

-- the places of a row's versions do not fall
pub rising-in : (c : ℕ) (maps : Maps) (es : List Written) → IsJournal c maps es → (name key : List ℕ) → IsNonDecreasingBy place_of (found_in maps name key)
rising-in c maps [] journal name key = rising-settled c (found_in maps name key) (journal name key)
rising-in c maps (w ∷ es) journal name key =
    go (same_bytes name w.map && same_bytes key w.key) refl
    (rising-in c (popped maps w) es journal.2 name key)
    (found_in-with maps w.map w.key (without_last (found_in maps w.map w.key)) name key)
  where
    go : (b : Bool) → (same_bytes name w.map && same_bytes key w.key) ≡ b →
        IsNonDecreasingBy place_of (found_in (popped maps w) name key) →
        found_in (popped maps w) name key ≡ (if b then without_last (found_in maps w.map w.key) else found_in maps name key) →
        IsNonDecreasingBy place_of (found_in maps name key)
    go true is rest now =
        let row = row_is name key w.map w.key is in
        let vs = found_in maps w.map w.key in
        let last = journal.0 in
        let l = has_last vs (let p = last.place in let f = last.fresh in omega (arith, p, f)) in
        let prefix : IsNonDecreasingBy place_of (without_last vs) = subst (IsNonDecreasingBy place_of) now rest in
        let all : IsNonDecreasingBy place_of vs =
        subst (IsNonDecreasingBy place_of) (sym l.split)
        (IsNonDecreasingBy-push place_of (without_last vs) l.last prefix
        (λ d some. let e = last-at (without_last vs) d some in let a = l.place in let b = last.place in let f = last.fresh in omega (arith, e, a, b, f))) in
        subst (IsNonDecreasingBy place_of) (ap (λ n. found_in maps n w.key) (sym row.0) ∙ ap (found_in maps name) (sym row.1)) all
    go false differ rest now = subst (IsNonDecreasingBy place_of) now rest
