-- Write sets that are made write by write: they are in order, and the last write to a row stands.
use Rattle.std.proofs.Common.{◌≡◌, ◌≢◌, ℕ, List, [], ◌∷◌, ◌++◌, Option, Some, None, Bool, true, if◌then◌else◌, refl, sym, ◌∙◌, ap}
use Rattle.std.specs.Option.{is_some}
use Rattle.std.specs.List.{list_all, AllByRecursion}
use Rattle.std.proofs.lemmas.Bool.{and_parts}
use Rattle.gl_vmaps.specs.Tables.{Tables, Rows, no_tables, same_bytes, value_in, with_row, wrote, wrote_all}
use Rattle.gl_vmaps.specs.Versions.{is_to_row}
use Rattle.gl_vmaps.specs.Writes.{is_ordered, with_write}
use Rattle.gl_vmaps.specs.declared.write.Write.{Write}
use Rattle.gl_vmaps.proofs.TablesLaws.{same_bytes-itself, value_in-wrote, value_in-nothing}
use Rattle.gl_vmaps.proofs.WriteLaws.{is_ordered-with_write, list_all-with_write, value_in-with_write, wrote_all-with_write}
use Rattle.gl_vmaps.specs.Changes.{set_from, write_set}

-- ---- writes put one by one

pub set_from-append : (set xs ys : List Write) → set_from set (xs ++ ys) ≡ set_from (set_from set xs) ys
set_from-append set [] ys = refl
set_from-append set (x ∷ xs) ys = set_from-append (with_write set x) xs ys

pub is_ordered-set_from : (set ws : List Write) → is_ordered set ≡ true → is_ordered (set_from set ws) ≡ true
is_ordered-set_from set [] ordered = ordered
is_ordered-set_from set (w ∷ ws) ordered = is_ordered-set_from (with_write set w) ws (is_ordered-with_write set w ordered)

pub list_all-set_from : (test : Write → Bool) (set ws : List Write) → list_all test set ≡ true → list_all test ws ≡ true → list_all test (set_from set ws) ≡ true
list_all-set_from test set [] all more = all
list_all-set_from test set (w ∷ ws) all more =
    let both = and_parts (test w) (list_all test ws) more in
    list_all-set_from test (with_write set w) ws (list_all-with_write test set w all both.0) both.1

-- ---- what a set makes of tables

-- the row of the last write put has what it wrote
pub value_in-put : (t : Tables) (ws : List Write) (w : Write) → is_ordered ws ≡ true → value_in (wrote_all t (with_write ws w)) w.map w.key ≡ w.value
value_in-put t ws w ordered =
    value_in-with_write t ws w ordered w.map w.key ∙ value_in-wrote (wrote_all t ws) w w.map w.key
    ∙ ap (λ (b : Bool). if b then w.value else value_in (wrote_all t ws) w.map w.key) own
  where
    own : is_to_row w.map w.key w ≡ true
    own = rw (same_bytes-itself w.map, same_bytes-itself w.key) refl

-- the same writes after tables with the same rows of a map make the same rows of it
wrote_all-rows : (s t : Tables) (ws : List Write) (map : List ℕ) → s map ≡ t map → wrote_all s ws map ≡ wrote_all t ws map
wrote_all-rows s t [] map same = same
wrote_all-rows s t (w ∷ ws) map same =
    wrote_all-rows (wrote s w) (wrote t w) ws map (ap (λ (r : Rows). if same_bytes map w.map then with_row r w.key w.value else r) same)

pub wrote_all-set_from : (t : Tables) (set ws : List Write) (map : List ℕ) → is_ordered set ≡ true → wrote_all t (set_from set ws) map ≡ wrote_all (wrote_all t set) ws map
wrote_all-set_from t set [] map ordered = refl
wrote_all-set_from t set (w ∷ ws) map ordered =
    wrote_all-set_from t (with_write set w) ws map (is_ordered-with_write set w ordered)
    ∙ wrote_all-rows (wrote_all t (with_write set w)) (wrote (wrote_all t set) w) ws map (wrote_all-with_write t set w ordered map)

-- a write set makes what its writes make one after another
pub rows-write_set : (t : Tables) (ws : List Write) (map : List ℕ) → wrote_all t (write_set ws) map ≡ wrote_all t ws map
rows-write_set t ws map = wrote_all-set_from t [] ws map refl

pub wrote_all-append : (t : Tables) (xs ys : List Write) → wrote_all t (xs ++ ys) ≡ wrote_all (wrote_all t xs) ys
wrote_all-append t [] ys = refl
wrote_all-append t (x ∷ xs) ys = wrote_all-append (wrote t x) xs ys

-- ---- writes that set values

abbrev pub sets_value : Write → Bool
sets_value w = is_some w.value

-- before the first write each of these makes a change
pub changes-from_sets_value : (ws : List Write) → list_all sets_value ws ≡ true → AllByRecursion (λ (w : Write). value_in no_tables w.map w.key ≢ w.value) ws
changes-from_sets_value [] all = tt
changes-from_sets_value (w ∷ ws) all =
    let both = and_parts (sets_value w) (list_all sets_value ws) all in
    (λ same. some (w.value) both.0 (sym (value_in-nothing w.map w.key) ∙ same), changes-from_sets_value ws both.1)
  where
    some : (v : Option (List ℕ)) → is_some v ≡ true → None ≡ v → ⊥
    some None is e = cc
    some (Some v) is e = cc
