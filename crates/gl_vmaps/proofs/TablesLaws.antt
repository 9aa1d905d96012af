-- What a row has, and how many rows a map has, after a write and after a write set.
use Rattle.std.proofs.Common.{◌≡◌, ℕ, zero, suc, ◌≤◌, arith, ◌+◌, ◌-◌, List, [], ◌∷◌, ◌++◌, Option, Some, None, Bool, true, false, ◌&&◌, refl, sym, ◌∙◌, ap, cond, map, is_some, if◌then◌else◌}
use Rattle.std.specs.Option.{option_or}
use Rattle.std.specs.Ordering.{nat_cmp}
use Rattle.std.specs.Cmp.Lexicographic.{slice_cmp}
use Rattle.std.specs.FinMap.{get, get-insert, get-remove, get-empty, empty_of_len, len, len-insert, len-remove, len-empty}
use Rattle.std.specs.Prelude.{nat_eq}
use Rattle.std.proofs.lemmas.Bool.{and_parts}
use Rattle.std.proofs.lemmas.Bool.Decides.{nat_tests}
use Rattle.std.proofs.lemmas.Cmp.{nat_list_cmp_total}
use Rattle.std.proofs.lemmas.Map.Text.{is_eq-slice_cmp}
use Rattle.gl_vmaps.specs.Tables.{Tables, Rows, no_tables, same_bytes, with_row, wrote, wrote_all, value_in, has_key, size_of}
use Rattle.gl_vmaps.specs.Versions.{Placed, placed_at, is_to_map, is_to_row, written_after, written_by}
use Rattle.gl_vmaps.specs.LastWrite.{last_write, value_after}
use Rattle.gl_vmaps.specs.declared.write.Write.{Write}
use Rattle.gl_vmaps.proofs.LastWrites.{last_such-cons}

-- ---- the same bytes

same_byte : (x y : ℕ) → nat_eq x y ≡ nat_eq y x
same_byte x y = grind (arith, nat_tests)

pub same_bytes-symm : (xs ys : List ℕ) → same_bytes xs ys ≡ same_bytes ys xs
same_bytes-symm [] [] = refl
same_bytes-symm [] (y ∷ ys) = refl
same_bytes-symm (x ∷ xs) [] = refl
same_bytes-symm (x ∷ xs) (y ∷ ys) = rw (same_byte x y, same_bytes-symm xs ys) refl

pub same_bytes-eq : (xs ys : List ℕ) → same_bytes xs ys ≡ true → xs ≡ ys
same_bytes-eq [] [] e = refl
same_bytes-eq [] (y ∷ ys) e = absurd (cc)
same_bytes-eq (x ∷ xs) [] e = absurd (cc)
same_bytes-eq (x ∷ xs) (y ∷ ys) e =
    let both = and_parts (nat_eq x y) (same_bytes xs ys) e in
    let first : x ≡ y = grind (arith, nat_tests, both.0) in
    let rest : xs ≡ ys = same_bytes-eq xs ys both.1 in
    cc

pub same_bytes-itself : (xs : List ℕ) → same_bytes xs xs ≡ true
same_bytes-itself [] = refl
same_bytes-itself (x ∷ xs) = let one : nat_eq x x ≡ true = grind (arith, nat_tests) in rw (one, same_bytes-itself xs) refl

-- a write to a row is to that map and key
pub row_of : (map key : List ℕ) (w : Write) → is_to_row map key w ≡ true → (map ≡ w.map) × (key ≡ w.key)
row_of map key w is =
    let both = and_parts (same_bytes map w.map) (same_bytes key w.key) is in
    (same_bytes-eq map w.map both.0, same_bytes-eq key w.key both.1)

-- ---- one write

-- the rows of a map have what was written to the key, and at another key what they had
pub get-with_row : (rows : Rows) (written : List ℕ) (value : Option (List ℕ)) (key : List ℕ) →
    get (with_row rows written value) key ≡ (if same_bytes key written then value else get rows key)
get-with_row rows written None key = get-remove nat_list_cmp_total rows written key ∙ ap (λ (b : Bool). cond b None (get rows key)) (is_eq-slice_cmp key written)
get-with_row rows written (Some value) key = get-insert nat_list_cmp_total rows written value key ∙ ap (λ (b : Bool). cond b (Some value) (get rows key)) (is_eq-slice_cmp key written)

-- one write is to its row and leaves all others
pub value_in-wrote : (t : Tables) (w : Write) (map key : List ℕ) →
    value_in (wrote t w) map key ≡ (if is_to_row map key w then w.value else value_in t map key)
value_in-wrote t w map key = go (same_bytes map w.map) refl
  where
    go : (b : Bool) → same_bytes map w.map ≡ b →
        get (if b then with_row (t map) w.key w.value else t map) key ≡ (if b && same_bytes key w.key then w.value else get (t map) key)
    go true is = get-with_row (t map) w.key w.value key
    go false is = refl

-- so is whether a map has a key
pub has_key-wrote : (t : Tables) (w : Write) (map key : List ℕ) →
    has_key (wrote t w) map key ≡ (if is_to_row map key w then is_some w.value else has_key t map key)
has_key-wrote t w map key =
    ap is_some (value_in-wrote t w map key)
    ∙ elim (is_to_row map key w) as (λ b. is_some (if b then w.value else value_in t map key) ≡ (if b then is_some w.value else has_key t map key)) [ true ↦ refl | false ↦ refl ]

-- how many rows there are with one more set, or removed
abbrev pub sized : Option (List ℕ) → Bool → ℕ → ℕ
sized (Some value) has size = if has then size else size + 1
sized None has size = if has then size - 1 else size

pub len-with_row : (rows : Rows) (key : List ℕ) (value : Option (List ℕ)) → len (with_row rows key value) ≡ sized value (is_some (get rows key)) (len rows)
len-with_row rows key None = len-remove nat_list_cmp_total rows key
len-with_row rows key (Some value) = len-insert nat_list_cmp_total rows key value

-- a write changes the number of its map's rows alone
pub size_of-wrote : (t : Tables) (w : Write) (map : List ℕ) →
    size_of (wrote t w) map ≡ (if is_to_map map w then sized w.value (has_key t map w.key) (size_of t map) else size_of t map)
size_of-wrote t w map = go (same_bytes map w.map)
  where
    go : (b : Bool) → len (if b then with_row (t map) w.key w.value else t map) ≡ (if b then sized w.value (has_key t map w.key) (size_of t map) else size_of t map)
    go true = len-with_row (t map) w.key w.value
    go false = refl

-- a map that has a key has one at least
pub size_of-some : (t : Tables) (map key : List ℕ) → has_key t map key ≡ true → 1 ≤ size_of t map
size_of-some t map key has = go (len (t map)) refl
  where
    go : (n : ℕ) → len (t map) ≡ n → 1 ≤ n
    go zero none =
        let nothing : get (t map) key ≡ None = ap (λ (rows : Rows). get rows key) (empty_of_len (t map) none) ∙ get-empty (slice_cmp nat_cmp) key in
        absurd (cc)
    go (suc n) some = omega arith

-- ---- a write set

after_more : (map key : List ℕ) (w : Write) (o : Option Write) (before : Option (List ℕ)) →
    value_after o (if is_to_row map key w then w.value else before) ≡ value_after (option_or o (cond (is_to_row map key w) (Some w) None)) before
after_more map key w (Some last) before = refl
after_more map key w None before =
    elim (is_to_row map key w) as (λ b. (if b then w.value else before) ≡ value_after (cond b (Some w) None) before) [ true ↦ refl | false ↦ refl ]

-- a write set leaves what its last write to the row wrote
pub value_in-wrote_all : (t : Tables) (ws : List Write) (map key : List ℕ) →
    value_in (wrote_all t ws) map key ≡ value_after (last_write map key ws) (value_in t map key)
value_in-wrote_all t [] map key = refl
value_in-wrote_all t (w ∷ ws) map key =
    value_in-wrote_all (wrote t w) ws map key
    ∙ ap (λ (v : Option (List ℕ)). value_after (last_write map key ws) v) (value_in-wrote t w map key)
    ∙ after_more map key w (last_write map key ws) (value_in t map key)
    ∙ ap (λ (o : Option Write). value_after o (value_in t map key)) (sym (last_such-cons (is_to_row map key) w ws))

-- ---- writes at their places

abbrev pub writes_of : List Placed → List Write
writes_of ps = map (λ (p : Placed). p.write) ps

-- places make no difference to what is written
pub written_after-writes : (t : Tables) (ps : List Placed) → written_after t ps ≡ wrote_all t (writes_of ps)
written_after-writes t [] = refl
written_after-writes t (p ∷ ps) = written_after-writes (wrote t p.write) ps

-- what is written after some writes is written after what they made
pub written_after-append : (t : Tables) (ps qs : List Placed) → written_after t (ps ++ qs) ≡ written_after (written_after t ps) qs
written_after-append t [] qs = refl
written_after-append t (p ∷ ps) qs = written_after-append (wrote t p.write) ps qs

-- what the write set of one more entry makes
pub writes_of-placed_at : (place : ℕ) (ws : List Write) → writes_of (placed_at place ws) ≡ ws
writes_of-placed_at place [] = refl
writes_of-placed_at place (w ∷ ws) = ap (λ vs. w ∷ vs) (writes_of-placed_at place ws)

pub written_by-applied : (ps : List Placed) (place : ℕ) (ws : List Write) → written_by (ps ++ placed_at place ws) ≡ wrote_all (written_by ps) ws
written_by-applied ps place ws =
    written_after-append no_tables ps (placed_at place ws)
    ∙ written_after-writes (written_by ps) (placed_at place ws)
    ∙ ap (λ vs. wrote_all (written_by ps) vs) (writes_of-placed_at place ws)

-- before the first write no row has a value, and no map has a row
pub value_in-nothing : (map key : List ℕ) → value_in no_tables map key ≡ None
value_in-nothing map key = get-empty (slice_cmp nat_cmp) key

pub size_of-nothing : (map : List ℕ) → size_of no_tables map ≡ 0
size_of-nothing map = len-empty (slice_cmp nat_cmp) (List ℕ)

-- a row has what was last written to it
pub value_in-written_by : (ps : List Placed) (map key : List ℕ) → value_in (written_by ps) map key ≡ value_after (last_write map key (writes_of ps)) None
value_in-written_by ps map key =
    ap (λ (t : Tables). value_in t map key) (written_after-writes no_tables ps)
    ∙ value_in-wrote_all no_tables (writes_of ps) map key
    ∙ ap (λ (v : Option (List ℕ)). value_after (last_write map key (writes_of ps)) v) (value_in-nothing map key)
