-- Rows of governance that spell have the service's row, and after its two bytes stand the 60 of the
-- service's key.
use Rattle.std.proofs.Common.{◌≡◌, ◌⊎◌, IsSomeAnd, ap₂, inl, inr, ℕ, ◌+◌, List, [], ◌∷◌, length, take, drop, Option, Some, None, Result, Ok, Err, IfOk, Bool, true, false, cond, ◌&&◌, ◌==◌, nat_lt, is_some, if◌then◌else◌, refl, sym, ◌∙◌, ap, subst, arith, length-drop}
use Rattle.std.specs.Option.{option_or}
use Rattle.std.specs.Result.{result_ok}
use Rattle.std.proofs.lemmas.Bool.{and_parts}
use Rattle.std.proofs.lemmas.Bool.Decides.{nat_tests}
use Rattle.gl_base.specs.Bytes.{same_bytes}
use Rattle.gl_base.specs.Cut.{Unread, bytes_at, number_at, end_of}
use Rattle.gl_base.specs.LittleEndian.{from_little_endian}
use Rattle.gl_base.specs.Code.{field, flag_in, flag_at, whole, ended}
use Rattle.gl_base.specs.Steps.{◌>>=◌}
use Rattle.gl_base.specs.declared.fault.CodeFault.{CodeFault}
use Rattle.gl_base.specs.declared.fault.CodeFault.TheVariants as faults
use Rattle.gl_base.specs.declared.fault.CutFault.{CutFault}
use Rattle.gl_base.specs.declared.fault.CutFault.TheVariants as cuts
use Rattle.gl_vmaps.specs.Name.{is_governance}
use Rattle.gl_vmaps.specs.Rows.{row_write, row_writes, tables_with}
use Rattle.gl_vmaps.specs.Tables.{Tables, no_tables, value_in, wrote, wrote_all}
use Rattle.gl_vmaps.specs.Versions.{is_to_row}
use Rattle.gl_vmaps.specs.declared.row.Row.{Row}
use Rattle.gl_vmaps.proofs.SameValues.{same_bytes_is}
use Rattle.gl_vmaps.proofs.TablesLaws.{same_bytes-symm, value_in-wrote}
use Rattle.gl_requests.specs.Encoding.{state_byte}
use Rattle.gl_requests.specs.declared.genesis.ServiceState.TheVariants as services
use Rattle.gl_gov_rules.specs.Rows.{service_map, service_key, members_map, nodes_map, proposals_map, constitution_map, dealing_map, shares_map}
use Rattle.gl_gov_rules.specs.declared.row.GovernedRows.{GovernedRows}
use Rattle.gl_gov_rules.specs.declared.row.ServiceRow.{ServiceRow}
use Rattle.gl_gov_rules.specs.GovernedRows.{no_rows, one_with, one_of_at, service_row_at, with_row, governed_rows}
use Rattle.gl_gov_base.proofs.RowKinds.{is_service_key, read_service, service_of}
use Rattle.gl_gov_base.proofs.RowsCollected.{Adds, Service, Member, Node, Proposed, Ruled, Dealt, Shared, row_adds, service_added, and_then, with_rows, Ended, rows_ended}
use Rattle.gl_ledger.specs.ServiceRow.{identity_of_value}

-- ---- how many bytes a service's row has

-- a reading that takes so many bytes
abbrev Takes : {X : Type 0} → ℕ → Unread → Result (X × Unread) CodeFault → Type 0
Takes n u r = IfOk r (λ x. length u.bytes ≡ n + length x.1.bytes)

then_takes : {X Y : Type 0} (m n : ℕ) (u : Unread) (r : Result (X × Unread) CodeFault) (next : X × Unread → Result (Y × Unread) CodeFault) → Takes m u r → ((x : X × Unread) → Takes n x.1 (next x)) →
    Takes (m + n) u (r >>= next)
then_takes {Y = Y} m n u (Ok x) next first rest = go (next x) (rest x)
  where
    go : (o : Result (Y × Unread) CodeFault) → Takes n x.1 o → Takes (m + n) u o
    go (Ok y) more =
        let one : length u.bytes ≡ m + length x.1.bytes = first in
        let two : length x.1.bytes ≡ n + length y.1.bytes = more in
        let both : length u.bytes ≡ m + n + length y.1.bytes = omega (arith, one, two) in
        both
    go (Err e) more = tt
then_takes m n u (Err e) next first rest = tt

taken : (n : ℕ) (u : Unread) → IfOk (bytes_at n u) (λ x. length u.bytes ≡ n + length x.1.bytes)
unfolding bytes_at
taken n u = go (nat_lt (length u.bytes) n) refl
  where
    go : (b : Bool) → nat_lt (length u.bytes) n ≡ b → IfOk {T = List ℕ × Unread} (cond b (Err (cuts.Short (end_of u))) (Ok (take n u.bytes, record { at = u.at + n; bytes = drop n u.bytes }))) (λ x. length u.bytes ≡ n + length x.1.bytes)
    go true is = tt
    go false is =
        let some = length-drop n u.bytes in
        let sum : length u.bytes ≡ n + length (drop n u.bytes) = grind (arith, nat_tests, is, some) in
        sum

bytes_take : (n : ℕ) (u : Unread) → Takes n u (field (bytes_at n u))
bytes_take n u = go (bytes_at n u) (taken n u)
  where
    go : (r : Result (List ℕ × Unread) CutFault) → IfOk r (λ x. length u.bytes ≡ n + length x.1.bytes) → Takes n u (field r)
    go (Ok x) is = is
    go (Err e) is = tt

abbrev number_in : List ℕ × Unread → Result (ℕ × Unread) CutFault
number_in x = Ok (from_little_endian x.0, x.1)

number_takes : (n : ℕ) (u : Unread) → Takes n u (field (number_at n u))
unfolding number_at
number_takes n u = go (bytes_at n u) (taken n u)
  where
    go : (r : Result (List ℕ × Unread) CutFault) → IfOk r (λ x. length u.bytes ≡ n + length x.1.bytes) → Takes n u (field (r >>= number_in))
    go (Ok x) is = is
    go (Err e) is = tt

one_with_none : {X : Type 0} (byte : X → ℕ) (xs : List X) (place : ℕ) (b : ℕ × Unread) → Takes 0 b.1 (one_with byte xs place b)
one_with_none byte [] place b = tt
one_with_none {X = X} byte (x ∷ xs) place b = pick (byte x == b.0) (one_with_none byte xs place b)
  where
    pick : (c : Bool) → Takes 0 b.1 (one_with byte xs place b) → Takes 0 b.1 (cond c (Ok (x, b.1)) (one_with byte xs place b))
    pick true rest = let same : length b.1.bytes ≡ 0 + length b.1.bytes = omega arith in same
    pick false rest = rest

one_of_takes : {X : Type 0} (byte : X → ℕ) (xs : List X) (u : Unread) → Takes 1 u (one_of_at byte xs u)
unfolding one_of_at
one_of_takes byte xs u = then_takes 1 0 u (field (number_at 1 u)) (one_with byte xs u.at) (number_takes 1 u) (one_with_none byte xs u.at)

flag_takes : (u : Unread) → Takes 1 u (flag_at u)
unfolding flag_at
flag_takes u = then_takes 1 0 u (field (number_at 1 u)) (flag_in u.at) (number_takes 1 u) (λ x. go (x.0 == 0) (x.0 == 1) x)
  where
    same : (x : ℕ × Unread) → length x.1.bytes ≡ 0 + length x.1.bytes
    same x = omega arith

    go : (a b : Bool) (x : ℕ × Unread) → Takes {X = Bool} 0 x.1 (cond a (Ok (false, x.1)) (cond b (Ok (true, x.1)) (Err (faults.Value u.at))))
    go true b x = same x
    go false true x = same x
    go false false x = tt

service_takes : (u : Unread) → Takes 62 u (service_row_at u)
unfolding service_row_at
service_takes u =
    then_takes 1 61 u (one_of_at state_byte (services.Opening ∷ services.Open ∷ services.WaitingForRecoveryShares ∷ []) u) _ (one_of_takes state_byte _ u)
    (λ state. then_takes 1 60 state.1 (flag_at state.1) _ (flag_takes state.1)
    (λ recovered. then_takes 60 0 recovered.1 (field (bytes_at 60 recovered.1)) _ (bytes_take 60 recovered.1) (λ key. let same : length key.1.bytes ≡ 0 + length key.1.bytes = omega arith in same)))

-- a value that is read as a service's row
service_sized : (v : List ℕ) → IfOk (whole service_row_at v) (λ s. length v ≡ 62)
service_sized v = go (service_row_at (record { at = 0; bytes = v })) (service_takes (record { at = 0; bytes = v }))
  where
    go : (r : Result (ServiceRow × Unread) CodeFault) → Takes 62 (record { at = 0; bytes = v }) r → IfOk (r >>= ended) (λ s. length v ≡ 62)
    go (Err e) is = tt
    go (Ok x) is = pick (length x.1.bytes == 0) refl
      where
        pick : (b : Bool) → (length x.1.bytes == 0) ≡ b → IfOk (cond b (Ok x.0) (Err (faults.Trailing x.1.at))) (λ s. length v ≡ 62)
        pick true none = let rest : length x.1.bytes ≡ 0 = grind (arith, nat_tests, none) in let some : length v ≡ 62 + length x.1.bytes = is in let all : length v ≡ 62 = omega (arith, some, rest) in all
        pick false none = tt

-- ---- the rows, one after another

-- the value of the service's row is as long as one
abbrev pub IsServiceValue : Option (List ℕ) → Type 0
IsServiceValue o = IsSomeAnd o (λ v. length v ≡ 62)

abbrev pub service_in : Tables → Option (List ℕ)
service_in t = value_in t service_map service_key

-- the tables have the row, or none was read
abbrev Has : Tables → GovernedRows → Type 0
Has t g = IsServiceValue (service_in t) ⊎ (g.service ≡ None)

abbrev is_service : Row → Bool
is_service r = same_bytes r.map service_map && is_service_key r.key

row_is : (r : Row) → is_to_row service_map service_key (row_write r) ≡ is_service r
row_is r = ap₂ (λ (a b : Bool). a && b) (same_bytes-symm service_map r.map) (same_bytes-symm service_key r.key)

after_row : (t : Tables) (r : Row) (b : Bool) → is_service r ≡ b → service_in (wrote t (row_write r)) ≡ (if b then Some r.value else service_in t)
after_row t r b is = value_in-wrote t (row_write r) service_map service_key ∙ ap (λ (x : Bool). if x then Some r.value else service_in t) (row_is r ∙ is)

other : (own : List ℕ) (r : Row) {X : Type 0} → same_bytes r.map own ≡ true → same_bytes own service_map ≡ false → is_service r ≡ true → X
other own r is differ h =
    absurd (let here = (and_parts (same_bytes r.map service_map) (is_service_key r.key) h).0 in let not_so : same_bytes r.map service_map ≡ false = ap (λ (m : List ℕ). same_bytes m service_map) (same_bytes_is r.map own is) ∙ differ in cc)

-- the service's own row was read
read_own : (g : GovernedRows) (r : Row) (next : GovernedRows) → Adds g r next → is_service r ≡ true → length r.value ≡ 62
read_own g r next (Service x is ok got same) h = sized (whole service_row_at r.value) (service_sized r.value) got
  where
    sized : (o : Result ServiceRow CodeFault) → IfOk o (λ s. length r.value ≡ 62) → result_ok o ≡ Some x → length r.value ≡ 62
    sized (Ok s) long got = long
    sized (Err e) long got = absurd (cc)
read_own g r next (Member x is ok got same) h = other members_map r is refl h
read_own g r next (Node x is ok got same) h = other nodes_map r is refl h
read_own g r next (Proposed x is ok got same) h = other proposals_map r is refl h
read_own g r next (Ruled x is ok got same) h = other constitution_map r is refl h
read_own g r next (Dealt x is ok got same) h = other dealing_map r is refl h
read_own g r next (Shared x is ok got same) h = other shares_map r is refl h

-- a row that is not the service's reads as none
reads_none : (r : Row) → is_service r ≡ false → service_of (row_write r) ≡ None
reads_none r is = ap (λ (b : Bool). cond b (read_service r.key r.value) None) is

quiet : (t : Tables) (g next : GovernedRows) (r : Row) → is_service r ≡ false → next.service ≡ g.service → Has t g → Has (wrote t (row_write r)) next
quiet t g next r is same (inl long) = inl (subst IsServiceValue (sym (after_row t r false is)) long)
quiet t g next r is same (inr none) = inr (same ∙ none)

one_more : (t : Tables) (g next : GovernedRows) (r : Row) → with_row g r ≡ Some next → Has t g → Has (wrote t (row_write r)) next
one_more t g next r reads has = go (is_service r) refl
  where
    adds : Adds g r next
    adds = row_adds g r next reads

    go : (b : Bool) → is_service r ≡ b → Has (wrote t (row_write r)) next
    go true is = inl (subst IsServiceValue (sym (after_row t r true is)) (read_own g r next adds is))
    go false is = quiet t g next r is (service_added g r next adds ∙ ap (λ (o : Option ServiceRow). option_or o g.service) (reads_none r is)) has

ungoverned_row : (r : Row) → is_governance r.map ≡ false → is_service r ≡ false
ungoverned_row r is = go (is_service r) refl
  where
    go : (b : Bool) → is_service r ≡ b → b ≡ false
    go false h = refl
    go true h =
        absurd (let here = (and_parts (same_bytes r.map service_map) (is_service_key r.key) h).0 in let so : is_governance r.map ≡ true = ap is_governance (same_bytes_is r.map service_map here) in cc)

all_more : (t : Tables) (g : GovernedRows) (rs : List Row) (last : GovernedRows) → with_rows g rs ≡ Some last → Has t g → Has (wrote_all t (row_writes rs)) last
all_more t g [] last reads has = subst (Has t) (let same : g ≡ last = cc in same) has
all_more t g (r ∷ rs) last reads has = go (is_governance r.map) refl reads (all_more (wrote t (row_write r)) g rs last) (λ next. all_more (wrote t (row_write r)) next rs last)
  where
    put : (o : Option GovernedRows) → with_row g r ≡ o → and_then o (λ next. with_rows next rs) ≡ Some last →
        ((next : GovernedRows) → with_rows next rs ≡ Some last → Has (wrote t (row_write r)) next → Has (wrote_all t (row_writes (r ∷ rs))) last) → Has (wrote_all t (row_writes (r ∷ rs))) last
    put None at w rest = absurd (cc)
    put (Some next) at w rest = rest next w (one_more t g next r at has)

    go : (b : Bool) → is_governance r.map ≡ b → cond b (and_then (with_row g r) (λ next. with_rows next rs)) (with_rows g rs) ≡ Some last →
        (with_rows g rs ≡ Some last → Has (wrote t (row_write r)) g → Has (wrote_all t (row_writes (r ∷ rs))) last) →
        ((next : GovernedRows) → with_rows next rs ≡ Some last → Has (wrote t (row_write r)) next → Has (wrote_all t (row_writes (r ∷ rs))) last) → Has (wrote_all t (row_writes (r ∷ rs))) last
    go true is w same rest = put (with_row g r) refl w rest
    go false is w same rest = same w (quiet t g g r (ungoverned_row r is) refl has)

ended_at : (seqno : ℕ) (rows : List Row) (g : GovernedRows) → governed_rows seqno rows ≡ Ok g → Ended (no_rows seqno) rows g
unfolding governed_rows
ended_at seqno rows g spelled = rows_ended 0 (no_rows seqno) rows g spelled

-- tables with rows that spell have the service's row
pub service_at_base : (seqno : ℕ) (rows : List Row) (g : GovernedRows) → governed_rows seqno rows ≡ Ok g → IsServiceValue (service_in (tables_with rows))
service_at_base seqno rows g spelled = go (all_more no_tables (no_rows seqno) rows ended.last ended.reached (inr refl))
  where
    ended : Ended (no_rows seqno) rows g
    ended = ended_at seqno rows g spelled

    go : Has (wrote_all no_tables (row_writes rows)) ended.last → IsServiceValue (service_in (tables_with rows))
    go (inl long) = long
    go (inr none) =
        absurd (let full = (and_parts (is_some ended.last.service) (is_some ended.last.dealing) (and_parts (is_some ended.last.service && is_some ended.last.dealing) (length ended.last.rules == 7) ended.full).0).0 in
        let not_so : is_some ended.last.service ≡ false = ap is_some none in cc)

-- after two bytes of it stand the 60 of the key
pub key_in_value : (o : Option (List ℕ)) → IsServiceValue o → length (identity_of_value o) ≡ 60
key_in_value None long = absurd long
key_in_value (Some v) long = let left = length-drop 2 v in let size : length v ≡ 62 = long in let key : length (drop 2 v) ≡ 60 = omega (arith, left, size) in key
