-- The parts of a body: what is read is encoded so, and what is encoded so is read.
use Rattle.std.proofs.Common.{◌≡◌, ℕ, ◌+◌, ◌^◌, ◌<◌, ◌==◌, nat_lt, Bool, true, ◌&&◌, List, ◌++◌, length, take, Option, None, Result, Ok, refl, sym, ap, ◌∙◌, subst, append_assoc, count_ones, arith}
use Rattle.std.specs.List.{flat_map, list_all}
use Rattle.std.proofs.lemmas.Bool.{and_parts, and_from}
use Rattle.std.proofs.lemmas.Bool.Decides.{nat_tests}
use Rattle.std.proofs.lemmas.List.{length-take-le}
use Rattle.gl_base.specs.Cut.{Unread, bytes_at, number_at}
use Rattle.gl_base.specs.Code.{field}
use Rattle.gl_base.specs.Bytes.{are_bytes, is_digest}
use Rattle.gl_base.specs.LittleEndian.{little_endian}
use Rattle.gl_base.specs.Row.{map_name_bytes, key_bytes, value_bytes}
use Rattle.gl_base.specs.declared.fault.CodeFault.{CodeFault}
use Rattle.gl_base.proofs.ByteLists.{AreBytes, are_bytes-true, AreBytes-prefix, AreBytes-take}
use Rattle.gl_base.proofs.Fields.{bytes_at-encoded, bytes_at-append, number_encoded, number_at-encoded}
use Rattle.gl_base.proofs.LittleEndianLaws.{from_little_endian-lt}
use Rattle.gl_base.proofs.Numbers.{bytes_at_length, number_at_ok}
use Rattle.gl_base.proofs.ParsedBytes.{Encoded, IsEncoded, Gets, IsRead, both_parts, bytes_left}
use Rattle.gl_base.proofs.RowLaws.{field_ok, map_name-encoded, map_name-reads, key-encoded, key-reads, value-encoded, value-reads}
use Rattle.gl_base.proofs.Steps.{bind_ok}
use Rattle.gl_vmaps.specs.Name.{is_map_name, is_key, is_value, value_limit}
use Rattle.gl_vmaps.specs.Rows.{are_ascending}
use Rattle.gl_vmaps.specs.declared.row.Row.{Row}
use Rattle.gl_snapshot_body.specs.declared.body.ViewStart.{ViewStart}
use Rattle.gl_snapshot_body.specs.Body.{start_bytes, counted_bytes, row_bytes, is_base, is_start, is_next_start, is_start_after, follow, are_starts, are_peaks, is_row, are_rows}
use Rattle.gl_snapshot_body.specs.Parsing.{required, repeated_at, base_at, start_at, starts_at, peak_at, peaks_at, row_at, rows_at}
use Rattle.gl_snapshot_body.proofs.Loop.{Next}
use Rattle.gl_snapshot_body.proofs.Following.{repeated-encoded, repeated-read, alone, alone-all, all-alone, both, both-parts, both-from}
use Rattle.gl_snapshot_body.proofs.Ascending.{stands_after, ascending-from, from-ascending, required_ok, row_read}

-- ---- a number

abbrev pub numbered_at : ℕ → Unread → Result (ℕ × Unread) CodeFault
numbered_at size unread = field (number_at size unread)

abbrev pub is_within : ℕ → ℕ → Bool
is_within size n = nat_lt n (256 ^ size)

pub number-encoded : (size : ℕ) → IsEncoded (numbered_at size) (little_endian size) (is_within size)
number-encoded size old new n all e =
    let read = field_ok (number_at size old) (n, new) e in
    let number = number_at_ok size n old new read in
    let prefix : AreBytes (take size old.bytes) = AreBytes-take size old.bytes all in
    let long : length number.bytes ≡ size = ap length number.taken.prefix ∙ length-take-le size old.bytes number.taken.enough in
    let small = from_little_endian-lt number.bytes (subst AreBytes (sym number.taken.prefix) prefix) in
    let bound : 256 ^ length number.bytes ≡ 256 ^ size = ap (λ (k : ℕ). 256 ^ k) long in
    let below : n < 256 ^ size = omega (arith, number.value, small, bound) in
    let parts = number_encoded size n old new prefix read in
    record { parts = parts; left = bytes_left old.bytes (little_endian size n) new.bytes all parts; limits = grind (arith, nat_tests) }

pub number-read : (size : ℕ) → IsRead (numbered_at size) (little_endian size) (is_within size)
number-read size at n rest is =
    let small : n < 256 ^ size = grind (arith, nat_tests) in
    record { place = at + size; read = ap field (number_at-encoded size at n rest small) }

-- ---- a base

pub base-encoded : IsEncoded base_at (little_endian 8) is_base
unfolding base_at
base-encoded old new base all e =
    let read = bind_ok {E = CodeFault} (field (number_at 8 old)) _ (base, new) e in
    let holds = required_ok (is_base read.0.0) old.at read.0 (base, new) read.2 in
    let there = number-encoded 8 old read.0.1 read.0.0 all read.1 in
    subst (λ (y : ℕ × Unread). Encoded (little_endian 8) is_base old y.0 y.1) {x = read.0} holds.1
    (record { parts = there.parts; left = there.left; limits = holds.0 })

base-small : (base : ℕ) → is_base base ≡ true → is_within 8 base ≡ true
base-small base is = grind (arith, nat_tests)

pub base-read : IsRead base_at (little_endian 8) is_base
unfolding base_at
base-read at base rest is =
    let there = number-read 8 at base rest (base-small base is) in
    record { place = there.place; read = rw (there.read, is) refl }

-- ---- the start of a view

start-encoded : (base : ℕ) (last : Option ViewStart) → IsEncoded (start_at base last) start_bytes (is_start_after base last)
unfolding start_at
start-encoded base last old new v all e =
    let view = bind_ok {E = CodeFault} (field (number_at 4 old)) _ (v, new) e in
    let seqno = bind_ok {E = CodeFault} (field (number_at 8 view.0.1)) _ (v, new) view.2 in
    let made : ViewStart = record { view = view.0.0; seqno = seqno.0.0 } in
    let gave : ViewStart × Unread = (made, seqno.0.1) in
    let holds = required_ok (is_next_start base last made) old.at gave (v, new) seqno.2 in
    let a = number-encoded 4 old view.0.1 view.0.0 all view.1 in
    let b = number-encoded 8 view.0.1 seqno.0.1 seqno.0.0 a.left seqno.1 in
    subst (λ (y : ViewStart × Unread). Encoded start_bytes (is_start_after base last) old y.0 y.1) {x = gave} holds.1
    (record {
      parts = both_parts old.bytes (little_endian 4 view.0.0) view.0.1.bytes (little_endian 8 seqno.0.0) seqno.0.1.bytes a.parts b.parts;
      left = b.left;
      limits = and_from (is_start made) (is_next_start base last made) (and_from (is_within 4 view.0.0) (is_within 8 seqno.0.0) a.limits b.limits) holds.0;
    })

start_made : (base : ℕ) (last : Option ViewStart) (old mid new : Unread) (v : ViewStart) → field (number_at 4 old) ≡ Ok (v.view, mid) → field (number_at 8 mid) ≡ Ok (v.seqno, new)
    → is_next_start base last v ≡ true → start_at base last old ≡ Ok (v, new)
unfolding start_at
start_made base last old mid new v view seqno next = rw (view, seqno, next) refl

start-read : (base : ℕ) (last : Option ViewStart) → IsRead (start_at base last) start_bytes (is_start_after base last)
start-read base last at v rest is =
    let parts = and_parts (is_start v) (is_next_start base last v) is in
    let fits = and_parts (is_within 4 v.view) (is_within 8 v.seqno) parts.0 in
    let view = number-read 4 at v.view (little_endian 8 v.seqno ++ rest) fits.0 in
    let seqno = number-read 8 view.place v.seqno rest fits.1 in
    let old : Unread = record { at = at; bytes = little_endian 4 v.view ++ (little_endian 8 v.seqno ++ rest) } in
    let mid : Unread = record { at = view.place; bytes = little_endian 8 v.seqno ++ rest } in
    let new : Unread = record { at = seqno.place; bytes = rest } in
    record {
      place = seqno.place;
      read =
          ap (λ (ys : List ℕ). start_at base last (record { at = at; bytes = ys })) (append_assoc (little_endian 4 v.view) (little_endian 8 v.seqno) rest)
          ∙ start_made base last old mid new v view.read seqno.read parts.1;
    }

-- ---- so many, after their count

abbrev pub are_counted : {X : Type 0} → (List X → Bool) → List X → Bool
are_counted are xs = is_within 4 (length xs) && are xs

counted-encoded : {X : Type 0} (one : Next X) (bytes : X → List ℕ) (may : Option X → X → Bool) → ((last : Option X) → IsEncoded (one last) bytes (may last))
    → (old mid new : Unread) (count : ℕ) (xs : List X) → AreBytes old.bytes → field (number_at 4 old) ≡ Ok (count, mid) → repeated_at one None count mid ≡ Ok (xs, new)
    → Encoded (counted_bytes bytes) (are_counted (follow may None)) old xs new × (length xs ≡ count)
counted-encoded {X} one bytes may encoded old mid new count xs all read others =
    let a = number-encoded 4 old mid count all read in
    let b = repeated-encoded one bytes may encoded count None mid (xs, new) a.left others in
    let parts : old.bytes ≡ counted_bytes bytes xs ++ new.bytes =
    both_parts old.bytes (little_endian 4 count) mid.bytes (flat_map bytes xs) new.bytes a.parts b.0.parts
    ∙ ap (λ (n : ℕ). (little_endian 4 n ++ flat_map bytes xs) ++ new.bytes) (sym b.1) in
    let small : is_within 4 (length xs) ≡ true = ap (is_within 4) b.1 ∙ a.limits in
    (record { parts = parts; left = b.0.left; limits = and_from (is_within 4 (length xs)) (follow may None xs) small b.0.limits }, b.1)

-- The count reads, and then the others.
record Counted {X : Type 0} (one : Next X) (at : ℕ) (bytes : X → List ℕ) (xs : List X) (rest : List ℕ) : Type 0 where
  pub mid : Unread
  pub count : field (number_at 4 (record { at = at; bytes = counted_bytes bytes xs ++ rest })) ≡ Ok (length xs, mid)
  pub others : Gets (repeated_at one None (length xs) mid) xs rest

counted-read : {X : Type 0} (one : Next X) (bytes : X → List ℕ) (may : Option X → X → Bool) → ((last : Option X) → IsRead (one last) bytes (may last))
    → (at : ℕ) (xs : List X) (rest : List ℕ) → is_within 4 (length xs) ≡ true → follow may None xs ≡ true → Counted one at bytes xs rest
counted-read one bytes may read at xs rest small all =
    let count = number-read 4 at (length xs) (flat_map bytes xs ++ rest) small in
    record {
      mid = record { at = count.place; bytes = flat_map bytes xs ++ rest };
      count =
          ap (λ (ys : List ℕ). field (number_at 4 (record { at = at; bytes = ys }))) (append_assoc (little_endian 4 (length xs)) (flat_map bytes xs) rest)
          ∙ count.read;
      others = repeated-read one bytes may read count.place None xs rest all;
    }

-- ---- the starts of the views

pub starts-encoded : (base : ℕ) → IsEncoded (starts_at base) (counted_bytes start_bytes) (are_counted (are_starts base))
unfolding starts_at
starts-encoded base old new vs all e =
    let count = bind_ok {E = CodeFault} (field (number_at 4 old)) _ (vs, new) e in
    (counted-encoded (start_at base) start_bytes (is_start_after base) (start-encoded base) old count.0.1 new count.0.0 vs all count.1 count.2).0

pub starts-read : (base : ℕ) → IsRead (starts_at base) (counted_bytes start_bytes) (are_counted (are_starts base))
unfolding starts_at
starts-read base at vs rest is =
    let parts = and_parts (is_within 4 (length vs)) (are_starts base vs) is in
    let there = counted-read (start_at base) start_bytes (is_start_after base) (start-read base) at vs rest parts.0 parts.1 in
    record { place = there.others.place; read = rw (there.count, there.others.read) refl }

-- ---- the peaks

abbrev pub itself : List ℕ → List ℕ
itself xs = xs

peak-encoded : (last : Option (List ℕ)) → IsEncoded (peak_at last) itself (alone is_digest last)
unfolding peak_at
peak-encoded last old new xs all e =
    let read = field_ok (bytes_at 32 old) (xs, new) e in
    let parts = bytes_at-encoded 32 old new xs read in
    let each = AreBytes-prefix xs new.bytes (subst AreBytes parts all) in
    let long : (length xs == 32) ≡ true = let n = bytes_at_length 32 old new xs read in grind (arith, nat_tests) in
    record {
      parts = parts;
      left = bytes_left old.bytes xs new.bytes all parts;
      limits = and_from (length xs == 32) (are_bytes xs) long (are_bytes-true xs each);
    }

peak-read : (last : Option (List ℕ)) → IsRead (peak_at last) itself (alone is_digest last)
unfolding peak_at
peak-read last at xs rest is =
    let parts = and_parts (length xs == 32) (are_bytes xs) is in
    let long : length xs ≡ 32 = grind (arith, nat_tests, parts.0) in
    record {
      place = at + length xs;
      read = subst (λ (n : ℕ). field (bytes_at n (record { at = at; bytes = xs ++ rest })) ≡ Ok (xs, record { at = at + length xs; bytes = rest })) long (ap field (bytes_at-append at xs rest));
    }

pub peaks-encoded : (base : ℕ) → IsEncoded (peaks_at base) (counted_bytes itself) (are_counted (are_peaks base))
unfolding peaks_at
peaks-encoded base old new peaks all e =
    let count = bind_ok {E = CodeFault} (field (number_at 4 old)) _ (peaks, new) e in
    let ones = bind_ok {E = CodeFault} (required (count.0.0 == count_ones base) old.at count.0) _ (peaks, new) count.2 in
    let holds = required_ok (count.0.0 == count_ones base) old.at count.0 ones.0 ones.1 in
    let others : repeated_at peak_at None count.0.0 count.0.1 ≡ Ok (peaks, new) =
    subst (λ (y : ℕ × Unread). repeated_at peak_at None y.0 y.1 ≡ Ok (peaks, new)) {y = count.0} (sym holds.1) ones.2 in
    let there = counted-encoded peak_at itself (alone is_digest) peak-encoded old count.0.1 new count.0.0 peaks all count.1 others in
    let parts = and_parts (is_within 4 (length peaks)) (follow (alone is_digest) None peaks) there.0.limits in
    let number : (length peaks == count_ones base) ≡ true = ap (λ (n : ℕ). n == count_ones base) there.1 ∙ holds.0 in
    record {
      parts = there.0.parts;
      left = there.0.left;
      limits =
          and_from (is_within 4 (length peaks)) (are_peaks base peaks) parts.0
          (and_from (length peaks == count_ones base) (list_all is_digest peaks) number (alone-all is_digest None peaks parts.1));
    }

peaks_made : (base count : ℕ) (old mid : Unread) (read : List (List ℕ) × Unread) → field (number_at 4 old) ≡ Ok (count, mid) → (count == count_ones base) ≡ true
    → repeated_at peak_at None count mid ≡ Ok read → peaks_at base old ≡ Ok read
unfolding peaks_at
peaks_made base count old mid read counted ones others = rw (counted, ones) others

pub peaks-read : (base : ℕ) → IsRead (peaks_at base) (counted_bytes itself) (are_counted (are_peaks base))
peaks-read base at peaks rest is =
    let parts = and_parts (is_within 4 (length peaks)) (are_peaks base peaks) is in
    let are = and_parts (length peaks == count_ones base) (list_all is_digest peaks) parts.1 in
    let there = counted-read peak_at itself (alone is_digest) peak-read at peaks rest parts.0 (all-alone is_digest None peaks are.1) in
    let old : Unread = record { at = at; bytes = counted_bytes itself peaks ++ rest } in
    let new : Unread = record { at = there.others.place; bytes = rest } in
    record { place = there.others.place; read = peaks_made base (length peaks) old there.mid (peaks, new) there.count are.0 there.others.read }

-- ---- the rows

abbrev is_next_row : Option Row → Row → Bool
is_next_row last r = both is_row stands_after last r

row-encoded : (last : Option Row) → IsEncoded (row_at last) row_bytes (is_next_row last)
row-encoded last old new r all e =
    let read = row_read last old new r e in
    let map = map_name-encoded old read.after_map r.map all read.map in
    let key = key-encoded read.after_map read.after_key r.key map.rest read.key in
    let value = value-encoded value_limit read.after_key new r.value key.rest read.value in
    let names = both_parts old.bytes (map_name_bytes r.map) read.after_map.bytes (key_bytes r.key) read.after_key.bytes map.bytes key.bytes in
    record {
      parts = both_parts old.bytes (map_name_bytes r.map ++ key_bytes r.key) read.after_key.bytes (value_bytes r.value) new.bytes names value.bytes;
      left = value.rest;
      limits =
          and_from (is_row r) (stands_after last r)
          (and_from (is_map_name r.map && is_key r.key) (is_value r.value) (and_from (is_map_name r.map) (is_key r.key) map.valid key.valid) value.valid) read.stands;
    }

row_lies : (a b c rest : List ℕ) → ((a ++ b) ++ c) ++ rest ≡ a ++ (b ++ (c ++ rest))
row_lies a b c rest = append_assoc (a ++ b) c rest ∙ append_assoc a b (c ++ rest)

row-read : (last : Option Row) → IsRead (row_at last) row_bytes (is_next_row last)
unfolding row_at
row-read last at r rest is =
    let parts = and_parts (is_row r) (stands_after last r) is in
    let fields = and_parts (is_map_name r.map && is_key r.key) (is_value r.value) parts.0 in
    let names = and_parts (is_map_name r.map) (is_key r.key) fields.0 in
    let stands = parts.1 in
    let map = map_name-reads at r.map (key_bytes r.key ++ (value_bytes r.value ++ rest)) names.0 in
    let after_map : ℕ = at + length (map_name_bytes r.map) in
    let key = key-reads after_map r.key (value_bytes r.value ++ rest) names.1 in
    let after_key : ℕ = after_map + length (key_bytes r.key) in
    let value = value-reads value_limit after_key r.value rest (omega arith) fields.1 in
    record {
      place = after_key + length (value_bytes r.value);
      read =
          ap (λ (ys : List ℕ). row_at last (record { at = at; bytes = ys })) (row_lies (map_name_bytes r.map) (key_bytes r.key) (value_bytes r.value) rest)
          ∙ rw (map, key, stands, value) refl;
    }

pub rows-encoded : IsEncoded rows_at (counted_bytes row_bytes) (are_counted are_rows)
unfolding rows_at
rows-encoded old new rows all e =
    let count = bind_ok {E = CodeFault} (field (number_at 4 old)) _ (rows, new) e in
    let there = counted-encoded row_at row_bytes is_next_row row-encoded old count.0.1 new count.0.0 rows all count.1 count.2 in
    let parts = and_parts (is_within 4 (length rows)) (follow is_next_row None rows) there.0.limits in
    let are = both-parts is_row stands_after None rows parts.1 in
    record {
      parts = there.0.parts;
      left = there.0.left;
      limits =
          and_from (is_within 4 (length rows)) (are_rows rows) parts.0
          (and_from (list_all is_row rows) (are_ascending rows) are.0 (ascending-from None rows are.1));
    }

pub rows-read : IsRead rows_at (counted_bytes row_bytes) (are_counted are_rows)
unfolding rows_at
rows-read at rows rest is =
    let parts = and_parts (is_within 4 (length rows)) (are_rows rows) is in
    let are = and_parts (list_all is_row rows) (are_ascending rows) parts.1 in
    let there = counted-read row_at row_bytes is_next_row row-read at rows rest parts.0 (both-from is_row stands_after None rows are.0 (from-ascending rows are.1)) in
    record { place = there.others.place; read = rw (there.count, there.others.read) refl }
