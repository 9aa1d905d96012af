-- Parts after their count: what their reading takes, what it gives where its encoding stands, and
-- how long that is.
use Rattle.std.proofs.Common.{◌≡◌, ℕ, zero, suc, ◌+◌, ◌-◌, ◌≤◌, ◌<◌, Bool, true, ◌&&◌, List, [], ◌∷◌, ◌++◌, length, Result, Ok, Err, refl, sym, ap, subst, ◌∙◌, append_assoc, length-append, suc-mul, ◌*◌, ◌^◌, nat_le, inl, inr, arith}
use Rattle.std.specs.List.{flat_map, list_all}
use Rattle.std.proofs.lemmas.Bool.{and_parts, and_from, leb-true}
use Rattle.std.proofs.lemmas.List.{append-nil}
use Rattle.std.proofs.Math.Nat.{mul-le-mul_right}
use Rattle.gl_base.specs.LittleEndian.{little_endian}
use Rattle.gl_base.specs.Steps.{◌>>=◌}
use Rattle.gl_base.specs.Cut.{Unread, number_at}
use Rattle.gl_base.specs.Answers.{Fails}
use Rattle.gl_base.specs.Code.{field}
use Rattle.gl_base.specs.declared.fault.CodeFault.{CodeFault}
use Rattle.gl_base.specs.declared.or_no_memory.OrNoMemory.{OrNoMemory}
use Rattle.gl_base.specs.declared.or_no_memory.OrNoMemory.TheVariants.{NoMemory, Fault}
use Rattle.gl_base.specs.declared.fault.CodeFault.TheVariants as faults
use Rattle.gl_base.proofs.Steps.{bind_ok, ok_injective}
use Rattle.gl_base.proofs.LittleEndianLaws.{length-little_endian}
use Rattle.gl_base.proofs.Fields.{number_at-encoded, number_encoded}
use Rattle.gl_base.proofs.ByteLists.{AreBytes, AreBytes-take}
use Rattle.gl_base.proofs.RowLaws.{field_ok}
use Rattle.gl_tx.specs.Request.{is_count}
use Rattle.gl_tx.specs.Parsing.{count_result, count_at}
use Rattle.gl_base.proofs.ParsedBytes.{IsEncoded, IsRead, both_parts, bytes_left, chosen}
use Rattle.gl_base.proofs.Repeated.{Repeats, many-encoded, many-read, length-flat_map-le}

abbrev pub counted_at : {X : Type 0} → (ℕ → Unread → Result (List X × Unread) CodeFault) → Unread → Result (List X × Unread) CodeFault
counted_at many unread = count_at unread >>= λ count. many count.0 count.1

abbrev pub counted_bytes : {X : Type 0} → (X → List ℕ) → List X → List ℕ
counted_bytes bytes xs = little_endian 2 (length xs) ++ flat_map bytes xs

abbrev pub are_counted : {X : Type 0} → (X → Bool) → List X → Bool
are_counted is xs = is_count (length xs) && list_all is xs

count_ok : (place : ℕ) (count read : ℕ × Unread) → count_result place count ≡ Ok read → (is_count read.0 ≡ true) × (count ≡ read)
count_ok place count read e =
    elim (chosen {A = Result (ℕ × Unread) CodeFault} (is_count count.0) (Ok count) (Err (faults.Value place)) (Ok read) e) [
      | inl within ↦
          let same : count ≡ read = ok_injective {A = ℕ × Unread} {E = CodeFault} count read within.1 in
          (subst (λ (y : ℕ × Unread). is_count y.0 ≡ true) same within.0, same)
      | inr without ↦ cc
    ]

count-encoded : IsEncoded count_at (little_endian 2) is_count
unfolding count_at
count-encoded old new n all e =
    let number = bind_ok {A = ℕ × Unread} {B = ℕ × Unread} {E = CodeFault} (field (number_at 2 old)) (count_result old.at) (n, new) e in
    let count = count_ok old.at number.0 (n, new) number.2 in
    let read : number_at 2 old ≡ Ok (n, new) = field_ok (number_at 2 old) number.0 number.1 ∙ ap (λ (y : ℕ × Unread). Ok y) count.1 in
    let parts = number_encoded 2 n old new (AreBytes-take 2 old.bytes all) read in
    record { parts = parts; left = bytes_left old.bytes (little_endian 2 n) new.bytes all parts; limits = count.0 }

count-read : IsRead count_at (little_endian 2) is_count
unfolding count_at
count-read at n rest is =
    let both = and_parts (nat_le 1 n) (nat_le n 64) is in
    let within = leb-true n 64 both.1 in
    let small : n < 256 ^ 2 = omega arith in
    let there = number_at-encoded 2 at n rest small in
    record { place = at + 2; read = rw (there, is) refl }

pub counted-encoded : {X : Type 0} {one : Unread → Result (X × Unread) CodeFault} {many : ℕ → Unread → Result (List X × Unread) CodeFault} → Repeats one many
    → (bytes : X → List ℕ) (is : X → Bool) → IsEncoded one bytes is → IsEncoded (counted_at many) (counted_bytes bytes) (are_counted is)
counted-encoded {X = X} {many = many} repeats bytes is encoded old new xs all e =
    let count = bind_ok {A = ℕ × Unread} {B = List X × Unread} {E = CodeFault} (count_at old) (λ (count : ℕ × Unread). many count.0 count.1) (xs, new) e in
    let first = count-encoded old count.0.1 count.0.0 all count.1 in
    let rest = many-encoded repeats bytes is encoded count.0.0 count.0.1 new xs first.left count.2 in
    let prefix : old.bytes ≡ little_endian 2 (length xs) ++ count.0.1.bytes = subst (λ (n : ℕ). old.bytes ≡ little_endian 2 n ++ count.0.1.bytes) (sym rest.1) first.parts in
    let limits : is_count (length xs) ≡ true = subst (λ (n : ℕ). is_count n ≡ true) (sym rest.1) first.limits in
    record {
      parts = both_parts old.bytes (little_endian 2 (length xs)) count.0.1.bytes (flat_map bytes xs) new.bytes prefix rest.0.parts;
      left = rest.0.left;
      limits = and_from (is_count (length xs)) (list_all is xs) limits rest.0.limits;
    }

pub counted-read : {X : Type 0} {one : Unread → Result (X × Unread) CodeFault} {many : ℕ → Unread → Result (List X × Unread) CodeFault} → Repeats one many
    → (bytes : X → List ℕ) (is : X → Bool) → IsRead one bytes is → IsRead (counted_at many) (counted_bytes bytes) (are_counted is)
counted-read {many = many} repeats bytes is read at xs rest limits =
    let both = and_parts (is_count (length xs)) (list_all is xs) limits in
    let count = count-read at (length xs) (flat_map bytes xs ++ rest) both.0 in
    let others = many-read repeats bytes is read count.place xs rest both.1 in
    let regrouped = append_assoc (little_endian 2 (length xs)) (flat_map bytes xs) rest in
    record {
      place = others.place;
      read = ap (λ (ys : List ℕ). counted_at many (record { at = at; bytes = ys })) regrouped ∙ rw (count.read, others.read) refl;
    }

-- ---- how long its encoding is

pub length-counted_bytes-le : {X : Type 0} → (bytes : X → List ℕ) (is : X → Bool) (most : ℕ) → ((x : X) → is x ≡ true → length (bytes x) ≤ most)
    → (xs : List X) → are_counted is xs ≡ true → length (counted_bytes bytes xs) ≤ 2 + 64 * most
length-counted_bytes-le bytes is most each xs limits =
    let both = and_parts (is_count (length xs)) (list_all is xs) limits in
    let within = leb-true (length xs) 64 (and_parts (nat_le 1 (length xs)) (nat_le (length xs) 64) both.0).1 in
    let others = length-flat_map-le bytes is most each xs both.1 in
    let product = mul-le-mul_right most within in
    omega (arith, length-append (little_endian 2 (length xs)) (flat_map bytes xs), length-little_endian 2 (length xs), others, product)
