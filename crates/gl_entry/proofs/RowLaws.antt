-- The writes of an entry: their encoding reads back, and what reads is encoded so.
use Rattle.std.proofs.Common.{◌≡◌, ℕ, zero, suc, true, ◌&&◌, List, [], ◌∷◌, ◌++◌, length, Option, Some, Ok, refl, sym, ap, ◌∙◌, subst, add-zero, arith}
use Rattle.std.specs.List.{flat_map, list_all}
use Rattle.std.proofs.lemmas.Bool.{and_parts}
use Rattle.std.proofs.lemmas.List.Concat.{flat_map-cons}
use Rattle.gl_base.specs.Cut.{Unread}
use Rattle.gl_base.proofs.ByteLists.{AreBytes}
use Rattle.gl_base.proofs.Steps.{bind_ok, ok_injective}
use Rattle.gl_vmaps.specs.Name.{value_limit, is_map_name, is_key}
use Rattle.gl_vmaps.specs.Writes.{is_write, is_written_value, is_ordered, stands_before}
use Rattle.gl_base.specs.Row.{map_name_bytes, key_bytes, optional_value_bytes, map_name_at, key_at, optional_value_at}
use Rattle.gl_entry.specs.Entry.{write_bytes}
use Rattle.gl_vmaps.specs.declared.write.Write.{Write}
use Rattle.gl_base.proofs.RowLaws.{Took, map_name-encoded, map_name-reads, key-encoded, key-reads, optional_value-encoded, optional_value-reads}
use Rattle.gl_entry.specs.declared.fault.EntryFault.{EntryFault}
use Rattle.gl_entry.specs.declared.fault.EntryFault.TheVariants.{Writes}
use Rattle.gl_entry.specs.Parsing.{part, required, is_after, removal_of, write_at, writes_from}
use Rattle.gl_entry.proofs.Ordered.{part_ok, required_ok, is_after-row, first_after, stands_before-first}
use Rattle.gl_entry.proofs.Parts.{took_then, Lies, lie_both, reads_there}

-- ---- a write

pub write-encoded : (number : ℕ) (before : Option (List ℕ × List ℕ)) (old : Unread) (read : Write × Unread) → AreBytes old.bytes → write_at number before old ≡ Ok read → Took (write_bytes read.0) (is_write read.0) old read.1
unfolding write_at
write-encoded number before old read all e =
    let map = bind_ok {E = EntryFault} (part (map_name_at old)) _ read e in
    let key = bind_ok {E = EntryFault} (part (key_at map.0.1)) _ read map.2 in
    let row = bind_ok {E = EntryFault} (required (is_after before (removal_of map.0.0 key.0.0)) (Writes number) key.0) _ read key.2 in
    let value = bind_ok {E = EntryFault} (part (optional_value_at value_limit row.0.1)) _ read row.2 in
    let holds = required_ok (is_after before (removal_of map.0.0 key.0.0)) (Writes number) key.0 row.0 row.1 in
    let w : Write = record { map = map.0.0; key = key.0.0; value = value.0.0 } in
    let gave : Write × Unread = (w, value.0.1) in
    let same : gave ≡ read = ok_injective {E = EntryFault} gave read value.2 in
    let a = map_name-encoded old map.0.1 map.0.0 all (part_ok (map_name_at old) map.0 map.1) in
    let b = key-encoded map.0.1 key.0.1 key.0.0 a.rest (part_ok (key_at map.0.1) key.0 key.1) in
    let after : key.0.1 ≡ row.0.1 = ap (λ (x : List ℕ × Unread). x.1) holds.1 in
    let value_read : optional_value_at value_limit key.0.1 ≡ Ok value.0 = ap (optional_value_at value_limit) after ∙ part_ok (optional_value_at value_limit row.0.1) value.0 value.1 in
    let c = optional_value-encoded value_limit key.0.1 value.0.1 value.0.0 b.rest value_read in
    let ab = took_then (map_name_bytes w.map) (key_bytes w.key) (is_map_name w.map) (is_key w.key) old map.0.1 key.0.1 a b in
    let whole : Took (write_bytes w) (is_write w) old value.0.1 = took_then (map_name_bytes w.map ++ key_bytes w.key) (optional_value_bytes w.value) (is_map_name w.map && is_key w.key) (is_written_value w.value) old key.0.1 value.0.1 ab c in
    subst (λ (x : Write × Unread). Took (write_bytes x.0) (is_write x.0) old x.1) same whole

pub write-reads : (number : ℕ) (before : Option (List ℕ × List ℕ)) (w : Write) (old new : Unread) → is_write w ≡ true → is_after before w ≡ true → Lies (write_bytes w) old new → write_at number before old ≡ Ok (w, new)
unfolding write_at
write-reads number before w old new is stands there =
    let c = lie_both (map_name_bytes w.map ++ key_bytes w.key) (optional_value_bytes w.value) old new there in
    let b = lie_both (map_name_bytes w.map) (key_bytes w.key) old c.mid c.first in
    let p = and_parts (is_map_name w.map && is_key w.key) (is_written_value w.value) is in
    let q = and_parts (is_map_name w.map) (is_key w.key) p.0 in
    let map_read = reads_there map_name_at w.map (map_name_bytes w.map) old b.mid b.first (map_name-reads old.at w.map b.mid.bytes q.0) in
    let key_read = reads_there key_at w.key (key_bytes w.key) b.mid c.mid b.second (key-reads b.mid.at w.key c.mid.bytes q.1) in
    let value_read = reads_there (optional_value_at value_limit) w.value (optional_value_bytes w.value) c.mid new c.second (optional_value-reads value_limit c.mid.at w.value new.bytes (omega arith) p.1) in
    let row : is_after before (removal_of w.map w.key) ≡ true = is_after-row before w ∙ stands in
    rw (map_read, key_read, row, value_read) refl

-- ---- so many of them

-- What was read are so many writes.
pub record TookWrites (count : ℕ) (ws : List Write) (old new : Unread) : Type 0 where
  pub took : Took (flat_map write_bytes ws) (list_all is_write ws) old new
  pub counted : length ws ≡ count

writes_took : (count : ℕ) (w : Write) (ws : List Write) (old mid new : Unread) → Took (write_bytes w) (is_write w) old mid → TookWrites count ws mid new → TookWrites (suc count) (w ∷ ws) old new
writes_took count w ws old mid new first others =
    let both = took_then (write_bytes w) (flat_map write_bytes ws) (is_write w) (list_all is_write ws) old mid new first others.took in
    record {
      took = subst (λ (xs : List ℕ). Took xs (list_all is_write (w ∷ ws)) old new) (sym (flat_map-cons write_bytes w ws)) both;
      counted = ap suc others.counted;
    }

no_writes_took : (old : Unread) → AreBytes old.bytes → TookWrites 0 [] old old
no_writes_took old all = record { took = record { bytes = refl; place = sym (add-zero old.at); valid = refl; rest = all }; counted = refl }

pub writes-encoded : (number : ℕ) (before : Option (List ℕ × List ℕ)) (count : ℕ) (old : Unread) (read : List Write × Unread) → AreBytes old.bytes → writes_from number before count old ≡ Ok read → TookWrites count read.0 old read.1
unfolding writes_from
writes-encoded number before zero old read all e =
    let gave : List Write × Unread = ([], old) in
    let same : gave ≡ read = ok_injective {E = EntryFault} gave read e in
    subst (λ (x : List Write × Unread). TookWrites 0 x.0 old x.1) same (no_writes_took old all)
writes-encoded number before (suc count) old read all e =
    let first = bind_ok {E = EntryFault} (write_at number before old) _ read e in
    let w = first.0.0 in
    let rest = bind_ok {E = EntryFault} (writes_from (suc number) (Some (w.map, w.key)) count first.0.1) _ read first.2 in
    let gave : List Write × Unread = (w ∷ rest.0.0, rest.0.1) in
    let same : gave ≡ read = ok_injective {E = EntryFault} gave read rest.2 in
    let here = write-encoded number before old first.0 all first.1 in
    let others = writes-encoded (suc number) (Some (w.map, w.key)) count first.0.1 rest.0 here.rest rest.1 in
    subst (λ (x : List Write × Unread). TookWrites (suc count) x.0 old x.1) same (writes_took count w rest.0.0 old first.0.1 rest.0.1 here others)

nothing_lies : (old new : Unread) → Lies [] old new → old ≡ new
nothing_lies old new there =
    let place : old.at ≡ new.at = omega (arith, there.place) in
    ap (λ (at : ℕ). record { at = at; bytes = old.bytes }) place ∙ ap (λ (bytes : List ℕ). record { at = new.at; bytes = bytes }) there.bytes

pub writes-reads : (number : ℕ) (before : Option (List ℕ × List ℕ)) (ws : List Write) (old new : Unread) → list_all is_write ws ≡ true → is_ordered ws ≡ true → first_after before ws ≡ true → Lies (flat_map write_bytes ws) old new
    → writes_from number before (length ws) old ≡ Ok (ws, new)
unfolding writes_from
writes-reads number before [] old new is ordered stands there = ap (λ (u : Unread). Ok ([], u)) (nothing_lies old new there)
writes-reads number before (w ∷ ws) old new is ordered stands there =
    let limits = and_parts (is_write w) (list_all is_write ws) is in
    let order = and_parts (stands_before w.map w.key ws) (is_ordered ws) ordered in
    let both = lie_both (write_bytes w) (flat_map write_bytes ws) old new (subst (λ (xs : List ℕ). Lies xs old new) (flat_map-cons write_bytes w ws) there) in
    let here = write-reads number before w old both.mid limits.0 stands both.first in
    let others = writes-reads (suc number) (Some (w.map, w.key)) ws both.mid new limits.1 order.1 (stands_before-first w.map w.key ws ∙ order.0) both.second in
    rw (here, others) refl
