-- Records are read as they are encoded.
use Rattle.std.proofs.Common.{◌≡◌, nat_lt, false, ℕ, ◌+◌, ◌^◌, ◌<◌, ◌≤◌, List, [], ◌∷◌, ◌++◌, length, get_or, take, drop, Option, None, Some, refl, sym, ◌∙◌, ap, subst, arith, append_assoc, length-append}
use Rattle.std.proofs.lemmas.Bool.Decides.{nat_tests}
use Rattle.std.proofs.lemmas.List.{take_at, take_all, take_more, drop_at, drop_more}
use Rattle.gl_base.specs.LittleEndian.{little_endian, from_little_endian}
use Rattle.gl_base.proofs.LittleEndianLaws.{length-little_endian, from_little_endian-little_endian}
use Rattle.gl_hss.specs.declared.types.Types.{Types}
use Rattle.gl_hss.specs.declared.types.Types.TheVariants.{H5W4, H5W8, H10W4, H10W8}
use Rattle.gl_journal.specs.declared.key.KeyKind.{KeyKind}
use Rattle.gl_journal.specs.declared.key.KeyKind.TheVariants.{Service, Node, Member}
use Rattle.gl_journal.specs.declared.key.Key.{Key as KeyFields}
use Rattle.gl_journal.specs.RecordView.{record_value, record_values}
use Rattle.gl_journal.specs.declared.record.Record.{Record}
use Rattle.gl_journal.specs.Records.{RecordValue, Key, Vote, Cut, Append, Signer, Install, Start, kind_of, key_kind_tag, types_tag, key_kind_in, types_in, key_with, key_in, record_body, record_bytes, records_bytes, vote_bytes, whole_number, then_some, vote_in, vote_record_in, record_of, IsRecord, IsId, AreRecords}

whole_number-encoded : (size n : ℕ) → n < 256 ^ size → whole_number size (little_endian size n) ≡ Some n
whole_number-encoded size n small =
    let long = length-little_endian size n in
    let value = from_little_endian-little_endian size n small in
    rw (long, value) (grind (arith, nat_tests))

kind-encoded : (kind : KeyKind) → key_kind_in (key_kind_tag kind) ≡ Some kind
kind-encoded Service = refl
kind-encoded Node = refl
kind-encoded Member = refl

types-encoded : (types : Types) → types_in (types_tag types) ≡ Some types
types-encoded H5W4 = refl
types-encoded H5W8 = refl
types-encoded H10W4 = refl
types-encoded H10W8 = refl

key-encoded : (key : KeyFields) → length key.seed ≡ 32 → key_in (record_body (Key key)) ≡ Some (Key key)
key-encoded key is =
    ap (λ (k : Option KeyKind). key_with k (types_in (types_tag key.types)) key.seed) (kind-encoded key.kind)
    ∙ ap (λ (t : Option Types). key_with (Some key.kind) t key.seed) (types-encoded key.types)
    ∙ rw is refl

vote_in-encoded : (vote : Option (List ℕ)) → IsId vote → vote_in (vote_bytes vote) ≡ Some vote
vote_in-encoded None is = refl
vote_in-encoded (Some id) is = rw is refl

vote_long : (vote : Option (List ℕ)) → 1 ≤ length (vote_bytes vote)
vote_long None = omega arith
vote_long (Some id) = omega arith

vote_encoded : (view : ℕ) (vote : Option (List ℕ)) → IsRecord (Vote view vote) → vote_record_in (little_endian 4 view ++ vote_bytes vote) ≡ Some (Vote view vote)
vote_encoded view vote is =
    let size = length-little_endian 4 view in
    let back : vote_in (drop 4 (little_endian 4 view ++ vote_bytes vote)) ≡ Some vote = ap vote_in (drop_at (little_endian 4 view) (vote_bytes vote) 4 size) ∙ vote_in-encoded vote is.1 in
    let prefix : from_little_endian (take 4 (little_endian 4 view ++ vote_bytes vote)) ≡ view =
    ap from_little_endian (take_at (little_endian 4 view) (vote_bytes vote) 4 size) ∙ from_little_endian-little_endian 4 view (omega arith) in
    let long : nat_lt (length (little_endian 4 view ++ vote_bytes vote)) 5 ≡ false = grind (arith, nat_tests, size, vote_long vote, length-append (little_endian 4 view) (vote_bytes vote)) in
    rw (long, back, prefix) refl

pub record_of-encoded : (rec : RecordValue) → IsRecord rec → record_of (kind_of rec) (record_body rec) ≡ Some rec
unfolding record_of
record_of-encoded (Key key) is = key-encoded key is
record_of-encoded (Vote view vote) is = vote_encoded view vote is
record_of-encoded (Cut to) is = ap (λ (o : Option ℕ). then_some o (λ n. Some (Cut n))) (whole_number-encoded 8 to (omega arith))
record_of-encoded (Append frame) is = refl
record_of-encoded (Signer reserved) is = ap (λ (o : Option ℕ). then_some o (λ n. Some (Signer n))) (whole_number-encoded 4 reserved (omega arith))
record_of-encoded (Install body) is = refl
record_of-encoded (Start leaves) is = ap (λ (o : Option ℕ). then_some o (λ n. Some (Start n))) (whole_number-encoded 4 leaves (omega arith))

pub body_fits : (rec : RecordValue) → IsRecord rec → length (record_body rec) < 2 ^ 32
body_fits (Key key) is = omega (arith, is)
body_fits (Vote view None) is = omega (arith, length-append (little_endian 4 view) (0 ∷ []), length-little_endian 4 view)
body_fits (Vote view (Some id)) is = omega (arith, is.1, length-append (little_endian 4 view) (1 ∷ id), length-little_endian 4 view)
body_fits (Cut to) is = omega (arith, length-little_endian 8 to)
body_fits (Append frame) is = is
body_fits (Signer reserved) is = omega (arith, length-little_endian 4 reserved)
body_fits (Install body) is = is
body_fits (Start leaves) is = omega (arith, length-little_endian 4 leaves)

pub AreRecords-push : (recs : List RecordValue) (rec : RecordValue) → AreRecords recs → IsRecord rec → AreRecords (recs ++ rec ∷ [])
AreRecords-push [] rec are is = (is, tt)
AreRecords-push (first ∷ recs) rec are is = (are.0, AreRecords-push recs rec are.1 is)

pub whole_of : (size n : ℕ) (body bytes : List ℕ) → length body ≡ size → bytes ≡ take size body → n ≡ from_little_endian bytes → Some n ≡ whole_number size body
whole_of size n body bytes long is value =
    let same : bytes ≡ body = is ∙ take_all size body (omega arith) in
    let encoded : n ≡ from_little_endian body = value ∙ ap from_little_endian same in
    rw (long, ← encoded) (grind (arith, nat_tests))

record_values-push : (records : List Record) (one : Record) → record_values (records ++ one ∷ []) ≡ record_values records ++ record_value one ∷ []
record_values-push [] one = refl
record_values-push (first ∷ records) one = ap (λ (l : List RecordValue). record_value first ∷ l) (record_values-push records one)

-- one record more whose fields are in their ranges
pub are_records_next : (d : Record) (records : List Record) (i : ℕ) → i < length records → AreRecords (record_values (take i records)) → IsRecord (record_value (get_or records i d)) → AreRecords (record_values (take (i + 1) records))
are_records_next d records i below are here =
    let one = get_or records i d in
    subst (λ (l : List Record). AreRecords (record_values l)) (sym (take_more records i d below))
    (subst AreRecords (sym (record_values-push (take i records) one)) (AreRecords-push (record_values (take i records)) (record_value one) are here))

first_bytes : (d : Record) (records : List Record) (i : ℕ) → i < length records → records_bytes (record_values (drop i records)) ≡ record_bytes (record_value (get_or records i d)) ++ records_bytes (record_values (drop (i + 1) records))
first_bytes d records i below = ap (λ (l : List Record). records_bytes (record_values l)) (drop_more records i d below)

-- one record more after those that were written
pub put_next : (d : Record) (records : List Record) (i : ℕ) (out out' all : List ℕ) → i < length records → out' ≡ out ++ record_bytes (record_value (get_or records i d))
    → out ++ records_bytes (record_values (drop i records)) ≡ all → out' ++ records_bytes (record_values (drop (i + 1) records)) ≡ all
put_next d records i out out' all below is so_far =
    let rest = records_bytes (record_values (drop (i + 1) records)) in
    ap (λ (l : List ℕ). l ++ rest) is ∙ append_assoc out (record_bytes (record_value (get_or records i d))) rest
    ∙ ap (λ (l : List ℕ). out ++ l) (sym (first_bytes d records i below)) ∙ so_far

-- how many bytes it has, and those after it
pub next_sizes : (d : Record) (records : List Record) (i : ℕ) (out out' : List ℕ) → i < length records → out' ≡ out ++ record_bytes (record_value (get_or records i d))
    → (length (records_bytes (record_values (drop i records))) + length out ≡ length out' + length (records_bytes (record_values (drop (i + 1) records))))
    × (length (records_bytes (record_values (drop (i + 1) records))) ≤ length (records_bytes (record_values (drop i records))))
next_sizes d records i out out' below is =
    let one = record_bytes (record_value (get_or records i d)) in
    let rest = records_bytes (record_values (drop (i + 1) records)) in (
      omega (arith, ap length is, length-append out one, ap length (first_bytes d records i below), length-append one rest),
      omega (arith, ap length (first_bytes d records i below), length-append one rest),
    )

pub next_len : (d : Record) (records : List Record) (i n : ℕ) → i < length records → n ≡ length (record_body (record_value (get_or records i d)))
    → length (records_bytes (record_values (drop i records))) ≡ 5 + n + length (records_bytes (record_values (drop (i + 1) records)))
next_len d records i n below is =
    let body = record_body (record_value (get_or records i d)) in
    let rest = records_bytes (record_values (drop (i + 1) records)) in
    omega (arith, is, ap length (first_bytes d records i below), length-append (record_bytes (record_value (get_or records i d))) rest, length-append (little_endian 4 (length body)) body, length-little_endian 4 (length body))
