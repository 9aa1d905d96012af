-- The fields of messages: what is read is encoded so, and what is encoded so is read.
use Rattle.std.proofs.Common.{◌≡◌, ℕ, ◌+◌, ◌^◌, ◌<◌, ◌≤◌, ◌%◌, nat_le, nat_lt, Bool, true, false, cond, ◌&&◌, List, [], ◌∷◌, length, Result, Ok, Err, refl, sym, ap, subst, length-append, arith}
use Rattle.std.proofs.lemmas.Bool.{and_parts, and_from}
use Rattle.std.proofs.lemmas.Bool.Decides.{nat_tests}
use Rattle.gl_base.specs.Cut.{Unread, number_at, string_at}
use Rattle.gl_base.specs.Code.{field}
use Rattle.gl_base.specs.Bytes.{are_bytes, mebibyte}
use Rattle.gl_base.specs.Field.{with_u32_length}
use Rattle.gl_base.specs.LittleEndian.{little_endian}
use Rattle.gl_base.specs.declared.tx_id.TxId.{TxId}
use Rattle.gl_base.specs.declared.fault.CodeFault.{CodeFault}
use Rattle.gl_base.specs.declared.fault.CodeFault.TheVariants.{Value}
use Rattle.gl_base.proofs.Steps.{bind_ok, ok_injective}
use Rattle.gl_base.proofs.ByteLists.{AreBytes}
use Rattle.gl_base.proofs.LittleEndianLaws.{length-little_endian}
use Rattle.gl_base.proofs.RowLaws.{field_ok, TookFlag, flag-took}
use Rattle.gl_entry.proofs.Parts.{number-took, sized-took, Lies, lie_both, number-reads, sized-reads}
use Rattle.gl_messages.specs.Fields.{is_u64, is_within, is_sized, sized_at, id_bytes, is_id, id_at, tag_at}
use Rattle.gl_messages.proofs.Tagged.{Takes, Finds, two_take}

pub number_takes : (size : ℕ) → Takes {E = CodeFault} (little_endian size) (λ n. nat_lt n (256 ^ size)) (λ unread. field (number_at size unread))
number_takes size old read all e = number-took size read.0 old read.1 all (field_ok (number_at size old) read e)

pub number_finds : (size : ℕ) → Finds {E = CodeFault} (little_endian size) (λ n. nat_lt n (256 ^ size)) (λ unread. field (number_at size unread))
number_finds size n old new is there = ap field (number-reads size n old new there (grind (arith, nat_tests)))

pub sized_takes : Takes with_u32_length is_sized sized_at
unfolding sized_at
sized_takes old read all e =
    let sized = sized-took mebibyte read.0 old read.1 all (field_ok (string_at 4 mebibyte old) read e) in
    let within : is_within read.0 ≡ true = grind (arith, nat_tests, sized.within) in
    record { bytes = sized.took.bytes; place = sized.took.place; valid = and_from (is_within read.0) (are_bytes read.0) within sized.took.valid; rest = sized.took.rest }

pub sized_finds : Finds with_u32_length is_sized sized_at
unfolding sized_at
sized_finds bytes old new is there =
    let parts = and_parts (is_within bytes) (are_bytes bytes) is in
    let within : length bytes ≤ mebibyte = grind (arith, nat_tests, parts.0) in
    ap field (sized-reads mebibyte bytes old new there within (omega (arith, within)))

pub id_takes : Takes id_bytes is_id id_at
unfolding id_at
id_takes old read all e =
    (two_take {X = TxId} (λ id. 0) id_bytes is_id 0 (little_endian 4) (λ n. nat_lt n (256 ^ 4)) (λ unread. field (number_at 4 unread)) (little_endian 8) (λ n. nat_lt n (256 ^ 8)) (λ unread. field (number_at 8 unread)) (λ view seqno. record { view = view; seqno = seqno }) (number_takes 4) (number_takes 8) (λ a b. refl) (λ a b. refl) (λ a b. refl) old read all e).1

pub id_finds : Finds id_bytes is_id id_at
unfolding id_at
id_finds id old new is there =
    let both = lie_both (little_endian 4 id.view) (little_endian 8 id.seqno) old new there in
    let parts = and_parts (nat_lt id.view (2 ^ 32)) (is_u64 id.seqno) is in
    rw (number_finds 4 id.view old both.mid parts.0 both.first, number_finds 8 id.seqno both.mid new parts.1 both.second) refl

-- ---- a tag

pub record TookTag (least most tag : ℕ) (old new : Unread) : Type 0 where
  pub flag : TookFlag tag old new
  pub least_is : least ≤ tag
  pub most_is : tag ≤ most

refuted : {A : Type 0} (b : Bool) (x : A) (f : CodeFault) (y : A) → ◌≡◌ {A = Result A CodeFault} (cond b (Ok x) (Err f)) (Ok y) → (b ≡ true) × (x ≡ y)
refuted true x f y e = (refl, ok_injective {E = CodeFault} x y e)
refuted false x f y e = absurd cc

pub tag_takes : (least most : ℕ) (old : Unread) (read : ℕ × Unread) → AreBytes old.bytes → tag_at least most old ≡ Ok read → TookTag least most read.0 old read.1
unfolding tag_at
tag_takes least most old read all e =
    let there = bind_ok {A = ℕ × Unread} {B = ℕ × Unread} {E = CodeFault} (field (number_at 1 old)) _ read e in
    let holds = refuted (nat_le least there.0.0 && nat_le there.0.0 most) there.0 (Value old.at) read there.2 in
    let parts = and_parts (nat_le least there.0.0) (nat_le there.0.0 most) holds.0 in
    let flag = flag-took there.0.0 old there.0.1 all (field_ok (number_at 1 old) there.0 there.1) in
    let got : TookTag least most there.0.0 old there.0.1 = record { flag = flag; least_is = grind (arith, nat_tests, parts.0); most_is = grind (arith, nat_tests, parts.1) } in
    subst (λ (r : ℕ × Unread). TookTag least most r.0 old r.1) holds.1 got

one_byte : (n : ℕ) → n < 256 → little_endian 1 n ≡ n ∷ []
unfolding little_endian
one_byte n small = let same : n % 256 ≡ n = omega arith in ap (λ m. m ∷ []) same

pub byte_finds : (n : ℕ) (old new : Unread) → n < 256 → Lies (n ∷ []) old new → number_at 1 old ≡ Ok (n, new)
byte_finds n old new small there = number-reads 1 n old new (subst (λ (xs : List ℕ). Lies xs old new) (sym (one_byte n small)) there) small

pub tag_finds : (least most tag : ℕ) (old new : Unread) → least ≤ tag → tag ≤ most → most < 256 → Lies (tag ∷ []) old new → tag_at least most old ≡ Ok (tag, new)
unfolding tag_at
tag_finds least most tag old new low high small there =
    let a : nat_le least tag ≡ true = grind (arith, nat_tests) in
    let b : nat_le tag most ≡ true = grind (arith, nat_tests) in
    rw (byte_finds tag old new (omega arith) there, a, b) refl

-- ---- lengths

pub sized-le : (bytes : List ℕ) → is_within bytes ≡ true → length (with_u32_length bytes) ≤ mebibyte + 4
sized-le bytes is =
    let within : length bytes ≤ mebibyte = grind (arith, nat_tests) in
    omega (arith, within, length-append (little_endian 4 (length bytes)) bytes, length-little_endian 4 (length bytes))

pub length-id_bytes : (id : TxId) → length (id_bytes id) ≡ 12
length-id_bytes id = omega (arith, length-append (little_endian 4 id.view) (little_endian 8 id.seqno), length-little_endian 4 id.view, length-little_endian 8 id.seqno)
