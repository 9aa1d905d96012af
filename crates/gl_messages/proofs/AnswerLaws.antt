-- What an answer is encoded as reads back, and what reads is encoded so.
use Rattle.std.proofs.Common.{◌≡◌, ℕ, ◌+◌, ◌^◌, ◌<◌, ◌≤◌, ◌==◌, nat_lt, Bool, true, false, cond, List, [], ◌∷◌, ◌++◌, length, Result, Ok, Err, refl, sym, ap, ap₂, ◌∙◌, subst, length-append, arith}
use Rattle.std.proofs.lemmas.Bool.{and_parts}
use Rattle.std.proofs.lemmas.Bool.Decides.{nat_tests}
use Rattle.gl_base.specs.Cut.{Unread, number_at}
use Rattle.gl_base.specs.Code.{field}
use Rattle.gl_base.specs.Field.{with_u32_length}
use Rattle.gl_base.specs.Bytes.{are_bytes, mebibyte}
use Rattle.gl_base.specs.LittleEndian.{little_endian}
use Rattle.gl_base.specs.declared.tx_id.Status.{Status}
use Rattle.gl_base.specs.declared.tx_id.Status.TheVariants as status
use Rattle.gl_base.specs.declared.fault.CodeFault.{CodeFault}
use Rattle.gl_base.specs.declared.fault.CodeFault.TheVariants.{Value}
use Rattle.gl_base.proofs.Steps.{bind_ok, ok_injective}
use Rattle.gl_base.proofs.LittleEndianLaws.{length-little_endian}
use Rattle.gl_base.proofs.RowLaws.{Took, field_ok, flag-took}
use Rattle.gl_entry.proofs.Parts.{took_then, Lies, lie_both}
use Rattle.gl_messages.specs.Frames.{frame_limit}
use Rattle.gl_messages.specs.Fields.{is_u64, is_within, is_sized, sized_at, id_bytes, is_id, id_at, tag_at}
use Rattle.gl_messages.specs.Answer.{status_byte, answer_body_tag, answer_body_bytes, answer_bytes, answer_body_fits, is_answer_body, is_answer, status_in, status_is_at, accepted_at, refused_at, receipt_is_at, part_at, answer_body_at, answer_at}
use Rattle.gl_messages.specs.declared.answer.AnswerBody.{AnswerBody}
use Rattle.gl_messages.specs.declared.answer.AnswerBody.TheVariants.{Accepted, Refused, StatusIs, ReceiptIs, Part, Memory}
use Rattle.gl_messages.specs.declared.answer.Answer.{Answer}
use Rattle.gl_messages.proofs.Tagged.{Takes, TakesAt, Finds, one_takes, two_take, none_takes, or_tag}
use Rattle.gl_messages.proofs.FieldLaws.{number_takes, number_finds, sized_takes, sized_finds, id_takes, id_finds, tag_takes, tag_finds, byte_finds, sized-le, length-id_bytes}

-- ---- what it says

abbrev BodyAt : ℕ → (Unread → Result (AnswerBody × Unread) CodeFault) → Type 0
BodyAt tag reading = TakesAt answer_body_tag answer_body_bytes is_answer_body tag reading

accepted_takes : BodyAt 32 accepted_at
unfolding accepted_at
accepted_takes = two_take answer_body_tag answer_body_bytes is_answer_body 32 id_bytes is_id id_at with_u32_length is_sized sized_at Accepted id_takes sized_takes (λ a b. refl) (λ a b. refl) (λ a b. refl)

refused_takes : BodyAt 33 refused_at
unfolding refused_at
refused_takes = two_take answer_body_tag answer_body_bytes is_answer_body 33 (little_endian 2) (λ n. nat_lt n (256 ^ 2)) (λ unread. field (number_at 2 unread)) with_u32_length is_sized sized_at Refused (number_takes 2) sized_takes (λ a b. refl) (λ a b. refl) (λ a b. refl)

-- A byte said a status.
abbrev AnswerBodyStatus : ℕ → Unread → AnswerBody × Unread → Type 0
AnswerBodyStatus byte after read = (s : Status) × (◌≡◌ {A = AnswerBody × Unread} (StatusIs s, after) read) × (byte ≡ status_byte s)

status_by : (a b c d : Bool) (place byte : ℕ) (after : Unread) (read : AnswerBody × Unread) → (byte == 0) ≡ a → (byte == 1) ≡ b → (byte == 2) ≡ c → (byte == 3) ≡ d →
    ◌≡◌ {A = Result (AnswerBody × Unread) CodeFault}
    (cond a (Ok (StatusIs status.Unknown, after)) (cond b (Ok (StatusIs status.Pending, after)) (cond c (Ok (StatusIs status.Committed, after)) (cond d (Ok (StatusIs status.Invalid, after)) (Err (Value place)))))) (Ok read) →
    AnswerBodyStatus byte after read
status_by true b c d place byte after read p q r s e = (status.Unknown, ok_injective {E = CodeFault} (StatusIs status.Unknown, after) read e, grind (arith, nat_tests))
status_by false true c d place byte after read p q r s e = (status.Pending, ok_injective {E = CodeFault} (StatusIs status.Pending, after) read e, grind (arith, nat_tests))
status_by false false true d place byte after read p q r s e = (status.Committed, ok_injective {E = CodeFault} (StatusIs status.Committed, after) read e, grind (arith, nat_tests))
status_by false false false true place byte after read p q r s e = (status.Invalid, ok_injective {E = CodeFault} (StatusIs status.Invalid, after) read e, grind (arith, nat_tests))
status_by false false false false place byte after read p q r s e = absurd cc

status_takes : BodyAt 34 status_is_at
unfolding status_is_at
status_takes old read all e =
    let byte = bind_ok {A = ℕ × Unread} {B = AnswerBody × Unread} {E = CodeFault} (field (number_at 1 old)) (status_in old.at) read e in
    let reported = status_by (byte.0.0 == 0) (byte.0.0 == 1) (byte.0.0 == 2) (byte.0.0 == 3) old.at byte.0.0 byte.0.1 read refl refl refl refl byte.2 in
    let flag = flag-took byte.0.0 old byte.0.1 all (field_ok (number_at 1 old) byte.0 byte.1) in
    let took : Took (answer_body_bytes (StatusIs reported.0)) true old byte.0.1 = record {
      bytes = flag.bytes ∙ ap (λ (n : ℕ). n ∷ byte.0.1.bytes) reported.2;
      place = flag.place;
      valid = refl;
      rest = flag.rest;
    } in
    subst (λ (r : AnswerBody × Unread). (answer_body_tag r.0 ≡ 34) × Took (answer_body_bytes r.0) (is_answer_body r.0) old r.1) reported.1 (refl, took)

receipt_takes : BodyAt 35 receipt_is_at
unfolding receipt_is_at
receipt_takes = one_takes answer_body_tag answer_body_bytes is_answer_body 35 with_u32_length is_sized sized_at ReceiptIs sized_takes (λ y. refl) (λ y. refl) (λ y. refl)

part_takes : BodyAt 36 part_at
unfolding part_at
part_takes = two_take answer_body_tag answer_body_bytes is_answer_body 36 (little_endian 8) is_u64 (λ unread. field (number_at 8 unread)) with_u32_length is_sized sized_at Part (number_takes 8) sized_takes (λ a b. refl) (λ a b. refl) (λ a b. refl)

memory_takes : BodyAt 37 (λ unread. Ok (Memory, unread))
memory_takes = none_takes answer_body_tag answer_body_bytes is_answer_body Memory refl refl

answer_body_takes : (tag : ℕ) → 32 ≤ tag → tag ≤ 37 → BodyAt tag (answer_body_at tag)
answer_body_takes tag least most =
    or_tag answer_body_tag answer_body_bytes is_answer_body tag 32 accepted_at _ accepted_takes (λ a.
    or_tag answer_body_tag answer_body_bytes is_answer_body tag 33 refused_at _ refused_takes (λ b.
    or_tag answer_body_tag answer_body_bytes is_answer_body tag 34 status_is_at _ status_takes (λ c.
    or_tag answer_body_tag answer_body_bytes is_answer_body tag 35 receipt_is_at _ receipt_takes (λ d.
    or_tag answer_body_tag answer_body_bytes is_answer_body tag 36 part_at (λ unread. Ok (Memory, unread)) part_takes (λ f.
    let last : 37 ≡ tag = grind (arith, nat_tests) in
    subst (λ (t : ℕ). BodyAt t (λ unread. Ok (Memory, unread))) last memory_takes)))))

status_byte-small : (s : Status) → status_byte s < 256
status_byte-small status.Unknown = omega arith
status_byte-small status.Pending = omega arith
status_byte-small status.Committed = omega arith
status_byte-small status.Invalid = omega arith

status_in-byte : (s : Status) (place : ℕ) (after : Unread) → status_in place (status_byte s, after) ≡ Ok (StatusIs s, after)
status_in-byte status.Unknown place after = refl
status_in-byte status.Pending place after = refl
status_in-byte status.Committed place after = refl
status_in-byte status.Invalid place after = refl

answer_body_finds : (content : AnswerBody) (old new : Unread) → is_answer_body content ≡ true → Lies (answer_body_bytes content) old new → answer_body_at (answer_body_tag content) old ≡ Ok (content, new)
unfolding accepted_at refused_at status_is_at receipt_is_at part_at
answer_body_finds (Accepted id reply) old new is there =
    let both = lie_both (id_bytes id) (with_u32_length reply) old new there in
    let parts = and_parts (is_id id) (is_sized reply) is in
    rw (id_finds id old both.mid parts.0 both.first, sized_finds reply both.mid new parts.1 both.second) refl
answer_body_finds (Refused code values) old new is there =
    let both = lie_both (little_endian 2 code) (with_u32_length values) old new there in
    let parts = and_parts (nat_lt code (2 ^ 16)) (is_sized values) is in
    rw (number_finds 2 code old both.mid parts.0 both.first, sized_finds values both.mid new parts.1 both.second) refl
answer_body_finds (StatusIs s) old new is there = rw (byte_finds (status_byte s) old new (status_byte-small s) there) (status_in-byte s old.at new)
answer_body_finds (ReceiptIs json) old new is there = rw (sized_finds json old new is there) refl
answer_body_finds (Part total bytes) old new is there =
    let both = lie_both (little_endian 8 total) (with_u32_length bytes) old new there in
    let parts = and_parts (is_u64 total) (is_sized bytes) is in
    rw (number_finds 8 total old both.mid parts.0 both.first, sized_finds bytes both.mid new parts.1 both.second) refl
answer_body_finds Memory old new is there =
    let place : old.at ≡ new.at = omega (arith, there.place) in
    let same : old ≡ new = ap₂ (λ (n : ℕ) (xs : List ℕ). record { at = n; bytes = xs }) place there.bytes in
    ap (λ (u : Unread). Ok (Memory, u)) same

tag_within : (content : AnswerBody) → (32 ≤ answer_body_tag content) × (answer_body_tag content ≤ 37)
tag_within (Accepted id reply) = (omega arith, omega arith)
tag_within (Refused code values) = (omega arith, omega arith)
tag_within (StatusIs s) = (omega arith, omega arith)
tag_within (ReceiptIs json) = (omega arith, omega arith)
tag_within (Part total bytes) = (omega arith, omega arith)
tag_within Memory = (omega arith, omega arith)

-- ---- the answer

pub answer_takes : Takes answer_bytes is_answer answer_at
unfolding answer_at
answer_takes old read all e =
    let tag = bind_ok {E = CodeFault} (tag_at 32 37 old) _ read e in
    let number = bind_ok {E = CodeFault} (field (number_at 8 tag.0.1)) _ read tag.2 in
    let content = bind_ok {E = CodeFault} (answer_body_at tag.0.0 number.0.1) _ read number.2 in
    let made : Answer = record { number = number.0.0; content = content.0.0 } in
    let gave : Answer × Unread = (made, content.0.1) in
    let same : gave ≡ read = ok_injective {E = CodeFault} gave read content.2 in
    let a = tag_takes 32 37 old tag.0 all tag.1 in
    let b = number_takes 8 tag.0.1 number.0 a.flag.rest number.1 in
    let c = answer_body_takes tag.0.0 a.least_is a.most_is number.0.1 content.0 b.rest content.1 in
    let both = took_then (little_endian 8 number.0.0) (answer_body_bytes content.0.0) (is_u64 number.0.0) (is_answer_body content.0.0) tag.0.1 number.0.1 content.0.1 b c.1 in
    let took : Took (answer_bytes made) (is_answer made) old content.0.1 = record {
      bytes = a.flag.bytes ∙ ap (λ (xs : List ℕ). tag.0.0 ∷ xs) both.bytes ∙ ap (λ (t : ℕ). t ∷ ((little_endian 8 number.0.0 ++ answer_body_bytes content.0.0) ++ content.0.1.bytes)) (sym c.0);
      place = omega (arith, a.flag.place, both.place);
      valid = both.valid;
      rest = both.rest;
    } in
    subst (λ (r : Answer × Unread). Took (answer_bytes r.0) (is_answer r.0) old r.1) same took

pub answer_finds : Finds answer_bytes is_answer answer_at
unfolding answer_at
answer_finds a old new is there =
    let parts = and_parts (is_u64 a.number) (is_answer_body a.content) is in
    let head = lie_both (answer_body_tag a.content ∷ []) (little_endian 8 a.number ++ answer_body_bytes a.content) old new there in
    let after = lie_both (little_endian 8 a.number) (answer_body_bytes a.content) head.mid new head.second in
    let within = tag_within a.content in
    rw (
      tag_finds 32 37 (answer_body_tag a.content) old head.mid within.0 within.1 (omega arith) head.first,
      number_finds 8 a.number head.mid after.mid parts.0 after.first,
      answer_body_finds a.content after.mid new parts.1 after.second,
    ) refl

-- ---- its length

answer_body_bytes-le : (content : AnswerBody) → answer_body_fits content ≡ true → length (answer_body_bytes content) ≤ mebibyte + 16
answer_body_bytes-le (Accepted id reply) is = omega (arith, sized-le reply is, length-id_bytes id, length-append (id_bytes id) (with_u32_length reply))
answer_body_bytes-le (Refused code values) is = omega (arith, sized-le values is, length-little_endian 2 code, length-append (little_endian 2 code) (with_u32_length values))
answer_body_bytes-le (StatusIs s) is = omega arith
answer_body_bytes-le (ReceiptIs json) is = omega (arith, sized-le json is)
answer_body_bytes-le (Part total bytes) is = omega (arith, sized-le bytes is, length-little_endian 8 total, length-append (little_endian 8 total) (with_u32_length bytes))
answer_body_bytes-le Memory is = omega arith

pub answer_bytes-fit : (a : Answer) → answer_body_fits a.content ≡ true → length (answer_bytes a) ≤ frame_limit
answer_bytes-fit a is =
    omega (arith, answer_body_bytes-le a.content is, length-append (little_endian 8 a.number) (answer_body_bytes a.content), length-little_endian 8 a.number)

-- ---- what reads can be encoded

answer_body_fits_of : (content : AnswerBody) → is_answer_body content ≡ true → answer_body_fits content ≡ true
answer_body_fits_of (Accepted id reply) is = (and_parts (is_within reply) (are_bytes reply) (and_parts (is_id id) (is_sized reply) is).1).0
answer_body_fits_of (Refused code values) is = (and_parts (is_within values) (are_bytes values) (and_parts (nat_lt code (2 ^ 16)) (is_sized values) is).1).0
answer_body_fits_of (StatusIs s) is = refl
answer_body_fits_of (ReceiptIs json) is = (and_parts (is_within json) (are_bytes json) is).0
answer_body_fits_of (Part total bytes) is = (and_parts (is_within bytes) (are_bytes bytes) (and_parts (is_u64 total) (is_sized bytes) is).1).0
answer_body_fits_of Memory is = refl

pub answer_fits : (a : Answer) → is_answer a ≡ true → answer_body_fits a.content ≡ true
answer_fits a is = answer_body_fits_of a.content (and_parts (is_u64 a.number) (is_answer_body a.content) is).1
