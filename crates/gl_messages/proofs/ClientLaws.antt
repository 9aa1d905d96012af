-- What a client's message is encoded as reads back, and what reads is encoded so.
use Rattle.std.proofs.Common.{◌≡◌, ℕ, ◌+◌, ◌≤◌, true, List, [], ◌∷◌, ◌++◌, length, Result, Ok, refl, sym, ap, ◌∙◌, subst, length-append, arith}
use Rattle.std.proofs.lemmas.Bool.{and_parts}
use Rattle.std.proofs.lemmas.Bool.Decides.{nat_tests}
use Rattle.gl_base.specs.Cut.{Unread, number_at}
use Rattle.gl_base.specs.Code.{field}
use Rattle.gl_base.specs.Field.{with_u32_length}
use Rattle.gl_base.specs.Bytes.{are_bytes, mebibyte}
use Rattle.gl_base.specs.LittleEndian.{little_endian}
use Rattle.gl_base.specs.declared.fault.CodeFault.{CodeFault}
use Rattle.gl_base.proofs.Steps.{bind_ok, ok_injective}
use Rattle.gl_base.proofs.LittleEndianLaws.{length-little_endian}
use Rattle.gl_base.proofs.RowLaws.{Took}
use Rattle.gl_entry.proofs.Parts.{took_then, Lies, lie_both}
use Rattle.gl_messages.specs.Frames.{frame_limit}
use Rattle.gl_messages.specs.Fields.{is_u64, is_within, is_sized, sized_at, id_bytes, is_id, id_at, tag_at}
use Rattle.gl_messages.specs.Client.{call_tag, call_bytes, client_bytes, call_fits, is_call, is_client, submit_at, govern_at, status_of_at, receipt_of_at, part_at, call_at, client_at}
use Rattle.gl_messages.specs.declared.client.Call.{Call}
use Rattle.gl_messages.specs.declared.client.Call.TheVariants.{Submit, Govern, StatusOf, ReceiptOf, SnapshotPart}
use Rattle.gl_messages.specs.declared.client.Client.{Client}
use Rattle.gl_messages.proofs.Tagged.{Takes, TakesAt, Finds, one_takes, or_tag}
use Rattle.gl_messages.proofs.FieldLaws.{number_takes, number_finds, sized_takes, sized_finds, id_takes, id_finds, tag_takes, tag_finds, sized-le, length-id_bytes}

-- ---- what it asks

abbrev CallAt : ℕ → (Unread → Result (Call × Unread) CodeFault) → Type 0
CallAt tag reading = TakesAt call_tag call_bytes is_call tag reading

submit_takes : CallAt 16 submit_at
unfolding submit_at
submit_takes = one_takes call_tag call_bytes is_call 16 with_u32_length is_sized sized_at Submit sized_takes (λ y. refl) (λ y. refl) (λ y. refl)

govern_takes : CallAt 17 govern_at
unfolding govern_at
govern_takes = one_takes call_tag call_bytes is_call 17 with_u32_length is_sized sized_at Govern sized_takes (λ y. refl) (λ y. refl) (λ y. refl)

status_of_takes : CallAt 18 status_of_at
unfolding status_of_at
status_of_takes = one_takes call_tag call_bytes is_call 18 id_bytes is_id id_at StatusOf id_takes (λ y. refl) (λ y. refl) (λ y. refl)

receipt_of_takes : CallAt 19 receipt_of_at
unfolding receipt_of_at
receipt_of_takes = one_takes call_tag call_bytes is_call 19 id_bytes is_id id_at ReceiptOf id_takes (λ y. refl) (λ y. refl) (λ y. refl)

part_takes : CallAt 20 part_at
unfolding part_at
part_takes = one_takes call_tag call_bytes is_call 20 (little_endian 8) is_u64 (λ unread. field (number_at 8 unread)) SnapshotPart (number_takes 8) (λ y. refl) (λ y. refl) (λ y. refl)

call_takes : (tag : ℕ) → 16 ≤ tag → tag ≤ 20 → CallAt tag (call_at tag)
call_takes tag least most =
    or_tag call_tag call_bytes is_call tag 16 submit_at _ submit_takes (λ a.
    or_tag call_tag call_bytes is_call tag 17 govern_at _ govern_takes (λ b.
    or_tag call_tag call_bytes is_call tag 18 status_of_at _ status_of_takes (λ c.
    or_tag call_tag call_bytes is_call tag 19 receipt_of_at part_at receipt_of_takes (λ d.
    let last : 20 ≡ tag = grind (arith, nat_tests) in
    subst (λ (t : ℕ). CallAt t part_at) last part_takes))))

call_finds : (call : Call) (old new : Unread) → is_call call ≡ true → Lies (call_bytes call) old new → call_at (call_tag call) old ≡ Ok (call, new)
unfolding submit_at govern_at status_of_at receipt_of_at part_at
call_finds (Submit request) old new is there = rw (sized_finds request old new is there) refl
call_finds (Govern request) old new is there = rw (sized_finds request old new is there) refl
call_finds (StatusOf id) old new is there = rw (id_finds id old new is there) refl
call_finds (ReceiptOf id) old new is there = rw (id_finds id old new is there) refl
call_finds (SnapshotPart offset) old new is there = rw (number_finds 8 offset old new is there) refl

tag_within : (call : Call) → (16 ≤ call_tag call) × (call_tag call ≤ 20)
tag_within (Submit request) = (omega arith, omega arith)
tag_within (Govern request) = (omega arith, omega arith)
tag_within (StatusOf id) = (omega arith, omega arith)
tag_within (ReceiptOf id) = (omega arith, omega arith)
tag_within (SnapshotPart offset) = (omega arith, omega arith)

-- ---- the message

pub client_takes : Takes client_bytes is_client client_at
unfolding client_at
client_takes old read all e =
    let tag = bind_ok {E = CodeFault} (tag_at 16 20 old) _ read e in
    let number = bind_ok {E = CodeFault} (field (number_at 8 tag.0.1)) _ read tag.2 in
    let call = bind_ok {E = CodeFault} (call_at tag.0.0 number.0.1) _ read number.2 in
    let made : Client = record { number = number.0.0; call = call.0.0 } in
    let gave : Client × Unread = (made, call.0.1) in
    let same : gave ≡ read = ok_injective {E = CodeFault} gave read call.2 in
    let a = tag_takes 16 20 old tag.0 all tag.1 in
    let b = number_takes 8 tag.0.1 number.0 a.flag.rest number.1 in
    let c = call_takes tag.0.0 a.least_is a.most_is number.0.1 call.0 b.rest call.1 in
    let both = took_then (little_endian 8 number.0.0) (call_bytes call.0.0) (is_u64 number.0.0) (is_call call.0.0) tag.0.1 number.0.1 call.0.1 b c.1 in
    let took : Took (client_bytes made) (is_client made) old call.0.1 = record {
      bytes = a.flag.bytes ∙ ap (λ (xs : List ℕ). tag.0.0 ∷ xs) both.bytes ∙ ap (λ (t : ℕ). t ∷ ((little_endian 8 number.0.0 ++ call_bytes call.0.0) ++ call.0.1.bytes)) (sym c.0);
      place = omega (arith, a.flag.place, both.place);
      valid = both.valid;
      rest = both.rest;
    } in
    subst (λ (r : Client × Unread). Took (client_bytes r.0) (is_client r.0) old r.1) same took

pub client_finds : Finds client_bytes is_client client_at
unfolding client_at
client_finds c old new is there =
    let parts = and_parts (is_u64 c.number) (is_call c.call) is in
    let head = lie_both (call_tag c.call ∷ []) (little_endian 8 c.number ++ call_bytes c.call) old new there in
    let after = lie_both (little_endian 8 c.number) (call_bytes c.call) head.mid new head.second in
    let within = tag_within c.call in
    rw (
      tag_finds 16 20 (call_tag c.call) old head.mid within.0 within.1 (omega arith) head.first,
      number_finds 8 c.number head.mid after.mid parts.0 after.first,
      call_finds c.call after.mid new parts.1 after.second,
    ) refl

-- ---- its length

call_bytes-le : (call : Call) → call_fits call ≡ true → length (call_bytes call) ≤ mebibyte + 4
call_bytes-le (Submit request) is = sized-le request is
call_bytes-le (Govern request) is = sized-le request is
call_bytes-le (StatusOf id) is = omega (arith, length-id_bytes id)
call_bytes-le (ReceiptOf id) is = omega (arith, length-id_bytes id)
call_bytes-le (SnapshotPart offset) is = omega (arith, length-little_endian 8 offset)

pub client_bytes-fit : (c : Client) → call_fits c.call ≡ true → length (client_bytes c) ≤ frame_limit
client_bytes-fit c is =
    omega (arith, call_bytes-le c.call is, length-append (little_endian 8 c.number) (call_bytes c.call), length-little_endian 8 c.number)

-- ---- what reads can be encoded

call_fits_of : (call : Call) → is_call call ≡ true → call_fits call ≡ true
call_fits_of (Submit request) is = (and_parts (is_within request) (are_bytes request) is).0
call_fits_of (Govern request) is = (and_parts (is_within request) (are_bytes request) is).0
call_fits_of (StatusOf id) is = refl
call_fits_of (ReceiptOf id) is = refl
call_fits_of (SnapshotPart offset) is = refl

pub client_fits : (c : Client) → is_client c ≡ true → call_fits c.call ≡ true
client_fits c is = call_fits_of c.call (and_parts (is_u64 c.number) (is_call c.call) is).1
