-- What clients ask: which values are a client's messages, their bytes, and what bytes are read as.
use Rattle.std.specs.Prelude.{ℕ, List, ◌∷◌, ◌++◌, Bool, true, ◌&&◌, Result, Ok, ◌==◌, if◌then◌else◌}
use Rattle.gl_base.specs.Steps.{◌>>=◌}
use Rattle.gl_base.specs.LittleEndian.{little_endian}
use Rattle.gl_base.specs.Field.{with_u32_length}
use Rattle.gl_base.specs.Cut.{Unread, number_at}
use Rattle.gl_base.specs.Code.{field, whole}
use Rattle.gl_base.specs.declared.fault.CodeFault.{CodeFault}
use Rattle.gl_messages.specs.Fields.{is_u64, is_within, is_sized, sized_at, id_bytes, is_id, id_at, tag_at}
use Rattle.gl_messages.specs.declared.client.Call.{Call}
use Rattle.gl_messages.specs.declared.client.Call.TheVariants.{Submit, Govern, StatusOf, ReceiptOf, SnapshotPart}
use Rattle.gl_messages.specs.declared.client.Client.{Client}

-- The bytes

abbrev pub call_tag : Call → ℕ
call_tag (Submit request) = 16
call_tag (Govern request) = 17
call_tag (StatusOf id) = 18
call_tag (ReceiptOf id) = 19
call_tag (SnapshotPart offset) = 20

abbrev pub call_bytes : Call → List ℕ
call_bytes (Submit request) = with_u32_length request
call_bytes (Govern request) = with_u32_length request
call_bytes (StatusOf id) = id_bytes id
call_bytes (ReceiptOf id) = id_bytes id
call_bytes (SnapshotPart offset) = little_endian 8 offset

-- A tag, the client's number, and the fields of the call.
abbrev pub client_bytes : Client → List ℕ
client_bytes c = call_tag c.call ∷ little_endian 8 c.number ++ call_bytes c.call

-- Which values they are

-- A request has 1 MiB at most.
abbrev pub call_fits : Call → Bool
call_fits (Submit request) = is_within request
call_fits (Govern request) = is_within request
call_fits (StatusOf id) = true
call_fits (ReceiptOf id) = true
call_fits (SnapshotPart offset) = true

abbrev pub is_call : Call → Bool
is_call (Submit request) = is_sized request
is_call (Govern request) = is_sized request
is_call (StatusOf id) = is_id id
is_call (ReceiptOf id) = is_id id
is_call (SnapshotPart offset) = is_u64 offset

abbrev pub is_client : Client → Bool
is_client c = is_u64 c.number && is_call c.call

-- Reading

unfoldable pub submit_at : Unread → Result (Call × Unread) CodeFault
submit_at unread = sized_at unread >>= λ request. Ok (Submit request.0, request.1)

unfoldable pub govern_at : Unread → Result (Call × Unread) CodeFault
govern_at unread = sized_at unread >>= λ request. Ok (Govern request.0, request.1)

unfoldable pub status_of_at : Unread → Result (Call × Unread) CodeFault
status_of_at unread = id_at unread >>= λ id. Ok (StatusOf id.0, id.1)

unfoldable pub receipt_of_at : Unread → Result (Call × Unread) CodeFault
receipt_of_at unread = id_at unread >>= λ id. Ok (ReceiptOf id.0, id.1)

unfoldable pub part_at : Unread → Result (Call × Unread) CodeFault
part_at unread = field (number_at 8 unread) >>= λ offset. Ok (SnapshotPart offset.0, offset.1)

-- The fields after a tag from 16 to 20 and the number.
abbrev pub call_at : ℕ → Unread → Result (Call × Unread) CodeFault
call_at tag unread =
    if tag == 16 then submit_at unread
    else (if tag == 17 then govern_at unread
    else (if tag == 18 then status_of_at unread
    else (if tag == 19 then receipt_of_at unread
    else part_at unread)))

unfoldable pub client_at : Unread → Result (Client × Unread) CodeFault
client_at unread = do
  tag ← tag_at 16 20 unread
  number ← field (number_at 8 tag.1)
  call ← call_at tag.0 number.1
  Ok (record { number = number.0; call = call.0 }, call.1)

-- The client's message that bytes encode, all of them, or the first fault.
abbrev pub client_of : List ℕ → Result Client CodeFault
client_of bytes = whole client_at bytes
