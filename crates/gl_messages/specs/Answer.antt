-- What clients are answered: which values are answers, their bytes, and what bytes are read as.
use Rattle.std.specs.Prelude.{ℕ, ◌^◌, List, [], ◌∷◌, ◌++◌, Bool, true, ◌&&◌, Result, Ok, Err, nat_lt, ◌==◌, if◌then◌else◌}
use Rattle.gl_base.specs.Steps.{◌>>=◌}
use Rattle.gl_base.specs.LittleEndian.{little_endian}
use Rattle.gl_base.specs.Field.{with_u32_length}
use Rattle.gl_base.specs.Cut.{Unread, number_at}
use Rattle.gl_base.specs.Code.{field, whole}
use Rattle.gl_base.specs.declared.tx_id.Status.{Status}
use Rattle.gl_base.specs.declared.tx_id.Status.TheVariants as status
use Rattle.gl_base.specs.declared.fault.CodeFault.{CodeFault}
use Rattle.gl_base.specs.declared.fault.CodeFault.TheVariants.{Value}
use Rattle.gl_messages.specs.Fields.{is_u64, is_within, is_sized, sized_at, id_bytes, is_id, id_at, tag_at}
use Rattle.gl_messages.specs.declared.answer.AnswerBody.{AnswerBody}
use Rattle.gl_messages.specs.declared.answer.AnswerBody.TheVariants.{Accepted, Refused, StatusIs, ReceiptIs, Part, Memory}
use Rattle.gl_messages.specs.declared.answer.Answer.{Answer}

-- The bytes

-- The byte of a status (CCF documentation, "Transaction status").
abbrev pub status_byte : Status → ℕ
status_byte status.Unknown = 0
status_byte status.Pending = 1
status_byte status.Committed = 2
status_byte status.Invalid = 3

abbrev pub answer_body_tag : AnswerBody → ℕ
answer_body_tag (Accepted id reply) = 32
answer_body_tag (Refused code values) = 33
answer_body_tag (StatusIs reported) = 34
answer_body_tag (ReceiptIs json) = 35
answer_body_tag (Part total bytes) = 36
answer_body_tag Memory = 37

abbrev pub answer_body_bytes : AnswerBody → List ℕ
answer_body_bytes (Accepted id reply) = id_bytes id ++ with_u32_length reply
answer_body_bytes (Refused code values) = little_endian 2 code ++ with_u32_length values
answer_body_bytes (StatusIs reported) = status_byte reported ∷ []
answer_body_bytes (ReceiptIs json) = with_u32_length json
answer_body_bytes (Part total bytes) = little_endian 8 total ++ with_u32_length bytes
answer_body_bytes Memory = []

-- A tag, the number of what was asked, and the fields of the answer.
abbrev pub answer_bytes : Answer → List ℕ
answer_bytes a = answer_body_tag a.content ∷ little_endian 8 a.number ++ answer_body_bytes a.content

-- Which values they are

-- Bytes without a fixed length are 1 MiB at most.
abbrev pub answer_body_fits : AnswerBody → Bool
answer_body_fits (Accepted id reply) = is_within reply
answer_body_fits (Refused code values) = is_within values
answer_body_fits (StatusIs reported) = true
answer_body_fits (ReceiptIs json) = is_within json
answer_body_fits (Part total bytes) = is_within bytes
answer_body_fits Memory = true

abbrev pub is_answer_body : AnswerBody → Bool
is_answer_body (Accepted id reply) = is_id id && is_sized reply
is_answer_body (Refused code values) = nat_lt code (2 ^ 16) && is_sized values
is_answer_body (StatusIs reported) = true
is_answer_body (ReceiptIs json) = is_sized json
is_answer_body (Part total bytes) = is_u64 total && is_sized bytes
is_answer_body Memory = true

abbrev pub is_answer : Answer → Bool
is_answer a = is_u64 a.number && is_answer_body a.content

-- Reading

-- The status that a byte says; its place is told where it is none.
abbrev pub status_in : ℕ → ℕ × Unread → Result (AnswerBody × Unread) CodeFault
status_in place byte =
    if byte.0 == 0 then Ok (StatusIs status.Unknown, byte.1)
    else (if byte.0 == 1 then Ok (StatusIs status.Pending, byte.1)
    else (if byte.0 == 2 then Ok (StatusIs status.Committed, byte.1)
    else (if byte.0 == 3 then Ok (StatusIs status.Invalid, byte.1)
    else Err (Value place))))

unfoldable pub status_is_at : Unread → Result (AnswerBody × Unread) CodeFault
status_is_at unread = field (number_at 1 unread) >>= status_in unread.at

unfoldable pub accepted_at : Unread → Result (AnswerBody × Unread) CodeFault
accepted_at unread = do
  id ← id_at unread
  reply ← sized_at id.1
  Ok (Accepted id.0 reply.0, reply.1)

unfoldable pub refused_at : Unread → Result (AnswerBody × Unread) CodeFault
refused_at unread = do
  code ← field (number_at 2 unread)
  values ← sized_at code.1
  Ok (Refused code.0 values.0, values.1)

unfoldable pub receipt_is_at : Unread → Result (AnswerBody × Unread) CodeFault
receipt_is_at unread = sized_at unread >>= λ json. Ok (ReceiptIs json.0, json.1)

unfoldable pub part_at : Unread → Result (AnswerBody × Unread) CodeFault
part_at unread = do
  total ← field (number_at 8 unread)
  bytes ← sized_at total.1
  Ok (Part total.0 bytes.0, bytes.1)

-- The fields after a tag from 32 to 37 and the number.
abbrev pub answer_body_at : ℕ → Unread → Result (AnswerBody × Unread) CodeFault
answer_body_at tag unread =
    if tag == 32 then accepted_at unread
    else (if tag == 33 then refused_at unread
    else (if tag == 34 then status_is_at unread
    else (if tag == 35 then receipt_is_at unread
    else (if tag == 36 then part_at unread
    else Ok (Memory, unread)))))

unfoldable pub answer_at : Unread → Result (Answer × Unread) CodeFault
answer_at unread = do
  tag ← tag_at 32 37 unread
  number ← field (number_at 8 tag.1)
  content ← answer_body_at tag.0 number.1
  Ok (record { number = number.0; content = content.0 }, content.1)

-- The answer that bytes encode, all of them, or the first fault.
abbrev pub answer_of : List ℕ → Result Answer CodeFault
answer_of bytes = whole answer_at bytes
