-- The fields that messages are made of.
use Rattle.std.specs.Prelude.{ℕ, ◌^◌, List, ◌++◌, Bool, ◌&&◌, Result, Ok, Err, length, nat_le, nat_lt, if◌then◌else◌}
use Rattle.gl_base.specs.Steps.{◌>>=◌}
use Rattle.gl_base.specs.LittleEndian.{little_endian}
use Rattle.gl_base.specs.Bytes.{are_bytes, mebibyte}
use Rattle.gl_base.specs.Cut.{Unread, number_at, string_at}
use Rattle.gl_base.specs.Code.{field}
use Rattle.gl_base.specs.declared.tx_id.TxId.{TxId}
use Rattle.gl_base.specs.declared.fault.CodeFault.{CodeFault}
use Rattle.gl_base.specs.declared.fault.CodeFault.TheVariants.{Value}

abbrev pub is_u64 : ℕ → Bool
is_u64 n = nat_lt n (2 ^ 64)

-- Bytes up to 1 MiB.
abbrev pub is_within : List ℕ → Bool
is_within bytes = nat_le (length bytes) mebibyte

abbrev pub is_sized : List ℕ → Bool
is_sized bytes = is_within bytes && are_bytes bytes

-- They stand after their length in four bytes.
unfoldable pub sized_at : Unread → Result (List ℕ × Unread) CodeFault
sized_at unread = field (string_at 4 mebibyte unread)

-- A view and a place. Each number may be any of its width.
abbrev pub id_bytes : TxId → List ℕ
id_bytes id = little_endian 4 id.view ++ little_endian 8 id.seqno

abbrev pub is_id : TxId → Bool
is_id id = nat_lt id.view (2 ^ 32) && is_u64 id.seqno

unfoldable pub id_at : Unread → Result (TxId × Unread) CodeFault
id_at unread = do
  view ← field (number_at 4 unread)
  seqno ← field (number_at 8 view.1)
  Ok (record { view = view.0; seqno = seqno.0 }, seqno.1)

-- A tag within a range; its place is told where it is another.
unfoldable pub tag_at : ℕ → ℕ → Unread → Result (ℕ × Unread) CodeFault
tag_at least most unread =
    field (number_at 1 unread) >>= λ tag.
    if nat_le least tag.0 && nat_le tag.0 most then Ok tag else Err (Value unread.at)
