-- Entries read from bytes, and the first fault from the left.
use Rattle.std.specs.Prelude.{ℕ, zero, suc, ◌+◌, List, [], ◌∷◌, Option, None, Some, Result, Ok, Err, Bool, true, ◌&&◌, ◌||◌, nat_le, ◌==◌, if◌then◌else◌}
use Rattle.gl_base.specs.Steps.{◌>>=◌}
use Rattle.gl_base.specs.Cut.{Unread, number_at, bytes_at, string_at}
use Rattle.gl_base.specs.Code.{field, ended, whole_at}
use Rattle.gl_base.specs.Row.{map_name_at, key_at, optional_value_at}
use Rattle.gl_base.specs.declared.fault.CodeFault.{CodeFault}
use Rattle.gl_base.specs.declared.fault.CodeFault.TheVariants as codes
use Rattle.gl_base.specs.declared.fault.CutFault.{CutFault}
use Rattle.gl_vmaps.specs.Writes.{is_less, row_order}
use Rattle.gl_vmaps.specs.Name.{value_limit}
use Rattle.gl_vmaps.specs.declared.write.Write.{Write}
use Rattle.gl_entry.specs.Entry.{body_limit, frame_size, may_write, may_claim, is_no_digest}
use Rattle.gl_entry.specs.declared.entry.Content.{Content}
use Rattle.gl_entry.specs.declared.entry.Content.TheVariants as content
use Rattle.gl_entry.specs.declared.entry.Entry.{Entry}
use Rattle.gl_entry.specs.declared.fault.EntryFault.{EntryFault}
use Rattle.gl_entry.specs.declared.fault.EntryFault.TheVariants.{Code, Version, Flags, Kind, Size, Writes}

-- What the reading of a value gives, as a part of an entry.
abbrev pub part : {X : Type 0} → Result X CodeFault → Result X EntryFault
part (Ok x) = Ok x
part (Err fault) = Err (Code fault)

abbrev pub entry_field : {X : Type 0} → Result X CutFault → Result X EntryFault
entry_field read = part (field read)

-- What was read, where a condition on it holds, or else this fault.
abbrev pub required : {X : Type 0} → Bool → EntryFault → X → Result X EntryFault
required holds fault x = if holds then Ok x else Err fault

-- What it records

unfoldable pub signature_at : Unread → Result (Content × Unread) CodeFault
signature_at unread = do
  node ← field (bytes_at 32 unread)
  commit ← field (number_at 8 node.1)
  root ← field (bytes_at 32 commit.1)
  signature ← field (string_at 4 body_limit root.1)
  Ok (
    content.Signature (
        record { node = node.0; commit = commit.0; root = root.0; signature = signature.0 }
        ),
    signature.1,
  )

unfoldable pub evidence_at : Unread → Result (Content × Unread) CodeFault
evidence_at unread =
    field (bytes_at 32 unread) >>= λ digest. Ok (content.Evidence digest.0, digest.1)

-- What an entry of a kind records, from the bytes of its request, of which the first stands at a
-- place. Requests of governance and of applications are bytes here.
unfoldable pub content_of : ℕ → ℕ → List ℕ → Result Content CodeFault
content_of kind place bytes =
    if kind == 1 then Ok (content.Governance bytes)
    else (if kind == 2 then Ok (content.Application bytes)
    else (if kind == 3 then whole_at signature_at place bytes
    else whole_at evidence_at place bytes))

abbrev pub is_kind : ℕ → Bool
is_kind kind = nat_le 1 kind && nat_le kind 4

unfoldable pub kind_at : Unread → Result (ℕ × Unread) EntryFault
kind_at unread = entry_field (number_at 1 unread) >>= λ kind. required (is_kind kind.0) Kind kind

unfoldable pub content_at : Unread → Result (Content × Unread) EntryFault
content_at unread = do
  kind ← kind_at unread
  request ← entry_field (string_at 4 body_limit kind.1)
  recorded ← part (content_of kind.0 (kind.1.at + 4) request.0)
  Ok (recorded, request.1)

-- Its writes

-- The row of a write, if there is one.
abbrev pub row_of : Option Write → Option (List ℕ × List ℕ)
row_of None = None
row_of (Some w) = Some (w.map, w.key)

-- A row stands after an earlier one, if there is one.
abbrev pub is_after : Option (List ℕ × List ℕ) → Write → Bool
is_after None w = true
is_after (Some row) w = is_less (row_order row.0 row.1 w)

abbrev pub removal_of : List ℕ → List ℕ → Write
removal_of map key = record { map = map; key = key; value = None }

-- The write with a number, counted from 1, after an earlier row. Its order is reported before its
-- value is looked at.
unfoldable pub write_at : ℕ → Option (List ℕ × List ℕ) → Unread → Result (Write × Unread) EntryFault
write_at number before unread = do
  map ← part (map_name_at unread)
  key ← part (key_at map.1)
  row ← required (is_after before (removal_of map.0 key.0)) (Writes number) key
  value ← part (optional_value_at value_limit row.1)
  Ok (record { map = map.0; key = key.0; value = value.0 }, value.1)

-- So many writes, from the one with a number on.
unfoldable pub writes_from : ℕ → Option (List ℕ × List ℕ) → ℕ → Unread
    → Result (List Write × Unread) EntryFault
writes_from number before zero unread = Ok ([], unread)
writes_from number before (suc count) unread = do
  first ← write_at number before unread
  rest ← writes_from (suc number) (Some (first.0.map, first.0.key)) count first.1
  Ok (first.0 ∷ rest.0, rest.1)

-- The writes after their count, which is 0 in an entry that may not write.
unfoldable pub writes_at : Bool → Unread → Result (List Write × Unread) EntryFault
writes_at writes unread = do
  count ← entry_field (number_at 4 unread)
  allowed ← required (writes || (count.0 == 0)) (Code (codes.Value unread.at)) count
  writes_from 1 None allowed.0 allowed.1

-- The claims, which are zero bytes in an entry that may not claim.
unfoldable pub claims_at : Bool → Unread → Result (List ℕ × Unread) EntryFault
claims_at claims unread =
    entry_field (bytes_at 32 unread) >>= λ digest.
    required (claims || is_no_digest digest.0) (Code (codes.Value unread.at)) digest

-- The body, all of it.
unfoldable pub body_at : Unread → Result (Entry × Unread) EntryFault
body_at unread = do
  view ← entry_field (number_at 4 unread)
  seqno ← entry_field (number_at 8 view.1)
  recorded ← content_at seqno.1
  writes ← writes_at (may_write recorded.0) recorded.1
  claims ← claims_at (may_claim recorded.0) writes.1
  Ok (
    record {
      view = view.0;
      seqno = seqno.0;
      content = recorded.0;
      writes = writes.0;
      claims = claims.0;
    },
    claims.1,
  )

-- An entry whose body is all of the bytes.
abbrev pub whole_body : Unread → Result Entry EntryFault
whole_body unread = body_at unread >>= λ entry. part (ended entry)

-- The size of a body after a version of 1 and flags of 0.
unfoldable pub size_at : Unread → Result (ℕ × Unread) EntryFault
size_at unread = do
  version ← entry_field (number_at 1 unread)
  first ← required (version.0 == 1) Version version
  flags ← entry_field (number_at 1 first.1)
  second ← required (flags.0 == 0) Flags flags
  size ← entry_field (number_at 6 second.1)
  required (nat_le size.0 body_limit) (Size size.0) size

-- The entry of a frame, and what stands after the frame. A body's places count on from those of the
-- frame's head, and it ends where its size says.
unfoldable pub frame_at : Unread → Result (Entry × Unread) EntryFault
frame_at unread = do
  size ← size_at unread
  body ← entry_field (bytes_at size.0 size.1)
  entry ← whole_body (record { at = size.1.at; bytes = body.0 })
  Ok (entry, body.1)

-- The entry whose frame bytes begin with, of which the first stands at a place, and how many bytes
-- the frame has, or the first fault.
abbrev pub entry_at : ℕ → List ℕ → Result (Entry × ℕ) EntryFault
entry_at place bytes =
    frame_at (record { at = place; bytes = bytes }) >>= λ entry. Ok (entry.0, frame_size entry.0)

-- The same of all the bytes.
abbrev pub first_entry : List ℕ → Result (Entry × ℕ) EntryFault
first_entry bytes = entry_at 0 bytes
