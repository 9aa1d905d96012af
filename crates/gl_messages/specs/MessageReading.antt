-- Messages of nodes read from bytes, and the first fault from the left. Places are counted in all
-- of the message's bytes, also inside an entry.
use Rattle.std.specs.Prelude.{ℕ, zero, suc, ◌+◌, ◌-◌, ◌^◌, List, [], ◌∷◌, Bool, Result, Ok, Err, min, nat_le, nat_lt, ◌||◌, ◌==◌, if◌then◌else◌}
use Rattle.gl_base.specs.Steps.{◌>>=◌}
use Rattle.gl_base.specs.Cut.{Unread, bytes_at, number_at}
use Rattle.gl_base.specs.Code.{field, flag_at, ended, unread_of}
use Rattle.gl_base.specs.declared.tx_id.TxId.{TxId}
use Rattle.gl_base.specs.declared.fault.CodeFault.{CodeFault}
use Rattle.gl_base.specs.declared.fault.CodeFault.TheVariants as codes
use Rattle.gl_entry.specs.Entry.{frame_size}
use Rattle.gl_entry.specs.Parsing.{entry_field, size_at, frame_at}
use Rattle.gl_entry.specs.declared.entry.Entry.{Entry}
use Rattle.gl_entry.specs.declared.fault.EntryFault.{EntryFault}
use Rattle.gl_messages.specs.Fields.{id_at, tag_at}
use Rattle.gl_messages.specs.Message.{most_entries, most_bytes}
use Rattle.gl_messages.specs.declared.fault.MessageFault.{MessageFault}
use Rattle.gl_messages.specs.declared.fault.MessageFault.TheVariants as faults
use Rattle.gl_messages.specs.declared.append.Before.{Before}
use Rattle.gl_messages.specs.declared.message.Body.{Body}
use Rattle.gl_messages.specs.declared.message.Body.TheVariants.{RequestVote, VoteReply, Append, AppendReply, ProposeVote}
use Rattle.gl_messages.specs.declared.message.Message.{Message}

-- What the reading of a field gives, and that of an entry, as a part of a message.
abbrev pub part : {X : Type 0} → Result X CodeFault → Result X MessageFault
part (Ok x) = Ok x
part (Err fault) = Err (faults.Code fault)

abbrev pub entry_part : {X : Type 0} → Result X EntryFault → Result X MessageFault
entry_part (Ok x) = Ok x
entry_part (Err fault) = Err (faults.Entry fault)

-- Entries

-- A view is not below that of the entry before, and not above the message's.
abbrev pub view_in : ℕ → ℕ → ℕ → Result ℕ MessageFault
view_in most before view =
    if nat_lt view before then Err (faults.Order before view)
    else (if nat_lt most view then Err (faults.Order most view) else Ok view)

-- A place is the one after the place before; the last number of 64 bits has none after it.
abbrev pub seqno_in : ℕ → ℕ → Result ℕ MessageFault
seqno_in before seqno =
    if seqno == before + 1 then Ok seqno
    else Err (faults.Order (min (before + 1) (2 ^ 64 - 1)) seqno)

abbrev pub in_order : ℕ → Before → ℕ → ℕ → Result ℕ MessageFault
in_order most before view seqno = view_in most before.view view >>= λ v. seqno_in before.seqno seqno

-- The first entry has room whatever its size.
abbrev pub has_room : Before → ℕ → Bool
has_room before size = (before.size == 0) || nat_le (before.size + size) most_bytes

abbrev pub roomy : Before → ℕ → Entry → Result Entry MessageFault
roomy before place e =
    if has_room before (frame_size e) then Ok e else Err (faults.Code (codes.Value place))

-- The view of an entry, and the bytes of the body that stand after it.
unfoldable pub view_at : Unread → Result (ℕ × Unread) EntryFault
view_at unread = do
  size ← size_at unread
  body ← entry_field (bytes_at size.0 size.1)
  entry_field (number_at 4 (record { at = size.1.at; bytes = body.0 }))

-- The view and the place of an entry are in order, as far as they can be read.
unfoldable pub placed_at : ℕ → Before → Unread → Result ℕ MessageFault
placed_at most before unread = do
  view ← entry_part (view_at unread)
  in_view ← view_in most before.view view.0
  seqno ← entry_part (entry_field (number_at 8 view.1))
  seqno_in before.seqno seqno.0

-- An entry whose frame reads has room, and then is in order. Else the order is tried before what is
-- wrong after it.
abbrev pub entry_in : ℕ → Before → Unread → Result (Entry × Unread) EntryFault
    → Result (Entry × Unread) MessageFault
entry_in most before unread (Ok read) = do
  fitting ← roomy before unread.at read.0
  placed ← in_order most before read.0.view read.0.seqno
  Ok read
entry_in most before unread (Err fault) =
    placed_at most before unread >>= λ placed. Err (faults.Entry fault)

unfoldable pub entry_at : ℕ → Before → Unread → Result (Entry × Unread) MessageFault
entry_at most before unread = entry_in most before unread (frame_at unread)

-- What stands before the entry after this one.
abbrev pub with_entry : Before → Entry → Before
with_entry before e =
    record { view = e.view; seqno = e.seqno; size = before.size + frame_size e }

-- So many entries.
unfoldable pub entries_at : ℕ → Before → ℕ → Unread → Result (List Entry × Unread) MessageFault
entries_at most before zero unread = Ok ([], unread)
entries_at most before (suc count) unread = do
  first ← entry_at most before unread
  rest ← entries_at most (with_entry before first.0) count first.1
  Ok (first.0 ∷ rest.0, rest.1)

-- A count of entries up to 64; its place is told where it is greater.
unfoldable pub count_at : Unread → Result (ℕ × Unread) CodeFault
count_at unread =
    field (number_at 2 unread) >>= λ count.
    if nat_le count.0 most_entries then Ok count else Err (codes.Value unread.at)

-- What stands before the first entry.
abbrev pub before_first : TxId → Before
before_first prev = record { view = prev.view; seqno = prev.seqno; size = 0 }

unfoldable pub append_at : ℕ → Unread → Result (Body × Unread) MessageFault
append_at view unread = do
  prev ← part (id_at unread)
  commit ← part (field (number_at 8 prev.1))
  count ← part (count_at commit.1)
  es ← entries_at view (before_first prev.0) count.0 count.1
  Ok (Append prev.0 commit.0 es.0, es.1)

-- The other kinds

unfoldable pub request_vote_at : Unread → Result (Body × Unread) CodeFault
request_vote_at unread = id_at unread >>= λ last. Ok (RequestVote last.0, last.1)

unfoldable pub vote_reply_at : Unread → Result (Body × Unread) CodeFault
vote_reply_at unread = flag_at unread >>= λ granted. Ok (VoteReply granted.0, granted.1)

unfoldable pub append_reply_at : Unread → Result (Body × Unread) CodeFault
append_reply_at unread = do
  ok ← flag_at unread
  seqno ← field (number_at 8 ok.1)
  Ok (AppendReply ok.0 seqno.0, seqno.1)

-- The fields after a tag from 1 to 5, of a message of this view.
abbrev pub body_at : ℕ → ℕ → Unread → Result (Body × Unread) MessageFault
body_at tag view unread =
    if tag == 1 then part (request_vote_at unread)
    else (if tag == 2 then part (vote_reply_at unread)
    else (if tag == 3 then append_at view unread
    else (if tag == 4 then part (append_reply_at unread)
    else Ok (ProposeVote, unread))))

unfoldable pub message_at : Unread → Result (Message × Unread) MessageFault
message_at unread = do
  tag ← part (tag_at 1 5 unread)
  sender ← part (field (bytes_at 32 tag.1))
  receiver ← part (field (bytes_at 32 sender.1))
  view ← part (field (number_at 4 receiver.1))
  body ← body_at tag.0 view.0 view.1
  Ok (
    record { from = sender.0; to = receiver.0; view = view.0; body = body.0 },
    body.1,
  )

-- The message that bytes encode, all of them, or the first fault.
abbrev pub message_of : List ℕ → Result Message MessageFault
message_of bytes = message_at (unread_of bytes) >>= λ read. part (ended read)
