-- What nodes send to one another: which values are messages, and their bytes.
use Rattle.std.specs.Prelude.{ℕ, ◌+◌, ◌^◌, List, [], ◌∷◌, ◌++◌, Bool, true, ◌&&◌, ◌||◌, length, nat_le, nat_lt, ◌==◌}
use Rattle.std.specs.List.{flat_map, list_all}
use Rattle.gl_base.specs.LittleEndian.{little_endian}
use Rattle.gl_base.specs.Code.{flag_byte}
use Rattle.gl_entry.specs.Entry.{body_limit, is_entry, frame_bytes, frame_size}
use Rattle.gl_base.specs.Bytes.{is_digest}
use Rattle.gl_entry.specs.Entry as entries
use Rattle.gl_entry.specs.declared.entry.Entry.{Entry}
use Rattle.gl_messages.specs.Fields.{is_u64, id_bytes, is_id}
use Rattle.gl_messages.specs.declared.message.Body.{Body}
use Rattle.gl_messages.specs.declared.message.Body.TheVariants.{RequestVote, VoteReply, Append, AppendReply, ProposeVote}
use Rattle.gl_messages.specs.declared.message.Message.{Message}

-- The bytes

abbrev pub body_tag : Body → ℕ
body_tag (RequestVote last) = 1
body_tag (VoteReply granted) = 2
body_tag (Append prev commit es) = 3
body_tag (AppendReply ok seqno) = 4
body_tag ProposeVote = 5

abbrev pub frames_bytes : List Entry → List ℕ
frames_bytes es = flat_map frame_bytes es

abbrev pub body_bytes : Body → List ℕ
body_bytes (RequestVote last) = id_bytes last
body_bytes (VoteReply granted) = flag_byte granted ∷ []
body_bytes (Append prev commit es) =
    id_bytes prev ++ little_endian 8 commit ++ little_endian 2 (length es) ++ frames_bytes es
body_bytes (AppendReply ok seqno) = flag_byte ok ∷ little_endian 8 seqno
body_bytes ProposeVote = []

-- A tag, who sent it to whom, the sender's view, and the fields of its kind.
abbrev pub message_bytes : Message → List ℕ
message_bytes m = body_tag m.body ∷ m.from ++ m.to ++ little_endian 4 m.view ++ body_bytes m.body

-- Limits

-- The most entries of an Append.
abbrev pub most_entries : ℕ
most_entries = 64

-- The most bytes of its frames, where it has more than one entry.
abbrev pub most_bytes : ℕ
most_bytes = 1500000

abbrev pub frames_size : List Entry → ℕ
frames_size [] = 0
frames_size (e ∷ es) = frame_size e + frames_size es

abbrev pub has_fitting_body : Entry → Bool
has_fitting_body e = nat_le (length (entries.body_bytes e)) body_limit

abbrev pub are_within : List Entry → Bool
are_within es = nat_le (length es) 1 || nat_le (frames_size es) most_bytes

abbrev pub entries_fit : List Entry → Bool
entries_fit es = nat_le (length es) most_entries && list_all has_fitting_body es && are_within es

abbrev pub body_fits : Body → Bool
body_fits (RequestVote last) = true
body_fits (VoteReply granted) = true
body_fits (Append prev commit es) = entries_fit es
body_fits (AppendReply ok seqno) = true
body_fits ProposeVote = true

-- Which values they are

-- The entries stand one after the other from a place on, in views that begin at one at least, never
-- fall, and are the message's at most.
abbrev pub are_after : ℕ → ℕ → ℕ → List Entry → Bool
are_after most view seqno [] = true
are_after most view seqno (e ∷ es) =
    nat_le view e.view && nat_le e.view most && (e.seqno == seqno + 1)
    && are_after most e.view e.seqno es

abbrev pub is_body : ℕ → Body → Bool
is_body view (RequestVote last) = is_id last
is_body view (VoteReply granted) = true
is_body view (Append prev commit es) =
    is_id prev && is_u64 commit && nat_le (length es) most_entries && list_all is_entry es
    && are_within es && are_after view prev.view prev.seqno es
is_body view (AppendReply ok seqno) = is_u64 seqno
is_body view ProposeVote = true

abbrev pub is_message : Message → Bool
is_message m =
    is_digest m.from && is_digest m.to && nat_lt m.view (2 ^ 32) && is_body m.view m.body
