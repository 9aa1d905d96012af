-- Whether a node heard of its service, by what it answered.
use Rattle.std.specs.Prelude.{ℕ, List, Bool, false, ◌==◌}
use Rattle.std.specs.List.{list_any}
use Rattle.gl_messages.specs.declared.message.Body.{Body}
use Rattle.gl_messages.specs.declared.message.Body.TheVariants.{RequestVote, VoteReply, Append, AppendReply, ProposeVote}
use Rattle.gl_messages.specs.declared.message.Message.{Message}

-- A vote was granted, or entries that came in the node's view were answered.
abbrev pub body_reports : Bool → Body → Bool
body_reports in_view (RequestVote last) = false
body_reports in_view (VoteReply granted) = granted
body_reports in_view (Append prev commit es) = false
body_reports in_view (AppendReply ok seqno) = in_view
body_reports in_view ProposeVote = false

abbrev pub reports_of_service : Bool → Message → Bool
reports_of_service in_view sent = body_reports in_view sent.body

-- A message of the one view came to a node that is in the other then, and sends these.
abbrev pub is_heard : ℕ → ℕ → List Message → Bool
is_heard came view sent = list_any (reports_of_service (came == view)) sent
