-- What a message brings.
use Rattle.std.proofs.Common.{◌≡◌, ℕ, Bool, true, false, ◌&&◌, nat_le, length, refl}
use Rattle.std.specs.List.{list_all}
use Rattle.gl_entry.specs.Entry.{is_entry}
use Rattle.gl_messages.specs.Fields.{is_id, is_u64}
use Rattle.gl_messages.specs.Message.{are_after, are_within, is_body, is_message, most_entries}
use Rattle.gl_messages.specs.declared.message.Body.{Body}
use Rattle.gl_messages.specs.declared.message.Body.TheVariants.{RequestVote, VoteReply, Append, AppendReply, ProposeVote}
use Rattle.gl_messages.specs.declared.message.Message.{Message}
use Rattle.gl_replication.specs.Events.{brings_few}

both_first : (a b : Bool) → (a && b) ≡ true → a ≡ true
both_first true b h = refl
both_first false b h = absurd (cc)

both_second : (a b : Bool) → (a && b) ≡ true → b ≡ true
both_second true b h = h
both_second false b h = absurd (cc)

body_brings_few : (view : ℕ) (body : Body) → is_body view body ≡ true → brings_few body ≡ true
body_brings_few view (RequestVote last) h = refl
body_brings_few view (VoteReply granted) h = refl
body_brings_few view (Append prev commit es) h =
    both_second (is_id prev && is_u64 commit) (nat_le (length es) most_entries)
    (both_first _ (list_all is_entry es) (both_first _ (are_within es) (both_first _ (are_after view prev.view prev.seqno es) h)))
body_brings_few view (AppendReply ok seqno) h = refl
body_brings_few view ProposeVote h = refl

-- what is a message brings few entries
pub message_brings_few : (m : Message) → is_message m ≡ true → brings_few m.body ≡ true
message_brings_few m is = body_brings_few m.view m.body (both_second _ (is_body m.view m.body) is)
