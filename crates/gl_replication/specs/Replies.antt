-- What an answer to a leader's entries depends on.
use Rattle.std.specs.Prelude.{◌≡◌, ◌≤◌, ◌-◌, ℕ, List, [], ◌∷◌, Bool, ◌&&◌, ◌||◌, ◌==◌, nat_le, nat_lt, length, take, drop, true, false, None, Some, if◌then◌else◌}
use Rattle.gl_rules.specs.Identity.{NodeId}
use Rattle.gl_rules.specs.Book.{Book}
use Rattle.gl_rules.specs.Node.{Node, Follower}
use Rattle.gl_rules.specs.Message.{Position, Message, AppendReply}
use Rattle.gl_election.specs.declared.peer.Role.{Role}
use Rattle.gl_election.specs.declared.peer.Role.TheVariants as roles
use Rattle.gl_rules.specs.Log.{view_at}
use Rattle.gl_rules.specs.Outcome.{Step, Refusal, Refused}

-- Whether a log has an entry of this view at this seqno, or the seqno is 0.
abbrev pub is_matching : {E Q G R A F : Type 0} → Book E Q G R A F → List E → Position → Bool
is_matching b log prev = (prev.seqno == 0) || (nat_le prev.seqno (length log)
    && (view_at b log prev.seqno == prev.view))

abbrev pub append_reply_to : {E : Type 0} → NodeId → NodeId → ℕ → Bool → ℕ → List (Message E)
append_reply_to x y view ok seqno = record {
  sender = x;
  receiver = y;
  view = view;
  body = AppendReply ok seqno;
} ∷ []

-- a follower of y in this view, with its log and its cuts as they are
abbrev pub following : {E : Type 0} → NodeId → ℕ → Node E → Node E
following y view n = if nat_lt n.view view then record n {
  view = view;
  vote = None;
  votes = [];
  role = Follower;
  leader = Some y;
} else record n { role = Follower; leader = Some y }

-- Whether it is a leader's role.
abbrev pub is_leading : Role → Bool
is_leading roles.Leader = true
is_leading roles.Candidate = false
is_leading roles.Follower = false

-- A step leaves a node's log as it is up to a seqno. After it then stand the last ones of these
-- entries, unless the step is refused.
pub record KeepsUpTo {E A F : Type 0} (seqno : ℕ) (es : List E) (n : Node E) (step : Step E A F)
    : Type 0 where
  pub before : seqno ≤ length n.log
  pub after : seqno ≤ length step.node.log
  pub prefix : take seqno step.node.log ≡ take seqno n.log
  pub tail : ((why : Refusal F) → step.outcome ≡ Refused why → ⊥) →
      drop seqno step.node.log ≡ drop (length es - (length step.node.log - seqno)) es
