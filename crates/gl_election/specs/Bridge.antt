-- What an event of an election makes of a whole node, by what it makes of its peer.
use Rattle.std.specs.Prelude.{◌≡◌, ℕ, ◌+◌, Bool, true, false, None, Ok, Err, map, length}
use Rattle.gl_base.specs.declared.tx_id.TxId.{TxId}
use Rattle.gl_entry.specs.declared.entry.Entry.{Entry}
use Rattle.gl_rules.specs.Identity.{NodeId}
use Rattle.gl_rules.specs.Book.{Book}
use Rattle.gl_rules.specs.Node as rules
use Rattle.gl_rules.specs.Message as messages
use Rattle.gl_rules.specs.Outcome as outcomes
use Rattle.gl_rules.specs.Log.{last_signature, last_signature_position, signed_prefix}
use Rattle.gl_rules.specs.Steps.{cut_to}
use Rattle.gl_messages.specs.declared.message.Body.{Body}
use Rattle.gl_messages.specs.declared.message.Body.TheVariants as bodies
use Rattle.gl_messages.specs.declared.message.Message.{Message}
use Rattle.gl_election.specs.declared.elected.ElectionOutcome.{ElectionOutcome}
use Rattle.gl_election.specs.declared.elected.ElectionOutcome.TheVariants as answers
use Rattle.gl_election.specs.declared.elected.ElectionRefusal.{ElectionRefusal}
use Rattle.gl_election.specs.declared.elected.ElectionRefusal.TheVariants as refusals
use Rattle.gl_election.specs.declared.peer.Peer.{Peer}
use Rattle.gl_election.specs.declared.peer.Role.{Role}
use Rattle.gl_election.specs.declared.peer.Role.TheVariants as roles
use Rattle.gl_election.specs.Elections.{ElectionStep, position}

-- The program's roles, messages and answers as the rules write them.

abbrev pub seen_role : Role → rules.Role
seen_role roles.Follower = rules.Follower
seen_role roles.Candidate = rules.Candidate
seen_role roles.Leader = rules.Leader

abbrev pub seen_body : Body → messages.Body Entry
seen_body (bodies.RequestVote last) = messages.RequestVote (position last)
seen_body (bodies.VoteReply granted) = messages.VoteReply granted
seen_body (bodies.Append prev commit es) = messages.Append (position prev) es commit
seen_body (bodies.AppendReply ok seqno) = messages.AppendReply ok seqno
seen_body bodies.ProposeVote = messages.ProposeVote

abbrev pub seen_message : Message → messages.Message Entry
seen_message m =
    record { sender = m.from; receiver = m.to; view = m.view; body = seen_body m.body }

-- A message to x from y, of this view.
abbrev pub message_to : {E : Type 0} → NodeId → NodeId → ℕ → messages.Body E → messages.Message E
message_to x y view body = record { sender = y; receiver = x; view = view; body = body }

-- The last signature's place, as the program writes it.
abbrev pub tx_id : messages.Position → TxId
tx_id last = record { view = last.view; seqno = last.seqno }

-- A node with another peer.
abbrev pub with_peer : {E : Type 0} → Peer → rules.Node E → rules.Node E
with_peer p n = record n {
  view = p.view;
  vote = p.vote;
  role = seen_role p.role;
  leader = p.leader;
  votes = p.votes;
}

-- This is the node's peer.
abbrev pub IsPeerOf : {E : Type 0} → Peer → rules.Node E → Type 0
IsPeerOf p n = with_peer p n ≡ n

module _ {E Q G R A F : Type 0} (book : Book E Q G R A F) where
  -- Where the view rose the log is cut to its last signature.
  abbrev pub cut_if_rose : Bool → rules.Node E → rules.Node E
  cut_if_rose true n = cut_to (last_signature book n.log) n
  cut_if_rose false n = n

  -- A node with its log cut to its last signature.
  abbrev pub signed : rules.Node E → rules.Node E
  signed n = record n { log = signed_prefix book n.log }

  -- Its last signature, as peers are told of it.
  abbrev pub last_of : rules.Node E → TxId
  last_of n = tx_id (last_signature_position book n.log)

  -- A new leader begins after its log, and knows nothing of the others.
  abbrev pub begin_leading : ElectionOutcome → rules.Node E → rules.Node E
  begin_leading answers.BecameLeader n =
      record n { start = length n.log + 1; matched = λ _. 0; next = λ _. None }
  begin_leading answers.BecameCandidate n = n
  begin_leading answers.Done n = n
  begin_leading answers.Idle n = n

  abbrev pub seen_outcome : ElectionOutcome → outcomes.Outcome A F
  seen_outcome answers.Done = outcomes.Done
  seen_outcome answers.Idle = outcomes.Idle
  seen_outcome answers.BecameCandidate = outcomes.BecameCandidate
  seen_outcome answers.BecameLeader = outcomes.BecameLeader

  abbrev pub seen_refusal : ElectionRefusal → outcomes.Refusal F
  seen_refusal (refusals.NotPrimary view leader) = outcomes.NotPrimary view leader
  seen_refusal refusals.NotPeer = outcomes.NotPeer
  seen_refusal refusals.ViewLimit = outcomes.ViewLimit

-- What a turn of its peer makes of a node.
module _ {Q G R A F : Type 0} (book : Book Entry Q G R A F) where
  abbrev pub step_of : ElectionStep → rules.Node Entry → outcomes.Step Entry A F
  step_of (Err why) n = outcomes.refuse n (seen_refusal book why)
  step_of (Ok turn) n = record {
    node = begin_leading book turn.0.outcome (with_peer turn.1 (cut_if_rose book turn.0.rose n));
    sent = map seen_message turn.0.sent;
    outcome = seen_outcome book turn.0.outcome;
  }
