-- What the events of an election make of a peer, who knows its view, its vote, its role, whom it
-- takes for the leader and who voted for it. Of the ledger it is told the last signature, the
-- active configurations and their other nodes.
use Rattle.std.specs.Prelude.{ℕ, ◌+◌, List, [], ◌∷◌, Bool, true, false, ◌&&◌, not, None, Some, Result, Ok, Err, map, nat_lt, ◌==◌, if◌then◌else◌}
use Rattle.gl_base.specs.declared.tx_id.TxId.{TxId}
use Rattle.gl_rules.specs.Identity.{NodeId, same, member, with_node}
use Rattle.gl_rules.specs.Majority.{quorum}
use Rattle.gl_rules.specs.Message.{Position}
use Rattle.gl_rules.specs.Log.{is_up_to_date}
use Rattle.gl_rules.specs.Configuration.{in_some}
use Rattle.gl_rules.specs.Elections.{last_view, may_vote_for}
use Rattle.gl_messages.specs.declared.message.Body.TheVariants.{RequestVote, VoteReply, ProposeVote}
use Rattle.gl_messages.specs.declared.message.Message.{Message}
use Rattle.gl_election.specs.declared.elected.Elected.{Elected}
use Rattle.gl_election.specs.declared.elected.ElectionOutcome.{ElectionOutcome}
use Rattle.gl_election.specs.declared.elected.ElectionOutcome.TheVariants.{Done, Idle, BecameCandidate, BecameLeader}
use Rattle.gl_election.specs.declared.elected.ElectionRefusal.{ElectionRefusal}
use Rattle.gl_election.specs.declared.elected.ElectionRefusal.TheVariants.{NotPrimary, NotPeer, ViewLimit}
use Rattle.gl_election.specs.declared.peer.Peer.{Peer}
use Rattle.gl_election.specs.declared.peer.Role.{Role}
use Rattle.gl_election.specs.declared.peer.Role.TheVariants.{Follower, Candidate, Leader}

-- What is answered and sent, and the peer then; or why the event is refused.
abbrev pub ElectionStep : Type 0
ElectionStep = Result (Elected × Peer) ElectionRefusal

-- A signature's place in a ledger, as the rules write it.
abbrev pub position : TxId → Position
position last = record { view = last.view; seqno = last.seqno }

abbrev pub idle_answer : Bool → Elected
idle_answer rose = record { outcome = Idle; sent = []; rose = rose }

abbrev pub idle : Bool → Peer → ElectionStep
idle rose p = Ok (idle_answer rose, p)

-- A peer in a view that it has just entered: no vote, no leader, a follower.
abbrev pub enter_view : ℕ → Peer
enter_view view = record { view = view; vote = None; role = Follower; leader = None; votes = [] }

-- It enters a view that is later than its own.
abbrev pub update_view : ℕ → Peer → Peer
update_view view p = if nat_lt p.view view then enter_view view else p

-- Timeout

abbrev pub role_by : Bool → Role
role_by true = Leader
role_by false = Candidate

abbrev pub campaign_outcome : Bool → ElectionOutcome
campaign_outcome true = BecameLeader
campaign_outcome false = BecameCandidate

abbrev pub vote_request : NodeId → ℕ → TxId → NodeId → Message
vote_request me view last y = record { from = me; to = y; view = view; body = RequestVote last }

-- A candidate of this view, with its own vote: it asks for those of the others, and leads at once
-- where its own is a majority in each active configuration.
abbrev pub campaign : NodeId → TxId → List (List NodeId) → List NodeId → ℕ → Elected × Peer
campaign me last active others view =
    let won = quorum (λ y. member y (me ∷ [])) active in (
      record {
        outcome = campaign_outcome won;
        sent = map (vote_request me view last) others;
        rose = true;
      },
      record { view = view; vote = Some me; role = role_by won; leader = None; votes = me ∷ [] },
    )

-- A node of an active configuration campaigns for the next view, if there is one.
abbrev pub campaign_if_allowed : NodeId → TxId → List (List NodeId) → List NodeId → Bool → Peer →
    ElectionStep
campaign_if_allowed me last active others rose p =
    if in_some me active
    then (if p.view == last_view then Err ViewLimit
    else Ok (campaign me last active others (p.view + 1)))
    else idle rose p

abbrev pub timeout_as : Role → NodeId → TxId → List (List NodeId) → List NodeId → Bool → Peer →
    ElectionStep
timeout_as Leader me last active others rose p = idle rose p
timeout_as Candidate me last active others rose p = campaign_if_allowed me last active others rose p
timeout_as Follower me last active others rose p = campaign_if_allowed me last active others rose p

-- A leader is idle, and any other peer campaigns, if it may. The active configurations are those of
-- the log cut to its last signature.
abbrev pub at_timeout : NodeId → TxId → List (List NodeId) → List NodeId → Peer → ElectionStep
at_timeout me last active others p = timeout_as p.role me last active others false p

-- RequestVote

abbrev pub vote_if : Bool → NodeId → Peer → Peer
vote_if true c p = record p { vote = Some c }
vote_if false c p = p

abbrev pub vote_reply : NodeId → NodeId → ℕ → Bool → Message
vote_reply me c view granted = record { from = me; to = c; view = view; body = VoteReply granted }

abbrev pub reply_to_vote_request : NodeId → NodeId → Bool → Bool → Peer → Elected × Peer
reply_to_vote_request me c granted rose p = (
  record { outcome = Done; sent = vote_reply me c p.view granted ∷ []; rose = rose },
  vote_if granted c p,
)

-- Whether a peer gives its vote to a candidate of a view, with this last signature: its own view
-- isn't a later one, its vote is free for the candidate, and the signature is at least this node's
-- last one.
abbrev pub grants : TxId → NodeId → ℕ → TxId → Peer → Bool
grants last c view theirs p =
    not (nat_lt view p.view)
    && (may_vote_for p.vote c && is_up_to_date (position theirs) (position last))

-- A request for a vote.
abbrev pub at_request_vote : NodeId → TxId → NodeId → ℕ → TxId → Peer → ElectionStep
at_request_vote me last c view theirs p =
    let q = update_view view p in
    Ok (reply_to_vote_request me c (grants last c view theirs q) (nat_lt p.view view) q)

-- VoteReply

abbrev pub add_vote : NodeId → Peer → Peer
add_vote y p = record p { votes = with_node y p.votes }

abbrev pub vote_outcome : Bool → ElectionOutcome
vote_outcome true = BecameLeader
vote_outcome false = Done

abbrev pub lead_if : Bool → Peer → Peer
lead_if true p = record p { role = Leader }
lead_if false p = p

-- It leads where it has a majority in each active configuration.
abbrev pub count_votes : List (List NodeId) → Peer → Elected × Peer
count_votes active p =
    let won = quorum (λ y. member y p.votes) active in
    (record { outcome = vote_outcome won; sent = []; rose = false }, lead_if won p)

abbrev pub vote_reply_as : Role → List (List NodeId) → NodeId → ℕ → Bool → Peer → ElectionStep
vote_reply_as Candidate active y view granted p =
    if granted && (view == p.view) then Ok (count_votes active (add_vote y p)) else idle false p
vote_reply_as Follower active y view granted p = idle false p
vote_reply_as Leader active y view granted p = idle false p

-- A reply in a view: a candidate of that view adds the vote that it grants. A later view is
-- entered, and no vote is counted in it.
abbrev pub at_vote_reply : List (List NodeId) → NodeId → ℕ → Bool → Peer → ElectionStep
at_vote_reply active y view granted p =
    if nat_lt p.view view
    then idle true (enter_view view)
    else vote_reply_as p.role active y view granted p

-- ProposeVote

-- A leader's wish that this node campaign: a timeout, unless the view is before the peer's. Where
-- the event is refused, a later view isn't entered either.
abbrev pub at_propose_vote : NodeId → TxId → List (List NodeId) → List NodeId → ℕ → Peer →
    ElectionStep
at_propose_vote me last active others view p =
    if nat_lt view p.view
    then idle false p
    else (
    let q = update_view view p in
    timeout_as q.role me last active others (nat_lt p.view view) q
    )

-- StepDown

abbrev pub hand_over : NodeId → NodeId → Peer → Elected × Peer
hand_over me y p = (
  record {
    outcome = Done;
    sent = record { from = me; to = y; view = p.view; body = ProposeVote } ∷ [];
    rose = false;
  },
  record p { role = Follower; leader = None },
)

abbrev pub step_down_as : Role → NodeId → List (List NodeId) → NodeId → Peer → ElectionStep
step_down_as Leader me active y p =
    if not (same y me) && in_some y active then Ok (hand_over me y p) else Err NotPeer
step_down_as Candidate me active y p = Err (NotPrimary p.view p.leader)
step_down_as Follower me active y p = Err (NotPrimary p.view p.leader)

-- A leader hands over to another node of an active configuration.
abbrev pub at_step_down : NodeId → List (List NodeId) → NodeId → Peer → ElectionStep
at_step_down me active y p = step_down_as p.role me active y p
