-- What a peer sends in its turn keeps the limits of messages.
use Rattle.std.proofs.Common.{◌≡◌, ℕ, ◌+◌, List, [], ◌∷◌, Bool, true, false, ◌&&◌, not, Ok, Err, map, nat_lt, ◌==◌, if◌then◌else◌, IsTrue, refl, sym, subst}
use Rattle.std.proofs.lemmas.List.Elements.{All-nil, All-cons}
use Rattle.gl_base.specs.declared.tx_id.TxId.{TxId}
use Rattle.gl_rules.specs.Identity.{NodeId, same}
use Rattle.gl_rules.specs.Configuration.{in_some}
use Rattle.gl_rules.specs.Elections.{last_view}
use Rattle.gl_messages.specs.Message.{body_fits}
use Rattle.gl_messages.specs.declared.message.Message.{Message}
use Rattle.gl_election.specs.declared.elected.Elected.{Elected}
use Rattle.gl_election.specs.declared.elected.ElectionRefusal.TheVariants.{NotPeer, ViewLimit}
use Rattle.gl_election.specs.declared.peer.Peer.{Peer}
use Rattle.gl_election.specs.declared.peer.Role.{Role}
use Rattle.gl_election.specs.declared.peer.Role.TheVariants.{Follower, Candidate, Leader}
use Rattle.gl_election.specs.Elections as elections
use Rattle.gl_election.specs.Elections.{ElectionStep, add_vote, at_propose_vote, at_request_vote, at_step_down, at_timeout, at_vote_reply, campaign, campaign_if_allowed, count_votes, enter_view, hand_over, idle, step_down_as, timeout_as, update_view, vote_reply_as, vote_request}
use Rattle.gl_replication.specs.Events.{AreFit}

abbrev IsFit : Message → Type 0
IsFit m = IsTrue (body_fits m.body)

no_message_fits : AreFit []
no_message_fits = All-nil IsFit

one_fits : (m : Message) → IsTrue (body_fits m.body) → AreFit (m ∷ [])
one_fits m fits = All-cons IsFit m [] fits (All-nil IsFit)

-- what the turn sends, unless it is refused
abbrev pub Fits : ElectionStep → Type 0
Fits (Ok made) = AreFit made.0.sent
Fits (Err why) = Unit {0}

by : (t : Bool) (one another : ElectionStep) → Fits one → Fits another → Fits (if t then one else another)
by true one another fits other = fits
by false one another fits other = other

requests_fit : (me : NodeId) (view : ℕ) (last : TxId) (ys : List NodeId) → AreFit (map (vote_request me view last) ys)
requests_fit me view last [] = no_message_fits
requests_fit me view last (y ∷ ys) = All-cons IsFit (vote_request me view last y) (map (vote_request me view last) ys) refl (requests_fit me view last ys)

allowed_fits : (me : NodeId) (last : TxId) (active : List (List NodeId)) (others : List NodeId) (rose : Bool) (p : Peer) → Fits (campaign_if_allowed me last active others rose p)
allowed_fits me last active others rose p =
    by (in_some me active) (if p.view == last_view then Err ViewLimit else Ok (campaign me last active others (p.view + 1))) (idle rose p)
    (by (p.view == last_view) (Err ViewLimit) (Ok (campaign me last active others (p.view + 1))) tt (requests_fit me (p.view + 1) last others))
    no_message_fits

timeout_as_fits : (role : Role) (me : NodeId) (last : TxId) (active : List (List NodeId)) (others : List NodeId) (rose : Bool) (p : Peer) → Fits (timeout_as role me last active others rose p)
timeout_as_fits Leader me last active others rose p = no_message_fits
timeout_as_fits Candidate me last active others rose p = allowed_fits me last active others rose p
timeout_as_fits Follower me last active others rose p = allowed_fits me last active others rose p

pub timeout_fits : (me : NodeId) (last : TxId) (active : List (List NodeId)) (others : List NodeId) (p : Peer) → Fits (at_timeout me last active others p)
timeout_fits me last active others p = timeout_as_fits p.role me last active others false p

pub request_vote_fits : (me : NodeId) (last : TxId) (c : NodeId) (view : ℕ) (theirs : TxId) (p : Peer) → Fits (at_request_vote me last c view theirs p)
request_vote_fits me last c view theirs p = one_fits (elections.vote_reply me c (update_view view p).view (elections.grants last c view theirs (update_view view p))) refl

pub vote_reply_fits : (active : List (List NodeId)) (y : NodeId) (view : ℕ) (granted : Bool) (p : Peer) → Fits (at_vote_reply active y view granted p)
vote_reply_fits active y view granted p =
    by (nat_lt p.view view) (idle true (enter_view view)) (vote_reply_as p.role active y view granted p) no_message_fits (go p.role)
  where
    go : (role : Role) → Fits (vote_reply_as role active y view granted p)
    go Candidate = by (granted && (view == p.view)) (Ok (count_votes active (add_vote y p))) (idle false p) no_message_fits no_message_fits
    go Follower = no_message_fits
    go Leader = no_message_fits

pub propose_vote_fits : (me : NodeId) (last : TxId) (active : List (List NodeId)) (others : List NodeId) (view : ℕ) (p : Peer) → Fits (at_propose_vote me last active others view p)
propose_vote_fits me last active others view p =
    let q : Peer = update_view view p in
    by (nat_lt view p.view) (idle false p) (timeout_as q.role me last active others (nat_lt p.view view) q) no_message_fits
    (timeout_as_fits q.role me last active others (nat_lt p.view view) q)

pub step_down_fits : (me : NodeId) (active : List (List NodeId)) (y : NodeId) (p : Peer) → Fits (at_step_down me active y p)
step_down_fits me active y p = go p.role
  where
    go : (role : Role) → Fits (step_down_as role me active y p)
    go Leader = by (not (same y me) && in_some y active) (Ok (hand_over me y p)) (Err NotPeer) (one_fits _ refl) tt
    go Candidate = tt
    go Follower = tt

-- what is sent where that is what the turn sends
pub sent_fits : (turn : ElectionStep) (elected : Elected) (p : Peer) (sent : List Message) → Fits turn → turn ≡ Ok (elected, p) → sent ≡ elected.sent → AreFit sent
sent_fits turn elected p sent fits is all = subst AreFit (sym all) (subst Fits is fits)
