-- The rules of elections, event by event, as turns of a node's peer.
use Rattle.std.proofs.Common.{◌≡◌, ◌≤◌, ℕ, zero, suc, ◌+◌, ◌==◌, List, [], ◌∷◌, map, length, take, nat_lt, ◌&&◌, not, Bool, true, false, Option, Some, None, Ok, Err, if◌then◌else◌, refl, sym, ap, subst, ◌∙◌, arith, length-take}
use Rattle.std.proofs.lemmas.Bool.Decides.{nat_tests}
use Rattle.gl_base.specs.declared.tx_id.TxId.{TxId}
use Rattle.gl_entry.specs.declared.entry.Entry.{Entry}
use Rattle.gl_rules.specs.Identity.{NodeId, same, member, with_node}
use Rattle.gl_rules.specs.Majority.{quorum}
use Rattle.gl_rules.specs.Book.{Book}
use Rattle.gl_rules.specs.Node.{Node}
use Rattle.gl_rules.specs.Message as messages
use Rattle.gl_rules.specs.Outcome as outcomes
use Rattle.gl_rules.specs.Log.{is_up_to_date, view_of_entry, view_at, entry_at, seqno_with_first, last_signature, last_signature_position, signed_prefix}
use Rattle.gl_rules.specs.Configuration.{active, in_some, others}
use Rattle.gl_rules.specs.Elections as rules
use Rattle.gl_rules.specs.Steps.{cut_to, one_more_cut, enter_view, lead_if, campaign_outcome, lead_if_elected, as_leader}
use Rattle.gl_rules.specs.World.{undo_if_refused, on_message}
use Rattle.gl_election.specs.declared.elected.ElectionOutcome.{ElectionOutcome}
use Rattle.gl_election.specs.declared.elected.ElectionOutcome.TheVariants as answers
use Rattle.gl_election.specs.declared.elected.Elected.{Elected}
use Rattle.gl_election.specs.declared.elected.ElectionRefusal.TheVariants as refusals
use Rattle.gl_election.specs.declared.peer.Peer.{Peer}
use Rattle.gl_election.specs.declared.peer.Role.{Role}
use Rattle.gl_election.specs.declared.peer.Role.TheVariants.{Follower, Candidate, Leader}
use Rattle.gl_election.specs.Elections as seats
use Rattle.gl_election.specs.Elections.{ElectionStep, position}
use Rattle.gl_election.specs.Bridge.{seen_role, seen_message, tx_id, with_peer, IsPeerOf, step_of, last_of, signed, cut_if_rose, begin_leading, seen_outcome}

-- A log cut to its last signature

module _ {E Q G R A F : Type 0} (b : Book E Q G R A F) where
  entry_cut : (l : List E) (k : ℕ) → entry_at (take k l) k ≡ entry_at l k
  entry_cut l zero = refl
  entry_cut [] (suc k) = refl
  entry_cut (e ∷ l) (suc zero) = refl
  entry_cut (e ∷ l) (suc (suc k)) = entry_cut l (suc k)

  pub last_le : (l : List E) → last_signature b l ≤ length l
  unfolding last_signature
  last_le [] = omega arith
  last_le (e ∷ l) = go (b.is_signature e) (last_signature b l) (last_le l)
    where
      go : (t : Bool) (k : ℕ) → k ≤ length l → seqno_with_first t k ≤ suc (length l)
      go t (suc k) h = omega arith
      go true zero h = omega arith
      go false zero h = omega arith

  ends : (l : List E) → last_signature b (take (last_signature b l) l) ≡ last_signature b l
  unfolding last_signature
  ends [] = refl
  ends (e ∷ l) = go (b.is_signature e) (last_signature b l) refl refl (ends l)
    where
      go : (t : Bool) (k : ℕ) → b.is_signature e ≡ t → last_signature b l ≡ k → last_signature b (take (last_signature b l) l) ≡ last_signature b l → last_signature b (take (seqno_with_first t k) (e ∷ l)) ≡ seqno_with_first t k
      go t (suc k) s is again =
          ap (λ i. seqno_with_first (b.is_signature e) (last_signature b (take i l))) (sym is) ∙ ap (seqno_with_first (b.is_signature e)) (again ∙ is)
      go true zero s is again = ap (λ u. seqno_with_first u 0) s
      go false zero s is again = refl

  take_again : (k : ℕ) (l : List E) → take k (take k l) ≡ take k l
  take_again zero l = refl
  take_again (suc k) [] = refl
  take_again (suc k) (e ∷ l) = ap {B = List E} (λ m. e ∷ m) (take_again k l)

  pub signed_again : (l : List E) → signed_prefix b (signed_prefix b l) ≡ signed_prefix b l
  signed_again l = ap (λ k. take k (signed_prefix b l)) (ends l) ∙ take_again (last_signature b l) l

  -- a log that is cut to its last signature has the same one
  pub last_signed : (l : List E) → last_signature_position b (signed_prefix b l) ≡ last_signature_position b l
  last_signed l =
      ap {B = messages.Position} (λ (k : ℕ). record { view = view_at b (signed_prefix b l) k; seqno = k }) (ends l)
      ∙ ap {B = messages.Position} (λ (o : Option E). record { view = view_of_entry b o; seqno = last_signature b l }) (entry_cut l (last_signature b l))

  -- a node that is cut there is not cut there again
  pub cut_again : (n : Node E) → cut_to (last_signature b (signed_prefix b n.log)) (cut_to (last_signature b n.log) n) ≡ cut_to (last_signature b n.log) n
  cut_again n =
      let k = last_signature b n.log in
      let m = cut_to k n in
      let whole : nat_lt k (length (take k n.log)) ≡ false = grind (arith, nat_tests, length-take k n.log, last_le n.log) in
      ap (λ i. cut_to i m) (ends n.log)
      ∙ ap (λ (l : List E). record m { log = l; cuts = if nat_lt k (length (take k n.log)) then one_more_cut m.cuts else m.cuts }) (take_again k n.log)
      ∙ ap {B = Node E} (λ (t : Bool). record m { cuts = if t then one_more_cut m.cuts else m.cuts }) whole

module _ {Q G R A F : Type 0} (b : Book Entry Q G R A F) (x : NodeId) where
  requests_seen : (view : ℕ) (last : TxId) (to : List NodeId) →
      map (λ y. record { sender = x; receiver = y; view = view; body = messages.RequestVote (position last) }) to ≡ map seen_message (map (seats.vote_request x view last) to)
  requests_seen view last [] = refl
  requests_seen view last (y ∷ to) =
      ap {B = List (messages.Message Entry)} (λ (m : List (messages.Message Entry)). record { sender = x; receiver = y; view = view; body = messages.RequestVote (position last) } ∷ m) (requests_seen view last to)

  -- a delivery that its turn refuses is undone by it
  undone : (t : ElectionStep) (n : Node Entry) → undo_if_refused (step_of b t n).outcome n (step_of b t n) ≡ step_of b t n
  undone (Err why) n = refl
  undone (Ok turn) n = go turn.0.outcome (begin_leading b turn.0.outcome (with_peer turn.1 (cut_if_rose b turn.0.rose n))) (map seen_message turn.0.sent)
    where
      go : (o : ElectionOutcome) (k : Node Entry) (sent : List (messages.Message Entry)) →
          undo_if_refused (seen_outcome b o) n (record { node = k; sent = sent; outcome = seen_outcome b o }) ≡ record { node = k; sent = sent; outcome = seen_outcome b o }
      go answers.Done k sent = refl
      go answers.Idle k sent = refl
      go answers.BecameCandidate k sent = refl
      go answers.BecameLeader k sent = refl

  module _ (p : Peer) (n : Node Entry) where
    abbrev this : Node Entry
    this = with_peer p n

    abbrev sets : List (List NodeId)
    sets = active b (signed_prefix b n.log) n.commit

    abbrev nodes : List NodeId
    nodes = others b x (signed b n)

    abbrev won : Bool
    won = quorum (λ y. member y (x ∷ [])) sets

    campaign_is : rules.campaign b x (rules.become_candidate b x this) ≡ step_of b (Ok (seats.campaign x (last_of b n) sets nodes (p.view + 1))) this
    unfolding enter_view lead_if_elected
    campaign_is =
        ap {B = outcomes.Step Entry A F} (λ (l : messages.Position). record {
          node = lead_if b won (rules.become_candidate b x this);
          sent = map (λ y. record { sender = x; receiver = y; view = p.view + 1; body = messages.RequestVote l }) nodes;
          outcome = campaign_outcome b won;
        }) (last_signed b n.log)
        ∙ ap {B = outcomes.Step Entry A F} (λ (m : List (messages.Message Entry)). record {
          node = lead_if b won (rules.become_candidate b x this);
          sent = m;
          outcome = campaign_outcome b won;
        }) (requests_seen (p.view + 1) (last_of b n) nodes)
        ∙ go won
      where
        go : (q : Bool) → ◌≡◌ {A = outcomes.Step Entry A F} (record {
          node = lead_if b q (rules.become_candidate b x this);
          sent = map seen_message (map (seats.vote_request x (p.view + 1) (last_of b n)) nodes);
          outcome = campaign_outcome b q;
        }) (record {
          node = begin_leading b (seats.campaign_outcome q) (with_peer (record { view = p.view + 1; vote = Some x; role = seats.role_by q; leader = None; votes = x ∷ [] }) (cut_to (last_signature b n.log) this));
          sent = map seen_message (map (seats.vote_request x (p.view + 1) (last_of b n)) nodes);
          outcome = seen_outcome b (seats.campaign_outcome q);
        })
        go true = refl
        go false = refl

    allowed : rules.campaign_if_allowed b x this ≡ step_of b (seats.campaign_if_allowed x (last_of b n) sets nodes false p) this
    allowed = go (in_some x sets) (p.view == rules.last_view)
      where
        go : (t u : Bool) → (if t then (if u then outcomes.refuse this outcomes.ViewLimit else rules.campaign b x (rules.become_candidate b x this)) else outcomes.idle this)
            ≡ step_of b (if t then (if u then Err refusals.ViewLimit else Ok (seats.campaign x (last_of b n) sets nodes (p.view + 1))) else seats.idle false p) this
        go true true = refl
        go true false = campaign_is
        go false u = refl

  module _ (p : Peer) (n : Node Entry) where
    abbrev here : Node Entry
    here = with_peer p n

    abbrev acting : List (List NodeId)
    acting = active b (signed_prefix b n.log) n.commit

    abbrev to : List NodeId
    to = others b x (signed b n)

    timeout_here : rules.timeout b x here ≡ step_of b (seats.at_timeout x (last_of b n) acting to p) here
    unfolding rules.timeout
    timeout_here = go p.role
      where
        go : (r : Role) → rules.timeout_as b (seen_role r) x here ≡ step_of b (seats.timeout_as r x (last_of b n) acting to false p) here
        go Leader = refl
        go Candidate = allowed p n
        go Follower = allowed p n

    step_down_here : (y : NodeId) → rules.step_down b x y here ≡ step_of b (seats.at_step_down x (active b n.log n.commit) y p) here
    unfolding rules.step_down
    step_down_here y = go p.role
      where
        each : (t : Bool) → (if t then rules.hand_over b x y here else outcomes.refuse here outcomes.NotPeer) ≡ step_of b (if t then Ok (seats.hand_over x y p) else Err refusals.NotPeer) here
        each true = refl
        each false = refl

        go : (r : Role) → as_leader (seen_role r) here (if not (same y x) && in_some y (active b n.log n.commit) then rules.hand_over b x y here else outcomes.refuse here outcomes.NotPeer)
            ≡ step_of b (seats.step_down_as r x (active b n.log n.commit) y p) here
        go Leader = each (not (same y x) && in_some y (active b n.log n.commit))
        go Candidate = refl
        go Follower = refl

    -- the node with its log cut, where its view rises
    abbrev entered : Bool → Node Entry
    entered rose = cut_if_rose b rose here

    last_entered : (rose : Bool) → last_of b (entered rose) ≡ last_of b n
    last_entered true = ap tx_id (last_signed b n.log)
    last_entered false = refl

    abbrev replied : NodeId → Bool → Bool → Peer → outcomes.Step Entry A F
    replied y granted rose q = step_of b (Ok (seats.reply_to_vote_request x y granted rose q)) here

    asked : (y : NodeId) (view : ℕ) (theirs : TxId) (rose : Bool) (q : Peer) →
        rules.on_request_vote b x y view (position theirs) (with_peer q (entered rose)) ≡ replied y (seats.grants (last_of b n) y view theirs q) rose q
    unfolding rules.on_request_vote
    asked y view theirs rose q = each (nat_lt view q.view) ∙ ap (λ l. replied y (seats.grants l y view theirs q) rose q) (last_entered rose)
      where
        given : (granted : Bool) → rules.reply_to_vote_request b x y granted (with_peer q (entered rose)) ≡ replied y granted rose q
        given true = refl
        given false = refl

        free : Bool
        free = rules.may_vote_for q.vote y && is_up_to_date (position theirs) (last_signature_position b (entered rose).log)

        each : (u : Bool) → (if u then rules.reply_to_vote_request b x y false (with_peer q (entered rose)) else rules.reply_to_vote_request b x y free (with_peer q (entered rose)))
            ≡ replied y (not u && free) rose q
        each true = given false
        each false = given free

    request_vote_here : (y : NodeId) (view : ℕ) (theirs : TxId) →
        on_message b (record { sender = y; receiver = x; view = view; body = messages.RequestVote (position theirs) }) here
        ≡ step_of b (seats.at_request_vote x (last_of b n) y view theirs p) here
    unfolding on_message enter_view
    request_vote_here y view theirs = go (nat_lt p.view view)
      where
        go : (t : Bool) → (let step = rules.on_request_vote b x y view (position theirs) (if t then enter_view b view here else here) in undo_if_refused step.outcome here step)
            ≡ replied y (seats.grants (last_of b n) y view theirs (if t then seats.enter_view view else p)) t (if t then seats.enter_view view else p)
        go true = ap (λ (step : outcomes.Step Entry A F). undo_if_refused step.outcome here step) (asked y view theirs true (seats.enter_view view))
        go false = ap (λ (step : outcomes.Step Entry A F). undo_if_refused step.outcome here step) (asked y view theirs false p)

    vote_reply_here : (y : NodeId) (view : ℕ) (granted : Bool) →
        on_message b (record { sender = y; receiver = x; view = view; body = messages.VoteReply granted }) here
        ≡ step_of b (seats.at_vote_reply (active b n.log n.commit) y view granted p) here
    unfolding on_message rules.on_vote_reply enter_view lead_if_elected
    vote_reply_here y view granted = go (nat_lt p.view view)
      where
        votes : Bool
        votes = quorum (λ z. member z (with_node y p.votes)) (active b n.log n.commit)

        counted : (q : Bool) → ◌≡◌ {A = outcomes.Step Entry A F} (outcomes.quiet (lead_if b q (rules.add_vote b y here)) (rules.vote_outcome b q))
            (step_of b (Ok (record { outcome = seats.vote_outcome q; sent = []; rose = false }, seats.lead_if q (seats.add_vote y p))) here)
        counted true = refl
        counted false = refl

        each : (t : Bool) → (if t then rules.count_votes b (rules.add_vote b y here) else outcomes.idle here)
            ≡ step_of b (if t then Ok (seats.count_votes (active b n.log n.commit) (seats.add_vote y p)) else seats.idle false p) here
        each true = counted votes
        each false = refl

        replies : (r : Role) → rules.vote_reply_as b (seen_role r) y view granted here ≡ step_of b (seats.vote_reply_as r (active b n.log n.commit) y view granted p) here
        replies Candidate = each (granted && (view == p.view))
        replies Follower = refl
        replies Leader = refl

        go : (t : Bool) → (let m = if t then enter_view b view here else here in let step = rules.vote_reply_as b m.role y view granted m in undo_if_refused step.outcome here step)
            ≡ step_of b (if t then seats.idle true (seats.enter_view view) else seats.vote_reply_as p.role (active b n.log n.commit) y view granted p) here
        go true = refl
        go false =
            ap (λ (step : outcomes.Step Entry A F). undo_if_refused step.outcome here step) (replies p.role)
            ∙ undone (seats.vote_reply_as p.role (active b n.log n.commit) y view granted p) here

    -- a campaign of a node whose view has just risen, seen from before that
    from_before : (q : Peer) → (let step = step_of b (seats.campaign_if_allowed x (last_of b n) acting to false q) (with_peer q (entered true)) in undo_if_refused step.outcome here step)
        ≡ step_of b (seats.campaign_if_allowed x (last_of b n) acting to true q) here
    from_before q = go (in_some x acting) (q.view == rules.last_view)
      where
        turn : Elected × Peer
        turn = seats.campaign x (last_of b n) acting to (q.view + 1)

        won_from : (o : ElectionOutcome) (sent : List (messages.Message Entry)) (k : Node Entry) → undo_if_refused (seen_outcome b o) here (record { node = k; sent = sent; outcome = seen_outcome b o }) ≡ record { node = k; sent = sent; outcome = seen_outcome b o }
        won_from answers.Done sent k = refl
        won_from answers.Idle sent k = refl
        won_from answers.BecameCandidate sent k = refl
        won_from answers.BecameLeader sent k = refl

        go : (t u : Bool) → (let step = step_of b (if t then (if u then Err refusals.ViewLimit else Ok turn) else seats.idle false q) (with_peer q (entered true)) in undo_if_refused step.outcome here step)
            ≡ step_of b (if t then (if u then Err refusals.ViewLimit else Ok turn) else seats.idle true q) here
        go true true = refl
        go true false =
            won_from turn.0.outcome (map seen_message turn.0.sent) _
            ∙ ap {B = outcomes.Step Entry A F} (λ (k : Node Entry). record { node = begin_leading b turn.0.outcome (with_peer turn.1 k); sent = map seen_message turn.0.sent; outcome = seen_outcome b turn.0.outcome }) (cut_again b n)
        go false u = refl

    risen : (view : ℕ) → (let step = rules.timeout b x (enter_view b view here) in undo_if_refused step.outcome here step)
        ≡ step_of b (seats.campaign_if_allowed x (last_of b n) acting to true (seats.enter_view view)) here
    unfolding rules.timeout enter_view
    risen view =
        let q = seats.enter_view view in
        ap (λ (step : outcomes.Step Entry A F). undo_if_refused step.outcome here step) (
        allowed q (cut_to (last_signature b n.log) here)
        ∙ ap (λ (l : messages.Position). step_of b (seats.campaign_if_allowed x (tx_id l) (active b (signed_prefix b (signed_prefix b n.log)) n.commit) (others b x (record n { log = signed_prefix b (signed_prefix b n.log) })) false q) (with_peer q (entered true))) (last_signed b n.log)
        ∙ ap (λ (l : List Entry). step_of b (seats.campaign_if_allowed x (last_of b n) (active b l n.commit) (others b x (record n { log = l })) false q) (with_peer q (entered true))) (signed_again b n.log)
        )
        ∙ from_before q

    propose_vote_here : (y : NodeId) (view : ℕ) →
        on_message b (record { sender = y; receiver = x; view = view; body = messages.ProposeVote }) here
        ≡ step_of b (seats.at_propose_vote x (last_of b n) acting to view p) here
    unfolding on_message rules.on_propose_vote enter_view
    propose_vote_here y view = go (nat_lt p.view view) refl
      where
        low : (t : Bool) → (let step = if t then outcomes.idle here else rules.timeout b x here in undo_if_refused step.outcome here step)
            ≡ step_of b (if t then seats.idle false p else seats.at_timeout x (last_of b n) acting to p) here
        low true = refl
        low false =
            ap (λ (step : outcomes.Step Entry A F). undo_if_refused step.outcome here step) timeout_here
            ∙ undone (seats.at_timeout x (last_of b n) acting to p) here

        go : (t : Bool) → nat_lt p.view view ≡ t → (let m = if t then enter_view b view here else here in let step = if nat_lt view m.view then outcomes.idle m else rules.timeout b x m in undo_if_refused step.outcome here step)
            ≡ step_of b (if nat_lt view p.view then seats.idle false p else (let q = if t then seats.enter_view view else p in seats.timeout_as q.role x (last_of b n) acting to t q)) here
        go true above =
            let same_view : nat_lt view view ≡ false = grind (arith, nat_tests) in
            let below : nat_lt view p.view ≡ false = grind (arith, nat_tests) in
            ap (λ (t : Bool). let step = if t then outcomes.idle (enter_view b view here) else rules.timeout b x (enter_view b view here) in undo_if_refused step.outcome here step) same_view
            ∙ risen view
            ∙ ap (λ (t : Bool). step_of b (if t then seats.idle false p else seats.campaign_if_allowed x (last_of b n) acting to true (seats.enter_view view)) here) (sym below)
        go false above = low (nat_lt view p.view)

  pub timeout_is : (p : Peer) (n : Node Entry) → IsPeerOf p n → rules.timeout b x n ≡ step_of b (seats.at_timeout x (last_of b n) (active b (signed_prefix b n.log) n.commit) (others b x (signed b n)) p) n
  timeout_is p n is = subst (λ m. rules.timeout b x m ≡ step_of b (seats.at_timeout x (last_of b m) (active b (signed_prefix b m.log) m.commit) (others b x (signed b m)) p) m) is (timeout_here p n)

  pub step_down_is : (y : NodeId) (p : Peer) (n : Node Entry) → IsPeerOf p n → rules.step_down b x y n ≡ step_of b (seats.at_step_down x (active b n.log n.commit) y p) n
  step_down_is y p n is = subst (λ m. rules.step_down b x y m ≡ step_of b (seats.at_step_down x (active b m.log m.commit) y p) m) is (step_down_here p n y)

  pub request_vote_is : (y : NodeId) (view : ℕ) (theirs : TxId) (p : Peer) (n : Node Entry) → IsPeerOf p n →
      on_message b (record { sender = y; receiver = x; view = view; body = messages.RequestVote (position theirs) }) n ≡ step_of b (seats.at_request_vote x (last_of b n) y view theirs p) n
  request_vote_is y view theirs p n is =
      subst (λ m. on_message b (record { sender = y; receiver = x; view = view; body = messages.RequestVote (position theirs) }) m ≡ step_of b (seats.at_request_vote x (last_of b m) y view theirs p) m) is (request_vote_here p n y view theirs)

  pub vote_reply_is : (y : NodeId) (view : ℕ) (granted : Bool) (p : Peer) (n : Node Entry) → IsPeerOf p n →
      on_message b (record { sender = y; receiver = x; view = view; body = messages.VoteReply granted }) n ≡ step_of b (seats.at_vote_reply (active b n.log n.commit) y view granted p) n
  vote_reply_is y view granted p n is =
      subst (λ m. on_message b (record { sender = y; receiver = x; view = view; body = messages.VoteReply granted }) m ≡ step_of b (seats.at_vote_reply (active b m.log m.commit) y view granted p) m) is (vote_reply_here p n y view granted)

  pub propose_vote_is : (y : NodeId) (view : ℕ) (p : Peer) (n : Node Entry) → IsPeerOf p n →
      on_message b (record { sender = y; receiver = x; view = view; body = messages.ProposeVote }) n
      ≡ step_of b (seats.at_propose_vote x (last_of b n) (active b (signed_prefix b n.log) n.commit) (others b x (signed b n)) view p) n
  propose_vote_is y view p n is =
      subst (λ m. on_message b (record { sender = y; receiver = x; view = view; body = messages.ProposeVote }) m
      ≡ step_of b (seats.at_propose_vote x (last_of b m) (active b (signed_prefix b m.log) m.commit) (others b x (signed b m)) view p) m) is (propose_vote_here p n y view)
