-- Each event, and so each list of events, keeps the invariants.
use Rattle.std.proofs.Common.{◌∙◌, ◌≡◌, ◌⊎◌, inl, inr, ⊎_elim, ap, Bool, length, ℕ, ◌≤◌, List, [], ◌∷◌, ◌++◌, false, ◌==◌, nat_lt, if◌then◌else◌, Option, Some, None, slice_get, refl, arith}
use Rattle.std.proofs.lemmas.Bool.Decides.{nat_tests}
use Rattle.gl_rules.specs.Identity.{NodeId, put}
use Rattle.gl_rules.specs.Book.{Book}
use Rattle.gl_rules.specs.Node.{Node, Leader}
use Rattle.gl_rules.specs.Message.{Message, Body, RequestVote, VoteReply, Append, AppendReply, ProposeVote}
use Rattle.gl_rules.specs.Steps.{enter_view, update_view}
use Rattle.gl_rules.specs.World.{Start, Event, Timeout, Deliver, Submit, Finish, Govern, Reserve, Sign, Evidence, Replicate, Advance, StepDown, Restart, Install, World, at, undo_if_refused, answer_as, on_message, deliver, happens, run, node_at_start}
use Rattle.gl_rules.specs.Safety.{IsOpening, IsLawful, EachFollows}
use Rattle.gl_rules.proofs.Ids.{put_all, by_test, same_self}
use Rattle.gl_safety.proofs.Story.{Story}
use Rattle.gl_safety.proofs.Certificates.{Sured, Tale}
use Rattle.gl_safety.proofs.Invariants.{Good, BodySent, AllSent, sured_more, good_of, all_grow, all_append, sent_at}
use Rattle.gl_rules.specs.Outcome.{Outcome, Step}
use Rattle.gl_rules.specs.Outcome as outcome
use Rattle.gl_rules.specs.Elections as elections
use Rattle.gl_rules.specs.Replication as replication
use Rattle.gl_rules.specs.Requests as requests
use Rattle.gl_safety.proofs.Standing.{good_rise}
use Rattle.gl_safety.proofs.Voters.{By, stay, reached_timeout, reached_request, reached_reply, reached_propose, reached_step_down}
use Rattle.gl_safety.proofs.Replicas.{reached_replicate, reached_append, reached_append_reply, reached_advance, reached_restart, reached_install}
use Rattle.gl_safety.proofs.Makers.{reached_submit, reached_finish, reached_govern, reached_reserve, reached_sign, reached_evidence}

module _ {E Q G R A F : Type 0} {b : Book E Q G R A F} {s : Start E} (o : IsOpening b (EachFollows b) s) (la : IsLawful b (EachFollows b)) where
  rise_up : (v : ℕ) (n : Node E) → (enter_view b v n).view ≡ v
  unfolding enter_view
  rise_up v n = refl

  -- a message: its view first
  reached_risen : (m : Message E) (g : Story E) (n : Node E) → Tale o g → Good o g m.receiver n → m.view ≤ n.view → BodySent o g m.sender m.receiver m.view m.body → By o la m.receiver g (answer_as b m.body m.receiver m.sender m.view n)
  reached_risen m g n t z up said = go m.body said
    where
      go : (p : Body E) → BodySent o g m.sender m.receiver m.view p → By o la m.receiver g (answer_as b p m.receiver m.sender m.view n)
      go (RequestVote theirs) a = reached_request o la m.receiver m.sender m.view theirs g n t z up a
      go (VoteReply granted) a = reached_reply o la m.receiver m.sender m.view granted g n t z a
      go (Append prev es c) a = reached_append o la m.receiver m.sender m.view prev es c g n t z up a
      go (AppendReply ok seqno) a = reached_append_reply o la m.receiver m.sender m.view ok seqno g n t z a
      go ProposeVote a = reached_propose o la m.receiver m.view g n t z

  -- a refusal leaves the node
  reached_kept : (x : NodeId) (g : Story E) (n : Node E) (w : Outcome A F) (step : Step E A F) → Tale o g → Good o g x n → By o la x g step → By o la x g (undo_if_refused w n step)
  reached_kept x g n (outcome.Refused why) step t z r = stay o la x g n t z
  reached_kept x g n outcome.Done step t z r = r
  reached_kept x g n outcome.Idle step t z r = r
  reached_kept x g n outcome.BecameCandidate step t z r = r
  reached_kept x g n outcome.BecameLeader step t z r = r
  reached_kept x g n (outcome.Accepted v p a) step t z r = r
  reached_kept x g n (outcome.Signed v p) step t z r = r
  reached_kept x g n (outcome.Committed v p) step t z r = r

  pub reached_message : (m : Message E) (g : Story E) (n : Node E) → Tale o g → Good o g m.receiver n → BodySent o g m.sender m.receiver m.view m.body → By o la m.receiver g (on_message b m n)
  unfolding on_message
  reached_message m g n t z said = reached_kept m.receiver g n (answer_as b m.body m.receiver m.sender m.view (update_view b m.view n)).outcome (answer_as b m.body m.receiver m.sender m.view (update_view b m.view n)) t z
      (by_test (λ k. By o la m.receiver g (answer_as b m.body m.receiver m.sender m.view k)) (nat_lt n.view m.view) (enter_view b m.view n) n
      (λ d. reached_risen m g (enter_view b m.view n) t (good_rise o la g m.receiver n m.view (grind (arith, nat_tests)) z) (omega (arith, rise_up m.view n)) said)
      (λ d. reached_risen m g n t z (grind (arith, nat_tests)) said))

  -- all that holds at a moment
  pub record Holding (w : World E) (g : Story E) : Type 0 where
    pub tale : Tale o g
    pub nodes : (x : NodeId) → Good o g x (w.nodes x)
    pub sent : AllSent o g w.sent

  -- what stays from one moment to a later one
  pub record Later (g h : Story E) : Type 0 where
    pub ballot : (y : NodeId) (v : ℕ) (c : NodeId) → g.ballot y v ≡ Some c → h.ballot y v ≡ Some c
    pub chief : (v : ℕ) (c : NodeId) → g.chief v ≡ Some c → h.chief v ≡ Some c
    pub led : (v i : ℕ) (e : E) → slice_get (g.led v) i ≡ Some e → slice_get (h.led v) i ≡ Some e
    pub fresh : (v : ℕ) (c : NodeId) (i : ℕ) (e : E) → g.chief v ≡ Some c → slice_get (h.led v) i ≡ Some e → (slice_get (g.led v) i ≡ Some e) ⊎ (b.view_of e ≡ v)
    pub sured : (l : List E) (c t : ℕ) → Sured o g l c t → Sured o h l c t

  -- who committed what the story tells more of
  abbrev pub Committers : Story E → Story E → World E → Type 0
  Committers g h w = (v : ℕ) → (h.committed v ≡ g.committed v) ⊎ ((x : NodeId) × ((w.nodes x).role ≡ Leader) × ((w.nodes x).view ≡ v) × (h.committed v ≤ (w.nodes x).commit))

  pub later_same : (g : Story E) → Later g g
  later_same g = record { ballot = λ y v c a. a; chief = λ v c a. a; led = λ v i e a. a; fresh = λ v c i e a d. inl d; sured = λ l c t a. a }

  pub later_then : (g h k : Story E) → Later g h → Later h k → Later g k
  later_then g h k p q = record {
    ballot = λ y v c a. q.ballot y v c (p.ballot y v c a);
    chief = λ v c a. q.chief v c (p.chief v c a);
    led = λ v i e a. q.led v i e (p.led v i e a);
    fresh = λ v c i e a d. ⊎_elim (λ (r : slice_get (h.led v) i ≡ Some e). p.fresh v c i e a r) (λ (r : b.view_of e ≡ v). inr r) (q.fresh v c i e (p.chief v c a) d);
    sured = λ l c t a. q.sured l c t (p.sured l c t a);
  }

  onward_at : (w : World E) (g : Story E) (x : NodeId) (step : Step E A F) → Holding w g → By o la x g step → (h : Story E) × Holding (at w x step).world h × Later g h × Committers g h (at w x step).world
  onward_at w g x step k r = (
    r.0,
    record {
      tale = r.1.tale;
      nodes = put_all (Good o r.0) w.nodes x step.node r.1.good (λ y d. good_of o r.1.grow y (w.nodes y) d (k.tale.ballots y) (k.nodes y));
      sent = all_append o r.0 w.sent step.sent (all_grow o r.1.grow w.sent k.sent) r.1.sent;
    },
    record { ballot = r.1.grow.ballot; chief = r.1.grow.chief; led = r.1.grow.led; fresh = r.1.grow.fresh; sured = sured_more o r.1.grow },
    λ v. ⊎_elim
        (λ (c : (r.0).committed v ≡ g.committed v). inl c)
        (λ (c : (step.node.role ≡ Leader) × (step.node.view ≡ v) × ((r.0).committed v ≤ step.node.commit)).
        inr (x, ap (λ (n : Node E). n.role) here ∙ c.0, ap (λ (n : Node E). n.view) here ∙ c.1, omega (arith, ap (λ (n : Node E). n.commit) here, c.2)))
        (r.1.commits v),
  )
    where
      here : put w.nodes x step.node x ≡ step.node
      here = ap (λ (t : Bool). if t then step.node else w.nodes x) (same_self x)

  onward_same : (w : World E) (g : Story E) → Holding w g → (h : Story E) × Holding w h × Later g h × Committers g h w
  onward_same w g k = (g, k, later_same g, λ v. inl refl)

  pub onward_event : (w : World E) (g : Story E) (e : Event Q G R) → Holding w g → (h : Story E) × Holding (happens b w e).world h × Later g h × Committers g h (happens b w e).world
  unfolding happens
  onward_event w g (Timeout x) k = onward_at w g x (elections.timeout b x (w.nodes x)) k (reached_timeout o la x g (w.nodes x) k.tale (k.nodes x))
  onward_event w g (Deliver which) k = go (slice_get w.sent which) refl
    where
      go : (m : Option (Message E)) → slice_get w.sent which ≡ m → (h : Story E) × Holding (deliver b w m).world h × Later g h × Committers g h (deliver b w m).world
      go None d = onward_same w g k
      go (Some m) d = onward_at w g m.receiver (on_message b m (w.nodes m.receiver)) k (reached_message m g (w.nodes m.receiver) k.tale (k.nodes m.receiver) (sent_at o g w.sent which m k.sent d))
  onward_event w g (Submit x q) k = onward_at w g x (requests.submit b q (w.nodes x)) k (reached_submit o la x q g (w.nodes x) k.tale (k.nodes x))
  onward_event w g (Finish x len cuts reads q) k = onward_at w g x (requests.finish b len cuts reads q (w.nodes x)) k (reached_finish o la x len cuts reads q g (w.nodes x) k.tale (k.nodes x))
  onward_event w g (Govern x q) k = onward_at w g x (requests.govern b q (w.nodes x)) k (reached_govern o la x q g (w.nodes x) k.tale (k.nodes x))
  onward_event w g (Reserve x) k = onward_at w g x (requests.reserve b x (w.nodes x)) k (reached_reserve o la x g (w.nodes x) k.tale (k.nodes x))
  onward_event w g (Sign x) k = onward_at w g x (requests.sign b x (w.nodes x)) k (reached_sign o la x g (w.nodes x) k.tale (k.nodes x))
  onward_event w g (Evidence x) k = onward_at w g x (requests.evidence b (w.nodes x)) k (reached_evidence o la x g (w.nodes x) k.tale (k.nodes x))
  onward_event w g (Replicate x y) k = onward_at w g x (replication.replicate b x y (w.nodes x)) k (reached_replicate o la x y g (w.nodes x) k.tale (k.nodes x))
  onward_event w g (Advance x) k = onward_at w g x (replication.advance b x (w.nodes x)) k (reached_advance o la x g (w.nodes x) k.tale (k.nodes x))
  onward_event w g (StepDown x y) k = onward_at w g x (elections.step_down b x y (w.nodes x)) k (reached_step_down o la x y g (w.nodes x) k.tale (k.nodes x))
  onward_event w g (Restart x) k = onward_at w g x (replication.restart b (w.nodes x)) k (reached_restart o la x g (w.nodes x) k.tale (k.nodes x))
  onward_event w g (Install x y) k = onward_at w g x (replication.install b (w.nodes y) (w.nodes x)) k (reached_install o la x y g (w.nodes y) (w.nodes x) k.tale (k.nodes x) (k.nodes y))

  pub onward_run : (es : List (Event Q G R)) (w : World E) (g : Story E) → Holding w g → (h : Story E) × Holding (run b es w) h × Later g h
  unfolding run
  onward_run [] w g k = (g, k, later_same g)
  onward_run (e ∷ es) w g k =
      let p = onward_event w g e k in
      let q = onward_run es (happens b w e).world p.0 p.1 in
      (q.0, q.1, later_then g p.0 q.0 p.2 q.2)

  -- the start
  unfoldable pub first_story : Story E
  first_story = record {
    ballot = λ y v. if v == 2 then (node_at_start s y).vote else None;
    early = λ y v. false;
    chief = λ v. if v == 2 then Some s.first else None;
    led = λ v. if v == 2 then s.opening else [];
    bid = λ y v. None;
    held = λ y v. 0;
    committed = λ v. if v == 2 then length s.opening else 0;
    shut = λ c v y. false;
  }

  pub run_append : (es fs : List (Event Q G R)) (w : World E) → run b (es ++ fs) w ≡ run b fs (run b es w)
  unfolding run
  run_append [] fs w = refl
  run_append (e ∷ es) fs w = run_append es fs (happens b w e).world
