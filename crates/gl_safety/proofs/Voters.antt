-- Events of elections, each as a composition of small steps.
use Rattle.std.proofs.Common.{◌≡◌, ⊎_elim, inl, inr, ℕ, ◌≤◌, List, [], ◌∷◌, Bool, true, false, ◌&&◌, not, ◌==◌, nat_lt, if◌then◌else◌, Some, None, refl, sym, ap, ◌∙◌, arith, map}
use Rattle.std.proofs.lemmas.Bool.Decides.{nat_tests}
use Rattle.gl_rules.specs.Identity.{NodeId, same}
use Rattle.gl_rules.specs.Book.{Book}
use Rattle.gl_rules.specs.Node.{Node, Role, Follower, Candidate, Leader}
use Rattle.gl_rules.specs.Message.{Position, RequestVote, VoteReply, ProposeVote}
use Rattle.gl_rules.specs.Log.{is_up_to_date, last_signature_position}
use Rattle.gl_rules.specs.Configuration.{active, in_some, others}
use Rattle.gl_rules.specs.Steps.{has_votes, lead_if, lead_if_elected, as_leader, if_leader}
use Rattle.gl_rules.specs.World.{Start}
use Rattle.gl_rules.specs.Safety.{IsOpening, IsLawful, EachFollows}
use Rattle.gl_rules.proofs.Ids.{by_test}
use Rattle.gl_safety.proofs.Story.{Story, grows_then}
use Rattle.gl_safety.proofs.Certificates.{Tale}
use Rattle.gl_safety.proofs.Invariants.{Good, BodySent, AllSent, Reached, made_same}
use Rattle.gl_rules.specs.Outcome.{Step, refuse, idle, NotPeer, ViewLimit}
use Rattle.gl_rules.specs.Elections.{may_vote_for, may_campaign, become_candidate, campaign, campaign_if_allowed, last_view, timeout_as, timeout, reply_to_vote_request, on_request_vote, add_vote, count_votes, vote_reply_as, on_vote_reply, on_propose_vote, hand_over, step_down}
use Rattle.gl_safety.proofs.Standing.{made_stand}
use Rattle.gl_safety.proofs.Winning.{made_win}
use Rattle.gl_safety.proofs.Voting.{made_vote, good_count}
use Rattle.gl_safety.proofs.Following.{good_follow}

module _ {E Q G R A F : Type 0} {b : Book E Q G R A F} {s : Start E} (o : IsOpening b (EachFollows b) s) (la : IsLawful b (EachFollows b)) where
  -- what a step reaches
  abbrev pub By : NodeId → Story E → Step E A F → Type 0
  By x g step = Reached o x g step.node step.sent

  pub stay : (x : NodeId) (g : Story E) (n : Node E) → Tale o g → Good o g x n → Reached o x g n []
  stay x g n t z = (g, made_same o x g n [] t z tt)

  pub reached_win : (x : NodeId) (g : Story E) (n : Node E) → Tale o g → Good o g x n → n.role ≡ Candidate → Reached o x g (lead_if_elected b n) []
  unfolding lead_if_elected
  reached_win x g n t z r = go (has_votes b n) refl
    where
      go : (m : Bool) → has_votes b n ≡ m → Reached o x g (lead_if b m n) []
      go true d = made_win o la x g n t z r d
      go false d = stay x g n t z

  all_requests : (x : NodeId) (h : Story E) (v : ℕ) (l : Position) → h.bid x v ≡ Some l → (ys : List NodeId) → AllSent o h (map (λ y. record { sender = x; receiver = y; view = v; body = RequestVote l }) ys)
  all_requests x h v l a [] = tt
  all_requests x h v l a (y ∷ ys) = (a, all_requests x h v l a ys)

  reached_stands : (x : NodeId) (g : Story E) (n : Node E) → Tale o g → Good o g x n → may_campaign b x n ≡ true → By x g (campaign b x (become_candidate b x n))
  reached_stands x g n t z may =
      let p = made_stand o la x g n t z may in
      let q = reached_win x p.0 (become_candidate b x n) p.1.tale p.1.good refl in (
        q.0,
        record {
          grow = grows_then b.view_of x g p.0 q.0 p.1.grow q.1.grow;
          tale = q.1.tale;
          good = q.1.good;
          commits = λ v. ⊎_elim
              (λ (r : q.0.committed v ≡ p.0.committed v). ⊎_elim
              (λ (w : p.0.committed v ≡ g.committed v). inl (r ∙ w))
              (λ (w : ((become_candidate b x n).role ≡ Leader) × ((become_candidate b x n).view ≡ v) × (p.0.committed v ≤ (become_candidate b x n).commit)). absurd (let u = w.0 in cc))
              (p.1.commits v))
              (λ (r : ((lead_if_elected b (become_candidate b x n)).role ≡ Leader) × ((lead_if_elected b (become_candidate b x n)).view ≡ v) × (q.0.committed v ≤ (lead_if_elected b (become_candidate b x n)).commit)). inr r)
              (q.1.commits v);
          sent = all_requests x q.0 (become_candidate b x n).view (last_signature_position b (become_candidate b x n).log) (q.1.grow.bid x (become_candidate b x n).view (last_signature_position b (become_candidate b x n).log) (p.1.good.kept.bid_is refl)) (others b x (become_candidate b x n));
        },
      )

  reached_allowed : (x : NodeId) (g : Story E) (n : Node E) → Tale o g → Good o g x n → By x g (campaign_if_allowed b x n)
  reached_allowed x g n t z = go (may_campaign b x n) refl (n.view == last_view)
    where
      go : (m : Bool) → may_campaign b x n ≡ m → (l : Bool) → By x g (if m then (if l then refuse n ViewLimit else campaign b x (become_candidate b x n)) else idle n)
      go true d true = stay x g n t z
      go true d false = reached_stands x g n t z d
      go false d l = stay x g n t z

  pub reached_timeout : (x : NodeId) (g : Story E) (n : Node E) → Tale o g → Good o g x n → By x g (timeout b x n)
  unfolding timeout
  reached_timeout x g n t z = go n.role
    where
      go : (r : Role) → By x g (timeout_as b r x n)
      go Leader = stay x g n t z
      go Candidate = reached_allowed x g n t z
      go Follower = reached_allowed x g n t z

  pub reached_request : (x c : NodeId) (view : ℕ) (theirs : Position) (g : Story E) (n : Node E) → Tale o g → Good o g x n → view ≤ n.view → g.bid c view ≡ Some theirs → By x g (on_request_vote b x c view theirs n)
  unfolding on_request_vote
  reached_request x c view theirs g n t z up bid_is = by_test (By x g) (nat_lt view n.view) (reply_to_vote_request b x c false n) (reply_to_vote_request b x c (may_vote_for n.vote c && is_up_to_date theirs (last_signature_position b n.log)) n)
      (λ d. not_granted) (λ d. here (grind (arith, nat_tests)))
    where
      not_granted : By x g (reply_to_vote_request b x c false n)
      not_granted = (g, made_same o x g n (record { sender = x; receiver = c; view = n.view; body = VoteReply false } ∷ []) t z (tt, tt))

      here : view ≡ n.view → By x g (reply_to_vote_request b x c (may_vote_for n.vote c && is_up_to_date theirs (last_signature_position b n.log)) n)
      here d = go (may_vote_for n.vote c) (is_up_to_date theirs (last_signature_position b n.log)) refl refl
        where
          go : (p q : Bool) → may_vote_for n.vote c ≡ p → is_up_to_date theirs (last_signature_position b n.log) ≡ q → By x g (reply_to_vote_request b x c (p && q) n)
          go true true f l = made_vote o x c theirs g n t z f l (ap (g.bid c) (sym d) ∙ bid_is)
          go true false f l = not_granted
          go false q f l = not_granted

  pub reached_reply : (x y : NodeId) (view : ℕ) (granted : Bool) (g : Story E) (n : Node E) → Tale o g → Good o g x n → BodySent o g y x view (VoteReply granted) → By x g (on_vote_reply b y view granted n)
  unfolding on_vote_reply
  reached_reply x y view granted g n t z said = go n.role refl
    where
      go : (r : Role) → n.role ≡ r → By x g (vote_reply_as b r y view granted n)
      go Leader d = stay x g n t z
      go Follower d = stay x g n t z
      go Candidate d = inner granted said
        where
          inner : (m : Bool) → BodySent o g y x view (VoteReply m) → By x g (if m && (view == n.view) then count_votes b (add_vote b y n) else idle n)
          inner false a = stay x g n t z
          inner true a = by_test (By x g) (view == n.view) (count_votes b (add_vote b y n)) (idle n)
              (λ e. let q : view ≡ n.view = grind (arith, nat_tests) in reached_win x g (add_vote b y n) t (good_count o x y g n z (ap (g.ballot y) (sym q) ∙ a)) d)
              (λ e. stay x g n t z)

  pub reached_propose : (x : NodeId) (view : ℕ) (g : Story E) (n : Node E) → Tale o g → Good o g x n → By x g (on_propose_vote b x view n)
  unfolding on_propose_vote
  reached_propose x view g n t z = by_test (By x g) (nat_lt view n.view) (idle n) (timeout b x n) (λ d. stay x g n t z) (λ d. reached_timeout x g n t z)

  -- only a leader takes the step
  pub reached_leader : (x : NodeId) (g : Story E) (n : Node E) (step : Step E A F) → Tale o g → Good o g x n → (n.role ≡ Leader → By x g step) → By x g (if_leader n step)
  reached_leader x g n step t z f = go n.role refl
    where
      go : (r : Role) → n.role ≡ r → By x g (as_leader r n step)
      go Leader d = f d
      go Candidate d = stay x g n t z
      go Follower d = stay x g n t z

  pub reached_step_down : (x y : NodeId) (g : Story E) (n : Node E) → Tale o g → Good o g x n → By x g (step_down b x y n)
  unfolding step_down
  reached_step_down x y g n t z = reached_leader x g n (if not (same y x) && in_some y (active b n.log n.commit) then hand_over b x y n else refuse n NotPeer) t z
      (λ r. by_test (By x g) (not (same y x) && in_some y (active b n.log n.commit)) (hand_over b x y n) (refuse n NotPeer)
      (λ d. (g, made_same o x g (record n { role = Follower; leader = None }) (record { sender = x; receiver = y; view = n.view; body = ProposeVote } ∷ []) t (good_follow o x g n None z) (tt, tt)))
      (λ d. stay x g n t z))
