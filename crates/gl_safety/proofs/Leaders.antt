-- Views, votes and leaders of a run.
use Rattle.std.proofs.Common.{◌≡◌, ⊎_elim, ℕ, ◌≤◌, ◌<◌, List, [], ◌∷◌, length, take, Option, Some, None, slice_get, sym, ap, ◌∙◌, subst, arith}
use Rattle.std.proofs.lemmas.Bool.{cases_lt}
use Rattle.gl_rules.specs.Identity.{NodeId}
use Rattle.gl_rules.specs.Book.{Book}
use Rattle.gl_rules.specs.Node.{Node, Leader}
use Rattle.gl_rules.specs.Message.{Message}
use Rattle.gl_rules.specs.World.{Start, Event, Timeout, Deliver, Submit, Finish, Govern, Reserve, Sign, Evidence, Replicate, Advance, StepDown, Restart, Install, World, at, on_message, deliver, happens, run, begin, after}
use Rattle.gl_rules.specs.Safety.{IsOpening, IsLawful, EachFollows, IsPrefixOf, committed_ledger, node_after, LeadsByVote}
use Rattle.gl_rules.proofs.Ids.{put_all}
use Rattle.gl_rules.proofs.Lists.{Same, take_whole, prefix_of}
use Rattle.gl_safety.proofs.Story.{Story}
use Rattle.gl_safety.proofs.Facts.{Matches, agree}
use Rattle.gl_safety.proofs.Certificates.{SureOver, Cert, Sured, Tale}
use Rattle.gl_safety.proofs.Complete.{complete}
use Rattle.gl_safety.proofs.Invariants.{sure_within}
use Rattle.gl_rules.specs.Outcome.{Step}
use Rattle.gl_rules.specs.Elections as elections
use Rattle.gl_rules.specs.Replication as replication
use Rattle.gl_rules.specs.Requests as requests
use Rattle.gl_safety.proofs.Views.{message_up, timeout_up, step_down_up, submit_up, finish_up, govern_up, reserve_up, sign_up, evidence_up, replicate_up, advance_up, restart_up, install_up}
use Rattle.gl_safety.proofs.Runs.{run_append}
use Rattle.gl_safety.proofs.Prefixes.{take_further, Moments, moments}

module _ {E Q G R A F : Type 0} (b : Book E Q G R A F) where
  at_up : (w : World E) (x y : NodeId) (step : Step E A F) → (w.nodes x).view ≤ step.node.view → (w.nodes y).view ≤ ((at w x step).world.nodes y).view
  at_up w x y step h = put_all (λ u n. (w.nodes u).view ≤ n.view) w.nodes x step.node h (λ u d. omega arith) y

  event_up : (w : World E) (e : Event Q G R) (y : NodeId) → (w.nodes y).view ≤ ((happens b w e).world.nodes y).view
  unfolding happens
  event_up w (Timeout x) y = at_up w x y (elections.timeout b x (w.nodes x)) (timeout_up b x (w.nodes x))
  event_up w (Deliver which) y = go (slice_get w.sent which)
    where
      go : (m : Option (Message E)) → (w.nodes y).view ≤ ((deliver b w m).world.nodes y).view
      go None = omega arith
      go (Some m) = at_up w m.receiver y (on_message b m (w.nodes m.receiver)) (message_up b m (w.nodes m.receiver))
  event_up w (Submit x q) y = at_up w x y (requests.submit b q (w.nodes x)) (submit_up b q (w.nodes x))
  event_up w (Finish x len cuts reads q) y = at_up w x y (requests.finish b len cuts reads q (w.nodes x)) (finish_up b len cuts reads q (w.nodes x))
  event_up w (Govern x q) y = at_up w x y (requests.govern b q (w.nodes x)) (govern_up b q (w.nodes x))
  event_up w (Reserve x) y = at_up w x y (requests.reserve b x (w.nodes x)) (reserve_up b x (w.nodes x))
  event_up w (Sign x) y = at_up w x y (requests.sign b x (w.nodes x)) (sign_up b x (w.nodes x))
  event_up w (Evidence x) y = at_up w x y (requests.evidence b (w.nodes x)) (evidence_up b (w.nodes x))
  event_up w (Replicate x z) y = at_up w x y (replication.replicate b x z (w.nodes x)) (replicate_up b x z (w.nodes x))
  event_up w (Advance x) y = at_up w x y (replication.advance b x (w.nodes x)) (advance_up b x (w.nodes x))
  event_up w (StepDown x z) y = at_up w x y (elections.step_down b x z (w.nodes x)) (step_down_up b x z (w.nodes x))
  event_up w (Restart x) y = at_up w x y (replication.restart b (w.nodes x)) (restart_up b (w.nodes x))
  event_up w (Install x z) y = at_up w x y (replication.install b (w.nodes z) (w.nodes x)) (install_up b (w.nodes z) (w.nodes x))

  run_up : (es : List (Event Q G R)) (w : World E) (y : NodeId) → (w.nodes y).view ≤ ((run b es w).nodes y).view
  unfolding run
  run_up [] w y = omega arith
  run_up (e ∷ es) w y = omega (arith, event_up w e y, run_up es (happens b w e).world y)

module _ {E Q G R A F : Type 0} {b : Book E Q G R A F} {s : Start E} (o : IsOpening b (EachFollows b) s) (la : IsLawful b (EachFollows b)) where
  views : (es : List (Event Q G R)) (i j : ℕ) (x : NodeId) → i ≤ j → (node_after b s (take i es) x).view ≤ (node_after b s (take j es) x).view
  views es i j x h =
      let f = take_further i j es h in
      let at_j : run b f.0 (run b (take i es) (begin s)) ≡ run b (take j es) (begin s) = sym (run_append o la (take i es) f.0 (begin s)) ∙ ap (λ l. run b l (begin s)) (sym f.1) in
      subst (λ (w : World E). ((run b (take i es) (begin s)).nodes x).view ≤ (w.nodes x).view) at_j (run_up b f.0 (run b (take i es) (begin s)) x)

  -- a fact that holds whichever moment is the earlier one
  module _ (v w : World E) (k : Moments o la v w) where
    vote_of : (x c : NodeId) → (v.nodes x).vote ≡ Some c → k.later_story.ballot x (v.nodes x).view ≡ Some c
    vote_of x c a = k.later.ballot x (v.nodes x).view c ((k.first.nodes x).voter.cast ∙ a)

    vote_at : (x c : NodeId) → (w.nodes x).vote ≡ Some c → k.later_story.ballot x (w.nodes x).view ≡ Some c
    vote_at x c a = (k.second.nodes x).voter.cast ∙ a

    one_vote_at : (x c d : NodeId) → (v.nodes x).view ≡ (w.nodes x).view → (v.nodes x).vote ≡ Some c → (w.nodes x).vote ≡ Some d → c ≡ d
    one_vote_at x c d e p q =
        let y : k.later_story.ballot x (w.nodes x).view ≡ Some c = ap (k.later_story.ballot x) (sym e) ∙ vote_of x c p in
        let z = vote_at x d q in
        cc

    chief_before : (x : NodeId) → (v.nodes x).role ≡ Leader → k.later_story.chief (v.nodes x).view ≡ Some x
    chief_before x r = k.later.chief (v.nodes x).view x ((k.first.nodes x).voter.chief_is r)

    one_leader_at : (x y : NodeId) → (v.nodes x).view ≡ (w.nodes y).view → (v.nodes x).role ≡ Leader → (w.nodes y).role ≡ Leader → x ≡ y
    one_leader_at x y e p q =
        let u : k.later_story.chief (w.nodes y).view ≡ Some x = ap k.later_story.chief (sym e) ∙ chief_before x p in
        let z = (k.second.nodes y).voter.chief_is q in
        cc

    grows_at : (x : NodeId) → (v.nodes x).view ≡ (w.nodes x).view → (v.nodes x).role ≡ Leader → (w.nodes x).role ≡ Leader → IsPrefixOf (v.nodes x).log (w.nodes x).log
    grows_at x e p q =
        let mine = (k.first.nodes x).logged.mine ((k.first.nodes x).voter.chief_is p) in
        let mine' = (k.second.nodes x).logged.mine ((k.second.nodes x).voter.chief_is q) in
        subst (λ (l : List E). IsPrefixOf l (w.nodes x).log) (take_whole (v.nodes x).log)
        (prefix_of (length (v.nodes x).log) (v.nodes x).log (w.nodes x).log (omega arith)
        (λ i f h a. ap (λ l. slice_get l i) mine' ∙ ap (λ u. slice_get (k.later_story.led u) i) (sym e) ∙ k.later.led (v.nodes x).view i f (ap (λ l. slice_get l i) (sym mine) ∙ a)))

    -- in the later story, each leader of a view above holds it
    in_led : (g : Story E) (n : Node E) (x : NodeId) → Tale o g → Matches b g.led n.log → (q : Sured o g n.log n.commit n.view) → (u : ℕ) (y : NodeId) → g.chief u ≡ Some y → n.view < u → Same n.commit n.log (g.led u)
    in_led g n x t p q u y ch h j f d a = ⊎_elim
        (λ (z : n.commit ≡ 0). absurd (omega arith))
        (λ (z : SureOver o (Cert o q.0 g) g n.log n.commit n.view).
        let top = complete o g t u y ch q.0 z.v z.j z.last z.cert z.mark (omega (arith, z.top)) in
        agree b g.led (g.led z.v) (g.led u) z.j z.last (t.matches z.v) (t.matches u) z.mark.at top j f (omega (arith, z.le, z.seqno))
        (agree b g.led n.log (g.led z.v) z.i z.entry p (t.matches z.v) z.at z.leads j f (omega (arith, z.seqno)) a))
        q.1

    keeps_later : (x y : NodeId) → (v.nodes x).view < (w.nodes y).view → (v.nodes x).role ≡ Leader → (w.nodes y).role ≡ Leader → IsPrefixOf (committed_ledger (v.nodes x)) (w.nodes y).log
    keeps_later x y h p q =
        let n = v.nodes x in
        let sure_n : Sured o k.later_story (v.nodes x).log (v.nodes x).commit (v.nodes x).view = k.later.sured (v.nodes x).log (v.nodes x).commit (v.nodes x).view ((k.first.nodes x).commits.ruled p) in
        let ch = (k.second.nodes y).voter.chief_is q in
        let mine' = (k.second.nodes y).logged.mine ch in
        let m : Matches b k.later_story.led (v.nodes x).log = record { below = λ i j e f a d z. k.later.led (b.view_of e) j f ((k.first.nodes x).logged.matches.below i j e f a d z) } in
        prefix_of (v.nodes x).commit (v.nodes x).log (w.nodes y).log (sure_within o k.later_story (v.nodes x).log (v.nodes x).commit (v.nodes x).view sure_n)
        (λ i f d a. ap (λ l. slice_get l i) mine' ∙ in_led k.later_story (v.nodes x) x k.second.tale m sure_n (w.nodes y).view y ch h i f d a)

    -- also what is committed after the later leader led
    keeps_before : (x y : NodeId) → (w.nodes x).view < (v.nodes y).view → (w.nodes x).role ≡ Leader → (v.nodes y).role ≡ Leader → IsPrefixOf (committed_ledger (w.nodes x)) (v.nodes y).log
    keeps_before x y h p q =
        let sure_n = (k.second.nodes x).commits.ruled p in
        let ch = (k.first.nodes y).voter.chief_is q in
        let mine = (k.first.nodes y).logged.mine ch in
        prefix_of (w.nodes x).commit (w.nodes x).log (v.nodes y).log (sure_within o k.later_story (w.nodes x).log (w.nodes x).commit (w.nodes x).view sure_n)
        (λ i f d a.
        let z = in_led k.later_story (w.nodes x) x k.second.tale (k.second.nodes x).logged.matches sure_n (v.nodes y).view y (k.later.chief (v.nodes y).view y ch) h i f d a in
        ap (λ l. slice_get l i) mine ∙ ⊎_elim
        (λ (u : slice_get (k.story.led (v.nodes y).view) i ≡ Some f). u)
        (λ (u : b.view_of f ≡ (v.nodes y).view). absurd (omega (arith, ((k.second.nodes x).logged.bound.view i f a).1)))
        (k.later.fresh (v.nodes y).view y i f ch z))

  pub leads_by_vote : (es : List (Event Q G R)) → LeadsByVote b s es
  leads_by_vote es = record {
    views = views es;
    one_vote = λ i j x c d e p q. ⊎_elim
        (λ (h : j < i). sym (one_vote_at (after b s (take j es)) (after b s (take i es)) (moments o la es j i (omega arith)) x d c (sym e) q p))
        (λ (h : i ≤ j). one_vote_at (after b s (take i es)) (after b s (take j es)) (moments o la es i j h) x c d e p q)
        (cases_lt j i);
    one_leader = λ i j x y e p q. ⊎_elim
        (λ (h : j < i). sym (one_leader_at (after b s (take j es)) (after b s (take i es)) (moments o la es j i (omega arith)) y x (sym e) q p))
        (λ (h : i ≤ j). one_leader_at (after b s (take i es)) (after b s (take j es)) (moments o la es i j h) x y e p q)
        (cases_lt j i);
    leader_grows = λ i j x h e p q. grows_at (after b s (take i es)) (after b s (take j es)) (moments o la es i j h) x e p q;
    leader_keeps = λ i j x y d p q. ⊎_elim
        (λ (h : j < i). keeps_before (after b s (take j es)) (after b s (take i es)) (moments o la es j i (omega arith)) x y d p q)
        (λ (h : i ≤ j). keeps_later (after b s (take i es)) (after b s (take j es)) (moments o la es i j h) x y d p q)
        (cases_lt j i);
  }
