-- What a turn of a core's peer makes of the node that it stands for.
use Rattle.std.proofs.Common.{◌≡◌, ◌≤◌, ℕ, List, length, take, map, filter, ◌&&◌, not, Bool, true, false, Ok, refl, sym, ap, subst, ◌∙◌}
use Rattle.gl_base.specs.declared.tx_id.TxId.{TxId}
use Rattle.gl_base.specs.declared.or_no_memory.OrNoMemory.{OrNoMemory}
use Rattle.gl_base.specs.declared.or_no_memory.OrNoMemory.TheVariants.{NoMemory, Fault}
use Rattle.gl_base.specs.Answers.{Fails}
use Rattle.gl_entry.specs.declared.entry.Entry.{Entry}
use Rattle.gl_rules.specs.Identity.{NodeId, same}
use Rattle.gl_rules.specs.Book.{Book}
use Rattle.gl_rules.specs.Node.{Node}
use Rattle.gl_rules.specs.Outcome.{Step}
use Rattle.gl_rules.specs.Log.{last_signature, signed_prefix}
use Rattle.gl_rules.specs.Configuration.{active, in_some, others}
use Rattle.gl_rules.proofs.Lists.{take_whole}
use Rattle.gl_config.specs.declared.configuration.Configuration.{Configuration}
use Rattle.gl_config.specs.Active.{active_of, sets_of}
use Rattle.gl_election.specs.declared.elected.Elected.{Elected}
use Rattle.gl_election.specs.declared.elected.ElectionRefusal.{ElectionRefusal}
use Rattle.gl_election.specs.declared.elected.ElectionRefusal.TheVariants as faults
use Rattle.gl_election.specs.declared.peer.Peer.{Peer}
use Rattle.gl_election.specs.Elections.{ElectionStep}
use Rattle.gl_election.specs.Bridge.{IsPeerOf, begin_leading, cut_if_rose, last_of, seen_message, signed, step_of, with_peer}
use Rattle.gl_replication.specs.declared.node.Core.{Core}
use Rattle.gl_replication.specs.declared.done.Done.{Done}
use Rattle.gl_replication.specs.declared.done.Refusal.{Refusal}
use Rattle.gl_replication.specs.Holding.{Holding}
use Rattle.gl_replication.specs.Stands.{Answers, StandsFor, Stepped, Settles, refusal_of}

pub same2 : {A B C : Type 0} (f : A → B → C) {a a' : A} {b b' : B} → a ≡ a' → b ≡ b' → f a b ≡ f a' b'
same2 f {a} {a'} {b} {b'} p q = ap (λ m. f m b) p ∙ ap (f a') q

pub same4 : {A B C D X : Type 0} (f : A → B → C → D → X) {a a' : A} {b b' : B} {c c' : C} {d d' : D} → a ≡ a' → b ≡ b' → c ≡ c' → d ≡ d' → f a b c d ≡ f a' b' c' d'
same4 f {a} {a'} {b} {b'} {c} {c'} {d} {d'} p q r s = ap (λ m. f m b c d) p ∙ ap (λ m. f a' m c d) q ∙ ap (λ m. f a' b' m d) r ∙ ap (f a' b' c') s

module _ {S Q G R A F : Type 0} (stands : S → Book Entry Q G R A F → Holding Entry → Type 0) where
  pub peer_of : {c : Core S Q G R A F} {b : Book Entry Q G R A F} {x : NodeId} {n : Node Entry} → StandsFor stands c b x n → IsPeerOf c.peer n
  peer_of {c} s = ap (λ (m : Node Entry). with_peer c.peer m) (sym s.same) ∙ s.same

  -- the core with another peer
  seated : {c : Core S Q G R A F} {b : Book Entry Q G R A F} {x : NodeId} {n : Node Entry} (p : Peer) → StandsFor stands c b x n → StandsFor stands (record c { peer = p }) b x (with_peer p n)
  seated {c} {b} {x} {n} p s = record {
    ledger = s.ledger;
    same = ap (λ (m : Node Entry). with_peer p m) s.same;
    above = s.above;
    matched = s.matched;
    next = s.next;
    within = s.within;
    used = s.used;
    leaves = s.leaves;
  }

  pub turned : {c new : Core S Q G R A F} {b : Book Entry Q G R A F} {x : NodeId} {n : Node Entry} → StandsFor stands c b x n → (p : Peer) (elected : Elected) (done : Done S Q G R A F) (turn : ElectionStep) (rule : Step Entry A F) →
      rule ≡ step_of b turn n → turn ≡ Ok (elected, p) → Settles stands elected (record c { peer = p }) done new → Stepped stands b x rule done new
  turned {c} {new} {b} {x} {n} s p elected done turn rule by is k =
      let r = k b x (with_peer p n) (seated p s) in
      subst (λ (m : Step Entry A F). Stepped stands b x m done new) (sym (by ∙ ap (λ t. step_of b t n) is)) (record {
        node = subst (λ (m : Node Entry). StandsFor stands new b x (begin_leading b elected.outcome m)) (go elected.rose) r.node;
        outcome = r.outcome;
        sent = ap (map seen_message) r.sent;
      })
    where
      go : (t : Bool) → cut_if_rose b t (with_peer p n) ≡ with_peer p (cut_if_rose b t n)
      go true = refl
      go false = refl

  refused : (b : Book Entry Q G R A F) (n : Node Entry) (why : OrNoMemory ElectionRefusal) (turn : ElectionStep) (rule : Step Entry A F) →
      rule ≡ step_of b turn n → Fails why turn → Answers (refusal_of {S = S} {Q = Q} {G = G} {R = R} {A = A} {F = F} why) rule.outcome
  refused b n NoMemory turn rule by fails = tt
  refused b n (Fault (faults.NotPrimary view leader)) turn rule by fails = ap (λ (m : Step Entry A F). m.outcome) (by ∙ ap (λ t. step_of b t n) fails)
  refused b n (Fault faults.NotPeer) turn rule by fails = ap (λ (m : Step Entry A F). m.outcome) (by ∙ ap (λ t. step_of b t n) fails)
  refused b n (Fault faults.ViewLimit) turn rule by fails = ap (λ (m : Step Entry A F). m.outcome) (by ∙ ap (λ t. step_of b t n) fails)

  pub refuses : (b : Book Entry Q G R A F) (n : Node Entry) (r : Refusal S Q G R A F) (why : OrNoMemory ElectionRefusal) (turn : ElectionStep) (rule : Step Entry A F) →
      r ≡ refusal_of why → rule ≡ step_of b turn n → Fails why turn → Answers r rule.outcome
  refuses b n r why turn rule is by fails = subst (λ (m : Refusal S Q G R A F). Answers m rule.outcome) (sym is) (refused b n why turn rule by fails)

  pub commit_of : {c : Core S Q G R A F} {b : Book Entry Q G R A F} {x : NodeId} {n : Node Entry} → StandsFor stands c b x n → c.commit ≡ n.commit
  commit_of s = ap (λ (m : Node Entry). m.commit) s.same

  -- the active configurations of the log cut to a seqno, as the store gives them
  pub active_is : {c : Core S Q G R A F} {b : Book Entry Q G R A F} {x : NodeId} {n : Node Entry} → StandsFor stands c b x n → (upto : ℕ) (cs act : List Configuration) → act ≡ active_of cs c.commit →
      ((commit : ℕ) → n.base ≤ commit → sets_of (active_of cs commit) ≡ active b (take upto n.log) commit) → sets_of act ≡ active b (take upto n.log) n.commit
  active_is {n} s upto cs act of reported = ap sets_of of ∙ ap (λ m. sets_of (active_of cs m)) (commit_of s) ∙ reported n.commit s.above

  -- what a campaign is told of the log
  pub campaigning : {c : Core S Q G R A F} {b : Book Entry Q G R A F} {x : NodeId} {n : Node Entry} → StandsFor stands c b x n → (f : NodeId → TxId → List (List NodeId) → List NodeId → ElectionStep) (me : NodeId) (last : TxId) (cs act : List Configuration) (nodes : List NodeId) →
      me ≡ x → last ≡ last_of b n → act ≡ active_of cs c.commit →
      ((commit : ℕ) → n.base ≤ commit → sets_of (active_of cs commit) ≡ active b (take last.seqno n.log) commit) →
      nodes ≡ others b x (record n { log = take last.seqno n.log }) →
      f me last (sets_of act) nodes ≡ f x (last_of b n) (active b (signed_prefix b n.log) n.commit) (others b x (signed b n))
  campaigning {c} {b} {x} {n} s f me last cs act nodes mine is of reported others_is =
      let at : last.seqno ≡ last_signature b n.log = ap (λ (m : TxId). m.seqno) is in
      same4 f mine is
      (active_is s last.seqno cs act of reported ∙ ap (λ k. active b (take k n.log) n.commit) at)
      (others_is ∙ ap (λ k. others b x (record n { log = take k n.log })) at)

  -- the active configurations of the whole log
  pub active_now : {c : Core S Q G R A F} {b : Book Entry Q G R A F} {x : NodeId} {n : Node Entry} → StandsFor stands c b x n → (len : ℕ) (cs act : List Configuration) → len ≡ length n.log → act ≡ active_of cs c.commit →
      ((commit : ℕ) → n.base ≤ commit → sets_of (active_of cs commit) ≡ active b (take len n.log) commit) → sets_of act ≡ active b n.log n.commit
  active_now {c} {b} {x} {n} s len cs act is of reported = active_is s len cs act of reported ∙ ap (λ l. active b l n.commit) (ap (λ k. take k n.log) is ∙ take_whole n.log)

  pub others_are : {c : Core S Q G R A F} {b : Book Entry Q G R A F} {x : NodeId} {n : Node Entry} → StandsFor stands c b x n → (upto : ℕ) (found recorded : List NodeId) (me : NodeId) (sets : List (List NodeId)) →
      found ≡ filter (λ y. not (same y me) && in_some y sets) recorded → me ≡ x → sets ≡ active b (take upto n.log) n.commit → recorded ≡ b.recorded_nodes (take upto n.log) →
      found ≡ others b x (record n { log = take upto n.log })
  others_are {c} {b} {x} {n} s upto found recorded me sets is mine act reported =
      is
      ∙ ap (λ (m : NodeId). filter (λ y. not (same y m) && in_some y sets) recorded) mine
      ∙ ap (λ (m : List (List NodeId)). filter (λ y. not (same y x) && in_some y m) recorded) act
      ∙ ap (filter (λ y. not (same y x) && in_some y (active b (take upto n.log) n.commit))) reported
