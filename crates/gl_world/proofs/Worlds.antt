-- An event is a step of its rule at one node, and the others stay.
use Rattle.std.proofs.Common.{◌≡◌, ◌≢◌, ◌⊎◌, inl, inr, ⊎_elim, ℕ, zero, suc, ◌+◌, ◌-◌, ◌==◌, ◌<◌, ◌≤◌, List, [], ◌∷◌, ◌++◌, append-nil, map, length, Bool, true, false, take, drop, Option, Some, None, is_some, slice_get, slice_set, refl, sym, ap, subst, ◌∙◌, arith, if◌then◌else◌}
use Rattle.std.proofs.lemmas.Bool.{and_parts}
use Rattle.std.proofs.lemmas.Option.{slice_get_within}
use Rattle.std.proofs.lemmas.List.{length-set, length-map, map-append, take-take}
use Rattle.std.specs.Vec.{with_item}
use Rattle.std.specs.declared.alloc.Global.{Global}
use Rattle.std.specs.declared.vec.Vec.{Vec}
use Rattle.gl_entry.specs.declared.entry.Entry.{Entry}
use Rattle.gl_rules.specs.Identity.{NodeId, same, put}
use Rattle.gl_rules.specs.Message.{Message}
use Rattle.gl_rules.specs.Node.{Node}
use Rattle.gl_rules.specs.Outcome.{Step, idle}
use Rattle.gl_rules.specs.Outcome as outcomes
use Rattle.gl_rules.specs.Safety.{committed_ledger}
use Rattle.gl_rules.specs.World.{Happened, at, happens, deliver, on_message}
use Rattle.gl_rules.specs.Elections.{timeout, step_down}
use Rattle.gl_rules.specs.Replication.{replicate, advance, restart, snapshot_of, with_snapshot, install_snapshot, install}
use Rattle.gl_rules.specs.Requests.{submit, govern, reserve, sign, evidence}
use Rattle.gl_rules.proofs.Ids.{by_test, same_is, same_self}
use Rattle.gl_gov_rules.proofs.Counting.{all_append}
use Rattle.gl_ledger.specs.LedgerBook.{ServiceBook}
use Rattle.gl_ledger.specs.declared.response.Response.{Response}
use Rattle.gl_ledger.specs.declared.response.Rejection.{Rejection}
use Rattle.gl_messages.specs.declared.message.Message as program
use Rattle.gl_election.specs.Bridge.{seen_message}
use Rattle.gl_snapshot_body.specs.declared.body.Body.{Body}
use Rattle.gl_replication.specs.Holding.{Holding}
use Rattle.gl_replication.specs.Offers.{Offers}
use Rattle.gl_replication.specs.declared.snapshots.Offer.{Offer}
use Rattle.gl_replication.specs.declared.done.Outcome.{Outcome}
use Rattle.gl_replication.specs.declared.done.Outcome.TheVariants as answers
use Rattle.gl_replication.specs.Stands.{Answers, Reports, StandsFor, seen_outcome}
use Rattle.gl_world.specs.declared.event.Event.{Event}
use Rattle.gl_world.specs.declared.event.Event.TheVariants as events
use Rattle.gl_world.specs.declared.settings.Settings.{Settings}
use Rattle.gl_world.specs.Founding.{id_of, node_ids}
use Rattle.gl_world.specs.Group.{book_of}
use Rattle.gl_world.specs.Held.{is_among, is_number, receiver_in, seen_event}
use Rattle.gl_world.specs.declared.world.nodes.Nodes.{Nodes}
use Rattle.gl_world.specs.Rules.{acting_node, bring_few, brings_few, is_install, delivery, most_sent, node_in, receiver_of, rule_of}
use Rattle.gl_world.specs.Running.{Denies, IsReached, IsRunning, Keeps, Moves, Of, RunSome, below_base}
use Rattle.gl_world.specs.WorldNodes.{IsOffered, KeepsAll, OfEach, Refuses, ServiceCore, ServiceDone, ServiceRefusal, StandsAs, Stepped, Steps, is_done}
use Rattle.gl_world.specs.World.{ServiceWorld}
use Rattle.gl_world.proofs.NodeIds.{count_is, id_at, node_is, number_parts, numbers_apart}
use Rattle.gl_world.proofs.Bases.{rule_based}
use Rattle.gl_world.proofs.Carrying.{rule_light}
use Rattle.gl_world.proofs.Reached.{base_committed, below_stays, joined_is, reached_next, snapshot_committed}
use Rattle.gl_world.proofs.SentCounts.{rule_few}

abbrev ServiceHappened : Type 0
ServiceHappened = Happened Entry Response Rejection

-- ---- an event is a step of its rule

delivered : (b : ServiceBook) (ids : List NodeId) (w : ServiceWorld) (m : Option (Message Entry)) → is_some (receiver_in ids m) ≡ true →
    deliver b w m ≡ at w (receiver_of m) (delivery m b (receiver_of m) (w.nodes (receiver_of m)))
delivered b ids w None h = absurd cc
delivered b ids w (Some m) h =
    ap {B = ServiceHappened} (λ (t : Bool). at w m.receiver (if t then on_message b m (w.nodes m.receiver) else idle (w.nodes m.receiver))) (sym (same_self m.receiver))

pub happens_at : (s : Settings) (w : ServiceWorld) (event : Event) → is_among (node_ids s) w.sent event ≡ true → is_install event ≡ false →
    let x = acting_node (node_ids s) w.sent event in
    happens (book_of s) w (seen_event s event) ≡ at w x (rule_of (node_ids s) w.sent event (book_of s) x (w.nodes x))
unfolding happens
happens_at s w (events.Timeout node) h alone = ap {B = ServiceHappened} (λ (x : NodeId). at w x (timeout (book_of s) x (w.nodes x))) (sym (node_is s node h))
happens_at s w (events.Deliver message) h alone = delivered (book_of s) (node_ids s) w (slice_get w.sent message) h
happens_at s w (events.Submit node request) h alone = ap {B = ServiceHappened} (λ (x : NodeId). at w x (submit (book_of s) request (w.nodes x))) (sym (node_is s node h))
happens_at s w (events.Govern node request) h alone = ap {B = ServiceHappened} (λ (x : NodeId). at w x (govern (book_of s) request (w.nodes x))) (sym (node_is s node h))
happens_at s w (events.Reserve node) h alone = ap {B = ServiceHappened} (λ (x : NodeId). at w x (reserve (book_of s) x (w.nodes x))) (sym (node_is s node h))
happens_at s w (events.Sign node) h alone = ap {B = ServiceHappened} (λ (x : NodeId). at w x (sign (book_of s) x (w.nodes x))) (sym (node_is s node h))
happens_at s w (events.Evidence node) h alone = ap {B = ServiceHappened} (λ (x : NodeId). at w x (evidence (book_of s) (w.nodes x))) (sym (node_is s node h))
happens_at s w (events.Replicate node to) h alone =
    let both = and_parts (is_number (length (node_ids s)) node) (is_number (length (node_ids s)) to) h in
    ap {B = ServiceHappened} (λ (x : NodeId). at w x (replicate (book_of s) x (id_of s to) (w.nodes x))) (sym (node_is s node both.0))
    ∙ ap {B = ServiceHappened} (λ (y : NodeId). at w (node_in (node_ids s) node) (replicate (book_of s) (node_in (node_ids s) node) y (w.nodes (node_in (node_ids s) node)))) (sym (node_is s to both.1))
happens_at s w (events.Advance node) h alone = ap {B = ServiceHappened} (λ (x : NodeId). at w x (advance (book_of s) x (w.nodes x))) (sym (node_is s node h))
happens_at s w (events.StepDown node to) h alone =
    let both = and_parts (is_number (length (node_ids s)) node) (is_number (length (node_ids s)) to) h in
    ap {B = ServiceHappened} (λ (x : NodeId). at w x (step_down (book_of s) x (id_of s to) (w.nodes x))) (sym (node_is s node both.0))
    ∙ ap {B = ServiceHappened} (λ (y : NodeId). at w (node_in (node_ids s) node) (step_down (book_of s) (node_in (node_ids s) node) y (w.nodes (node_in (node_ids s) node)))) (sym (node_is s to both.1))
happens_at s w (events.Restart node) h alone = ap {B = ServiceHappened} (λ (x : NodeId). at w x (restart (book_of s) (w.nodes x))) (sym (node_is s node h))
happens_at s w (events.Install node from) h alone = absurd (cc)

-- a node that begins from another one's ledger sends nothing
install_quiet : (b : ServiceBook) (m n : Node Entry) → (install b m n).sent ≡ []
unfolding install
install_quiet b m n =
    by_test {S = Step Entry Response Rejection} (λ step. step.sent ≡ []) (length n.log == 0) (install_snapshot b m (snapshot_of b m) n) (idle n) (λ d. go (snapshot_of b m)) (λ d. refl)
  where
    go : (k : Option ℕ) → (install_snapshot b m k n).sent ≡ []
    go None = refl
    go (Some seqno) = refl

-- it begins where the event is done
install_begins : (b : ServiceBook) (m n : Node Entry) (o : Outcome Response) → is_done o ≡ true → seen_outcome o ≡ (install b m n).outcome →
    (seqno : ℕ) × (snapshot_of b m ≡ Some seqno) × ((install b m n).node ≡ with_snapshot b m (seqno - 1) n)
unfolding install
install_begins b m n o done answer = go (length n.log == 0) (sym (is_it o done) ∙ answer)
  where
    is_it : (p : Outcome Response) → is_done p ≡ true → seen_outcome {F = Rejection} p ≡ outcomes.Done
    is_it answers.Done e = refl
    is_it answers.Idle e = absurd (cc)
    is_it answers.BecameCandidate e = absurd (cc)
    is_it answers.BecameLeader e = absurd (cc)
    is_it (answers.Accepted view seqno given) e = absurd (cc)
    is_it (answers.Signed view seqno) e = absurd (cc)
    is_it (answers.Committed view seqno) e = absurd (cc)

    some : (k : Option ℕ) → snapshot_of b m ≡ k → outcomes.Done ≡ (install_snapshot b m k n).outcome → (seqno : ℕ) × (snapshot_of b m ≡ Some seqno) × ((install_snapshot b m k n).node ≡ with_snapshot b m (seqno - 1) n)
    some None d e = absurd (cc)
    some (Some seqno) d e = (seqno, d, refl)

    go : (t : Bool) → outcomes.Done ≡ (if t then install_snapshot b m (snapshot_of b m) n else idle n).outcome →
        (seqno : ℕ) × (snapshot_of b m ≡ Some seqno) × ((if t then install_snapshot b m (snapshot_of b m) n else idle n).node ≡ with_snapshot b m (seqno - 1) n)
    go true e = some (snapshot_of b m) refl e
    go false e = absurd (cc)

-- and else it stays
install_rests : (b : ServiceBook) (m n : Node Entry) (o : Outcome Response) → is_done o ≡ false → seen_outcome o ≡ (install b m n).outcome → (install b m n).node ≡ n
unfolding install
install_rests b m n o other answer = go (length n.log == 0) answer
  where
    is_not : (p : Outcome Response) → is_done p ≡ false → seen_outcome {F = Rejection} p ≡ outcomes.Done → ⊥
    is_not answers.Done d e = absurd (cc)
    is_not answers.Idle d e = absurd (cc)
    is_not answers.BecameCandidate d e = absurd (cc)
    is_not answers.BecameLeader d e = absurd (cc)
    is_not (answers.Accepted view seqno given) d e = absurd (cc)
    is_not (answers.Signed view seqno) d e = absurd (cc)
    is_not (answers.Committed view seqno) d e = absurd (cc)

    some : (k : Option ℕ) → seen_outcome {F = Rejection} o ≡ (install_snapshot b m k n).outcome → (install_snapshot b m k n).node ≡ n
    some None e = refl
    some (Some seqno) e = absurd (is_not o other e)

    go : (t : Bool) → seen_outcome {F = Rejection} o ≡ (if t then install_snapshot b m (snapshot_of b m) n else idle n).outcome → (if t then install_snapshot b m (snapshot_of b m) n else idle n).node ≡ n
    go true e = some (snapshot_of b m) e
    go false e = refl

installs_at : (s : Settings) (w : ServiceWorld) (node from : ℕ) →
    happens (book_of s) w (seen_event s (events.Install node from)) ≡ at w (id_of s node) (install (book_of s) (w.nodes (id_of s from)) (w.nodes (id_of s node)))
unfolding happens
installs_at s w node from = refl

-- ---- one node moves

module _ {X : Type 0} where
  pub set_cases : (xs : List X) (k : ℕ) (a : X) (i : ℕ) (y : X) → slice_get (slice_set xs k a) i ≡ Some y → ((i ≡ k) × (y ≡ a)) ⊎ (i ≢ k × (slice_get xs i ≡ Some y))
  set_cases [] k a i y e = absurd (cc)
  set_cases (x ∷ xs) zero a zero y e = inl (refl, cc)
  set_cases (x ∷ xs) zero a (suc i) y e = inr ((λ z. absurd (omega (arith, z))), e)
  set_cases (x ∷ xs) (suc k) a zero y e = inr ((λ z. absurd (omega (arith, z))), e)
  set_cases (x ∷ xs) (suc k) a (suc i) y e = ⊎_elim
      (λ (h : (i ≡ k) × (y ≡ a)). inl (ap suc h.0, h.1))
      (λ (h : i ≢ k × (slice_get xs i ≡ Some y)). inr ((λ z. h.0 (omega (arith, z))), h.1))
      (set_cases xs k a i y e)

-- what is put at a node stands there
put_here : (f : NodeId → Node Entry) (x : NodeId) (n : Node Entry) → put f x n x ≡ n
put_here f x n = ap (λ (t : Bool). if t then n else f x) (same_self x)

module _ {N S : Type 0} (stands : StandsAs N) where
  -- what stands below the bases, where that of one node is as it was
  below_same : {s : Settings} {ns : Nodes N S} {w : ServiceWorld} → IsRunning stands s ns w → (x : NodeId) (n : Node Entry) → below_base n ≡ below_base (w.nodes x) →
      (i : ℕ) (kept : Vec Entry Global) → slice_get ns.below.items i ≡ Some kept → kept.items ≡ below_base (put w.nodes x n (id_of s (suc i)))
  below_same {s} {ns} {w} r x n is i kept at_i = r.below i kept at_i ∙ go (same (id_of s (suc i)) x) refl
    where
      go : (t : Bool) → same (id_of s (suc i)) x ≡ t → below_base (w.nodes (id_of s (suc i))) ≡ below_base (if t then n else w.nodes (id_of s (suc i)))
      go true e = ap (λ (y : NodeId). below_base (w.nodes y)) (same_is (id_of s (suc i)) x e) ∙ sym is
      go false e = refl

  -- and where another list is put there
  below_new : {s : Settings} {ns : Nodes N S} {w : ServiceWorld} → IsRunning stands s ns w → (k : ℕ) (n : Node Entry) (new : Vec Entry Global) → k < s.starting + s.joiners → new.items ≡ below_base n →
      (i : ℕ) (kept : Vec Entry Global) → slice_get (slice_set ns.below.items k new) i ≡ Some kept → kept.items ≡ below_base (put w.nodes (id_of s (suc k)) n (id_of s (suc i)))
  below_new {s} {ns} {w} r k n new low is i kept at_i = ⊎_elim
      (λ (h : (i ≡ k) × (kept ≡ new)).
      ap (λ (v : Vec Entry Global). v.items) h.1 ∙ is ∙ sym (ap (λ (m : Node Entry). below_base m) (put_here w.nodes (id_of s (suc k)) n))
      ∙ ap (λ (j : ℕ). below_base (put w.nodes (id_of s (suc k)) n (id_of s (suc j)))) (sym h.0))
      (λ (h : i ≢ k × (slice_get ns.below.items i ≡ Some kept)). r.below i kept h.1 ∙ go h (same (id_of s (suc i)) (id_of s (suc k))) refl)
      (set_cases ns.below.items k new i kept at_i)
    where
      go : i ≢ k × (slice_get ns.below.items i ≡ Some kept) → (t : Bool) → same (id_of s (suc i)) (id_of s (suc k)) ≡ t → below_base (w.nodes (id_of s (suc i))) ≡ below_base (if t then n else w.nodes (id_of s (suc i)))
      go h true e = absurd (h.0 (numbers_apart s r.group i k (omega (arith, slice_get_within ns.below.items i kept h.1, r.below_whole)) low e))
      go h false e = refl

  -- a step at node k + 1
  moved : {s : Settings} {ns : Nodes N S} {w : ServiceWorld} (k : ℕ) (c : N) (step : Step Entry Response Rejection) (m : Nodes N S) →
      IsRunning stands s ns w → k < s.starting + s.joiners → stands c (book_of s) (id_of s (suc k)) step.node →
      m.ids ≡ ns.ids → m.nodes ≡ with_item ns.nodes k c → map seen_message m.sent.items ≡ map seen_message ns.sent.items ++ step.sent → bring_few step.sent ≡ true →
      length m.below.items ≡ length ns.below.items → ((i : ℕ) (kept : Vec Entry Global) → slice_get m.below.items i ≡ Some kept → kept.items ≡ below_base (put w.nodes (id_of s (suc k)) step.node (id_of s (suc i)))) →
      IsReached s (at w (id_of s (suc k)) step).world → IsRunning stands s m (at w (id_of s (suc k)) step).world
  moved {s} {ns} {w} k c step m r low new ids cores sent few count below reached = record {
    group = r.group;
    ids = ap (λ v. v.items) ids ∙ r.ids;
    whole = ap (λ v. length v.items) cores ∙ length-set ns.nodes.items k c ∙ r.whole;
    stand = λ i d at_i. ⊎_elim
        (λ (h : (i ≡ k) × (d ≡ c)). here i d h.0 h.1)
        (λ (h : i ≢ k × (slice_get ns.nodes.items i ≡ Some d)). elsewhere i d h.0 h.1)
        (set_cases ns.nodes.items k c i d (ap (λ v. slice_get v.items i) (sym cores) ∙ at_i));
    below_whole = count ∙ r.below_whole;
    below = below;
    sent = sent ∙ ap (λ l. l ++ step.sent) r.sent;
    few = all_append (λ (m : Message Entry). brings_few m.body) w.sent step.sent r.few few;
    reached = reached;
  }
    where
      x : NodeId
      x = id_of s (suc k)

      here : (i : ℕ) (d : N) → i ≡ k → d ≡ c → stands d (book_of s) (id_of s (suc i)) (put w.nodes x step.node (id_of s (suc i)))
      here i d p q =
          subst (λ (j : ℕ). stands d (book_of s) (id_of s (suc j)) (put w.nodes x step.node (id_of s (suc j)))) (sym p)
          (subst (λ (t : Bool). stands d (book_of s) x (if t then step.node else w.nodes x)) (sym (same_self x))
          (subst (λ (e : N). stands e (book_of s) x step.node) (sym q) new))

      elsewhere : (i : ℕ) (d : N) → i ≢ k → slice_get ns.nodes.items i ≡ Some d → stands d (book_of s) (id_of s (suc i)) (put w.nodes x step.node (id_of s (suc i)))
      elsewhere i d other at_i = go (same (id_of s (suc i)) x) refl
        where
          go : (t : Bool) → same (id_of s (suc i)) x ≡ t → stands d (book_of s) (id_of s (suc i)) (if t then step.node else w.nodes (id_of s (suc i)))
          go true e = absurd (other (numbers_apart s r.group i k (omega (arith, slice_get_within ns.nodes.items i d at_i, r.whole)) low e))
          go false e = r.stand i d at_i

  -- where no node moves
  pub stay : (ns m : Nodes N S) → m.ids ≡ ns.ids → m.nodes ≡ ns.nodes → m.below ≡ ns.below → m.sent.items ≡ ns.sent.items → Keeps stands ns m
  stay ns m ids cores below sent s w r = record {
    group = r.group;
    ids = ap (λ v. v.items) ids ∙ r.ids;
    whole = ap (λ v. length v.items) cores ∙ r.whole;
    stand = λ i c at_i. r.stand i c (ap (λ v. slice_get v.items i) (sym cores) ∙ at_i);
    below_whole = ap (λ v. length v.items) below ∙ r.below_whole;
    below = λ i kept at_i. r.below i kept (ap (λ v. slice_get v.items i) (sym below) ∙ at_i);
    sent = ap (map seen_message) sent ∙ r.sent;
    few = r.few;
    reached = r.reached;
  }

  -- the node at which an event happens, where its core stands at an index
  placed : {s : Settings} {ns : Nodes N S} {w : ServiceWorld} → IsRunning stands s ns w → (event : Event) (k : ℕ) →
      slice_get ns.ids.items k ≡ Some (acting_node ns.ids.items (map seen_message ns.sent.items) event) →
      (k < s.starting + s.joiners) × (acting_node (node_ids s) w.sent event ≡ id_of s (suc k))
  placed {s} {ns} {w} r event k at_k =
      id_at s k (acting_node (node_ids s) w.sent event)
      (ap (λ ids. slice_get ids k) (sym r.ids) ∙ at_k ∙ ap (λ ids. Some (acting_node ids (map seen_message ns.sent.items) event)) r.ids ∙ ap (λ sent. Some (acting_node (node_ids s) sent event)) r.sent)

  -- there is a core for each identifier
  pub core_count : (ns : Nodes N S) (event : Event) (k : ℕ) → RunSome stands ns → slice_get ns.ids.items k ≡ Some (acting_node ns.ids.items (map seen_message ns.sent.items) event) → k < length ns.nodes.items
  core_count ns event k some at_k =
      let r = some.running in
      let p = placed r event k at_k in
      omega (arith, p.0, r.whole)

  -- what the core did at that index
  module _ (event : Event) (k : ℕ) (ns : Nodes N S) (old new : N) (core_at : slice_get ns.nodes.items k ≡ Some old)
      (id_at_k : slice_get ns.ids.items k ≡ Some (acting_node ns.ids.items (map seen_message ns.sent.items) event)) (alone : is_install event ≡ false) where
    abbrev Rules : Settings → ServiceWorld → Step Entry Response Rejection
    Rules s w = rule_of (node_ids s) w.sent event (book_of s) (id_of s (suc k)) (w.nodes (id_of s (suc k)))

    happens_here : {s : Settings} {w : ServiceWorld} → IsRunning stands s ns w → is_among (node_ids s) w.sent event ≡ true →
        happens (book_of s) w (seen_event s event) ≡ at w (id_of s (suc k)) (Rules s w)
    happens_here {s} {w} r among =
        happens_at s w event among alone
        ∙ ap {B = ServiceHappened} (λ (x : NodeId). at w x (rule_of (node_ids s) w.sent event (book_of s) x (w.nodes x))) (placed r event k id_at_k).1

    rule_is : {s : Settings} {w : ServiceWorld} → IsRunning stands s ns w →
        rule_of ns.ids.items (map seen_message ns.sent.items) event (book_of s) (id_of s (suc k)) (w.nodes (id_of s (suc k))) ≡ Rules s w
    rule_is {s} {w} r =
        ap (λ ids. rule_of ids (map seen_message ns.sent.items) event (book_of s) (id_of s (suc k)) (w.nodes (id_of s (suc k)))) r.ids
        ∙ ap (λ sent. rule_of (node_ids s) sent event (book_of s) (id_of s (suc k)) (w.nodes (id_of s (suc k)))) r.sent

    -- what stands below its base is as it was
    below_here : {s : Settings} {w : ServiceWorld} → IsRunning stands s ns w → is_among (node_ids s) w.sent event ≡ true → below_base (Rules s w).node ≡ below_base (w.nodes (id_of s (suc k)))
    below_here {s} {w} r among =
        let x = id_of s (suc k) in
        let n = (Rules s w).node in
        let here = put_here w.nodes x n in
        let same = rule_based (node_ids s) w.sent event (book_of s) x (w.nodes x) in
        let stays = subst (λ (h : ServiceHappened). (h.world.nodes x).base ≡ (w.nodes x).base → below_base (h.world.nodes x) ≡ below_base (w.nodes x)) (happens_here r among) (below_stays r.group r.reached (seen_event s event) x) in
        sym (ap (λ (m : Node Entry). below_base m) here) ∙ stays (ap (λ (m : Node Entry). m.base) here ∙ same)

    pub moves_with : (m : Nodes N S) (done : ServiceDone S) → m.ids ≡ ns.ids → m.nodes ≡ with_item ns.nodes k new → m.below ≡ ns.below → m.sent.items ≡ ns.sent.items ++ done.sent →
        Steps stands (rule_of ns.ids.items (map seen_message ns.sent.items) event) old done new → Moves stands event ns done.outcome m
    moves_with m done ids cores below sent steps s w r among =
        let p = steps (book_of s) (id_of s (suc k)) (w.nodes (id_of s (suc k))) (r.stand k old core_at) in
        let q : Stepped stands (book_of s) (id_of s (suc k)) (Rules s w) done new = subst (λ (step : Step Entry Response Rejection). Stepped stands (book_of s) (id_of s (suc k)) step done new) (rule_is r) p in
        subst (λ (h : ServiceHappened). IsRunning stands s m h.world × (seen_outcome {F = Rejection} done.outcome ≡ h.outcome)) (sym (happens_here r among)) (
          moved k new (Rules s w) m r (placed r event k id_at_k).0 q.node ids cores
              (ap (map seen_message) sent ∙ map-append seen_message ns.sent.items done.sent ∙ ap (λ l. map seen_message ns.sent.items ++ l) q.sent)
              (rule_light (node_ids s) w.sent event (book_of s) (id_of s (suc k)) (w.nodes (id_of s (suc k))))
              (ap (λ v. length v.items) below)
              (λ i kept at_i. below_same r (id_of s (suc k)) (Rules s w).node (below_here r among) i kept (ap (λ v. slice_get v.items i) (sym below) ∙ at_i))
              (subst (λ (h : ServiceHappened). IsReached s h.world) (happens_here r among) (reached_next r.reached (seen_event s event))),
          q.outcome,
        )

    -- by the identifiers and the messages as the code reads them
    pub steps_as : (done : ServiceDone S) (ids : List NodeId) (sent : List program.Message) → ids ≡ ns.ids.items → sent ≡ ns.sent.items →
        Steps stands (rule_of ids (map seen_message sent) event) old done new → Steps stands (rule_of ns.ids.items (map seen_message ns.sent.items) event) old done new
    steps_as done ids sent ids_are sent_is steps =
        subst (λ (l : List NodeId). Steps stands (rule_of l (map seen_message ns.sent.items) event) old done new) ids_are
        (subst (λ (l : List program.Message). Steps stands (rule_of ids (map seen_message l) event) old done new) sent_is steps)

    pub refuses_as : (why : ServiceRefusal S) (ids : List NodeId) (sent : List program.Message) → ids ≡ ns.ids.items → sent ≡ ns.sent.items →
        Refuses stands (rule_of ids (map seen_message sent) event) old why → Refuses stands (rule_of ns.ids.items (map seen_message ns.sent.items) event) old why
    refuses_as why ids sent ids_are sent_is refuses =
        subst (λ (l : List NodeId). Refuses stands (rule_of l (map seen_message ns.sent.items) event) old why) ids_are
        (subst (λ (l : List program.Message). Refuses stands (rule_of ids (map seen_message l) event) old why) sent_is refuses)

    -- it sends no more than there is room for
    pub sends_few : (holds : S → ServiceBook → Holding Entry → Type 0) (some : RunSome stands ns) (most : ℕ) (done : ServiceDone S) (read : N) (core : ServiceCore S) →
        slice_get ns.nodes.items k ≡ Some read → OfEach stands read (λ b x n. StandsFor holds core b x n) → Reports holds core (λ b x n. most ≡ most_sent b n) →
        Steps stands (rule_of ns.ids.items (map seen_message ns.sent.items) event) old done new → length done.sent ≤ most
    sends_few holds some most done read core read_at cored reports steps =
        let s = some.settings in
        let x = id_of s (suc k) in
        let n = some.world.nodes x in
        let stood = some.running.stand k old core_at in
        let p = steps (book_of s) x n stood in
        let few = rule_few ns.ids.items (map seen_message ns.sent.items) event (book_of s) x n in
        omega (arith, few, length-map done.sent seen_message, ap length p.sent, reports (book_of s) x n (cored (book_of s) x n (some.running.stand k read read_at)))

    pub denies_with : (why : ServiceRefusal S) → Refuses stands (rule_of ns.ids.items (map seen_message ns.sent.items) event) old why → Denies stands event ns why
    denies_with why refuses s w r among =
        subst (λ (h : ServiceHappened). Answers why h.outcome) (sym (happens_here r among))
        (subst (λ (step : Step Entry Response Rejection). Answers why step.outcome) (rule_is r) (refuses (book_of s) (id_of s (suc k)) (w.nodes (id_of s (suc k))) (r.stand k old core_at)))

  -- a core that stands for what it stood for
  pub keeps_with : (k : ℕ) (ns : Nodes N S) (old new : N) → slice_get ns.nodes.items k ≡ Some old → (m : Nodes N S) →
      m.ids ≡ ns.ids → m.nodes ≡ with_item ns.nodes k new → m.below ≡ ns.below → m.sent.items ≡ ns.sent.items → KeepsAll stands old new → Keeps stands ns m
  keeps_with k ns old new core_at m ids cores below sent keep s w r = record {
    group = r.group;
    ids = ap (λ v. v.items) ids ∙ r.ids;
    whole = ap (λ v. length v.items) cores ∙ length-set ns.nodes.items k new ∙ r.whole;
    stand = λ i d at_i. ⊎_elim
        (λ (h : (i ≡ k) × (d ≡ new)).
        subst (λ (c : N). stands c (book_of s) (id_of s (suc i)) (w.nodes (id_of s (suc i)))) (sym h.1)
        (keep (book_of s) (id_of s (suc i)) (w.nodes (id_of s (suc i))) (r.stand i old (ap (slice_get ns.nodes.items) h.0 ∙ core_at))))
        (λ (h : i ≢ k × (slice_get ns.nodes.items i ≡ Some d)). r.stand i d h.1)
        (set_cases ns.nodes.items k new i d (ap (λ v. slice_get v.items i) (sym cores) ∙ at_i));
    below_whole = ap (λ v. length v.items) below ∙ r.below_whole;
    below = λ i kept at_i. r.below i kept (ap (λ v. slice_get v.items i) (sym below) ∙ at_i);
    sent = ap (map seen_message) sent ∙ r.sent;
    few = r.few;
    reached = r.reached;
  }

  -- ---- one node begins from another one's ledger

  -- the nodes with two numbers, which stand at the indices i - 1 and j - 1
  module _ (node from i j : ℕ) (i_is : i ≡ node) (j_is : j ≡ from) (ns : Nodes N S) (old new giver : N) (is_node : is_number (length ns.ids.items) node ≡ true) (is_from : is_number (length ns.ids.items) from ≡ true)
      (core_at : slice_get ns.nodes.items (i - 1) ≡ Some old) (giver_at : slice_get ns.nodes.items (j - 1) ≡ Some giver)
      (shows : Body → ServiceBook → List Entry → Type 0) (offer : Offer) (offered : OfEach stands giver (λ b x n. Offers shows offer b n)) where
    number_at : {s : Settings} {w : ServiceWorld} → IsRunning stands s ns w → (number k : ℕ) (c : N) → k ≡ number → is_number (length ns.ids.items) number ≡ true → slice_get ns.nodes.items (k - 1) ≡ Some c →
        stands c (book_of s) (id_of s number) (w.nodes (id_of s number))
    number_at {s} {w} r number k c k_is named at_k =
        let p = number_parts (length ns.ids.items) number named in
        subst (λ (l : ℕ). stands c (book_of s) (id_of s l) (w.nodes (id_of s l))) (omega (arith, p.0, k_is)) (r.stand (k - 1) c at_k)

    pub is_offered : RunSome stands ns → IsOffered stands shows old offer
    is_offered some =
        let s = some.settings in
        let w = some.world in
        record {
          rules = book_of s;
          me = id_of s node;
          node = w.nodes (id_of s node);
          standing = number_at some.running node i old i_is is_node core_at;
          from = w.nodes (id_of s from);
          offers = offered (book_of s) (id_of s from) (w.nodes (id_of s from)) (number_at some.running from j giver j_is is_from giver_at);
        }

    -- what is offered, of the nodes of a world for which they run
    offers_here : {s : Settings} {w : ServiceWorld} → IsRunning stands s ns w → Offers shows offer (book_of s) (w.nodes (id_of s from))
    offers_here {s} {w} r = offered (book_of s) (id_of s from) (w.nodes (id_of s from)) (number_at r from j giver j_is is_from giver_at)

    -- what the rules make of the node
    abbrev Begun : Settings → ServiceWorld → Step Entry Response Rejection
    Begun s w = install (book_of s) (w.nodes (id_of s from)) (w.nodes (id_of s node))

    steps_here : {s : Settings} {w : ServiceWorld} (done : ServiceDone S) → IsRunning stands s ns w → OfEach stands old (λ b x n. (y : Node Entry) → Offers shows offer b y → Stepped stands b x (install b y n) done new) →
        Stepped stands (book_of s) (id_of s node) (Begun s w) done new
    steps_here {s} {w} done r steps = steps (book_of s) (id_of s node) (w.nodes (id_of s node)) (number_at r node i old i_is is_node core_at) (w.nodes (id_of s from)) (offers_here r)

    installs_by : (m : Nodes N S) (done : ServiceDone S) → m.ids ≡ ns.ids → m.nodes ≡ with_item ns.nodes (i - 1) new → m.sent.items ≡ ns.sent.items → length m.below.items ≡ length ns.below.items →
        OfEach stands old (λ b x n. (y : Node Entry) → Offers shows offer b y → Stepped stands b x (install b y n) done new) →
        ((s : Settings) (w : ServiceWorld) → IsRunning stands s ns w → (l : ℕ) (kept : Vec Entry Global) → slice_get m.below.items l ≡ Some kept → kept.items ≡ below_base (put w.nodes (id_of s (suc (i - 1))) (Begun s w).node (id_of s (suc l)))) →
        Moves stands (events.Install node from) ns done.outcome m
    installs_by m done ids cores sent count steps below s w r among =
        let p = number_parts (length ns.ids.items) node is_node in
        let step = Begun s w in
        let q = steps_here done r steps in
        let none : step.sent ≡ [] = install_quiet (book_of s) (w.nodes (id_of s from)) (w.nodes (id_of s node)) in
        let same : suc (i - 1) ≡ node = omega (arith, p.0, i_is) in
        let low : i - 1 < s.starting + s.joiners = omega (arith, p.0, p.1, i_is, ap length r.ids, count_is s) in
        let reached : IsReached s (at w (id_of s node) step).world = subst (λ (h : ServiceHappened). IsReached s h.world) (installs_at s w node from) (reached_next r.reached (seen_event s (events.Install node from))) in
        subst (λ (h : ServiceHappened). IsRunning stands s m h.world × (seen_outcome {F = Rejection} done.outcome ≡ h.outcome)) (sym (installs_at s w node from)) (
          subst (λ (k : ℕ). IsRunning stands s m (at w (id_of s k) step).world) same
              (moved (i - 1) new step m r low (subst (λ (k : ℕ). stands new (book_of s) (id_of s k) step.node) (sym same) q.node) ids cores
              (ap (map seen_message) sent ∙ sym (append-nil (map seen_message ns.sent.items)) ∙ ap (λ l. map seen_message ns.sent.items ++ l) (sym none))
              (ap bring_few none) count (below s w r) (subst (λ (k : ℕ). IsReached s (at w (id_of s k) step).world) (sym same) reached)),
          q.outcome,
        )

    -- where it doesn't begin
    pub installs_not : (m : Nodes N S) (done : ServiceDone S) → m.ids ≡ ns.ids → m.nodes ≡ with_item ns.nodes (i - 1) new → m.below ≡ ns.below → m.sent.items ≡ ns.sent.items → is_done done.outcome ≡ false →
        OfEach stands old (λ b x n. (y : Node Entry) → Offers shows offer b y → Stepped stands b x (install b y n) done new) → Moves stands (events.Install node from) ns done.outcome m
    installs_not m done ids cores below sent other steps =
        installs_by m done ids cores sent (ap (λ v. length v.items) below) steps (λ s w r l kept at_l.
        let p = number_parts (length ns.ids.items) node is_node in
        let same : suc (i - 1) ≡ node = omega (arith, p.0, i_is) in
        let rests : (Begun s w).node ≡ w.nodes (id_of s (suc (i - 1))) = install_rests (book_of s) (w.nodes (id_of s from)) (w.nodes (id_of s node)) done.outcome other (steps_here done r steps).outcome ∙ ap (λ (k : ℕ). w.nodes (id_of s k)) (sym same) in
        below_same r (id_of s (suc (i - 1))) (Begun s w).node (ap (λ (n : Node Entry). below_base n) rests) l kept (ap (λ v. slice_get v.items l) (sym below) ∙ at_l))

    -- where it begins: below its base stands the other one's committed ledger, as far as that goes
    pub installs_with : (m : Nodes N S) (done : ServiceDone S) (committed : List Entry) (base : ℕ) (kept : Vec Entry Global) → m.ids ≡ ns.ids → m.nodes ≡ with_item ns.nodes (i - 1) new → m.below ≡ with_item ns.below (i - 1) kept → m.sent.items ≡ ns.sent.items →
        is_done done.outcome ≡ true → kept.items ≡ take base committed → Of stands ns (λ s w. committed ≡ committed_ledger (w.nodes (id_of s from))) → OfEach stands new (λ b x n. base ≡ n.base) →
        OfEach stands old (λ b x n. (y : Node Entry) → Offers shows offer b y → Stepped stands b x (install b y n) done new) → Moves stands (events.Install node from) ns done.outcome m
    installs_with m done committed base kept ids cores below sent begins kept_is committed_is base_is steps =
        installs_by m done ids cores sent (ap (λ v. length v.items) below ∙ length-set ns.below.items (i - 1) kept) steps (λ s w r l other at_l.
        let p = number_parts (length ns.ids.items) node is_node in
        let low : i - 1 < s.starting + s.joiners = omega (arith, p.0, p.1, i_is, ap length r.ids, count_is s) in
        let y = w.nodes (id_of s from) in
        let q = steps_here done r steps in
        let begun = install_begins (book_of s) y (w.nodes (id_of s node)) done.outcome begins q.outcome in
        let at_base : base ≡ begun.0 - 1 = base_is (book_of s) (id_of s node) (Begun s w).node q.node ∙ ap (λ (n : Node Entry). n.base) begun.2 in
        let short = snapshot_committed r.group r.reached (id_of s from) begun.0 begun.1 in
        let is : kept.items ≡ below_base (Begun s w).node =
        kept_is ∙ ap (take base) (committed_is s w r) ∙ ap (λ (k : ℕ). take k (take y.commit y.log)) at_base
        ∙ take-take (begun.0 - 1) y.commit y.log short ∙ sym (take-take (begun.0 - 1) (begun.0 - 1) y.log (omega arith)) ∙ sym (ap (λ (n : Node Entry). below_base n) begun.2) in
        below_new r (i - 1) (Begun s w).node kept low is l other (ap (λ v. slice_get v.items l) (sym below) ∙ at_l))

    pub install_denied : (why : ServiceRefusal S) → OfEach stands old (λ b x n. (y : Node Entry) → Offers shows offer b y → Answers why (install b y n).outcome) → Denies stands (events.Install node from) ns why
    install_denied why refuses s w r among =
        subst (λ (h : ServiceHappened). Answers why h.outcome) (sym (installs_at s w node from))
        (refuses (book_of s) (id_of s node) (w.nodes (id_of s node)) (number_at r node i old i_is is_node core_at) (w.nodes (id_of s from)) (offers_here r))

  -- there is a node for each number
  pub number_within : (ns : Nodes N S) (number k : ℕ) → RunSome stands ns → k ≡ number → is_number (length ns.ids.items) number ≡ true → k - 1 < length ns.nodes.items
  number_within ns number k some k_is named =
      let p = number_parts (length ns.ids.items) number named in
      let r = some.running in
      omega (arith, p.0, p.1, k_is, ap length r.ids, count_is some.settings, r.whole)

  -- what stands below a node's base, and its committed ledger above it, are that ledger whole
  pub whole_ledger : (ns : Nodes N S) (number k : ℕ) (c : N) (kept : Vec Entry Global) (above all : List Entry) → k ≡ number → is_number (length ns.ids.items) number ≡ true →
      slice_get ns.nodes.items (k - 1) ≡ Some c → slice_get ns.below.items (k - 1) ≡ Some kept → all ≡ kept.items ++ above → OfEach stands c (λ b x n. above ≡ drop n.base (committed_ledger n)) →
      Of stands ns (λ s w. all ≡ committed_ledger (w.nodes (id_of s number)))
  whole_ledger ns number k c kept above all k_is named core_at kept_at all_is reports s w r =
      let p = number_parts (length ns.ids.items) number named in
      let same : suc (k - 1) ≡ number = omega (arith, p.0, k_is) in
      let x = id_of s (suc (k - 1)) in
      let n = w.nodes x in
      all_is ∙ ap (λ (l : List Entry). l ++ above) (r.below (k - 1) kept kept_at)
      ∙ ap (λ (l : List Entry). below_base n ++ l) (reports (book_of s) x n (r.stand (k - 1) c core_at))
      ∙ joined_is n.log n.base n.commit (base_committed r.group r.reached x)
      ∙ ap (λ (l : ℕ). committed_ledger (w.nodes (id_of s l))) same

  pub below_within : (ns : Nodes N S) (number k : ℕ) → RunSome stands ns → k ≡ number → is_number (length ns.ids.items) number ≡ true → k - 1 < length ns.below.items
  below_within ns number k some k_is named =
      let p = number_parts (length ns.ids.items) number named in
      let r = some.running in
      omega (arith, p.0, p.1, k_is, ap length r.ids, count_is some.settings, r.below_whole)
