-- A leader may add to its log and sign it, and it is in a configuration of it.
use Rattle.std.proofs.Common.{◌≡◌, ◌⊎◌, inl, inr, ⊎_elim, ℕ, zero, suc, ◌+◌, ◌-◌, ◌≤◌, ◌<◌, min, List, [], ◌∷◌, ◌++◌, length, take, drop, Bool, true, false, ◌&&◌, ◌||◌, ◌==◌, nat_lt, nat_le, if◌then◌else◌, Option, Some, None, Result, Ok, Err, refl, sym, ap, ◌∙◌, subst, arith}
use Rattle.std.specs.Option.{option_to_list}
use Rattle.std.proofs.lemmas.Bool.{cases_lt}
use Rattle.std.proofs.lemmas.Bool.Decides.{nat_tests}
use Rattle.gl_rules.specs.Identity.{NodeId, same, member}
use Rattle.gl_rules.specs.Book.{Book}
use Rattle.gl_rules.specs.Node.{Node, Role, Follower, Candidate, Leader}
use Rattle.gl_rules.specs.Message.{Position, Body, RequestVote, VoteReply, Append, AppendReply, ProposeVote}
use Rattle.gl_rules.specs.Outcome.{Step}
use Rattle.gl_rules.specs.Outcome as outcome
use Rattle.gl_rules.specs.Log.{entry_at, view_at, signed_prefix}
use Rattle.gl_rules.specs.Configuration.{or_else, in_some, configuration_at, configurations_above}
use Rattle.gl_rules.specs.Steps.{append_entry, cut_to, enter_view, update_view}
use Rattle.gl_rules.specs.Elections.{may_campaign, become_candidate}
use Rattle.gl_rules.specs.Replication.{matching_prefix_len, checked_append, accept_entries, append_reply, highest_possible_match, accept_or_refuse, merge_entries, merge_if_matching, become_follower, append_as, on_append, with_snapshot}
use Rattle.gl_rules.specs.World.{Start, Event, World, happens, run, begin, node_at_start, starter, joiner, leader_at_start}
use Rattle.gl_rules.specs.Safety.{IsOpening, IsLawful, EachFollows, IsConfigured, LeadersMayRecord, node_after}
use Rattle.gl_rules.proofs.Ids.{by_test, same_is}
use Rattle.gl_rules.proofs.Lists.{same_take, get_left, take_past}
use Rattle.gl_safety.proofs.Complete.{settled}
use Rattle.gl_safety.proofs.Runs.{Holding, first_story, onward_run}
use Rattle.gl_safety.proofs.Story.{Story}
use Rattle.gl_safety.proofs.Beginning.{holding_first}
use Rattle.gl_safety.proofs.Walk.{Alike, Takes, event_keeps}

module _ {E Q G R A F : Type 0} (b : Book E Q G R A F) (x : NodeId) where
  -- a node of an active configuration
  in_one : (m : Option (List NodeId)) → in_some x (option_to_list m) ≡ true → (nodes : List NodeId) × (m ≡ Some nodes) × (member x nodes ≡ true)
  in_one None a = absurd (cc)
  in_one (Some nodes) a = (nodes, refl, go (member x nodes) a)
    where
      go : (t : Bool) → (t || false) ≡ true → t ≡ true
      go true w = refl
      go false w = absurd (cc)

  in_both : (xs ys : List (List NodeId)) → in_some x (xs ++ ys) ≡ true → (in_some x xs ≡ true) ⊎ (in_some x ys ≡ true)
  in_both [] ys a = inr a
  in_both (c ∷ xs) ys a = go (member x c) a (in_both xs ys)
    where
      go : (t : Bool) → (t || in_some x (xs ++ ys)) ≡ true → (in_some x (xs ++ ys) ≡ true → (in_some x xs ≡ true) ⊎ (in_some x ys ≡ true)) → ((t || in_some x xs) ≡ true) ⊎ (in_some x ys ≡ true)
      go true w again = inl refl
      go false w again = again w

  at_configured : (l : List E) (c : ℕ) → in_some x (option_to_list (configuration_at b l c)) ≡ true → IsConfigured b x l
  unfolding configuration_at
  at_configured l zero a = absurd (cc)
  at_configured l (suc c) a = go (b.configuration (take (suc c) l)) refl a (at_configured l c)
    where
      go : (m : Option (List NodeId)) → b.configuration (take (suc c) l) ≡ m → in_some x (option_to_list (or_else m (configuration_at b l c))) ≡ true →
          (in_some x (option_to_list (configuration_at b l c)) ≡ true → IsConfigured b x l) → IsConfigured b x l
      go None d w again = again w
      go (Some nodes) d w again = let q = in_one (Some nodes) w in (suc c, nodes, d, let u : q.0 ≡ nodes = let r = q.1 in cc in ap (member x) (sym u) ∙ q.2)

  above_configured : (l : List E) (c k : ℕ) → in_some x (configurations_above b l c k) ≡ true → IsConfigured b x l
  unfolding configurations_above
  above_configured l c zero a = absurd (cc)
  above_configured l c (suc k) a = go (nat_lt c (suc k)) a (above_configured l c k)
    where
      go : (t : Bool) → in_some x (if t then configurations_above b l c k ++ option_to_list (b.configuration (take (suc k) l)) else []) ≡ true →
          (in_some x (configurations_above b l c k) ≡ true → IsConfigured b x l) → IsConfigured b x l
      go false w again = absurd (cc)
      go true w again = ⊎_elim again
          (λ (u : in_some x (option_to_list (b.configuration (take (suc k) l))) ≡ true). let q = in_one (b.configuration (take (suc k) l)) u in (suc k, q.0, q.1, q.2))
          (in_both (configurations_above b l c k) (option_to_list (b.configuration (take (suc k) l))) w)

  configured_more : (l : List E) (e : E) → IsConfigured b x l → IsConfigured b x (l ++ e ∷ [])
  configured_more l e c = (min c.0 (length l), c.1, ap b.configuration cut ∙ c.2, c.3)
    where
      cut : take (min c.0 (length l)) (l ++ e ∷ []) ≡ take c.0 l
      cut = ⊎_elim
          (λ (d : c.0 < length l). ap (λ k. take k (l ++ e ∷ [])) (grind (arith, nat_tests)) ∙ sym (same_take c.0 l (l ++ e ∷ []) (omega arith) (λ i f h a. get_left l (e ∷ []) i f a)))
          (λ (d : length l ≤ c.0). ap (λ k. take k (l ++ e ∷ [])) (grind (arith, nat_tests)) ∙ sym (same_take (length l) l (l ++ e ∷ []) (omega arith) (λ i f h a. get_left l (e ∷ []) i f a)) ∙ take_past (length l) l (omega arith) ∙ sym (take_past c.0 l d))
          (cases_lt c.0 (length l))

  -- a node that stands or leads
  abbrev pub Placed : Node E → Type 0
  Placed n = (n.role ≡ Follower) ⊎ IsConfigured b x n.log

  alike : (n m : Node E) → Alike n m → Placed n → Placed m
  alike n m a p = ⊎_elim
      (λ (q : m.role ≡ Follower). inl q)
      (λ (q : (m.role ≡ n.role) ⊎ (n.role ≡ Candidate)). ⊎_elim
      (λ (c : n.role ≡ Follower). ⊎_elim (λ (r : m.role ≡ n.role). inl (r ∙ c)) (λ (r : n.role ≡ Candidate). absurd (let u = sym r ∙ c in cc)) q)
      (λ (c : IsConfigured b x n.log). inr (subst (IsConfigured b x) (sym a.log) c))
      p)
      a.role

  grown : (n : Node E) (e : E) → n.role ≡ Leader → Placed n → Placed (append_entry n e)
  grown n e r p = ⊎_elim (λ (c : n.role ≡ Follower). inl c) (λ (c : IsConfigured b x n.log). inr (configured_more n.log e c)) p

  entered : (view : ℕ) (n : Node E) → n.view ≤ view → Placed n → Placed (enter_view b view n)
  unfolding enter_view
  entered view n up p = inl refl

  stood : (n : Node E) → may_campaign b x n ≡ true → Placed n → Placed (become_candidate b x n)
  unfolding enter_view
  stood n may p = inr (⊎_elim (at_configured (signed_prefix b n.log) n.commit) (above_configured (signed_prefix b n.log) n.commit (length (signed_prefix b n.log)))
      (in_both (option_to_list (configuration_at b (signed_prefix b n.log) n.commit)) (configurations_above b (signed_prefix b n.log) n.commit (length (signed_prefix b n.log))) may))

  given : (m n : Node E) (seqno : ℕ) → n.log ≡ [] → Placed n → Placed (with_snapshot b m seqno n)
  unfolding enter_view
  given m n seqno d p = by_test (λ (k : Node E). Placed (record k { log = take seqno m.log; base = seqno; commit = seqno })) (nat_lt n.view (view_at b m.log seqno)) (enter_view b (view_at b m.log seqno) n) n
      (λ e. inl refl)
      (λ e. ⊎_elim (λ (c : n.role ≡ Follower). inl c) (λ (c : IsConfigured b x n.log). inr (0, c.1, ap b.configuration (nothing c.0) ∙ c.2, c.3)) p)
    where
      nothing : (k : ℕ) → [] ≡ take k n.log
      nothing k = sym (ap (take k) d ∙ none k)
        where
          none : (k : ℕ) → take {A = E} k [] ≡ []
          none zero = refl
          none (suc k) = refl

  merged : (y : NodeId) (prev : Position) (es : List E) (theirs : ℕ) (n : Node E) → n.role ≡ Follower → (merge_if_matching {A = A} {F = F} b x y prev es theirs n).node.role ≡ Follower
  merged y prev es theirs n r = by_test (λ (step : Step E A F). step.node.role ≡ Follower) ((prev.seqno == 0) || (nat_le prev.seqno (length n.log) && (view_at b n.log prev.seqno == prev.view)))
      (merge_entries b x y prev.seqno es (matching_prefix_len b (drop prev.seqno n.log) es) theirs n)
      (record { node = n; sent = append_reply b x y false (highest_possible_match b n.log prev.view (min (prev.seqno - 1) (length n.log))) n; outcome = outcome.Done })
      (λ d. go (matching_prefix_len b (drop prev.seqno n.log) es) (matching_prefix_len b (drop prev.seqno n.log) es == length es) (nat_lt (prev.seqno + matching_prefix_len b (drop prev.seqno n.log) es) (length n.log) && nat_lt (prev.seqno + matching_prefix_len b (drop prev.seqno n.log) es) n.commit)
      (checked_append b n.base (take (prev.seqno + matching_prefix_len b (drop prev.seqno n.log) es) n.log) (drop (matching_prefix_len b (drop prev.seqno n.log) es) es)))
      (λ d. r)
    where
      go : (held : ℕ) (p q : Bool) (m : Result (List E) F) → (if p then accept_entries {A = A} {F = F} b x y (prev.seqno + length es) theirs n else (if q then outcome.refuse n (outcome.BelowCommit n.commit (prev.seqno + held)) else accept_or_refuse b n x y (prev.seqno + length es) theirs (cut_to (prev.seqno + held) n) m)).node.role ≡ Follower
      go held true q m = r
      go held false true m = r
      go held false false (Err why) = r
      go held false false (Ok log) = r

  append_keeps : (y : NodeId) (view : ℕ) (prev : Position) (es : List E) (theirs : ℕ) (n : Node E) → Placed n → Placed (on_append b x y view prev es theirs n).node
  unfolding on_append
  append_keeps y view prev es theirs n p = by_test (λ (step : Step E A F). Placed step.node) (nat_lt view n.view) (record { node = n; sent = append_reply b x y false 0 n; outcome = outcome.Done }) (append_as b n.role x y prev es theirs n) (λ d. p) (λ d. go n.role)
    where
      go : (r : Role) → Placed (append_as {A = A} {F = F} b r x y prev es theirs n).node
      go Leader = p
      go Candidate = inl (merged y prev es theirs (become_follower b y n) refl)
      go Follower = inl (merged y prev es theirs (become_follower b y n) refl)

  takes : (p : Body E) (y : NodeId) (view : ℕ) (n : Node E) → Takes b x Placed alike grown entered stood given p y view n
  takes (RequestVote l) y view n = tt
  takes (VoteReply granted) y view n = tt
  takes (Append prev es c) y view n = append_keeps y view prev es c n
  takes (AppendReply ok seqno) y view n = tt
  takes ProposeVote y view n = tt

  pub run_placed : (es : List (Event Q G R)) (w : World E) → Placed (w.nodes x) → Placed ((run b es w).nodes x)
  unfolding run
  run_placed [] w p = p
  run_placed (e ∷ es) w p = run_placed es (happens b w e).world (event_keeps b x Placed alike grown entered stood given w e (λ which m a r. takes m.body m.sender m.view (update_view b m.view (w.nodes m.receiver))) p)

module _ {E Q G R A F : Type 0} {b : Book E Q G R A F} {s : Start E} (o : IsOpening b (EachFollows b) s) (la : IsLawful b (EachFollows b)) where
  first_placed : IsConfigured b s.first s.opening → (x : NodeId) → Placed b x (node_at_start s x)
  first_placed c x = go (same x s.first) refl (member x s.starting)
    where
      go : (t : Bool) → same x s.first ≡ t → (u : Bool) → Placed b x (if t then leader_at_start s else (if u then starter s else joiner))
      go true d u = inr (c.0, c.1, c.2, ap (λ y. member y c.1) (same_is x s.first d) ∙ c.3)
      go false d true = inl refl
      go false d false = inl refl

  pub leaders_may_record : (es : List (Event Q G R)) → LeadersMayRecord b s es
  leaders_may_record es = record {
    follows = λ i x r. ((reached i).1.nodes x).sound;
    views = λ i x r j e a. (((reached i).1.nodes x).logged.bound.view j e a).1;
    commit = λ i x r.
        let p = reached i in
        let z = p.1.nodes x in
        let n = node_after b s (take i es) x in
        let c = z.commits.ruled r in
        let q = settled o c.0 n.commit n.view p.0 n.log (z.commits.opened (inr r)) c.1 in
        record {
          signature = q.entry;
          at = ap (entry_at n.log) q.seqno ∙ q.at;
          signs = q.signs;
          least = z.commits.recorded;
          removals = λ y k m a h f. z.commits.marked r y k m a h f;
        };
    configured = λ c i x r. ⊎_elim (λ (q : (node_after b s (take i es) x).role ≡ Follower). absurd (let u = sym r ∙ q in cc)) (λ (q : IsConfigured b x (node_after b s (take i es) x).log). q)
        (run_placed b x (take i es) (begin s) (first_placed c x));
  }
    where
      reached : (i : ℕ) → (g : Story E) × Holding o la (run b (take i es) (begin s)) g
      reached i = let p = onward_run o la (take i es) (begin s) (first_story o la) (holding_first o la) in (p.0, p.1)
