-- The leaves that rules reserve and use.
use Rattle.std.proofs.Common.{◌≡◌, ◌≤◌, ◌<◌, ◌⊎◌, inl, inr, ℕ, zero, suc, List, [], ◌∷◌, ◌++◌, length, Bool, true, false, ◌==◌, ◌-◌, take, nat_lt, nat_le, if◌then◌else◌, Option, Some, None, Result, Ok, Err, All, AllPairs, refl, sym, subst, arith}
use Rattle.std.proofs.lemmas.Bool.Decides.{nat_tests}
use Rattle.std.proofs.lemmas.List.Elements.{All-cons, All-nil, All-weaker}
use Rattle.gl_entry.specs.declared.entry.Entry.{Entry}
use Rattle.gl_rules.specs.Identity.{NodeId, same}
use Rattle.gl_rules.specs.Book.{Book}
use Rattle.gl_rules.specs.Node.{Node, Role, Follower, Candidate, Leader}
use Rattle.gl_rules.specs.Outcome.{Step, idle}
use Rattle.gl_rules.specs.Outcome as outcome
use Rattle.gl_rules.specs.Log.{entry_at, is_signature_in, view_at}
use Rattle.gl_rules.specs.Configuration.{configurations_above}
use Rattle.gl_rules.specs.Replication.{install, install_snapshot, restart, snapshot_of, with_snapshot}
use Rattle.gl_rules.specs.Steps.{as_leader, enter_view, if_leader}
use Rattle.gl_rules.specs.Requests.{pending_limit, append_result, execute_request, submit, if_removal_committed, unless_mark_refused, if_markable, govern_as_leader, govern, append_signature, sign_as_leader, sign, append_evidence, evidence}
use Rattle.gl_rules.specs.World.{on_message}
use Rattle.gl_rules.proofs.Ids.{by_test}
use Rattle.gl_messages.specs.declared.message.Body.{Body}
use Rattle.gl_messages.specs.declared.message.Body.TheVariants.{RequestVote, VoteReply, Append, AppendReply, ProposeVote}
use Rattle.gl_messages.specs.declared.message.Message.{Message}
use Rattle.gl_election.specs.Bridge.{message_to, seen_body}
use Rattle.gl_election.specs.Elections.{position}
use Rattle.gl_replication.specs.Events.{answer, delivery, rule_of}
use Rattle.gl_replication.specs.declared.event.Event.{Event}
use Rattle.gl_replication.specs.declared.event.Event.TheVariants as events
use Rattle.gl_node.specs.Changes.{IsAsKept, IsTurned}
use Rattle.gl_node.specs.Leaves.{Happening, Served, Lost, Kept, Installed, InstalledKept, Stopped, leaf_if_signed, leaf_in, leaf_of, leaves_through, node_after}
use Rattle.gl_node.proofs.TakenEntries.{IsLed, entries_led}
use Rattle.gl_node.proofs.ElectionSteps.{timeout_turned, request_vote_turned, vote_reply_turned, append_answer_turned, propose_vote_turned, reserve_turned, step_down_kept, replicate_kept, advance_kept}

-- no leaf more is used, and none is given back
record IsUnsigned (n m : Node Entry) : Type 0 where
  reserved : n.reserved ≤ m.reserved
  used : m.used ≡ n.used

of_turned : (n m : Node Entry) → IsTurned n m → IsUnsigned n m
of_turned n m t = record { reserved = t.reserved; used = t.used }

of_kept : (n m : Node Entry) → IsAsKept n m → IsUnsigned n m
of_kept n m k = record { reserved = let h = k.reserved in omega (arith, h); used = k.used }

of_led : (n m : Node Entry) → IsLed ⊥ n m → IsUnsigned n m
of_led n m l = record { reserved = let h = l.reserved in omega (arith, h); used = l.used }

as_before : (n : Node Entry) → IsUnsigned n n
as_before n = record { reserved = omega arith; used = refl }

-- a step that signs with a leaf, or with none
pub record Signs (n m : Node Entry) (leaves : List ℕ) : Type 0 where
  pub reserved : n.reserved ≤ m.reserved
  pub within : m.used ≤ m.reserved
  pub leaf : ((leaves ≡ []) × (n.used ≤ m.used)) ⊎ ((leaves ≡ n.used ∷ []) × (n.used < m.used) × (n.used < n.reserved))

abbrev pub Above : ℕ → List ℕ → Type 0
Above used leaves = AllPairs (λ leaf later. leaf < later) leaves × All (λ leaf. used ≤ leaf) leaves

all_pairs_cons : (u : ℕ) (later : List ℕ) → All (λ leaf. u < leaf) later → AllPairs (λ leaf next. leaf < next) later → AllPairs (λ leaf next. leaf < next) (u ∷ later)
all_pairs_cons u later above pairs zero zero d i j = absurd (omega (arith, i))
all_pairs_cons u later above pairs zero (suc j) d i within = above j d (omega (arith, within))
all_pairs_cons u later above pairs (suc i) zero d below within = absurd (omega (arith, below))
all_pairs_cons u later above pairs (suc i) (suc j) d below within = pairs i j d (omega (arith, below)) (omega (arith, within))

pub more : (n m : Node Entry) (leaves later : List ℕ) → Signs n m leaves → Above m.used later → Above n.used (leaves ++ later)
more n m leaves later s above = go s.leaf
  where
    go : ((leaves ≡ []) × (n.used ≤ m.used)) ⊎ ((leaves ≡ n.used ∷ []) × (n.used < m.used) × (n.used < n.reserved)) → Above n.used (leaves ++ later)
    go (inl h) = subst (λ (l : List ℕ). Above n.used (l ++ later)) (sym h.0) (above.0, All-weaker (λ (leaf : ℕ). m.used ≤ leaf) (λ (leaf : ℕ). n.used ≤ leaf) (λ leaf at. let u = h.1 in omega (arith, at, u)) later above.1)
    go (inr h) = subst (λ (l : List ℕ). Above n.used (l ++ later)) (sym h.0) (
      all_pairs_cons n.used later (All-weaker (λ (leaf : ℕ). m.used ≤ leaf) (λ (leaf : ℕ). n.used < leaf) (λ leaf at. let u = h.1 in omega (arith, at, u)) later above.1) above.0,
      All-cons (λ (leaf : ℕ). n.used ≤ leaf) n.used later (omega arith) (All-weaker (λ (leaf : ℕ). m.used ≤ leaf) (λ (leaf : ℕ). n.used ≤ leaf) (λ leaf at. let u = h.1 in omega (arith, at, u)) later above.1),
    )

module _ {Q G R A F : Type 0} (b : Book Entry Q G R A F) (x : NodeId) where
  abbrev Quiet : Node Entry → Step Entry A F → Type 0
  Quiet n step = IsUnsigned n step.node

  led_quiet : (n : Node Entry) (step : Step Entry A F) → Quiet n step → Quiet n (if_leader n step)
  led_quiet n step h = go n.role
    where
      go : (r : Role) → Quiet n (as_leader r n step)
      go Leader = h
      go Candidate = as_before n
      go Follower = as_before n

  enters_quiet : (n : Node Entry) (m : Result (Entry × A) F) → Quiet n (append_result b n m)
  enters_quiet n (Err why) = as_before n
  enters_quiet n (Ok made) = record { reserved = omega arith; used = refl }

  submit_quiet : (q : Q) (n : Node Entry) → Quiet n (submit b q n)
  unfolding submit
  submit_quiet q n = led_quiet n (execute_request b q n) (enters_quiet n (b.execute n.log n.view q))

  govern_quiet : (q : G) (n : Node Entry) → Quiet n (govern b q n)
  unfolding govern
  govern_quiet q n = led_quiet n (govern_as_leader b q n) (go (nat_le pending_limit (length (configurations_above b n.log n.commit (length n.log)))) (b.marked_node q))
    where
      late : (m : Option ℕ) → Quiet n (if_removal_committed b m n (append_result b n (b.govern n.log n.view q)))
      late None = enters_quiet n (b.govern n.log n.view q)
      late (Some seqno) = by_test (Quiet n) (nat_lt n.commit seqno) (outcome.refuse n (outcome.RemovalNotCommitted seqno n.commit)) (append_result b n (b.govern n.log n.view q)) (λ d. as_before n) (λ d. enters_quiet n (b.govern n.log n.view q))

      inner : (y : NodeId) (m : Option F) → Quiet n (unless_mark_refused b m y n (append_result b n (b.govern n.log n.view q)))
      inner y (Some why) = as_before n
      inner y None = late (b.removal n.log y)

      go : (m : Bool) (c : Option NodeId) → Quiet n (if m then outcome.refuse n (outcome.TooManyPending pending_limit) else if_markable b c n (append_result b n (b.govern n.log n.view q)))
      go true c = as_before n
      go false None = enters_quiet n (b.govern n.log n.view q)
      go false (Some y) = inner y (b.mark_refusal n.log y)

  evidence_quiet : (n : Node Entry) → Quiet n (evidence b n)
  unfolding evidence
  evidence_quiet n = led_quiet n (append_evidence b n (b.evidence n.log n.view)) (go (b.evidence n.log n.view))
    where
      go : (m : Result Entry F) → Quiet n (append_evidence b n m)
      go (Err why) = as_before n
      go (Ok e) = record { reserved = omega arith; used = refl }

  begun_quiet : (m n : Node Entry) (seqno : ℕ) → IsUnsigned n (with_snapshot b m seqno n)
  unfolding enter_view
  begun_quiet m n seqno = by_test (λ (v : Node Entry). IsUnsigned n (record v { log = take seqno m.log; base = seqno; commit = seqno })) (nat_lt n.view (view_at b m.log seqno)) _ _ (λ d. record { reserved = omega arith; used = refl }) (λ d. record { reserved = omega arith; used = refl })

  install_quiet : (m n : Node Entry) → Quiet n (install b m n)
  unfolding install
  install_quiet m n = by_test (Quiet n) (length n.log == 0) (install_snapshot b m (snapshot_of b m) n) (idle n) (λ d. go (snapshot_of b m)) (λ d. as_before n)
    where
      go : (s : Option ℕ) → Quiet n (install_snapshot b m s n)
      go None = as_before n
      go (Some evidence) = begun_quiet m n (evidence - 1)

  message_quiet : (m : Message) (n : Node Entry) → Quiet n (delivery m b x n)
  message_quiet m n = by_test (Quiet n) (same m.to x) (answer m b x n) (idle n) (λ d. go m.body) (λ d. as_before n)
    where
      go : (body : Body) → Quiet n (on_message b (message_to x m.from m.view (seen_body body)) n)
      go (RequestVote last) = of_turned n _ (request_vote_turned b x m.from m.view (position last) n)
      go (VoteReply granted) = of_turned n _ (vote_reply_turned b x m.from m.view granted n)
      go (Append prev commit es) = of_led n _ (entries_led b ⊥ x m.from m.view (position prev) es commit n (λ never. absurd never) (λ never. absurd never) (λ never. absurd never))
      go (AppendReply ok seqno) = of_turned n _ (append_answer_turned b x m.from m.view ok seqno n)
      go ProposeVote = of_turned n _ (propose_vote_turned b x m.from m.view n)

  abbrev Signed : Node Entry → Step Entry A F → Type 0
  Signed n step = n.used ≤ n.reserved → Signs n step.node (leaf_if_signed n.used step.outcome)

  unsigned : (n m : Node Entry) → IsUnsigned n m → n.used ≤ n.reserved → Signs n m []
  unsigned n m u within = record { reserved = u.reserved; within = omega (arith, within, u.used, u.reserved); leaf = inl (refl, omega (arith, u.used)) }

  sign_signs : (n : Node Entry) → Signed n (sign b x n)
  unfolding sign
  sign_signs n = lead n.role
    where
      made : (m : Result Entry F) → (n.used == n.reserved) ≡ false → Signed n (append_signature b n m)
      made (Err why) free = unsigned n n (as_before n)
      made (Ok e) free = λ within.
          let below : n.used < n.reserved = grind (arith, nat_tests) in
          record { reserved = omega arith; within = omega (arith, below); leaf = inr (refl, omega arith, below) }

      go : (p q : Bool) → (n.used == n.reserved) ≡ p → Signed n (if p then outcome.refuse n (outcome.NotReserved n.reserved) else (if q then outcome.refuse n (outcome.NothingToSign (length n.log)) else append_signature b n (b.sign x n.used n.log n.view n.commit)))
      go true q free = unsigned n n (as_before n)
      go false true free = unsigned n n (as_before n)
      go false false free = made (b.sign x n.used n.log n.view n.commit) free

      lead : (r : Role) → Signed n (as_leader r n (sign_as_leader b x n))
      lead Leader = go (n.used == n.reserved) (is_signature_in b n.view (entry_at n.log (length n.log))) refl
      lead Candidate = unsigned n n (as_before n)
      lead Follower = unsigned n n (as_before n)

  -- where the file is opened again all reserved leaves count as used
  lost : (n m : Node Entry) (leaves : List ℕ) → Signs n m leaves → n.used ≤ n.reserved → Signs n (restart {A = A} {F = F} b n).node leaves
  unfolding restart
  lost n m leaves s within = record { reserved = omega arith; within = omega arith; leaf = go s.leaf }
    where
      go : ((leaves ≡ []) × (n.used ≤ m.used)) ⊎ ((leaves ≡ n.used ∷ []) × (n.used < m.used) × (n.used < n.reserved)) → ((leaves ≡ []) × (n.used ≤ n.reserved)) ⊎ ((leaves ≡ n.used ∷ []) × (n.used < n.reserved) × (n.used < n.reserved))
      go (inl h) = inl (h.0, within)
      go (inr h) = inr (h.0, h.2, h.2)

  kept : (n m : Node Entry) (leaves : List ℕ) → Signs n m leaves → Signs n (restart {A = A} {F = F} b m).node leaves
  unfolding restart
  kept n m leaves s = record { reserved = s.reserved; within = omega arith; leaf = go s.leaf }
    where
      go : ((leaves ≡ []) × (n.used ≤ m.used)) ⊎ ((leaves ≡ n.used ∷ []) × (n.used < m.used) × (n.used < n.reserved)) → ((leaves ≡ []) × (n.used ≤ m.reserved)) ⊎ ((leaves ≡ n.used ∷ []) × (n.used < m.reserved) × (n.used < n.reserved))
      go (inl h) = inl (h.0, (let w = s.within in let u = h.1 in omega (arith, w, u)))
      go (inr h) = inr (h.0, (let w = s.within in let u = h.1 in omega (arith, w, u)), h.2)

  module _ {S : Type 0} where
    pub event_signs : (n : Node Entry) (e : Event S Q G R A F) → n.used ≤ n.reserved → Signs n (rule_of e b x n).node (leaf_of b x n e)
    event_signs n events.Timeout = unsigned n _ (of_turned n _ (timeout_turned b x n))
    event_signs n (events.Message m) = unsigned n _ (message_quiet m n)
    event_signs n (events.Submit q) = unsigned n _ (submit_quiet q n)
    event_signs n (events.Govern q) = unsigned n _ (govern_quiet q n)
    event_signs n events.Reserve = unsigned n _ (of_turned n _ (reserve_turned b x n))
    event_signs n events.Sign = sign_signs n
    event_signs n events.Evidence = unsigned n _ (evidence_quiet n)
    event_signs n (events.Replicate to) = unsigned n _ (of_kept n _ (replicate_kept b x to n))
    event_signs n events.Advance = unsigned n _ (of_kept n _ (advance_kept b x n))
    event_signs n (events.StepDown to) = unsigned n _ (of_kept n _ (step_down_kept b x to n))

    happening_signs : (n : Node Entry) (h : Happening S Q G R A F) → n.used ≤ n.reserved → Signs n (node_after b x n h) (leaf_in b x n h)
    happening_signs n (Served e) within = event_signs n e within
    happening_signs n (Lost e) within = lost n (rule_of e b x n).node (leaf_of b x n e) (event_signs n e within) within
    happening_signs n (Kept e) within = kept n (rule_of e b x n).node (leaf_of b x n e) (event_signs n e within)
    happening_signs n (Installed from) within = unsigned n _ (install_quiet from n) within
    happening_signs n (InstalledKept from) within = kept n _ [] (unsigned n _ (install_quiet from n) within)
    happening_signs n Stopped within = lost n n [] (unsigned n n (as_before n) within) within

    pub leaves_rise : (n : Node Entry) (hs : List (Happening S Q G R A F)) → n.used ≤ n.reserved → Above n.used (leaves_through b x n hs)
    leaves_rise n [] within = (λ i j d below last. absurd (omega (arith, last)), All-nil (λ (leaf : ℕ). n.used ≤ leaf))
    leaves_rise n (h ∷ hs) within =
        let s = happening_signs n h within in
        more n (node_after b x n h) (leaf_in b x n h) (leaves_through b x (node_after b x n h) hs) s (leaves_rise (node_after b x n h) hs s.within)

    pub reserved_before : (n : Node Entry) (e : Event S Q G R A F) → n.used ≤ n.reserved → (n.reserved ≤ (rule_of e b x n).node.reserved) × All (λ leaf. leaf < n.reserved) (leaf_of b x n e)
    reserved_before n e within = let s = event_signs n e within in (s.reserved, go s.leaf)
      where
        go : ((leaf_of b x n e ≡ []) × (n.used ≤ (rule_of e b x n).node.used)) ⊎ ((leaf_of b x n e ≡ n.used ∷ []) × (n.used < (rule_of e b x n).node.used) × (n.used < n.reserved)) → All (λ leaf. leaf < n.reserved) (leaf_of b x n e)
        go (inl h) = subst (All (λ (leaf : ℕ). leaf < n.reserved)) (sym h.0) (All-nil (λ (leaf : ℕ). leaf < n.reserved))
        go (inr h) = subst (All (λ (leaf : ℕ). leaf < n.reserved)) (sym h.0) (All-cons (λ (leaf : ℕ). leaf < n.reserved) n.used [] h.2 (All-nil (λ (leaf : ℕ). leaf < n.reserved)))
