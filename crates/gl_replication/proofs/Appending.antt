-- A leader's entries at a node, from the message to its branches.
use Rattle.std.proofs.Common.{◌≡◌, ◌≤◌, ◌<◌, ℕ, ◌-◌, ◌==◌, ◌&&◌, List, [], length, take, drop, min, Bool, true, false, nat_lt, if◌then◌else◌, refl, sym, ap, ◌∙◌, arith, length-take}
use Rattle.std.proofs.lemmas.Bool.Decides.{nat_tests}
use Rattle.gl_rules.specs.Identity.{NodeId}
use Rattle.gl_rules.specs.Book.{Book}
use Rattle.gl_rules.specs.Node.{Node}
use Rattle.gl_rules.specs.Node as rules
use Rattle.gl_rules.specs.Message.{Position}
use Rattle.gl_rules.specs.Outcome.{Step, Refusal, Refused}
use Rattle.gl_rules.specs.Outcome as outcomes
use Rattle.gl_rules.specs.Replication.{append_as, append_reply, become_follower, merge_if_matching, matching_prefix_len, highest_possible_match, merge_entries, on_append}
use Rattle.gl_rules.specs.Steps.{enter_view, update_view}
use Rattle.gl_rules.specs.World.{undo_if_refused, on_message}
use Rattle.gl_entry.specs.declared.entry.Entry.{Entry}
use Rattle.gl_replication.specs.Replies.{is_matching, is_leading, append_reply_to}
use Rattle.gl_rules.specs.Message.{Append}
use Rattle.gl_election.specs.Bridge.{message_to, seen_role}
use Rattle.gl_replication.specs.Stands.{seen_outcome}
use Rattle.gl_replication.specs.declared.done.Outcome.{Outcome}
use Rattle.gl_replication.specs.declared.done.Outcome.TheVariants as answers
use Rattle.gl_election.specs.declared.peer.Role.{Role}
use Rattle.gl_election.specs.declared.peer.Role.TheVariants as roles
use Rattle.gl_replication.specs.Stands.{Answers}
use Rattle.gl_replication.specs.declared.done.Refusal.{Refusal as Refused_by}
use Rattle.gl_replication.specs.declared.done.Refusal.TheVariants as refusals
use Rattle.gl_replication.proofs.Merging.{view_is}

module _ {E Q G R A F : Type 0} (b : Book E Q G R A F) (x y : NodeId) (view : ℕ) (n : Node E) (low : n.view ≤ view) (prev : Position) (es : List E) (theirs : ℕ) where
  abbrev f : Node E
  f = become_follower b y (update_view b view n)

  module _ (len : ℕ) (within : len ≤ length n.log) (log_is : (update_view b view n).log ≡ take len n.log) where
    pub matching_is : (held : ℕ) → is_matching b (take len n.log) prev ≡ true → held ≡ matching_prefix_len b (drop prev.seqno (take len n.log)) es → merge_if_matching b x y prev es theirs f ≡ merge_entries b x y prev.seqno es held theirs f
    matching_is held t h =
        ap {B = Step E A F} (λ u. if u then merge_entries b x y prev.seqno es (matching_prefix_len b (drop prev.seqno f.log) es) theirs f else record {
          node = f;
          sent = append_reply b x y false (highest_possible_match b f.log prev.view (min (prev.seqno - 1) (length f.log))) f;
          outcome = outcomes.Done;
        }) (ap (λ l. is_matching b l prev) log_is ∙ t)
        ∙ ap {B = Step E A F} (λ k. merge_entries b x y prev.seqno es k theirs f) (ap (λ l. matching_prefix_len b (drop prev.seqno l) es) log_is ∙ sym h)

    pub other_is : (seqno : ℕ) → is_matching b (take len n.log) prev ≡ false → seqno ≡ highest_possible_match b (take len n.log) prev.view (min (prev.seqno - 1) len) →
        merge_if_matching b x y prev es theirs f ≡ record { node = f; sent = append_reply_to x y view false seqno; outcome = outcomes.Done }
    other_is seqno t h =
        let e : length (take len n.log) ≡ len = omega (arith, length-take len n.log) in
        ap {B = Step E A F} (λ u. if u then merge_entries b x y prev.seqno es (matching_prefix_len b (drop prev.seqno f.log) es) theirs f else record {
          node = f;
          sent = append_reply b x y false (highest_possible_match b f.log prev.view (min (prev.seqno - 1) (length f.log))) f;
          outcome = outcomes.Done;
        }) (ap (λ l. is_matching b l prev) log_is ∙ t)
        ∙ ap {B = Step E A F} (λ k. record { node = f; sent = append_reply_to x y f.view false k; outcome = outcomes.Done })
        (ap (λ l. highest_possible_match b l prev.view (min (prev.seqno - 1) (length l))) log_is ∙ ap (λ k. highest_possible_match b (take len n.log) prev.view (min (prev.seqno - 1) k)) e ∙ sym h)
        ∙ ap {B = Step E A F} (λ v. record { node = f; sent = append_reply_to x y v false seqno; outcome = outcomes.Done }) (view_is b y view n low)

  -- the row of an Append at a node that doesn't lead in its view
  pub append_is : (n.view ≡ view → n.role ≡ rules.Leader → ⊥) → on_append b x y view prev es theirs (update_view b view n) ≡ merge_if_matching b x y prev es theirs f
  unfolding on_append enter_view
  append_is free = go (nat_lt n.view view) refl
    where
      by_role : (r : rules.Role) → (r ≡ rules.Leader → ⊥) → append_as b r x y prev es theirs n ≡ merge_if_matching b x y prev es theirs (become_follower b y n)
      by_role rules.Leader other = absurd (other refl)
      by_role rules.Candidate other = refl
      by_role rules.Follower other = refl

      go : (t : Bool) → nat_lt n.view view ≡ t → on_append b x y view prev es theirs (if t then enter_view b view n else n) ≡ merge_if_matching b x y prev es theirs (become_follower b y (if t then enter_view b view n else n))
      go true e =
          let t : nat_lt view view ≡ false = grind (arith, nat_tests) in
          ap {B = Step E A F} (λ u. if u then record { node = enter_view b view n; sent = append_reply b x y false 0 (enter_view b view n); outcome = outcomes.Done } else append_as b (enter_view b view n).role x y prev es theirs (enter_view b view n)) t
      go false e =
          let k : view ≤ n.view = grind (arith, nat_tests) in
          let t : nat_lt view n.view ≡ false = grind (arith, nat_tests) in
          let same : n.view ≡ view = omega (arith, k, low) in
          ap {B = Step E A F} (λ u. if u then record { node = n; sent = append_reply b x y false 0 n; outcome = outcomes.Done } else append_as b n.role x y prev es theirs n) t
          ∙ by_role n.role (free same)

module _ {E A F : Type 0} (n : Node E) where
  pub undone : (o : Outcome A) (step : Step E A F) → seen_outcome o ≡ step.outcome → undo_if_refused step.outcome n step ≡ step
  undone o step e = ap (λ (m : outcomes.Outcome A F). undo_if_refused m n step) (sym e) ∙ go o
    where
      go : (o : Outcome A) → undo_if_refused (seen_outcome o) n step ≡ step
      go answers.Done = refl
      go answers.Idle = refl
      go answers.BecameCandidate = refl
      go answers.BecameLeader = refl
      go (answers.Accepted view seqno answer) = refl
      go (answers.Signed view seqno) = refl
      go (answers.Committed view seqno) = refl

  pub undone_refused : (step : Step E A F) (why : Refusal F) → step.outcome ≡ Refused why → (undo_if_refused step.outcome n step).outcome ≡ Refused why
  undone_refused step why e = ap (λ (m : outcomes.Outcome A F). (undo_if_refused m n step).outcome) e

module _ {E Q G R A F : Type 0} (b : Book E Q G R A F) (x y : NodeId) (view : ℕ) (n : Node E) (prev : Position) (es : List E) (theirs : ℕ) where
  abbrev answer : Node E → Step E A F
  answer m = on_append b x y view prev es theirs m

  pub message_low : view < n.view → on_message b (message_to x y view (Append prev es theirs)) n ≡ record { node = n; sent = append_reply_to x y n.view false 0; outcome = outcomes.Done }
  unfolding on_message on_append
  message_low h =
      let t : nat_lt n.view view ≡ false = grind (arith, nat_tests) in
      let u : nat_lt view n.view ≡ true = grind (arith, nat_tests) in
      ap {B = Step E A F} (λ k. undo_if_refused (answer (if k then enter_view b view n else n)).outcome n (answer (if k then enter_view b view n else n))) t
      ∙ ap {B = Step E A F} (λ k.
      let step = if k then record { node = n; sent = append_reply b x y false 0 n; outcome = outcomes.Done } else append_as b n.role x y prev es theirs n in
      undo_if_refused step.outcome n step) u

  pub message_led : n.view ≡ view → n.role ≡ rules.Leader → on_message b (message_to x y view (Append prev es theirs)) n ≡ record { node = n; sent = []; outcome = outcomes.Idle }
  unfolding on_message on_append
  message_led h l =
      let t : nat_lt n.view view ≡ false = grind (arith, nat_tests) in
      let u : nat_lt view n.view ≡ false = grind (arith, nat_tests) in
      ap {B = Step E A F} (λ k. undo_if_refused (answer (if k then enter_view b view n else n)).outcome n (answer (if k then enter_view b view n else n))) t
      ∙ ap {B = Step E A F} (λ k.
      let step = if k then record { node = n; sent = append_reply b x y false 0 n; outcome = outcomes.Done } else append_as b n.role x y prev es theirs n in
      undo_if_refused step.outcome n step) u
      ∙ ap {B = Step E A F} (λ r. undo_if_refused (append_as b r x y prev es theirs n).outcome n (append_as b r x y prev es theirs n)) l

  pub message_on : (low : n.view ≤ view) → (n.view ≡ view → n.role ≡ rules.Leader → ⊥) → on_message b (message_to x y view (Append prev es theirs)) n
      ≡ undo_if_refused (merge_if_matching b x y prev es theirs (become_follower b y (update_view b view n))).outcome n (merge_if_matching b x y prev es theirs (become_follower b y (update_view b view n)))
  unfolding on_message
  message_on low free = ap {B = Step E A F} (λ (m : Step E A F). undo_if_refused m.outcome n m) (append_is b x y view n low prev es theirs free)

module _ {S Q G R A F : Type 0} where
  pub answers_undone : (why : Refused_by S Q G R A F) (n : Node Entry) (step : Step Entry A F) → Answers why step.outcome → Answers why (undo_if_refused step.outcome n step).outcome
  answers_undone refusals.NoMemory n step a = tt
  answers_undone (refusals.NotPrimary view leader) n step a = undone_refused n step _ a
  answers_undone (refusals.TooManyPending limit) n step a = undone_refused n step _ a
  answers_undone (refusals.NotReserved reserved) n step a = undone_refused n step _ a
  answers_undone (refusals.KeyExhausted reserved) n step a = undone_refused n step _ a
  answers_undone (refusals.NothingToSign seqno) n step a = undone_refused n step _ a
  answers_undone (refusals.RemovalNotCommitted seqno commit) n step a = undone_refused n step _ a
  answers_undone (refusals.BelowCommit commit cut) n step a = undone_refused n step _ a
  answers_undone (refusals.BelowBase base) n step a = undone_refused n step _ a
  answers_undone refusals.NotPeer n step a = undone_refused n step _ a
  answers_undone refusals.ViewLimit n step a = undone_refused n step _ a
  answers_undone (refusals.NoLaterSignature commit) n step a = undone_refused n step _ a
  answers_undone (refusals.ByLedger why) n step a = undone_refused n step _ a

-- who leads in a view, as the code tests it
pub leads_then : (v view : ℕ) (r : Role) → ((v == view) && is_leading r) ≡ true → (v ≡ view) × (seen_role r ≡ rules.Leader)
leads_then v view roles.Leader t = (let k : v ≡ view = grind (arith, nat_tests) in k, refl)
leads_then v view roles.Candidate t = absurd (grind (arith, nat_tests))
leads_then v view roles.Follower t = absurd (grind (arith, nat_tests))

pub leads_not : (v view : ℕ) (r : Role) → ((v == view) && is_leading r) ≡ false → v ≡ view → seen_role r ≡ rules.Leader → ⊥
leads_not v view roles.Leader t e l = grind (arith, nat_tests)
leads_not v view roles.Candidate t e l = absurd (cc)
leads_not v view roles.Follower t e l = absurd (cc)
