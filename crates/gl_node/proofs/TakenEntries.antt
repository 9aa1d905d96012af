-- What a leader's entries make of a node, and of what a file keeps of it.
use Rattle.std.proofs.Common.{◌≡◌, ◌≤◌, ◌<◌, ℕ, ◌+◌, ◌-◌, List, [], ◌∷◌, ◌++◌, length, take, drop, min, Bool, true, false, ◌&&◌, ◌||◌, ◌==◌, nat_lt, nat_le, if◌then◌else◌, Option, Some, None, Result, Ok, Err, refl, sym, ap, subst, ◌∙◌, arith, length-drop, length-take}
use Rattle.std.proofs.lemmas.Bool.Decides.{nat_tests}
use Rattle.std.proofs.lemmas.List.{append-nil, drop-drop, take-append-le, take-take}
use Rattle.gl_base.specs.declared.tx_id.TxId.{TxId}
use Rattle.gl_entry.specs.declared.entry.Entry.{Entry}
use Rattle.gl_rules.specs.Identity.{NodeId}
use Rattle.gl_rules.specs.Book.{Book}
use Rattle.gl_rules.specs.Node.{Node, Role, Follower, Candidate, Leader}
use Rattle.gl_rules.specs.Message.{Position, Append}
use Rattle.gl_rules.specs.Outcome.{Outcome, Step, Refusal, Refused}
use Rattle.gl_rules.specs.Outcome as outcome
use Rattle.gl_rules.specs.Log.{last_signature, view_at}
use Rattle.gl_rules.specs.Steps.{cut_to, enter_view, update_view}
use Rattle.gl_rules.specs.Replication.{accept_entries, append_reply, highest_possible_match, matching_prefix_len, checked_append, accept_or_refuse, merge_entries, unless_broken, merge_if_matching, become_follower, append_as, on_append}
use Rattle.gl_rules.specs.World.{undo_if_refused, on_message}
use Rattle.gl_rules.proofs.Ids.{by_test}
use Rattle.gl_rules.proofs.Lists.{push_append}
use Rattle.gl_election.specs.Bridge.{message_to}
use Rattle.gl_election.specs.Elections.{position}
use Rattle.gl_replication.specs.Holding.{Holding}
use Rattle.gl_replication.specs.Stands.{StandsFor, Stepped, seen_outcome}
use Rattle.gl_replication.specs.declared.done.Done.{Done}
use Rattle.gl_replication.specs.declared.done.Outcome as answered
use Rattle.gl_replication.specs.declared.done.Outcome.TheVariants as answers
use Rattle.gl_replication.specs.declared.node.Core.{Core}
use Rattle.gl_node.specs.Changes.{KeepsAboveBase, KeepsBase, TakesEntries}
use Rattle.gl_node.specs.Kept.{Kept}
use Rattle.gl_node.specs.Persistence.{HoldsAbove, SnapshotOf}
use Rattle.gl_node.proofs.AboveBase.{drop_past, greater}
use Rattle.gl_node.proofs.Standings.{held_of}

-- its leaves and its base are as they were, and its view is no earlier one; and so is what stands up
-- to the base, if this holds
pub record IsLed (P : Type 0) (n m : Node Entry) : Type 0 where
  pub view : n.view ≤ m.view
  pub base : m.base ≡ n.base
  pub below : P → take n.base m.log ≡ take n.base n.log
  pub reserved : m.reserved ≡ n.reserved
  pub used : m.used ≡ n.used

unled : (P : Type 0) (n : Node Entry) → IsLed P n n
unled P n = record { view = omega arith; base = refl; below = λ p. refl; reserved = refl; used = refl }

-- where not both are above, what is at or below both is at or below
at_least : (a b c k : ℕ) → (nat_lt a b && nat_lt a c) ≡ false → k ≤ b → k ≤ c → k ≤ a
at_least a b c k = go (nat_lt a b) refl (nat_lt a c) refl
  where
    go : (p : Bool) → nat_lt a b ≡ p → (q : Bool) → nat_lt a c ≡ q → (p && q) ≡ false → k ≤ b → k ≤ c → k ≤ a
    go true ep true eq is low high = absurd (cc)
    go true ep false eq is low high = let h : c ≤ a = grind (arith, nat_tests) in omega (arith, h, high)
    go false ep q eq is low high = let h : b ≤ a = grind (arith, nat_tests) in omega (arith, h, low)

module _ {Q G R A F : Type 0} (b : Book Entry Q G R A F) where
  appended_is : (base : ℕ) (l es r : List Entry) → checked_append b base l es ≡ Ok r → r ≡ l ++ es
  unfolding checked_append
  appended_is base l [] r is = let q : l ≡ r = cc in sym q ∙ sym (append-nil l)
  appended_is base l (e ∷ es) r is = go (b.breaks base l e) is (appended_is base (l ++ e ∷ []) es r)
    where
      go : (o : Option F) → unless_broken b o (checked_append b base (l ++ e ∷ []) es) ≡ Ok r → (checked_append b base (l ++ e ∷ []) es ≡ Ok r → r ≡ (l ++ e ∷ []) ++ es) → r ≡ l ++ e ∷ es
      go None w again = again w ∙ push_append l e es
      go (Some why) w again = absurd (cc)

  -- entries after a cut that isn't below the base
  appended_below : (cut : ℕ) (n : Node Entry) (es log : List Entry) → n.base ≤ cut → n.base ≤ length n.log → checked_append b n.base (take cut n.log) es ≡ Ok log → take n.base log ≡ take n.base n.log
  appended_below cut n es log low within is =
      ap (take n.base) (appended_is n.base (take cut n.log) es log is)
      ∙ take-append-le n.base (take cut n.log) es (omega (arith, length-take cut n.log, low, within))
      ∙ take-take n.base cut n.log low

module _ {Q G R A F : Type 0} (b : Book Entry Q G R A F) (P : Type 0) where
  abbrev Led : Node Entry → Step Entry A F → Type 0
  Led n step = IsLed P n step.node

  enters_led : (v : ℕ) (n : Node Entry) → n.view ≤ v → (P → n.base ≤ last_signature b n.log) → IsLed P n (enter_view b v n)
  unfolding enter_view
  enters_led v n rises signed = record { view = rises; base = refl; below = λ p. take-take n.base (last_signature b n.log) n.log (signed p); reserved = refl; used = refl }

  accepts_led : (before : Node Entry) (x y : NodeId) (seqno theirs : ℕ) (n : Node Entry) (m : Result (List Entry) F) → n.view ≡ before.view → n.base ≡ before.base → n.reserved ≡ before.reserved → n.used ≡ before.used
      → (P → (log : List Entry) → m ≡ Ok log → take before.base log ≡ take before.base before.log) → Led before (accept_or_refuse b before x y seqno theirs n m)
  accepts_led before x y seqno theirs n (Err why) view base reserved used below = unled P before
  accepts_led before x y seqno theirs n (Ok log) view base reserved used below = record { view = omega (arith, view); base = base; below = λ p. below p log refl; reserved = reserved; used = used }

  merges_led : (x y : NodeId) (prev : Position) (es : List Entry) (theirs : ℕ) (n : Node Entry) → (P → n.base ≤ length n.log) → (P → n.base ≤ n.commit) → Led n (merge_if_matching b x y prev es theirs n)
  merges_led x y prev es theirs n within above = go ((prev.seqno == 0) || (nat_le prev.seqno (length n.log) && (view_at b n.log prev.seqno == prev.view)))
    where
      held : ℕ
      held = matching_prefix_len b (drop prev.seqno n.log) es

      inner : (p q : Bool) → (nat_lt (prev.seqno + matching_prefix_len b (drop prev.seqno n.log) es) (length n.log) && nat_lt (prev.seqno + matching_prefix_len b (drop prev.seqno n.log) es) n.commit) ≡ q → Led n (if p then accept_entries b x y (prev.seqno + length es) theirs n else (if q then outcome.refuse n (outcome.BelowCommit n.commit (prev.seqno + matching_prefix_len b (drop prev.seqno n.log) es)) else accept_or_refuse b n x y (prev.seqno + length es) theirs (cut_to (prev.seqno + matching_prefix_len b (drop prev.seqno n.log) es) n) (checked_append b n.base (take (prev.seqno + matching_prefix_len b (drop prev.seqno n.log) es) n.log) (drop (matching_prefix_len b (drop prev.seqno n.log) es) es))))
      inner true q e = record { view = omega arith; base = refl; below = λ p. refl; reserved = refl; used = refl }
      inner false true e = unled P n
      inner false false e = accepts_led n x y (prev.seqno + length es) theirs (cut_to (prev.seqno + matching_prefix_len b (drop prev.seqno n.log) es) n) (checked_append b n.base (take (prev.seqno + matching_prefix_len b (drop prev.seqno n.log) es) n.log) (drop (matching_prefix_len b (drop prev.seqno n.log) es) es))
          refl refl refl refl (λ p log is. appended_below b (prev.seqno + matching_prefix_len b (drop prev.seqno n.log) es) n (drop (matching_prefix_len b (drop prev.seqno n.log) es) es) log (at_least (prev.seqno + matching_prefix_len b (drop prev.seqno n.log) es) (length n.log) n.commit n.base e (within p) (above p)) (within p) is)

      go : (m : Bool) → Led n (if m then merge_entries b x y prev.seqno es (matching_prefix_len b (drop prev.seqno n.log) es) theirs n else record { node = n; sent = append_reply b x y false (highest_possible_match b n.log prev.view (min (prev.seqno - 1) (length n.log))) n; outcome = outcome.Done })
      go true = inner (matching_prefix_len b (drop prev.seqno n.log) es == length es) (nat_lt (prev.seqno + matching_prefix_len b (drop prev.seqno n.log) es) (length n.log) && nat_lt (prev.seqno + matching_prefix_len b (drop prev.seqno n.log) es) n.commit) refl
      go false = unled P n

  -- whatever follows its leader
  follows_led : (x y : NodeId) (prev : Position) (es : List Entry) (theirs : ℕ) (n : Node Entry) → (P → n.base ≤ length n.log) → (P → n.base ≤ n.commit) → Led n (merge_if_matching b x y prev es theirs (become_follower b y n))
  follows_led x y prev es theirs n within above = let h = merges_led x y prev es theirs (become_follower b y n) within above in record { view = h.view; base = h.base; below = h.below; reserved = h.reserved; used = h.used }

  appends_led : (x y : NodeId) (view : ℕ) (prev : Position) (es : List Entry) (theirs : ℕ) (n : Node Entry) → (P → n.base ≤ length n.log) → (P → n.base ≤ n.commit) → Led n (on_append b x y view prev es theirs n)
  unfolding on_append
  appends_led x y view prev es theirs n within above = by_test (Led n) (nat_lt view n.view) (record { node = n; sent = append_reply b x y false 0 n; outcome = outcome.Done }) (append_as b n.role x y prev es theirs n) (λ d. unled P n) (λ d. go n.role)
    where
      go : (r : Role) → Led n (append_as b r x y prev es theirs n)
      go Leader = unled P n
      go Candidate = follows_led x y prev es theirs n within above
      go Follower = follows_led x y prev es theirs n within above

  undone_led : (n : Node Entry) (w : Outcome A F) (step : Step Entry A F) → Led n step → Led n (undo_if_refused w n step)
  undone_led n (outcome.Refused why) step h = unled P n
  undone_led n outcome.Done step h = h
  undone_led n outcome.Idle step h = h
  undone_led n outcome.BecameCandidate step h = h
  undone_led n outcome.BecameLeader step h = h
  undone_led n (outcome.Accepted v p a) step h = h
  undone_led n (outcome.Signed v p) step h = h
  undone_led n (outcome.Committed v p) step h = h

  led_then : (l m n : Node Entry) → IsLed P l m → IsLed P m n → IsLed P l n
  led_then l m n p q = record { view = omega (arith, p.view, q.view); base = q.base ∙ p.base; below = λ holds. subst (λ (i : ℕ). take i n.log ≡ take i m.log) p.base (q.below holds) ∙ p.below holds; reserved = q.reserved ∙ p.reserved; used = q.used ∙ p.used }

  enters_within : (v : ℕ) (n : Node Entry) → n.base ≤ last_signature b n.log → n.base ≤ length n.log → (enter_view b v n).base ≤ length (enter_view b v n).log
  unfolding enter_view
  enters_within v n signed within = omega (arith, length-take (last_signature b n.log) n.log, signed, within)

  enters_above : (v : ℕ) (n : Node Entry) → n.base ≤ n.commit → (enter_view b v n).base ≤ (enter_view b v n).commit
  unfolding enter_view
  enters_above v n above = above

  pub entries_led : (x y : NodeId) (view : ℕ) (prev : Position) (es : List Entry) (theirs : ℕ) (n : Node Entry) → (P → n.base ≤ last_signature b n.log) → (P → n.base ≤ length n.log) → (P → n.base ≤ n.commit) → Led n (on_message b (message_to x y view (Append prev es theirs)) n)
  unfolding on_message
  entries_led x y view prev es theirs n signed within above = undone_led n (on_append b x y view prev es theirs (update_view b view n)).outcome (on_append b x y view prev es theirs (update_view b view n))
      (by_test (λ k. Led n (on_append b x y view prev es theirs k)) (nat_lt n.view view) (enter_view b view n) n
      (λ d. let u : n.view < view = grind (arith, nat_tests) in led_then n (enter_view b view n) _ (enters_led view n (omega (arith, u)) signed) (appends_led x y view prev es theirs (enter_view b view n) (λ p. enters_within view n (signed p) (within p)) (λ p. enters_above view n (above p))))
      (λ d. appends_led x y view prev es theirs n within above))

-- an answer is no refusal
pub never_refused : {A F : Type 0} (o : answered.Outcome A) (why : Refusal F) → ◌≡◌ {A = Outcome A F} (seen_outcome o) (Refused why) → ⊥
never_refused answers.Done why is = cc
never_refused answers.Idle why is = cc
never_refused answers.BecameCandidate why is = cc
never_refused answers.BecameLeader why is = cc
never_refused (answers.Accepted view seqno answer) why is = cc
never_refused (answers.Signed view seqno) why is = cc
never_refused (answers.Committed view seqno) why is = cc

-- one ledger is another up to a seqno, with the last ones of these entries after it
pub record IsTail (kept : ℕ) (es old new : List Entry) : Type 0 where
  pub within : kept ≤ length old
  pub reach : kept ≤ length new
  pub prefix : take kept new ≡ take kept old
  pub tail : drop kept new ≡ drop (length es - (length new - kept)) es

-- it has no more new ones than there are
pub few_new : (kept : ℕ) (es old new : List Entry) → IsTail kept es old new → length new - kept ≤ length es
few_new kept es old new t =
    let e : length new - kept ≡ length (drop (length es - (length new - kept)) es) = sym (length-drop kept new) ∙ ap length t.tail in
    omega (arith, e, length-drop (length es - (length new - kept)) es)

-- the same up to the base, where that is later
tail_past : (kept base : ℕ) (es old new : List Entry) → kept ≤ base → base ≤ length old → base ≤ length new → take base new ≡ take base old → IsTail kept es old new → IsTail base es old new
tail_past kept base es old new low before after same t =
    let few = few_new kept es old new t in
    let first : ℕ = length es - (length new - kept) in
    let at : first + (base - kept) ≡ length es - (length new - base) = omega (arith, few, low, after) in
    record {
      within = before;
      reach = after;
      prefix = same;
      tail = sym (drop_past kept base new low) ∙ ap (drop (base - kept)) t.tail ∙ drop-drop (base - kept) first es ∙ ap (λ (i : ℕ). drop i es) at;
    }

module _ {S Q G R A F : Type 0} (stands : S → Book Entry Q G R A F → Holding Entry → Type 0) (held : S → Kept) (snapshot_of : SnapshotOf) {c c' : Core S Q G R A F} {b : Book Entry Q G R A F} {x : NodeId} {n : Node Entry} (above : HoldsAbove stands held snapshot_of c.book) (s : StandsFor stands c b x n)
    (above' : HoldsAbove stands held snapshot_of c'.book) (step : Step Entry A F) (done : Done S Q G R A F) (stepped : Stepped stands b x step done c') (view : ℕ) (prev : TxId) (es : List Entry) (takes : TakesEntries b x n view prev es step) (signed : n.base ≤ last_signature b n.log) where
  pub step_led : IsLed (Unit {0}) n step.node
  step_led =
      subst (λ (m : Step Entry A F). IsLed (Unit {0}) n m.node) (sym takes.is)
      (entries_led b (Unit {0}) x takes.from view (position prev) es takes.commit n (λ p. signed) (λ p. (held_of stands held snapshot_of above s).within) (λ p. s.above))

  pub step_base : KeepsBase n step.node
  step_base = record { base = step_led.base; below = step_led.below tt }

  pub step_tail : (kept : ℕ) → ((from : NodeId) (commit : ℕ) → KeepsAboveBase kept es n (on_message b (message_to x from view (Append (position prev) es commit)) n)) → IsTail kept es n.log step.node.log
  step_tail kept keeps =
      let above_base = subst (KeepsAboveBase kept es n) (sym takes.is) (keeps takes.from takes.commit) in
      let k = above_base.keeps in
      let t : IsTail above_base.upto es n.log step.node.log = record { within = k.before; reach = k.after; prefix = k.prefix; tail = k.tail (λ why is. never_refused done.outcome why (stepped.outcome ∙ is)) } in
      let reach : n.base ≤ length step.node.log = let h = (held_of stands held snapshot_of above' stepped.node).within in omega (arith, h, step_led.base) in
      subst (λ (i : ℕ). IsTail i es n.log step.node.log) (sym above_base.is)
      (greater (λ i. IsTail i es n.log step.node.log) n.base above_base.upto (λ low. t)
      (λ low. tail_past above_base.upto n.base es n.log step.node.log low (held_of stands held snapshot_of above s).within reach (step_led.below tt) t))

  pub step_low : (kept : ℕ) → ((from : NodeId) (commit : ℕ) → KeepsAboveBase kept es n (on_message b (message_to x from view (Append (position prev) es commit)) n)) → n.base ≤ kept
  step_low kept keeps = let h = (keeps takes.from takes.commit).is in omega (arith, h)
