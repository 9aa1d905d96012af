-- Up to which seqno a log stays as it is when a leader's entries are taken.
use Rattle.std.proofs.Common.{◌≡◌, ◌≤◌, ◌<◌, ℕ, ◌+◌, ◌-◌, List, [], ◌∷◌, ◌++◌, length, take, drop, Bool, true, false, nat_lt, ◌&&◌, Option, Some, None, Result, Ok, Err, refl, sym, ap, subst, ◌∙◌, arith, length-take, length-drop, length-append}
use Rattle.std.proofs.lemmas.List.{append-nil, take_at, take_all, take-take, drop_at, drop_all}
use Rattle.gl_rules.specs.Identity.{NodeId}
use Rattle.gl_rules.specs.Book.{Book}
use Rattle.gl_rules.specs.Node.{Node}
use Rattle.gl_rules.specs.Node as rules
use Rattle.gl_rules.specs.Message.{Position, Append}
use Rattle.gl_rules.specs.Outcome.{Step, Outcome, Refusal, Refused, BelowCommit, ByLedger}
use Rattle.gl_rules.specs.Outcome as outcomes
use Rattle.gl_rules.specs.Replication.{unless_broken, checked_append, become_follower, matching_prefix_len, merge_entries, merge_if_matching}
use Rattle.gl_rules.specs.Steps.{update_view}
use Rattle.gl_rules.specs.World.{undo_if_refused, on_message}
use Rattle.gl_rules.proofs.Lists.{push_append}
use Rattle.gl_election.specs.Bridge.{message_to}
use Rattle.gl_replication.specs.Replies.{KeepsUpTo, is_matching}
use Rattle.gl_replication.proofs.Merging.{all_held, below_commit, some_new}
use Rattle.gl_replication.proofs.Appending.{matching_is, other_is, message_low, message_led, message_on}

module _ {E Q G R A F : Type 0} (b : Book E Q G R A F) where
  appended_is : (base : ℕ) (l es r : List E) → checked_append b base l es ≡ Ok r → r ≡ l ++ es
  unfolding checked_append
  appended_is base l [] r is = let q : l ≡ r = cc in sym q ∙ sym (append-nil l)
  appended_is base l (e ∷ es) r is = go (b.breaks base l e) is (appended_is base (l ++ e ∷ []) es r)
    where
      go : (o : Option F) → unless_broken b o (checked_append b base (l ++ e ∷ []) es) ≡ Ok r → (checked_append b base (l ++ e ∷ []) es ≡ Ok r → r ≡ (l ++ e ∷ []) ++ es) → r ≡ l ++ e ∷ es
      go None w again = again w ∙ push_append l e es
      go (Some why) w again = absurd (cc)

-- nothing stands after a whole log
none_after : {E : Type 0} (k : ℕ) (l es : List E) → k ≡ length l → drop k l ≡ drop (length es - (length l - k)) es
none_after k l es is =
    let all : drop k l ≡ [] = drop_all k l (omega (arith, is)) in
    let rest : drop (length es - (length l - k)) es ≡ [] = drop_all (length es - (length l - k)) es (omega (arith, is)) in
    all ∙ sym rest

module _ {E A F : Type 0} (es : List E) (n : Node E) where
  -- the log is cut to a length, if at all
  pub cut_keeps : (len : ℕ) (step : Step E A F) → len ≤ length n.log → step.node.log ≡ take len n.log → KeepsUpTo len es n step
  cut_keeps len step within is =
      let long : length step.node.log ≡ len = ap length is ∙ (let e : length (take len n.log) ≡ len = omega (arith, length-take len n.log) in e) in
      record {
        before = within;
        after = omega (arith, long);
        prefix = ap (take len) is ∙ take-take len len n.log (omega arith);
        tail = λ never. none_after len step.node.log es (sym long);
      }

  -- where a step is refused all is as it was
  pub undone_keeps : (seqno : ℕ) (m : Step E A F) → seqno ≤ length n.log → (((why : Refusal F) → m.outcome ≡ Refused why → ⊥) → KeepsUpTo seqno es n m) → KeepsUpTo seqno es n (undo_if_refused m.outcome n m)
  undone_keeps seqno m within keeps = go m.outcome refl
    where
      go : (o : Outcome A F) → m.outcome ≡ o → KeepsUpTo seqno es n (undo_if_refused o n m)
      go (Refused why) e = record { before = within; after = within; prefix = refl; tail = λ never. absurd (never why refl) }
      go outcomes.Done e = keeps (λ why w. cc)
      go outcomes.Idle e = keeps (λ why w. cc)
      go outcomes.BecameCandidate e = keeps (λ why w. cc)
      go outcomes.BecameLeader e = keeps (λ why w. cc)
      go (outcomes.Accepted v s a) e = keeps (λ why w. cc)
      go (outcomes.Signed v s) e = keeps (λ why w. cc)
      go (outcomes.Committed v s) e = keeps (λ why w. cc)

module _ {E Q G R A F : Type 0} (b : Book E Q G R A F) (x y : NodeId) (view : ℕ) (n : Node E) (prev : Position) (es : List E) (theirs : ℕ) where
  abbrev taken : Step E A F
  taken = on_message b (message_to x y view (Append prev es theirs)) n

  -- a node that does nothing with the entries
  still : (step : Step E A F) → taken ≡ step → step.node ≡ n → KeepsUpTo (length n.log) es n taken
  still step is same = cut_keeps es n (length n.log) taken (omega arith) (ap (λ (m : Step E A F). m.node.log) is ∙ ap (λ (m : Node E). m.log) same ∙ sym (take_all (length n.log) n.log (omega arith)))

  pub low_keeps : view < n.view → KeepsUpTo (length n.log) es n taken
  low_keeps h = still _ (message_low b x y view n prev es theirs h) refl

  pub led_keeps : n.view ≡ view → n.role ≡ rules.Leader → KeepsUpTo (length n.log) es n taken
  led_keeps h l = still _ (message_led b x y view n prev es theirs h l) refl

  module _ (low : n.view ≤ view) (free : n.view ≡ view → n.role ≡ rules.Leader → ⊥) (len : ℕ) (within : len ≤ length n.log) (log_is : (update_view b view n).log ≡ take len n.log) where
    abbrev followed : Node E
    followed = become_follower b y (update_view b view n)

    abbrev merged : Step E A F
    merged = merge_if_matching b x y prev es theirs followed

    by_merge : (seqno : ℕ) → seqno ≤ length n.log → (((why : Refusal F) → merged.outcome ≡ Refused why → ⊥) → KeepsUpTo seqno es n merged) → KeepsUpTo seqno es n taken
    by_merge seqno high keeps = subst (KeepsUpTo seqno es n) (sym (message_on b x y view n prev es theirs low free)) (undone_keeps es n seqno merged high keeps)

    pub other_keeps : is_matching b (take len n.log) prev ≡ false → KeepsUpTo len es n taken
    other_keeps t = by_merge len within (λ never. cut_keeps es n len merged within (ap (λ (m : Step E A F). m.node.log) (other_is b x y view n low prev es theirs len within log_is _ t refl) ∙ log_is))

    module _ (held : ℕ) (t : is_matching b (take len n.log) prev ≡ true) (h : held ≡ matching_prefix_len b (drop prev.seqno (take len n.log)) es) where
      pub all_keeps : held ≡ length es → KeepsUpTo len es n taken
      all_keeps e = by_merge len within (λ never. cut_keeps es n len merged within
          (ap (λ (m : Step E A F). m.node.log) (matching_is b x y view n low prev es theirs len within log_is held t h ∙ all_held b y view n low x len prev.seqno es held theirs within log_is e) ∙ log_is))

      module _ (other : held ≡ length es → ⊥) (reach : prev.seqno + held ≤ len) (few : held ≤ length es) where
        abbrev cut : ℕ
        cut = prev.seqno + held

        -- the entries that are new stand after those that the log keeps
        new_keeps : (step : Step E A F) → step.node.log ≡ take cut n.log ++ drop held es → KeepsUpTo cut es n step
        new_keeps step is =
            let prefix : length (take cut n.log) ≡ cut = omega (arith, length-take cut n.log, within, reach) in
            let long : length step.node.log ≡ cut + (length es - held) = omega (arith, ap length is, length-append (take cut n.log) (drop held es), prefix, length-drop held es) in
            let skip : held ≡ length es - (length step.node.log - cut) = omega (arith, long, few) in
            record {
              before = omega (arith, within, reach);
              after = omega (arith, long);
              prefix = ap (take cut) is ∙ take_at (take cut n.log) (drop held es) cut prefix;
              tail = λ never. ap (drop cut) is ∙ drop_at (take cut n.log) (drop held es) cut prefix ∙ ap (λ (k : ℕ). drop k es) skip;
            }

        pub some_keeps : KeepsUpTo cut es n taken
        some_keeps = by_merge cut (omega (arith, within, reach)) (λ never. go never (nat_lt cut len && nat_lt cut n.commit) refl)
          where
            is : merged ≡ merge_entries b x y prev.seqno es held theirs followed
            is = matching_is b x y view n low prev es theirs len within log_is held t h

            checked : (never : (why : Refusal F) → merged.outcome ≡ Refused why → ⊥) → (nat_lt cut len && nat_lt cut n.commit) ≡ false → (r : Result (List E) F) → checked_append b n.base (take cut n.log) (drop held es) ≡ r → KeepsUpTo cut es n merged
            checked never above (Err why) e = absurd (never (ByLedger why) (ap (λ (m : Step E A F). m.outcome) (is ∙ some_new b y view n low x len prev.seqno es held theirs within log_is other above reach (Err why) e)))
            checked never above (Ok log) e = new_keeps merged (ap (λ (m : Step E A F). m.node.log) (is ∙ some_new b y view n low x len prev.seqno es held theirs within log_is other above reach (Ok log) e) ∙ appended_is b n.base (take cut n.log) (drop held es) log e)

            go : (never : (why : Refusal F) → merged.outcome ≡ Refused why → ⊥) → (below : Bool) → (nat_lt cut len && nat_lt cut n.commit) ≡ below → KeepsUpTo cut es n merged
            go never true e = absurd (never (BelowCommit n.commit cut) (ap (λ (m : Step E A F). m.outcome) is ∙ below_commit b y view n low x len prev.seqno es held theirs within log_is other e))
            go never false e = checked never e (checked_append b n.base (take cut n.log) (drop held es)) refl
