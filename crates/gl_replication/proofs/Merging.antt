-- What the entries after a seqno come to, branch by branch.
use Rattle.std.proofs.Common.{◌≡◌, ◌≤◌, ℕ, ◌+◌, ◌==◌, ◌&&◌, List, map, length, take, drop, Bool, true, false, nat_lt, Result, Err, if◌then◌else◌, refl, sym, ap, ◌∙◌, arith, length-take, length-drop, ◌-◌}
use Rattle.std.proofs.lemmas.Bool.Decides.{nat_tests}
use Rattle.gl_rules.specs.Identity.{NodeId}
use Rattle.gl_rules.specs.Book.{Book}
use Rattle.gl_rules.specs.Node.{Node}
use Rattle.gl_rules.specs.Outcome.{Step, Refused, BelowCommit, ByLedger}
use Rattle.gl_rules.specs.Outcome as outcomes
use Rattle.gl_rules.specs.Replication.{checked_append, commit_after, accept_or_refuse, become_follower, merge_entries, accept_entries}
use Rattle.gl_rules.specs.Steps.{cut_to, enter_view, update_view}
use Rattle.gl_entry.specs.declared.entry.Entry.{Entry}
use Rattle.gl_replication.specs.Holding.{Holding}
use Rattle.gl_replication.specs.Replies.{append_reply_to}
use Rattle.gl_election.specs.Bridge.{seen_message}
use Rattle.gl_replication.specs.Stands.{seen_outcome}
use Rattle.gl_replication.specs.Stands.{StandsFor, Stepped}
use Rattle.gl_replication.specs.declared.node.Core.{Core}
use Rattle.gl_replication.specs.declared.done.Done.{Done}
use Rattle.gl_base.specs.Answers.{Fails}
use Rattle.gl_base.specs.declared.or_no_memory.OrNoMemory.{OrNoMemory}
use Rattle.gl_base.specs.declared.or_no_memory.OrNoMemory.TheVariants as rejected
use Rattle.gl_rules.proofs.Lists.{take_past}
use Rattle.gl_replication.proofs.Cuts.{take_part}

pub rest_is : {E : Type 0} (held : ℕ) (es : List E) → take (length es - held) (drop held es) ≡ drop held es
rest_is held es = take_past (length es - held) (drop held es) (omega (arith, length-drop held es))

pub expected : {X F : Type 0} (r : Result X F) (e : OrNoMemory F) (why : F) → e ≡ rejected.Fault why → Fails e r → r ≡ Err why
expected r rejected.NoMemory why is k = absurd (cc)
expected r (rejected.Fault w) why is k = let z : w ≡ why = cc in k ∙ ap Err z

module _ {E Q G R A F : Type 0} (b : Book E Q G R A F) (y : NodeId) (view : ℕ) (n : Node E) (low : n.view ≤ view) where
  abbrev f : Node E
  f = become_follower b y (update_view b view n)

  pub view_is : f.view ≡ view
  unfolding enter_view
  view_is = go (nat_lt n.view view) refl
    where
      go : (t : Bool) → nat_lt n.view view ≡ t → (if t then enter_view b view n else n).view ≡ view
      go true e = refl
      go false e = let k : view ≤ n.view = grind (arith, nat_tests) in omega (arith, k, low)

  pub commit_kept : f.commit ≡ n.commit
  unfolding enter_view
  commit_kept = go (nat_lt n.view view)
    where
      go : (t : Bool) → (if t then enter_view b view n else n).commit ≡ n.commit
      go true = refl
      go false = refl

  base_kept : f.base ≡ n.base
  unfolding enter_view
  base_kept = go (nat_lt n.view view)
    where
      go : (t : Bool) → (if t then enter_view b view n else n).base ≡ n.base
      go true = refl
      go false = refl

  module _ (x : NodeId) (len prev : ℕ) (es : List E) (held theirs : ℕ) (within : len ≤ length n.log) (log_is : (update_view b view n).log ≡ take len n.log) where
    length_is : length f.log ≡ len
    length_is = ap length log_is ∙ (let e : length (take len n.log) ≡ len = omega (arith, length-take len n.log) in e)

    pub all_held : held ≡ length es → merge_entries b x y prev es held theirs f ≡ accept_entries b x y (prev + length es) theirs f
    all_held e =
        let t : (held == length es) ≡ true = grind (arith, nat_tests) in
        ap {B = Step E A F} (λ u. if u then accept_entries b x y (prev + length es) theirs f else (
        if nat_lt (prev + held) (length f.log) && nat_lt (prev + held) f.commit
        then outcomes.refuse f (BelowCommit f.commit (prev + held))
        else accept_or_refuse b f x y (prev + length es) theirs (cut_to (prev + held) f) (checked_append b f.base (take (prev + held) f.log) (drop held es))
        )) t

    not_all : (held ≡ length es → ⊥) → merge_entries b x y prev es held theirs f ≡ (
        if nat_lt (prev + held) (length f.log) && nat_lt (prev + held) f.commit
        then outcomes.refuse f (BelowCommit f.commit (prev + held))
        else accept_or_refuse b f x y (prev + length es) theirs (cut_to (prev + held) f) (checked_append b f.base (take (prev + held) f.log) (drop held es)))
    not_all other =
        let t : (held == length es) ≡ false = grind (arith, nat_tests) in
        ap {B = Step E A F} (λ u. if u then accept_entries b x y (prev + length es) theirs f else (
        if nat_lt (prev + held) (length f.log) && nat_lt (prev + held) f.commit
        then outcomes.refuse f (BelowCommit f.commit (prev + held))
        else accept_or_refuse b f x y (prev + length es) theirs (cut_to (prev + held) f) (checked_append b f.base (take (prev + held) f.log) (drop held es))
        )) t

    test_is : (nat_lt (prev + held) (length f.log) && nat_lt (prev + held) f.commit) ≡ (nat_lt (prev + held) len && nat_lt (prev + held) n.commit)
    test_is = ap (λ k. nat_lt (prev + held) k && nat_lt (prev + held) f.commit) length_is ∙ ap (λ k. nat_lt (prev + held) len && nat_lt (prev + held) k) commit_kept

    pub below_commit : (held ≡ length es → ⊥) → (nat_lt (prev + held) len && nat_lt (prev + held) n.commit) ≡ true → (merge_entries b x y prev es held theirs f).outcome ≡ Refused (BelowCommit n.commit (prev + held))
    below_commit other below =
        ap {B = outcomes.Outcome A F} (λ (m : Step E A F). m.outcome) (not_all other
        ∙ ap {B = Step E A F} (λ p. if p then outcomes.refuse f (BelowCommit f.commit (prev + held))
        else accept_or_refuse b f x y (prev + length es) theirs (cut_to (prev + held) f) (checked_append b f.base (take (prev + held) f.log) (drop held es))) (test_is ∙ below))
        ∙ ap {B = outcomes.Outcome A F} (λ k. Refused (BelowCommit k (prev + held))) commit_kept

    pub some_new : (held ≡ length es → ⊥) → (nat_lt (prev + held) len && nat_lt (prev + held) n.commit) ≡ false → prev + held ≤ len → (r : Result (List E) F) → checked_append b n.base (take (prev + held) n.log) (drop held es) ≡ r →
        merge_entries b x y prev es held theirs f ≡ accept_or_refuse b f x y (prev + length es) theirs (cut_to (prev + held) f) r
    some_new other above reach r is =
        not_all other
        ∙ ap {B = Step E A F} (λ p. if p then outcomes.refuse f (BelowCommit f.commit (prev + held))
        else accept_or_refuse b f x y (prev + length es) theirs (cut_to (prev + held) f) (checked_append b f.base (take (prev + held) f.log) (drop held es))) (test_is ∙ above)
        ∙ ap {B = Step E A F} (λ m. accept_or_refuse b f x y (prev + length es) theirs (cut_to (prev + held) f) (checked_append b f.base m (drop held es))) (ap (take (prev + held)) log_is ∙ take_part (prev + held) len n.log reach)
        ∙ ap {B = Step E A F} (λ k. accept_or_refuse b f x y (prev + length es) theirs (cut_to (prev + held) f) (checked_append b k (take (prev + held) n.log) (drop held es))) base_kept
        ∙ ap {B = Step E A F} (accept_or_refuse b f x y (prev + length es) theirs (cut_to (prev + held) f)) is

module _ {S Q G R A F : Type 0} (stands : S → Book Entry Q G R A F → Holding Entry → Type 0) where
  -- a node that accept_entries the entries, and answers
  pub accepted : {new : Core S Q G R A F} {b : Book Entry Q G R A F} {x : NodeId} (y : NodeId) (view seqno theirs : ℕ) (m : Node Entry) (done : Done S Q G R A F) →
      StandsFor stands new b x (record m { commit = commit_after b theirs seqno m }) → seen_outcome {F = F} done.outcome ≡ outcomes.Done → map seen_message done.sent ≡ append_reply_to x y view true seqno → m.view ≡ view →
      Stepped stands b x (accept_entries b x y seqno theirs m) done new
  accepted {new} {b} {x} y view seqno theirs m done node outcome answer is = record {
    node = node;
    outcome = outcome;
    sent = answer ∙ ap (λ v. append_reply_to x y v true seqno) (sym is);
  }

  pub low_of : {c : Core S Q G R A F} {b : Book Entry Q G R A F} {x : NodeId} {n : Node Entry} → StandsFor stands c b x n → (view : ℕ) → c.peer.view ≤ view → n.view ≤ view
  low_of s view h = let e = ap (λ (m : Node Entry). m.view) s.same in omega (arith, h, e)

  pub commit_of : {c : Core S Q G R A F} {b : Book Entry Q G R A F} {x : NodeId} {n : Node Entry} → StandsFor stands c b x n → c.commit ≡ n.commit
  commit_of s = ap (λ (m : Node Entry). m.commit) s.same
