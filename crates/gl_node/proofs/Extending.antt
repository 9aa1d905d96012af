-- What the rules of requests make of a node's log: one entry more, unless they refuse.
use Rattle.std.proofs.Common.{◌≡◌, ℕ, ◌+◌, length, Bool, true, false, ◌==◌, nat_lt, nat_le, if◌then◌else◌, Option, Some, None, Result, Ok, Err, refl}
use Rattle.gl_entry.specs.declared.entry.Entry.{Entry}
use Rattle.gl_rules.specs.Identity.{NodeId}
use Rattle.gl_rules.specs.Book.{Book}
use Rattle.gl_rules.specs.Node.{Node, Role, Follower, Candidate, Leader}
use Rattle.gl_rules.specs.Outcome.{Step, Refusal, Refused}
use Rattle.gl_rules.specs.Outcome as outcome
use Rattle.gl_rules.specs.Log.{entry_at, is_signature_in}
use Rattle.gl_rules.specs.Configuration.{configurations_above}
use Rattle.gl_rules.specs.Steps.{as_leader, if_leader}
use Rattle.gl_rules.specs.Requests.{pending_limit, append_result, execute_request, submit, if_removal_committed, unless_mark_refused, if_markable, govern_as_leader, govern, append_signature, sign_as_leader, sign, append_evidence, evidence}
use Rattle.gl_rules.proofs.Ids.{by_test}
use Rattle.gl_node.specs.Changes.{Extends, IsExtended}

module _ {Q G R A F : Type 0} (b : Book Entry Q G R A F) where
  abbrev Adds : Node Entry → Step Entry A F → Type 0
  Adds n step = ((why : Refusal F) → step.outcome ≡ Refused why → ⊥) → IsExtended n step.node

  denies : (n : Node Entry) (why : Refusal F) → Adds n (outcome.refuse n why)
  denies n why never = absurd (never why refl)

  led_adds : (n : Node Entry) (step : Step Entry A F) → Adds n step → Adds n (if_leader n step)
  led_adds n step h = go n.role
    where
      go : (r : Role) → Adds n (as_leader r n step)
      go Leader = h
      go Candidate = denies n (outcome.NotPrimary n.view n.leader)
      go Follower = denies n (outcome.NotPrimary n.view n.leader)

  enters_adds : (n : Node Entry) (m : Result (Entry × A) F) → Adds n (append_result b n m)
  enters_adds n (Err why) = denies n (outcome.ByLedger why)
  enters_adds n (Ok made) = λ never. record { entry = made.0; used = n.used; node = refl }

  pub submit_adds : (q : Q) (n : Node Entry) → Extends n (submit b q n)
  unfolding submit
  submit_adds q n = led_adds n (execute_request b q n) (enters_adds n (b.execute n.log n.view q))

  pub govern_adds : (q : G) (n : Node Entry) → Extends n (govern b q n)
  unfolding govern
  govern_adds q n = led_adds n (govern_as_leader b q n) (go (nat_le pending_limit (length (configurations_above b n.log n.commit (length n.log)))) (b.marked_node q))
    where
      late : (m : Option ℕ) → Adds n (if_removal_committed b m n (append_result b n (b.govern n.log n.view q)))
      late None = enters_adds n (b.govern n.log n.view q)
      late (Some seqno) = by_test (Adds n) (nat_lt n.commit seqno) (outcome.refuse n (outcome.RemovalNotCommitted seqno n.commit)) (append_result b n (b.govern n.log n.view q)) (λ d. denies n _) (λ d. enters_adds n (b.govern n.log n.view q))

      inner : (y : NodeId) (m : Option F) → Adds n (unless_mark_refused b m y n (append_result b n (b.govern n.log n.view q)))
      inner y (Some why) = denies n (outcome.ByLedger why)
      inner y None = late (b.removal n.log y)

      go : (m : Bool) (c : Option NodeId) → Adds n (if m then outcome.refuse n (outcome.TooManyPending pending_limit) else if_markable b c n (append_result b n (b.govern n.log n.view q)))
      go true c = denies n (outcome.TooManyPending pending_limit)
      go false None = enters_adds n (b.govern n.log n.view q)
      go false (Some y) = inner y (b.mark_refusal n.log y)

  pub sign_adds : (x : NodeId) (n : Node Entry) → Extends n (sign b x n)
  unfolding sign
  sign_adds x n = led_adds n (sign_as_leader b x n) (go (n.used == n.reserved) (is_signature_in b n.view (entry_at n.log (length n.log))) (b.sign x n.used n.log n.view n.commit))
    where
      go : (p q : Bool) (m : Result Entry F) → Adds n (if p then outcome.refuse n (outcome.NotReserved n.reserved) else (if q then outcome.refuse n (outcome.NothingToSign (length n.log)) else append_signature b n m))
      go true q m = denies n (outcome.NotReserved n.reserved)
      go false true m = denies n (outcome.NothingToSign (length n.log))
      go false false (Err why) = denies n (outcome.ByLedger why)
      go false false (Ok e) = λ never. record { entry = e; used = n.used + 1; node = refl }

  pub evidence_adds : (n : Node Entry) → Extends n (evidence b n)
  unfolding evidence
  evidence_adds n = led_adds n (append_evidence b n (b.evidence n.log n.view)) (go (b.evidence n.log n.view))
    where
      go : (m : Result Entry F) → Adds n (append_evidence b n m)
      go (Err why) = denies n (outcome.ByLedger why)
      go (Ok e) = λ never. record { entry = e; used = n.used; node = refl }
