-- What all rows at a leader have in common.
use Rattle.std.proofs.Common.{◌≡◌, map, Result, Ok, Err, IfOk, IfErr, refl, sym, ap, subst, ◌∙◌}
use Rattle.gl_rules.specs.Identity.{NodeId}
use Rattle.gl_rules.specs.Book.{Book}
use Rattle.gl_rules.specs.Node.{Node}
use Rattle.gl_rules.specs.Outcome.{Step, Refused, NotPrimary}
use Rattle.gl_rules.specs.Steps.{if_leader, as_leader}
use Rattle.gl_entry.specs.declared.entry.Entry.{Entry}
use Rattle.gl_replication.specs.declared.node.Core.{Core}
use Rattle.gl_election.specs.declared.peer.Role.{Role}
use Rattle.gl_election.specs.declared.peer.Role.TheVariants as roles
use Rattle.gl_replication.specs.declared.done.Done.{Done}
use Rattle.gl_replication.specs.declared.done.Refusal.{Refusal}
use Rattle.gl_replication.specs.Holding.{Holding}
use Rattle.gl_election.specs.Bridge.{seen_message, seen_role}
use Rattle.gl_replication.specs.Stands.{seen_outcome, Answers, StandsFor, Stepped, Steps, Refuses}

pub if_ok : {T U : Type 0} {P Q : T → Type 0} (r : Result T U) → ((v : T) → P v → Q v) → IfOk r P → IfOk r Q
if_ok (Ok v) f p = f v p
if_ok (Err e) f p = p

pub if_err : {T U : Type 0} {P Q : U → Type 0} (r : Result T U) → ((v : U) → P v → Q v) → IfErr r P → IfErr r Q
if_err (Ok v) f p = p
if_err (Err e) f p = f e p

pub denied_by : {A F : Type 0} (r : Role) (n : Node Entry) (step : Step Entry A F) → (r ≡ roles.Leader → ⊥) → (as_leader (seen_role r) n step).outcome ≡ Refused (NotPrimary n.view n.leader)
denied_by roles.Leader n step other = absurd (other refl)
denied_by roles.Candidate n step other = refl
denied_by roles.Follower n step other = refl

module _ {S Q G R A F : Type 0} (stands : S → Book Entry Q G R A F → Holding Entry → Type 0) where
  Rule : Type 0
  Rule = Book Entry Q G R A F → NodeId → Node Entry → Step Entry A F

  pub led : {c : Core S Q G R A F} {b : Book Entry Q G R A F} {x : NodeId} {n : Node Entry} → StandsFor stands c b x n → c.peer.role ≡ roles.Leader → (step : Step Entry A F) → if_leader n step ≡ step
  led {c} {b} {x} {n} s is step = ap (λ r. as_leader r n step) (sym (ap (λ (m : Node Entry). m.role) s.same) ∙ ap seen_role is)

  pub denied : {c : Core S Q G R A F} {b : Book Entry Q G R A F} {x : NodeId} {n : Node Entry} → StandsFor stands c b x n → (c.peer.role ≡ roles.Leader → ⊥) → (step : Step Entry A F) →
      (if_leader n step).outcome ≡ Refused (NotPrimary c.peer.view c.peer.leader)
  denied {c} {b} {x} {n} s other step =
      ap (λ r. (as_leader r n step).outcome) (sym (ap (λ (m : Node Entry). m.role) s.same))
      ∙ denied_by c.peer.role n step other
      ∙ ap (λ (m : Node Entry). Refused (NotPrimary m.view m.leader)) (sym s.same)

  pub steps_led : {c new : Core S Q G R A F} {done : Done S Q G R A F} (rule inner : Book Entry Q G R A F → NodeId → Node Entry → Step Entry A F) →
      ((b : Book Entry Q G R A F) (x : NodeId) (n : Node Entry) → rule b x n ≡ if_leader n (inner b x n)) → c.peer.role ≡ roles.Leader → Steps stands inner c done new → Steps stands rule c done new
  steps_led {c} {new} {done} rule inner by is k b x n s =
      subst (λ (step : Step Entry A F). Stepped stands b x step done new) (sym (by b x n ∙ led s is (inner b x n))) (k b x n s)

  pub refuses_led : {c : Core S Q G R A F} (why : Refusal S Q G R A F) (rule inner : Book Entry Q G R A F → NodeId → Node Entry → Step Entry A F) →
      ((b : Book Entry Q G R A F) (x : NodeId) (n : Node Entry) → rule b x n ≡ if_leader n (inner b x n)) → c.peer.role ≡ roles.Leader → Refuses stands inner c why → Refuses stands rule c why
  refuses_led {c} why rule inner by is k b x n s =
      subst (λ (step : Step Entry A F). Answers why step.outcome) (sym (by b x n ∙ led s is (inner b x n))) (k b x n s)

  pub refuses_denied : {c : Core S Q G R A F} (rule inner : Book Entry Q G R A F → NodeId → Node Entry → Step Entry A F) →
      ((b : Book Entry Q G R A F) (x : NodeId) (n : Node Entry) → rule b x n ≡ if_leader n (inner b x n)) → (c.peer.role ≡ roles.Leader → ⊥) →
      (b : Book Entry Q G R A F) (x : NodeId) (n : Node Entry) → StandsFor stands c b x n → (rule b x n).outcome ≡ Refused (NotPrimary c.peer.view c.peer.leader)
  refuses_denied {c} rule inner by other b x n s = ap (λ (step : Step Entry A F). step.outcome) (by b x n) ∙ denied s other (inner b x n)

  -- a step that is another
  pub stepped_as : {new : Core S Q G R A F} {b : Book Entry Q G R A F} {x : NodeId} {step : Step Entry A F} {done : Done S Q G R A F} (same : Step Entry A F) → step ≡ same → StandsFor stands new b x same.node →
      seen_outcome {F = F} done.outcome ≡ same.outcome → map seen_message done.sent ≡ same.sent → Stepped stands b x step done new
  stepped_as {new} {b} {x} {step} {done} same is node outcome sent =
      subst (λ (m : Step Entry A F). Stepped stands b x m done new) (sym is) (record { node = node; outcome = outcome; sent = sent })
