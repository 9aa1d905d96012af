-- What one event made of a world.
use Rattle.std.specs.Prelude.{◌≡◌, [], ◌∷◌, ◌++◌, Bool, true, false, if◌then◌else◌}
use Rattle.gl_rules.specs.World.{happens}
use Rattle.gl_ledger.specs.declared.response.Response.{Response}
use Rattle.gl_ledger.specs.declared.response.Rejection.{Rejection}
use Rattle.gl_replication.specs.Stands.{Answers, seen_outcome}
use Rattle.gl_replication.specs.declared.done.Outcome.{Outcome}
use Rattle.gl_replication.specs.declared.done.Refusal.{Refusal}
use Rattle.gl_replication.specs.declared.done.Refusal.TheVariants as refusals
use Rattle.gl_world.specs.declared.event.Event.{Event}
use Rattle.gl_world.specs.Group.{book_of}
use Rattle.gl_world.specs.Held.{Held, seen_event, world_now}
use Rattle.gl_world.specs.World.{ServiceOutcome}
use Rattle.gl_world.specs.WorldNodes.{ServiceRefusal}

abbrev pub with_event : Held → Event → Held
with_event h event = record h { events = h.events ++ event ∷ [] }

-- What the rules answer to an event.
abbrev pub answer_to : Held → Event → ServiceOutcome
answer_to h event =
    (happens (book_of h.settings) (world_now h) (seen_event h.settings event)).outcome

-- The event is put down, and the outcome is that of the rules.
pub record Happened (old : Held) (event : Event) (new : Held) (outcome : Outcome Response) :
    Type 0 where
  pub grows : new ≡ with_event old event
  pub answer : seen_outcome {F = Rejection} outcome ≡ answer_to old event

abbrev pub is_no_memory : {S Q G R A F : Type 0} → Refusal S Q G R A F → Bool
is_no_memory refusals.NoMemory = true
is_no_memory (refusals.NotPrimary view leader) = false
is_no_memory (refusals.TooManyPending limit) = false
is_no_memory (refusals.NotReserved reserved) = false
is_no_memory (refusals.KeyExhausted reserved) = false
is_no_memory (refusals.NothingToSign seqno) = false
is_no_memory (refusals.RemovalNotCommitted seqno commit) = false
is_no_memory (refusals.BelowCommit commit seqno) = false
is_no_memory refusals.NotPeer = false
is_no_memory (refusals.BelowBase base) = false
is_no_memory refusals.ViewLimit = false
is_no_memory (refusals.NoLaterSignature commit) = false
is_no_memory (refusals.ByLedger why) = false

-- Running out of memory leaves all as it was. Another refusal is that of the rules, and the event
-- is put down.
pub record Refuses {S : Type 0} (old : Held) (event : Event) (new : Held)
    (why : ServiceRefusal S) : Type 0 where
  pub left : new ≡ (if is_no_memory why then old else with_event old event)
  pub answer : Answers why (answer_to old event)
