-- Nodes that run for a world of the rules, and what an event makes of them.
use Rattle.std.specs.Prelude.{◌≡◌, ℕ, suc, ◌+◌, List, Some, true, map, length, take, slice_get}
use Rattle.std.specs.declared.alloc.Global.{Global}
use Rattle.std.specs.declared.vec.Vec.{Vec}
use Rattle.gl_rules.specs.Node.{Node}
use Rattle.gl_rules.specs.World.{after, happens}
use Rattle.gl_entry.specs.declared.entry.Entry.{Entry}
use Rattle.gl_ledger.specs.declared.response.Response.{Response}
use Rattle.gl_ledger.specs.declared.response.Rejection.{Rejection}
use Rattle.gl_election.specs.Bridge.{seen_message}
use Rattle.gl_replication.specs.Stands.{Answers, seen_outcome}
use Rattle.gl_replication.specs.declared.done.Outcome.{Outcome}
use Rattle.gl_world.specs.declared.event.Event.{Event}
use Rattle.gl_world.specs.declared.settings.Settings.{Settings}
use Rattle.gl_world.specs.declared.world.nodes.Nodes.{Nodes}
use Rattle.gl_world.specs.Founding.{id_of, node_ids}
use Rattle.gl_world.specs.Group.{IsGroup, book_of}
use Rattle.gl_world.specs.Held.{is_among, seen_event}
use Rattle.gl_world.specs.Rules.{bring_few}
use Rattle.gl_world.specs.Service.{ServiceEvent}
use Rattle.gl_world.specs.World.{ServiceWorld, start_of}
use Rattle.gl_world.specs.WorldNodes.{ServiceRefusal, StandsAs}

-- The world of the rules after some events of the service.
pub record IsReached (s : Settings) (w : ServiceWorld) : Type 0 where
  pub events : List ServiceEvent
  pub is : w ≡ after (book_of s) (start_of s) events

-- What stands below a node's base.
abbrev pub below_base : Node Entry → List Entry
below_base n = take n.base n.log

module _ {N S : Type 0} (stands : StandsAs N) where
  -- Each node stands for that of the rules with its number, with what stands below its base beside
  -- it; what was sent is what was sent there, and each message brings few entries.
  pub record IsRunning (s : Settings) (ns : Nodes N S) (w : ServiceWorld) : Type 0 where
    pub group : IsGroup s
    pub ids : ns.ids.items ≡ node_ids s
    pub whole : length ns.nodes.items ≡ s.starting + s.joiners
    pub stand : (i : ℕ) (c : N) → slice_get ns.nodes.items i ≡ Some c →
        stands c (book_of s) (id_of s (suc i)) (w.nodes (id_of s (suc i)))
    pub below_whole : length ns.below.items ≡ s.starting + s.joiners
    pub below : (i : ℕ) (kept : Vec Entry Global) → slice_get ns.below.items i ≡ Some kept →
        kept.items ≡ below_base (w.nodes (id_of s (suc i)))
    pub sent : map seen_message ns.sent.items ≡ w.sent
    pub few : bring_few w.sent ≡ true
    pub reached : IsReached s w

  -- The nodes run for some world.
  pub record RunSome (ns : Nodes N S) : Type 0 where
    pub settings : Settings
    pub world : ServiceWorld
    pub running : IsRunning settings ns world

  -- This holds of each world for which they run.
  abbrev pub Of : Nodes N S → (Settings → ServiceWorld → Type 0) → Type 0
  Of ns P = (s : Settings) (w : ServiceWorld) → IsRunning s ns w → P s w

  -- An event happens in each of them.
  abbrev pub Moves : Event → Nodes N S → Outcome Response → Nodes N S → Type 0
  Moves event old outcome new = Of old (λ s w. is_among (node_ids s) w.sent event ≡ true →
      IsRunning s new (happens (book_of s) w (seen_event s event)).world
      × (seen_outcome {F = Rejection} outcome
      ≡ (happens (book_of s) w (seen_event s event)).outcome))

  -- It is refused so in each of them.
  abbrev pub Denies : Event → Nodes N S → ServiceRefusal S → Type 0
  Denies event old why = Of old (λ s w. is_among (node_ids s) w.sent event ≡ true →
      Answers why (happens (book_of s) w (seen_event s event)).outcome)

  abbrev pub Keeps : Nodes N S → Nodes N S → Type 0
  Keeps old new = Of old (λ s w. IsRunning s new w)
