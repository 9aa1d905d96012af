-- What happens at the node of a load is its rule's step.
use Rattle.std.proofs.Common.{◌≡◌, ℕ, List, [], ◌∷◌, ◌++◌, Bool, refl, ◌∙◌, ap, if◌then◌else◌}
use Rattle.gl_rules.specs.Book.{Book}
use Rattle.gl_rules.specs.Identity.{member}
use Rattle.gl_rules.specs.Outcome.{Step}
use Rattle.gl_rules.specs.Replication.{advance}
use Rattle.gl_rules.specs.Requests.{reserve, sign, submit}
use Rattle.gl_rules.specs.World.{Event, Submit, Reserve, Sign, Advance, World, after, at, begin, happens, joiner, leader_at_start, run, starter}
use Rattle.gl_rules.proofs.Ids.{same_self}
use Rattle.gl_tx.specs.declared.request.Operation.{Operation}
use Rattle.gl_entry.specs.declared.entry.Entry.{Entry}
use Rattle.gl_ledger.specs.declared.response.Response.{Response}
use Rattle.gl_ledger.specs.declared.response.Rejection.{Rejection}
use Rattle.gl_world.specs.Service.{ServiceEvent}
use Rattle.gl_load.specs.Events.{node_after}
use Rattle.gl_load.specs.Founding.{load_book, load_id, load_start}

-- the last event happens after all others
run_push : {E Q G R A F : Type 0} (b : Book E Q G R A F) (events : List (Event Q G R)) (event : Event Q G R) (w : World E) →
    run b (events ++ event ∷ []) w ≡ (happens b (run b events w) event).world
unfolding run
run_push b [] event w = refl
run_push b (e ∷ events) event w = run_push b events event (happens b w e).world

-- a step at a node leaves there what it makes of it
at_self : (w : World Entry) (x : List ℕ) (step : Step Entry Response Rejection) → (at w x step).world.nodes x ≡ step.node
at_self w x step = ap (λ (t : Bool). if t then step.node else w.nodes x) (same_self x)

module _ (seed : List ℕ) where
  -- the node leads at the start
  pub first_node : node_after seed [] ≡ leader_at_start (load_start seed)
  unfolding run
  first_node =
      ap (λ (t : Bool). if t then leader_at_start (load_start seed) else (if member (load_id seed) (load_start seed).starting then starter (load_start seed) else joiner))
      (same_self (load_id seed))

  module _ (events : List ServiceEvent) where
    abbrev w : World Entry
    w = after (load_book seed) (load_start seed) events

    next : (event : ServiceEvent) → node_after seed (events ++ event ∷ []) ≡ (happens (load_book seed) w event).world.nodes (load_id seed)
    next event = ap (λ (v : World Entry). v.nodes (load_id seed)) (run_push (load_book seed) events event (begin (load_start seed)))

    pub submitted : (q : List Operation) → node_after seed (events ++ Submit (load_id seed) q ∷ []) ≡ (submit (load_book seed) q (node_after seed events)).node
    unfolding happens
    submitted q = next (Submit (load_id seed) q) ∙ at_self w (load_id seed) (submit (load_book seed) q (node_after seed events))

    pub reserved : node_after seed (events ++ Reserve (load_id seed) ∷ []) ≡ (reserve (load_book seed) (load_id seed) (node_after seed events)).node
    unfolding happens
    reserved = next (Reserve (load_id seed)) ∙ at_self w (load_id seed) (reserve (load_book seed) (load_id seed) (node_after seed events))

    pub signed : node_after seed (events ++ Sign (load_id seed) ∷ []) ≡ (sign (load_book seed) (load_id seed) (node_after seed events)).node
    unfolding happens
    signed = next (Sign (load_id seed)) ∙ at_self w (load_id seed) (sign (load_book seed) (load_id seed) (node_after seed events))

    pub advanced : node_after seed (events ++ Advance (load_id seed) ∷ []) ≡ (advance (load_book seed) (load_id seed) (node_after seed events)).node
    unfolding happens
    advanced = next (Advance (load_id seed)) ∙ at_self w (load_id seed) (advance (load_book seed) (load_id seed) (node_after seed events))
