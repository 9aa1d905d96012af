use Rattle.std.proofs.Common.{rules, List, ap}
use Rattle.gl_world.specs.declared.event.Event.{Event}
use Rattle.gl_world.specs.Held.{Held, world_now}
use Rattle.gl_world.proofs.Histories.{among_here, happened_by, kept_on, kept_refused, may_as, more, refuses_by}
use Rattle.gl_world.proofs.world.World.settle.Goals as goal

pub apply_event-requires : goal.apply_event-requires
apply_event-requires g c =
    let h : Held = record { settings = c.self.inside.settings; events = c.self.inside.history.items } in
    record { running = record { settings = h.settings; world = world_now h; running = c.self.invariant }; among = among_here g.N.WorldNode.stands h c.args.self.now c.args.event.now (search rules) c.self.invariant c.requires.here }

pub invariant_of-self : goal.invariant_of-self
invariant_of-self g c =
    let h : Held = record { settings = c.self.inside.settings; events = c.self.inside.history.items } in
    more g.N.WorldNode.stands h c.args.event.now _ c.then-self-inside.ensures
    (kept_on g.N.WorldNode.stands c.apply_event.new.self h c.args.event.now c.in-Ok.outcome c.self.invariant c.in-Ok.ensures.moved (may_as h c.args.self.now c.args.event.now (search rules) c.requires.here))

pub invariant_of-self-then-is_no_memory : goal.invariant_of-self-then-is_no_memory
invariant_of-self-then-is_no_memory g c =
    let h : Held = record { settings = c.self.inside.settings; events = c.self.inside.history.items } in
    c.in-Err.ensures.err h.settings (world_now h) c.self.invariant

pub invariant_of-self-in-Err : goal.invariant_of-self-in-Err
invariant_of-self-in-Err g c =
    let h : Held = record { settings = c.self.inside.settings; events = c.self.inside.history.items } in
    more g.N.WorldNode.stands h c.args.event.now _ c.then-self-inside-in-Err.ensures
    (kept_refused g.N.WorldNode.stands c.apply_event.new.self h c.args.event.now c.in-Err.why (search rules) c.self.invariant c.in-Err.ensures.err c.in-Err.ensures.refused (may_as h c.args.self.now c.args.event.now (search rules) c.requires.here))

pub returns-in-Ok-clause-happened : goal.returns-in-Ok-clause-happened
returns-in-Ok-clause-happened g c =
    let h : Held = record { settings = c.self.inside.settings; events = c.self.inside.history.items } in
    happened_by g.N.WorldNode.stands c.apply_event.new.self c.args.self.now _ h c.args.event.now c.in-Ok.outcome (search rules)
    (ap (λ (es : List Event). record { settings = c.self.inside.settings; events = es }) c.then-self-inside.ensures)
    c.self.invariant c.in-Ok.ensures.moved (may_as h c.args.self.now c.args.event.now (search rules) c.requires.here)

pub returns-else-is_no_memory-clause-refused : goal.returns-else-is_no_memory-clause-refused
returns-else-is_no_memory-clause-refused g c =
    let h : Held = record { settings = c.self.inside.settings; events = c.self.inside.history.items } in
    refuses_by g.N.WorldNode.stands c.args.self.now _ h c.args.event.now c.in-Err.why (search rules) (search rules)
    (ap (λ (es : List Event). record { settings = c.self.inside.settings; events = es }) c.then-self-inside-in-Err.ensures)
    c.self.invariant c.in-Err.ensures.refused (may_as h c.args.self.now c.args.event.now (search rules) c.requires.here)
