use Rattle.std.proofs.Common.{◌≡◌, ℕ, ◌-◌, Some, map, slice_get, sym, subst, ◌∙◌}
use Rattle.gl_election.specs.Bridge.{seen_message}
use Rattle.gl_world.specs.declared.event.Event.{Event}
use Rattle.gl_world.specs.Rules.{acting_node}
use Rattle.gl_world.proofs.Events.{delivered_at, named_at, named_by}
use Rattle.gl_world.proofs.world.nodes.Nodes.index_of.Goals as goal

pub returns-in-Some : goal.returns-in-Some
returns-in-Some g c =
    let ids = c.args.self.now.ids.items in
    let sent = map seen_message c.args.self.now.sent.items in
    subst (λ (event : Event). slice_get ids c.in-Some.index ≡ Some (acting_node ids sent event)) (sym c.in-Deliver.is)
    (delivered_at ids (slice_get sent c.in-Deliver.message) c.in-Some.index (sym c.receiver.ensures.value ∙ c.in-Some.is))

pub returns-in-Timeout : goal.returns-in-Timeout
returns-in-Timeout g c =
    let ids = c.args.self.now.ids.items in
    let sent = map seen_message c.args.self.now.sent.items in
    subst (λ (k : ℕ). slice_get ids (k - 1) ≡ Some (acting_node ids sent c.args.event.now)) (sym c.from.ensures)
    (named_at ids sent c.args.event.now c.in-Timeout.node (named_by c.args.event.now c.in-Timeout.node c.in-Timeout.is) c.requires)
