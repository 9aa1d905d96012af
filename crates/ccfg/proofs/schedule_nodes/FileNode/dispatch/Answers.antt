use Rattle.std.proofs.Common.{◌≡◌, refl, subst}
use Rattle.gl_replication.specs.Events.{rule_of}
use Rattle.gl_replication.specs.Stands as node_status
use Rattle.gl_world.specs.WorldNodes.{KeepsAll, Refuses, Steps}
use Rattle.ccfg.specs.FileNodes.{SeenFileNode, StandsOverFile}
use Rattle.gl_store_book.specs.Stands.{Stands}
use Rattle.ccfg.proofs.FileNodes.{err_as, keeps_over, never_rose, no_fault, on_refused, refuses_on, served_steps, serves_on}
use Rattle.ccfg.proofs.schedule_nodes.FileNode.dispatch.Goals as goal

pub unreachable-requires : goal.unreachable-requires
unreachable-requires c = never_rose (c.event.ensures.disk_fault (err_as c.event.result c.in-Err-DiskFault.field-0 _ c.in-Err-DiskFault.is c.in-Err-DiskFault.field-0-is)).0

pub invariant_of-self : goal.invariant_of-self
invariant_of-self c =
    serves_on c.args.event c.self.inside.replica c.event.new.self c.self.invariant c.core-core.ensures.some (c.in-Ok.ensures.kept refl)
    (c.in-Ok.ensures.no_disk_fault (λ e. absurd cc)).1 c.event.ensures.snapshot

pub invariant_of-self-in-Err-Refused : goal.invariant_of-self-in-Err-Refused
invariant_of-self-in-Err-Refused c =
    let r = c.in-Err-Refused in
    let old = c.self.inside.replica in
    let new = c.event.new.self in
    let same = on_refused c.event.result r.field-0 r.why r.is r.field-0-is (λ why. (new.disk.bytes ≡ old.disk.bytes) × (new.disk.past ≡ old.disk.past)) (c.event.ensures.same refl) in
    refuses_on old new c.self.invariant same.0 (c.event.ensures.no_disk_fault (no_fault c.event.result r.field-0 r.why r.is r.field-0-is)).1 c.event.ensures.snapshot

pub returns-in-Ok-clause-steps : goal.returns-in-Ok-clause-steps
returns-in-Ok-clause-steps c =
    subst (λ (old : SeenFileNode). Steps StandsOverFile (rule_of c.args.event) old c.in-Ok.done c.event.new.self) c.self.view_is
    (served_steps c.args.event c.self.inside.replica c.event.new.self c.in-Ok.done c.self.invariant (c.in-Ok.ensures.kept refl) c.in-Ok.ensures.steps)

pub returns-in-Err-Refused-clause-refused : goal.returns-in-Err-Refused-clause-refused
returns-in-Err-Refused-clause-refused c =
    let r = c.in-Err-Refused in
    let refused = on_refused c.event.result r.field-0 r.why r.is r.field-0-is (λ why. node_status.Refuses Stands (rule_of c.args.event) c.self.inside.replica.core why) c.event.ensures.refused in
    subst (λ (old : SeenFileNode). Refuses StandsOverFile (rule_of c.args.event) old r.why) c.self.view_is
    (λ b x n s. refused b x n s.core)

pub returns-in-Err-Refused-clause-err : goal.returns-in-Err-Refused-clause-err
returns-in-Err-Refused-clause-err c =
    let r = c.in-Err-Refused in
    let old = c.self.inside.replica in
    let new = c.event.new.self in
    let same = on_refused c.event.result r.field-0 r.why r.is r.field-0-is (λ why. (new.disk.bytes ≡ old.disk.bytes) × (new.disk.past ≡ old.disk.past)) (c.event.ensures.same refl) in
    let stays = on_refused c.event.result r.field-0 r.why r.is r.field-0-is (λ why. node_status.KeepsAll Stands old.core new.core) c.event.ensures.stays in
    subst (λ (f : SeenFileNode). KeepsAll StandsOverFile f new) c.self.view_is (keeps_over old new same.0 stays)
