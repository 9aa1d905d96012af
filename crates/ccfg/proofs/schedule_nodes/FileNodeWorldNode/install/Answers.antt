use Rattle.std.proofs.Common.{◌≡◌, refl, sym, subst}
use Rattle.gl_entry.specs.declared.entry.Entry.{Entry}
use Rattle.gl_rules.specs.Node.{Node}
use Rattle.gl_node.specs.Offered.{ReportsOffered}
use Rattle.gl_replication.specs.Offers.{Offers}
use Rattle.gl_replication.specs.Stands as node_status
use Rattle.gl_world.specs.WorldNodes as worlds
use Rattle.gl_world.specs.WorldNodes.{KeepsAll, OfEach, Stepped}
use Rattle.gl_store_book.specs.Stands.{Shows, Stands}
use Rattle.ccfg.specs.FileNodes.{SeenFileNode, StandsOverFile}
use Rattle.ccfg.proofs.FileInstalls.{begins_on, begun, begun_steps, core_offered, declines_on}
use Rattle.ccfg.proofs.FileNodes.{err_as, keeps_over, never_rose, no_fault, on_refused}
use Rattle.ccfg.proofs.schedule_nodes.FileNodeWorldNode.install.Goals as goal

pub install-requires : goal.install-requires
install-requires c =
    record { offered = core_offered c.args.offer c.self.inside.replica (subst (λ (f : SeenFileNode). worlds.IsOffered StandsOverFile Shows f c.args.offer) (sym c.self.view_is) c.requires.offered) }

pub unreachable-requires : goal.unreachable-requires
unreachable-requires c = never_rose (c.install.ensures.disk_fault (err_as c.install.result c.in-Err-DiskFault.field-0 _ c.in-Err-DiskFault.is c.in-Err-DiskFault.field-0-is)).0

pub invariant_of-self : goal.invariant_of-self
invariant_of-self c =
    let old = c.self.inside.replica in
    let new = c.install.new.self in
    let offered = core_offered c.args.offer old (subst (λ (f : SeenFileNode). worlds.IsOffered StandsOverFile Shows f c.args.offer) (sym c.self.view_is) c.requires.offered) in
    begins_on c.args.offer old new c.self.invariant offered (c.in-Ok.ensures.no_disk_fault (λ e. absurd cc)).1 c.in-Ok.done (c.in-Ok.ensures.kept refl) c.in-Ok.ensures.steps

pub invariant_of-self-in-Err-Refused : goal.invariant_of-self-in-Err-Refused
invariant_of-self-in-Err-Refused c =
    let r = c.in-Err-Refused in
    let old = c.self.inside.replica in
    let new = c.install.new.self in
    let offered = core_offered c.args.offer old (subst (λ (f : SeenFileNode). worlds.IsOffered StandsOverFile Shows f c.args.offer) (sym c.self.view_is) c.requires.offered) in
    let same = on_refused c.install.result r.field-0 r.why r.is r.field-0-is (λ why. (new.disk.bytes ≡ old.disk.bytes) × (new.disk.past ≡ old.disk.past)) (c.install.ensures.same refl) in
    let stays = on_refused c.install.result r.field-0 r.why r.is r.field-0-is (λ why. node_status.KeepsAll Stands old.core new.core) c.install.ensures.stays in
    declines_on c.args.offer old new c.self.invariant offered (c.install.ensures.no_disk_fault (no_fault c.install.result r.field-0 r.why r.is r.field-0-is)).1 same.0 stays

pub returns-in-Ok-clause-steps : goal.returns-in-Ok-clause-steps
returns-in-Ok-clause-steps c =
    let new = c.install.new.self in
    subst (λ (old : SeenFileNode). OfEach StandsOverFile old (λ b x n. (m : Node Entry) → Offers Shows c.args.offer b m → Stepped StandsOverFile b x (begun b m n) c.in-Ok.done new)) c.self.view_is
    (begun_steps c.args.offer c.self.inside.replica new c.self.invariant c.in-Ok.done (c.in-Ok.ensures.kept refl) c.in-Ok.ensures.steps)

pub returns-in-Err-Refused-clause-refused : goal.returns-in-Err-Refused-clause-refused
returns-in-Err-Refused-clause-refused c =
    let r = c.in-Err-Refused in
    let refused = on_refused c.install.result r.field-0 r.why r.is r.field-0-is
    (λ why. ReportsOffered Stands Shows c.args.offer c.self.inside.replica.core (λ b x n m. node_status.Answers why (begun b m n).outcome)) c.install.ensures.refused in
    subst (λ (old : SeenFileNode). OfEach StandsOverFile old (λ b x n. (m : Node Entry) → Offers Shows c.args.offer b m → node_status.Answers r.why (begun b m n).outcome)) c.self.view_is
    (λ b x n s m offers. refused b x n s.core m offers)

pub returns-in-Err-Refused-clause-err : goal.returns-in-Err-Refused-clause-err
returns-in-Err-Refused-clause-err c =
    let r = c.in-Err-Refused in
    let old = c.self.inside.replica in
    let new = c.install.new.self in
    let same = on_refused c.install.result r.field-0 r.why r.is r.field-0-is (λ why. (new.disk.bytes ≡ old.disk.bytes) × (new.disk.past ≡ old.disk.past)) (c.install.ensures.same refl) in
    let stays = on_refused c.install.result r.field-0 r.why r.is r.field-0-is (λ why. node_status.KeepsAll Stands old.core new.core) c.install.ensures.stays in
    subst (λ (f : SeenFileNode). KeepsAll StandsOverFile f new) c.self.view_is (keeps_over old new same.0 stays)
