use Rattle.std.proofs.Common.{◌-◌, take, subst}
use Rattle.gl_replication.specs.Offers.{Offers}
use Rattle.gl_replication.specs.declared.snapshots.Offer.{Offer}
use Rattle.gl_store_book.specs.Stands.{Shows}
use Rattle.t_snapshots.proofs.joiner.offered.Goals as goal

pub returns-in-Ok-Snapshot : goal.returns-in-Ok-Snapshot
returns-in-Ok-Snapshot c =
    let some = c.requires in
    let offers = subst (λ (offer : Offer). Offers Shows offer some.rules some.node) c.in-Ok-Snapshot.field-0-is (c.in-Ok-Snapshot.ensures some.rules some.me some.node some.standing) in
    (some.rules, take (offers.1 - 1) some.node.log, offers.3)
