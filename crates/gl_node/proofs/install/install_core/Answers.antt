use Rattle.gl_node.proofs.Offering.{is_offer}
use Rattle.gl_node.proofs.install.install_core.Goals as goal

pub install-came-requires : goal.install-came-requires
install-came-requires g c = record { offered = is_offer g.B.Snapshots.shows c.args.offer c.requires.offered.rules c.requires.offered.from c.requires.offered.offers }
