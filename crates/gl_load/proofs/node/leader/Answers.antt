use Rattle.std.proofs.Common.{refl}
use Rattle.gl_load.specs.Founding.{load_book, load_holding, load_start}
use Rattle.gl_load.proofs.NodeEvents.{led}
use Rattle.gl_load.proofs.node.leader.Goals as goal

pub returns : goal.returns
returns g c =
    let seed = c.args.seed.now in
    led g.B.Book.stands seed _ (c.leader.ensures (load_book seed) (load_holding seed) c.requires (load_start seed) refl refl refl)
