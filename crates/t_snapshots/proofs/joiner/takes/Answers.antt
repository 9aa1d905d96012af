use Rattle.gl_store_book.specs.Stands.{Stands}
use Rattle.t_snapshots.proofs.Standing.{some_after}
use Rattle.t_snapshots.proofs.joiner.takes.Goals as goal

pub returns : goal.returns
returns c = some_after Stands _ c.args.core.now c.on_append.new.self c.on_append.result c.requires c.on_append.ensures.steps c.on_append.ensures.err
