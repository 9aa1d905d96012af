use Rattle.gl_store_book.proofs.FromSnapshots.{service_there}
use Rattle.gl_store_book.proofs.node_file.from_snapshot.read_snapshot.Goals as goal

pub unreachable-requires : goal.unreachable-requires
unreachable-requires c =
    let body = c.in-Ok.read.snapshot.body in
    service_there body.base body.rows c.in-Ok.read.governed c.in-Ok.ensures.governed c.in_default.is
