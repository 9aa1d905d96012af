use Rattle.std.proofs.Common.{ap, ◌∙◌}
use Rattle.ccfg.specs.Disk.{HeldDisk}
use Rattle.gl_store_book.specs.NodeFile.{opened}
use Rattle.ccfg.proofs.schedule_nodes.open_node.Goals as goal

pub returns-in-Ok-clause-opens : goal.returns-in-Ok-clause-opens
returns-in-Ok-clause-opens c =
    let file = c.in_ok-open_file.field-0 in
    let there = c.in_ok-open_file.ensures in (
      file.state,
      there.0,
      record { opens = ap (λ (d : HeldDisk). opened d.bytes) c.in-Ok.ensures.same ∙ there.1.opens; kind = there.1.kind },
      c.in-Ok.ensures.stands,
      c.in-Ok.ensures.snapshot,
    )
