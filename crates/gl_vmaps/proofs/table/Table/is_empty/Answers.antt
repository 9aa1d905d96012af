use Rattle.std.proofs.Common.{sym, ◌∙◌}
use Rattle.gl_vmaps.proofs.ChainLaws.{nothing_in}
use Rattle.gl_vmaps.proofs.table.Table.is_empty.Goals as goal

pub returns : goal.returns
returns c = λ is. sym c.self.view_is ∙ nothing_in c.self.inside.rows.entries (c.is_empty.ensures.0 is)
