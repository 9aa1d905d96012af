use Rattle.std.specs.Option.{option_copied}
use Rattle.gl_base.proofs.RowLaws.{optional_value-only}
use Rattle.gl_base.proofs.cut.Cut.optional_value.Goals as goal

pub returns-clause-only : goal.returns-clause-only
returns-clause-only c = optional_value-only _ option_copied _ _ _ c.requires c.optional_value_field.ensures.exact
