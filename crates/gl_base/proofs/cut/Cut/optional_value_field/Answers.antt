use Rattle.std.proofs.Common.{rules}
use Rattle.gl_base.proofs.cut.Cut.optional_value_field.Goals as goal
use Rattle.gl_base.specs.LittleEndian.{little_endian}

pub returns-in-0-clause-encoded : goal.returns-in-0-clause-encoded
unfolding little_endian
returns-in-0-clause-encoded c = search rules

pub returns-in_ok-value-in-1-clause-encoded : goal.returns-in_ok-value-in-1-clause-encoded
unfolding little_endian
returns-in_ok-value-in-1-clause-encoded c = search rules
