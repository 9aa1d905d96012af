use Rattle.gl_base.proofs.Names.{map_name-text}
use Rattle.gl_base.proofs.cut.Cut.map_name_field.Goals as goal

pub returns-clause-valid : goal.returns-clause-valid
returns-clause-valid c =
    rw c.in_ok-name.ensures.ok.0 (map_name-text _ _ _ c.in_ok-text.ensures.exact c.in_ok-name.ensures.ok.1)
