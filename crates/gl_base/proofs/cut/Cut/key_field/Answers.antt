use Rattle.gl_base.specs.Row.{key_limit}
use Rattle.gl_base.proofs.Names.{key-valid, string_at_within}
use Rattle.gl_base.proofs.cut.Cut.key_field.Goals as goal

pub returns-clause-valid : goal.returns-clause-valid
returns-clause-valid c =
    rw c.in_ok-key.ensures.ok.0 (
    key-valid _ c.in_ok-key.ensures.each c.in_ok-key.ensures.ok.1 (string_at_within 2 key_limit _ _ _ c.in_ok-bytes.ensures.exact)
    )
