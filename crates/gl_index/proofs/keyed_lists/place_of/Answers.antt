use Rattle.std.proofs.Common.{◌∙◌}
use Rattle.gl_index.proofs.Places.{place_from}
use Rattle.gl_index.proofs.keyed_lists.place_of.Goals as goal

pub returns : goal.returns
returns c = c.unwrap_or.ensures ∙ place_from _ _ _ c.position_of.ensures
