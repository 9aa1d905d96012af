use Rattle.std.proofs.Common.{ap, ◌∙◌}
use Rattle.gl_vmaps.specs.Kept.{Kept, map_version_of}
use Rattle.gl_vmaps.proofs.StandingLaws.{map_version_of-stands}
use Rattle.gl_vmaps.proofs.tables.Tables.map_version.Goals as goal

pub returns-clause-stands : goal.returns-clause-stands
returns-clause-stands c = λ ps stands.
    c.newest_of.ensures ∙ ap (λ (t : Kept). map_version_of t c.args.map.now) c.self.view_is ∙ map_version_of-stands c.args.self.now ps stands c.args.map.now
