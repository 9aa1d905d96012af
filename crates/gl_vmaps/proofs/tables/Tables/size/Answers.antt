use Rattle.std.proofs.Common.{ap, ◌∙◌}
use Rattle.gl_vmaps.specs.Kept.{Kept, count_of}
use Rattle.gl_vmaps.proofs.StandingLaws.{count_of-stands}
use Rattle.gl_vmaps.proofs.tables.Tables.size.Goals as goal

pub returns-clause-stands : goal.returns-clause-stands
returns-clause-stands c = λ ps stands.
    c.count_in.ensures.value ∙ ap (λ (t : Kept). count_of t c.args.map.now) c.self.view_is ∙ count_of-stands c.args.self.now ps stands c.args.map.now
