use Rattle.std.proofs.Common.{ap, ◌∙◌}
use Rattle.gl_vmaps.specs.Kept.{Kept, version_of, place_or_zero}
use Rattle.gl_vmaps.proofs.StandingLaws.{version_of-stands}
use Rattle.gl_vmaps.proofs.tables.Tables.version_of.Goals as goal

pub returns-in-None-clause-stands : goal.returns-in-None-clause-stands
returns-in-None-clause-stands c = λ ps stands.
    ap place_or_zero c.in-None.ensures ∙ ap (λ (t : Kept). version_of t c.args.map.now c.args.key.now) c.self.view_is
    ∙ version_of-stands c.args.self.now ps stands c.args.map.now c.args.key.now

pub returns-in-Some-clause-stands : goal.returns-in-Some-clause-stands
returns-in-Some-clause-stands c = λ ps stands.
    ap place_or_zero c.in-Some.ensures ∙ ap (λ (t : Kept). version_of t c.args.map.now c.args.key.now) c.self.view_is
    ∙ version_of-stands c.args.self.now ps stands c.args.map.now c.args.key.now
