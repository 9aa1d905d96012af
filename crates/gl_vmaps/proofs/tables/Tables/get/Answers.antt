use Rattle.std.proofs.Common.{Option, ap, ◌∙◌}
use Rattle.std.specs.Option.{option_and_then}
use Rattle.gl_vmaps.specs.Kept.{Kept, value_of}
use Rattle.gl_vmaps.specs.declared.table.Version.{Version}
use Rattle.gl_vmaps.proofs.StandingLaws.{value_of-stands}
use Rattle.gl_vmaps.proofs.tables.Tables.get.Goals as goal

pub returns-in-None-clause-stands : goal.returns-in-None-clause-stands
returns-in-None-clause-stands c = λ ps stands.
    ap (λ (o : Option Version). option_and_then (λ (v : Version). v.value) o) c.in-None.ensures
    ∙ ap (λ (t : Kept). value_of t c.args.map.now c.args.key.now) c.self.view_is
    ∙ value_of-stands c.args.self.now ps stands c.args.map.now c.args.key.now

pub returns-in-Some-clause-stands : goal.returns-in-Some-clause-stands
returns-in-Some-clause-stands c = λ ps stands.
    c.value_in.ensures.value
    ∙ ap (λ (o : Option Version). option_and_then (λ (v : Version). v.value) o) c.in-Some.ensures
    ∙ ap (λ (t : Kept). value_of t c.args.map.now c.args.key.now) c.self.view_is
    ∙ value_of-stands c.args.self.now ps stands c.args.map.now c.args.key.now
