use Rattle.std.proofs.Common.{ap, sym, ◌∙◌}
use Rattle.gl_vmaps.specs.Chains.{present}
use Rattle.gl_vmaps.proofs.ChainLaws.{present-empty}
use Rattle.gl_vmaps.proofs.MapLaws.{rows_in-by, rows_of}
use Rattle.gl_vmaps.proofs.tables.count_in.Goals as goal

pub returns-in-None-clause-value : goal.returns-in-None-clause-value
returns-in-None-clause-value c = sym present-empty ∙ ap (λ o. present (rows_of o)) c.in-None.ensures.value ∙ ap present (sym (rows_in-by c.args.maps.now.entries c.args.map.now))

pub returns-in-Some-clause-value : goal.returns-in-Some-clause-value
returns-in-Some-clause-value c = c.size.ensures.value ∙ ap (λ o. present (rows_of o)) c.in-Some.ensures.value ∙ ap present (sym (rows_in-by c.args.maps.now.entries c.args.map.now))
