use Rattle.std.proofs.Common.{ap, sym, ◌∙◌}
use Rattle.gl_vmaps.specs.Chains.{newest_place}
use Rattle.gl_vmaps.proofs.ChainLaws.{newest-empty}
use Rattle.gl_vmaps.proofs.MapLaws.{rows_in-by, rows_of}
use Rattle.gl_vmaps.proofs.journal.newest_of.Goals as goal

pub returns-in-None : goal.returns-in-None
returns-in-None c = sym newest-empty ∙ ap (λ o. newest_place (rows_of o)) c.in-None.ensures.value ∙ ap newest_place (sym (rows_in-by c.args.maps.now.entries c.args.map.now))

pub returns-in-Some : goal.returns-in-Some
returns-in-Some c = c.newest.ensures ∙ ap (λ o. newest_place (rows_of o)) c.in-Some.ensures.value ∙ ap newest_place (sym (rows_in-by c.args.maps.now.entries c.args.map.now))
