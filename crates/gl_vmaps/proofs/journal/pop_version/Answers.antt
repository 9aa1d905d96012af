use Rattle.std.proofs.Common.{◌∙◌}
use Rattle.gl_vmaps.proofs.MapLaws.{maps_by-removed}
use Rattle.gl_vmaps.proofs.journal.pop_version.Goals as goal

pub returns-then-shorten : goal.returns-then-shorten
returns-then-shorten c =
    maps_by-removed c.shorten.new.maps c.remove.new.self c.args.map.now c.remove.ensures.updates (c.shorten.ensures.emptied c.if-shorten.true)
    ∙ c.shorten.ensures.maps
