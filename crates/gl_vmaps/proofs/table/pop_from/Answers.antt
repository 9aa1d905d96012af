use Rattle.std.proofs.Common.{◌∙◌}
use Rattle.gl_vmaps.proofs.ChainLaws.{chains_by-removed}
use Rattle.gl_vmaps.proofs.table.pop_from.Goals as goal

pub returns-then-shorten : goal.returns-then-shorten
returns-then-shorten c =
    chains_by-removed c.shorten.new.rows c.remove.new.self c.args.key.now c.remove.ensures.updates (c.shorten.ensures.emptied c.if-shorten.true)
    ∙ c.shorten.ensures.rows
