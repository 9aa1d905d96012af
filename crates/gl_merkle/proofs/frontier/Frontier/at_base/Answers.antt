use Rattle.gl_merkle.proofs.FrontierLemmas.{AreLevels-base, leaves_above-base}
use Rattle.gl_merkle.proofs.frontier.Frontier.at_base.Goals as goal

pub invariant_of-result : goal.invariant_of-result
invariant_of-result c =
    AreLevels-base c.args.len c.args.peaks.now _ c.in_ok-make_levels.field-0.items c.ranges.len.fits c.requires c.in_ok-from_slice.ensures.items c.in_ok-make_levels.ensures

pub returns-clause-leaves : goal.returns-clause-leaves
returns-clause-leaves c = leaves_above-base c.args.len c.args.peaks.now c.in_ok-make_levels.field-0.items c.in_ok-make_levels.ensures
