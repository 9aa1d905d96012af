use Rattle.gl_gov_base.proofs.BoundsOver.{bounded_over, rows_fit_over, effect_fits_over, effect_ordered_over, effect_turns_over}
use Rattle.gl_gov_base.proofs.laws_over.law_of_bounds_over.Goals as goal

pub returns : goal.returns
returns c = record {
  bounded = bounded_over;
  rows_fit = rows_fit_over;
  effect_fits = effect_fits_over;
  effect_ordered = effect_ordered_over;
  turns = effect_turns_over;
}
