use Rattle.gl_gov_rules.proofs.Effects.{effect_ordered, effect_turns, first_effect}
use Rattle.gl_gov_rules.proofs.RowsFit.{rows_fit, effect_fits}
use Rattle.gl_gov_rules.proofs.laws.law_of_rows.Goals as goal

pub returns : goal.returns
returns c = record {
  rows_fit = rows_fit;
  effect_fits = effect_fits;
  effect_ordered = effect_ordered;
  turns = effect_turns;
  first = first_effect;
}
