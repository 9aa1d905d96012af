-- The stages of a retirement, as the rules know them.
use Rattle.gl_rules.specs.Retirement as rules
use Rattle.gl_config.specs.declared.stage.Stage.{Stage}
use Rattle.gl_config.specs.declared.stage.Stage.TheVariants as stages

abbrev pub seen_stage : Stage → rules.Stage
seen_stage stages.Ordered = rules.Ordered
seen_stage stages.Signed = rules.Signed
seen_stage stages.Completed = rules.Completed
seen_stage stages.RetiredCommitted = rules.RetiredCommitted
