use Rattle.std.proofs.Common.{not, sym, ap, ◌∙◌}
use Rattle.gl_gov_decisions.proofs.Applied.{present_named, present_unnamed}
use Rattle.gl_gov_decisions.proofs.trial.Trial.is_present.Goals as goal

pub returns-then-is_number_used : goal.returns-then-is_number_used
returns-then-is_number_used c =
    ap not c.is_removed.ensures ∙ present_named c.args.self.now c.args.number (sym c.is_number_used.ensures ∙ c.if-is_number_used.true)

pub returns-else-is_number_used : goal.returns-else-is_number_used
returns-else-is_number_used c =
    c.if-is_number_used.false ∙ present_unnamed c.args.self.now c.args.number (sym c.is_number_used.ensures ∙ c.if-is_number_used.false)
