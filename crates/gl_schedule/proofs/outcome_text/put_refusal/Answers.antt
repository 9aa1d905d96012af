use Rattle.std.proofs.Common.{sym, ◌∙◌}
use Rattle.gl_schedule.proofs.TextLemmas.{printed_other, refusal_printed}
use Rattle.gl_schedule.proofs.outcome_text.put_refusal.Goals as goal

pub returns-clause-reported : goal.returns-clause-reported
returns-clause-reported g c = λ s ids o answers.
    refusal_printed s c.args.refusal.now c.in-Some.reason o c.args.out.now.items _ _ (sym c.in-Some.is ∙ c.in_ok-reason.ensures.exact) answers c.in_ok-extend_from_slice.ensures.items (c.in_ok-put_reason.ensures s ids)

pub returns-clause-other : goal.returns-clause-other
returns-clause-other g c = printed_other c.args.refusal.now c.in-Some.reason (sym c.in-Some.is ∙ c.in_ok-reason.ensures.exact)
