use Rattle.std.proofs.Common.{◌≡◌, ◌∙◌, ℕ, Option, None, Some, Bool, true, false, is_some, refl, sym, ap, subst}
use Rattle.gl_replication.specs.Stands.{Reports}
use Rattle.gl_serve.specs.NodeWork.{Report, SaysPart}
use Rattle.gl_serve.specs.Types.{NodeCore}
use Rattle.gl_serve.proofs.served.part.Goals as goal

none_of : (o : Option ℕ) → is_some o ≡ false → o ≡ None
none_of None is = refl
none_of (Some x) is = absurd (cc)

pub returns-clause-reported : goal.returns-clause-reported
returns-clause-reported g c =
    let none : c.args.replica.now.stopped ≡ None = sym c.stopped.ensures ∙ none_of c.stopped.result (sym c.if-is_some.ensures) in
    let core : c.core-2.result.now ≡ c.args.replica.now.core = c.core-2.ensures.core ∙ ap (λ r. r.core) c.keep_at_hand.ensures.same in
    subst (λ (o : Option ℕ). Report g.B.Book.stands g.B.KeptBook.goes_on g.D.Disk.honest g.D.Disk.bytes g.D.Disk.past g.D.Disk.faults o c.args.replica.now c.args.number (λ b n reported. SaysPart b n c.args.offset reported) c.answer-2.result)
    (sym none)
    (c.part_answer_body.result, subst (λ (k : NodeCore g.row.B.Denot). Reports g.B.Book.stands k (λ b x n. SaysPart b n c.args.offset c.part_answer_body.result)) core c.part_answer_body.ensures.due, c.answer-2.ensures.outcome)
