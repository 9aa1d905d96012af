use Rattle.std.proofs.Common.{[], ◌∷◌, ap, ◌∙◌}
use Rattle.std.proofs.lemmas.Result.{err_from_is_err_and}
use Rattle.gl_base.specs.Answers.{Fails}
use Rattle.gl_ledger.specs.declared.response.Response.TheVariants.{Replied}
use Rattle.gl_replication.specs.Standing.{At}
use Rattle.gl_store_book.specs.BasedLedgers.{BasedLedger}
use Rattle.gl_store_book.specs.Stands.{NodeStore, Stands}
use Rattle.gl_store_book.proofs.BookTaken.{executes, refuses_execute}
use Rattle.gl_store_book.proofs.TakenEntries.{executed_fits}
use Rattle.gl_store_book.proofs.FilesAtHand.{at_hand_more}
use Rattle.gl_store_book.proofs.book.StoreBookBook.execute.Goals as goal

pub returns-in_err-reply-clause-refused : goal.returns-in_err-reply-clause-refused
returns-in_err-reply-clause-refused c =
    let p = err_from_is_err_and c.from_residual.result c.from_residual.ensures.1 in
    let same = ap (λ (n : NodeStore). n.ledger) c.self.view_is in
    let refused : At Stands c.args.self.now (λ b h. Fails c.in_err-reply.field-0.0 (b.execute h.log c.args.view c.args.request.now)) =
    refuses_execute c.args.self.now c.self.inside.ledger same c.len.ensures.valid c.in_err-reply.field-0.0 c.args.view c.args.request.now c.in_err-reply.ensures.refused in
    rw (p.1, p.2) refused

pub returns-clause-made : goal.returns-clause-made
returns-clause-made c =
    let same = ap (λ (n : NodeStore). n.ledger) c.self.view_is in
    executes c.args.self.now c.self.inside.ledger same c.len.ensures.valid (record { me = c.self.inside.me; key = c.self.inside.key; ledger = c.execute.new.self }) c.execute.new.self
    c.args.view c.args.request.now (Replied c.in_ok-reply.reply) (ap (λ (n : NodeStore). record n { ledger = c.execute.new.self }) c.self.view_is) c.in_ok-reply.ensures.made

pub returns-clause-fits : goal.returns-clause-fits
returns-clause-fits c =
    executed_fits c.self.inside.ledger c.execute.new.self c.args.view c.args.request.now (Replied c.in_ok-reply.reply) c.in_ok-reply.ensures.made

pub returns-clause-snapshot : goal.returns-clause-snapshot
returns-clause-snapshot c = ap (λ (l : BasedLedger). l.snapshot) c.in_ok-reply.ensures.made.entered ∙ ap (λ (n : NodeStore). n.ledger.snapshot) c.self.view_is

pub invariant_of-self-2 : goal.invariant_of-self-2
invariant_of-self-2 c = at_hand_more c.self.inside.ledger c.execute.new.self (c.in_ok-reply.ensures.made.entry ∷ []) c.self.inside.at_hand c.in_ok-reply.ensures.made.entered c.self.invariant
