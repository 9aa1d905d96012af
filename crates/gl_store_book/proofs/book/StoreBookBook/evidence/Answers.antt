use Rattle.std.proofs.Common.{[], ◌∷◌, ap, ◌∙◌}
use Rattle.std.proofs.lemmas.Result.{err_from_is_err_and}
use Rattle.gl_base.specs.Answers.{Fails}
use Rattle.gl_replication.specs.Standing.{At}
use Rattle.gl_store_book.specs.BasedLedgers.{BasedLedger}
use Rattle.gl_store_book.specs.Stands.{NodeStore, Stands}
use Rattle.gl_store_book.proofs.BookTaken.{evidences, refuses_evidence}
use Rattle.gl_store_book.proofs.FilesAtHand.{at_hand_more}
use Rattle.gl_store_book.proofs.book.StoreBookBook.evidence.Goals as goal

pub returns-in_err-evidence-clause-refused : goal.returns-in_err-evidence-clause-refused
returns-in_err-evidence-clause-refused c =
    let p = err_from_is_err_and c.from_residual.result c.from_residual.ensures.1 in
    let same = ap (λ (n : NodeStore). n.ledger) c.self.view_is in
    let refused : At Stands c.args.self.now (λ b h. Fails c.in_err-evidence.field-0.0 (b.evidence h.log c.args.view)) =
    refuses_evidence c.args.self.now c.self.inside.ledger same c.len.ensures.valid c.in_err-evidence.field-0.0 c.args.view c.in_err-evidence.ensures.refused in
    rw (p.1, p.2) refused

pub returns-clause-made : goal.returns-clause-made
returns-clause-made c =
    let same = ap (λ (n : NodeStore). n.ledger) c.self.view_is in
    evidences c.args.self.now c.self.inside.ledger same c.len.ensures.valid (record { me = c.self.inside.me; key = c.self.inside.key; ledger = c.evidence.new.self }) c.evidence.new.self
    c.args.view (ap (λ (n : NodeStore). record n { ledger = c.evidence.new.self }) c.self.view_is) c.in_ok-evidence.ensures.made

pub returns-clause-snapshot : goal.returns-clause-snapshot
returns-clause-snapshot c = ap (λ (l : BasedLedger). l.snapshot) c.in_ok-evidence.ensures.made.entered ∙ ap (λ (n : NodeStore). n.ledger.snapshot) c.self.view_is

pub invariant_of-self-2 : goal.invariant_of-self-2
invariant_of-self-2 c = at_hand_more c.self.inside.ledger c.evidence.new.self (c.in_ok-evidence.ensures.made.entry ∷ []) c.self.inside.at_hand c.in_ok-evidence.ensures.made.entered c.self.invariant
