use Rattle.std.proofs.Common.{Some, sym, ap, subst, ◌∙◌}
use Rattle.gl_store.proofs.Tails.{if_ok}
use Rattle.gl_store_book.specs.BasedLedgers.{BasedLedger}
use Rattle.gl_store_book.proofs.FrameLaws.{AllFit, ledger_fit, none_fit, read_as_none, read_as_some, read_entries}
use Rattle.gl_store_book.proofs.node_file.ledger_log.LedgerLog.into_ledger.Goals as goal

pub returns-in-Some-clause-entries : goal.returns-in-Some-clause-entries
returns-in-Some-clause-entries c =
    read_entries c.args.self.ledger c.in-Some.ledger (read_as_some c.args.self.ledger c.in-Some.ledger c.in-Some.is)
    (subst (λ (l : BasedLedger). AllFit l.entries) c.in-Some.ledger-is (ledger_fit _ c.len.ensures.valid))
    ∙ ap (λ (l : BasedLedger). Some l.entries) (sym c.in-Some.ledger-is)

-- where there is none yet

pub returns-in-None-clause-entries : goal.returns-in-None-clause-entries
returns-in-None-clause-entries c =
    if_ok c.new.result (λ l is. read_entries c.args.self.ledger l (read_as_none c.args.self.ledger l c.in-None.is is) (none_fit l is)) c.new.ensures
