use Rattle.std.proofs.Common.{arith}
use Rattle.gl_store_book.proofs.FrameLaws.{cut_above, frames_cut}
use Rattle.gl_store_book.proofs.node_file.ledger_log.LedgerLogEntryLog.cut.Goals as goal

pub cut-requires : goal.cut-requires
cut-requires c =
    let base = c.base-base.ensures.base _ c.tail.ensures.stands in
    let at = cut_above c.args.len c.base-base.result c.saturating_add.result c.args.self.now.ledger c.in-Some.ledger c.in-Some.is c.tail.ensures.within base c.requires c.saturating_add.ensures in
    record { from_base = omega (arith, at) }

pub returns-in-Some-clause-kept : goal.returns-in-Some-clause-kept
returns-in-Some-clause-kept c =
    let base = c.base-base.ensures.base _ c.tail.ensures.stands in
    let at = cut_above c.args.len c.base-base.result c.saturating_add.result c.args.self.now.ledger c.in-Some.ledger c.in-Some.is c.tail.ensures.within base c.requires c.saturating_add.ensures in
    frames_cut c.args.len c.saturating_add.result c.args.self.now.ledger c.in-Some.ledger c.cut.new.self c.in-Some.is at c.cut.ensures
