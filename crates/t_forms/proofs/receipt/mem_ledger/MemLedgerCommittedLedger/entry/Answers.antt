use Rattle.std.proofs.Common.{◌≡◌, rules, subst}
use Rattle.std.specs.Option.{option_copied}
use Rattle.gl_receipt.specs.Made.{entry_at}
use Rattle.gl_receipt.proofs.OrderLemmas.{AreInOrder, entry_numbered}
use Rattle.t_forms.proofs.receipt.mem_ledger.MemLedgerCommittedLedger.entry.Goals as goal

pub returns-clause-numbered : goal.returns-clause-numbered
returns-clause-numbered c =
    let same : c.self.inside.entries.items ≡ c.args.self.now.0 = search rules in
    let there : option_copied c.entry_in.result ≡ entry_at c.args.self.now.0 c.args.seqno = search rules in
    entry_numbered c.args.self.now.0 c.args.seqno c.entry_in.result (subst AreInOrder same c.self.invariant.1) there
