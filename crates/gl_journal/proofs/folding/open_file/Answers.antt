use Rattle.std.proofs.Common.{◌≡◌, Err, rules}
use Rattle.gl_journal.specs.Gates.{payloads_of}
use Rattle.gl_journal.specs.Durable.{journal_header}
use Rattle.gl_journal.proofs.DurableLaws.{durable_opened}
use Rattle.gl_journal.proofs.folding.open_file.Goals as goal

pub returns-in_err-place-clause-fault : goal.returns-in_err-place-clause-fault
returns-in_err-place-clause-fault g c fault e =
    let is : payloads_of journal_header c.args.file.now ≡ Err fault = search rules in
    durable_opened g.L.EntryLog.goes_on c.args.file.now (Err fault) is
