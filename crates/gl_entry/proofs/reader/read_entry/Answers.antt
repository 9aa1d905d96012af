use Rattle.std.proofs.Common.{◌≡◌, Err, ap}
use Rattle.gl_base.specs.declared.or_no_memory.OrNoMemory.{OrNoMemory}
use Rattle.gl_base.specs.declared.or_no_memory.OrNoMemory.TheVariants.{Fault}
use Rattle.gl_entry.specs.declared.fault.EntryFault.{EntryFault}
use Rattle.gl_entry.specs.declared.fault.LedgerFault.TheVariants.{Entry}
use Rattle.gl_entry.proofs.NextEntries.{gives, fails, widened-entry}
use Rattle.gl_entry.proofs.reader.read_entry.Goals as goal

pub returns-in-Ok-clause-entry : goal.returns-in-Ok-clause-entry
returns-in-Ok-clause-entry g c = gives _ _ _ _ _ _ c.in_ok-fill.ensures.kept c.in_ok-fill.ensures.settled c.in-Ok.ensures.taken

pub returns-in-Err-clause-fault : goal.returns-in-Err-clause-fault
returns-in-Err-clause-fault g c = λ f e.
    let wider : c.widen.result ≡ Fault (Entry f) = cc in
    let fault = widened-entry c.in-Err.error c.widen.result f c.widen.ensures wider in
    fails _ _ _ _ _ f c.in_ok-fill.ensures.kept c.in_ok-fill.ensures.settled
    (c.in-Err.ensures.fault f (ap (λ (x : OrNoMemory EntryFault). Err x) fault)) c.in-Err.ensures.err
