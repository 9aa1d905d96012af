use Rattle.std.proofs.Common.{ap}
use Rattle.gl_store_book.specs.Frames.{told_by}
use Rattle.gl_store_book.proofs.InstalledBodies.{told_no_fault}
use Rattle.gl_store_book.proofs.node_file.ledger_log.body_in.Goals as goal

pub returns-in-Ok-clause-told : goal.returns-in-Ok-clause-told
returns-in-Ok-clause-told c = ap told_by c.in-Ok.ensures.exact

pub returns-in-Ok-clause-read : goal.returns-in-Ok-clause-read
returns-in-Ok-clause-read c =
    let body = c.in-Ok.ensures.body in
    (record { fits = body.0; rows = c.in-Ok.read.governed; spelled = c.in-Ok.ensures.governed }, body.1)

pub returns-in-Err-Fault-clause-told : goal.returns-in-Err-Fault-clause-told
returns-in-Err-Fault-clause-told c = told_no_fault _ c.in-Err-Fault.field-0 c.in-Err-Fault.field-0-0 c.in-Err-Fault.field-0-is c.in-Err-Fault.ensures.exact
