use Rattle.std.proofs.Common.{ap, ◌∙◌}
use Rattle.gl_store_book.specs.ServiceStart.{start_by}
use Rattle.gl_store_book.proofs.ServiceStarts.{start_read}
use Rattle.gl_store_book.proofs.node_file.opening_ledger.read_opening.Goals as goal

pub returns-in-Ok-clause-opened : goal.returns-in-Ok-clause-opened
returns-in-Ok-clause-opened c =
    c.in_ok-ledger.ensures.start
    ∙ start_read c.in_ok-ledger.ledger c.in_ok-ledger.begun c.last_signer.result c.len.result c.len.ensures.valid c.in_ok-ledger.ensures.begun c.last_signer.ensures c.len.ensures.len
    ∙ ap (start_by c.in_ok-ledger.ledger) c.in-Ok.ensures.opened

pub returns-in-Err-clause-refused : goal.returns-in-Err-clause-refused
returns-in-Err-clause-refused c =
    c.in_ok-ledger.ensures.start
    ∙ start_read c.in_ok-ledger.ledger c.in_ok-ledger.begun c.last_signer.result c.len.result c.len.ensures.valid c.in_ok-ledger.ensures.begun c.last_signer.ensures c.len.ensures.len
    ∙ ap (start_by c.in_ok-ledger.ledger) c.in-Err.ensures.refused
