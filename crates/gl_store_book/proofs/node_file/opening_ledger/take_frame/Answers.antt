use Rattle.std.proofs.Common.{◌+◌, ℕ, Err, ap, sym, ◌∙◌}
use Rattle.gl_store_book.proofs.ServiceStarts.{unread_so, broken_so, taken_so}
use Rattle.gl_store_book.proofs.node_file.opening_ledger.take_frame.Goals as goal

pub returns-in-Err-Fault-clause-refused : goal.returns-in-Err-Fault-clause-refused
returns-in-Err-Fault-clause-refused c =
    unread_so c.args.ledger.now c.args.bytes.now c.in-Err-Fault.field-0 c.in-Err-Fault.field-0-0 c.len.ensures.valid c.requires.some c.in-Err-Fault.field-0-is c.in-Err-Fault.ensures.exact
    ∙ ap (λ (n : ℕ). Err (n + 1)) (sym c.len.ensures.len)

pub returns-in-Ok-apply-clause-taken : goal.returns-in-Ok-apply-clause-taken
returns-in-Ok-apply-clause-taken c =
    taken_so c.args.ledger.now c.apply.new.self c.in-Ok.read.0 c.in-Ok.read.1 c.args.bytes.now c.in-Ok.ensures.found c.in-Ok-apply.ensures.grown

pub returns-in-Err-Fault-apply-clause-refused : goal.returns-in-Err-Fault-apply-clause-refused
returns-in-Err-Fault-apply-clause-refused c =
    broken_so c.args.ledger.now c.in-Ok.read.0 c.in-Ok.read.1 c.args.bytes.now c.in-Err-Fault-apply.field-0 c.in-Err-Fault-apply.field-0-0 c.len.ensures.valid c.in-Ok.ensures.found
    c.in-Err-Fault-apply.field-0-is c.in-Err-Fault-apply.ensures.refused
    ∙ ap (λ (n : ℕ). Err (n + 1)) (sym c.len.ensures.len)
