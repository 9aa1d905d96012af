use Rattle.std.proofs.Common.{sym, ◌∙◌}
use Rattle.gl_store_book.proofs.FrameLaws.{frame_read, frame_cut, frame_unread, none_over}
use Rattle.gl_store_book.proofs.node_file.ledger_log.entry_of_frame.Goals as goal

pub returns-then-len-frame-clause-value : goal.returns-then-len-frame-clause-value
returns-then-len-frame-clause-value c = sym (frame_cut c.args.frame.now c.in-Ok.entry c.in-Ok.len c.in-Ok.ensures.exact c.if-len-frame.true)

pub returns-else-len-frame-clause-value : goal.returns-else-len-frame-clause-value
returns-else-len-frame-clause-value c = sym (frame_read c.args.frame.now c.in-Ok.entry c.in-Ok.len c.in-Ok.ensures.exact c.if-len-frame.false)

pub returns-else-len-frame-clause-encoded : goal.returns-else-len-frame-clause-encoded
returns-else-len-frame-clause-encoded c =
    let found = c.in-Ok.ensures.found in
    (found.0, none_over c.args.frame.now c.in-Ok.entry found.2 found.3 (sym found.1 ∙ c.if-len-frame.false))

pub returns-in-Err-Fault-clause-value : goal.returns-in-Err-Fault-clause-value
returns-in-Err-Fault-clause-value c = sym (frame_unread c.args.frame.now c.in-Err-Fault.field-0 c.in-Err-Fault.field-0-0 c.in-Err-Fault.field-0-is c.in-Err-Fault.ensures.exact)
