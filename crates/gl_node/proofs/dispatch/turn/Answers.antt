use Rattle.std.proofs.Common.{[], refl}
use Rattle.gl_replication.specs.Events.{rule_of}
use Rattle.gl_replication.specs.declared.done.Refusal.TheVariants.{NoMemory}
use Rattle.gl_node.specs.Batches.{IsChange}
use Rattle.gl_node.proofs.Coming.{done_by, broken_by, refused_by}
use Rattle.gl_node.proofs.Ending.{ends_broken, ends_settled, ends_untouched}
use Rattle.gl_node.proofs.Standings.{turned_base, turned_change}
use Rattle.gl_node.proofs.dispatch.turn.Goals as goal

pub returns-in-Err-clause-comes : goal.returns-in-Err-clause-comes
returns-in-Err-clause-comes g c serving =
    let e = c.room.ensures in
    refused_by g.B.Book.stands g.B.KeptBook.held g.B.KeptBook.snapshot_of g.B.KeptBook.goes_on g.D.Disk.honest g.D.Disk.bytes g.D.Disk.past g.D.Disk.faults serving
    (record { settles = e.«open»; reads = e.bytes; stops = e.past; counted = e.faults }) serving.above (rule_of c.args.event.now) NoMemory (λ b x n s. tt) (λ b x n s. s)

pub returns-in-Err-clause-file : goal.returns-in-Err-clause-file
returns-in-Err-clause-file g c =
    let e = c.room.ensures in
    ends_untouched g.D.Disk.honest g.D.Disk.bytes g.D.Disk.past g.D.Disk.faults (record { settles = e.«open»; reads = e.bytes; stops = e.past; counted = e.faults }) c.requires.settled

pub returns-in-Err-step_core-clause-comes : goal.returns-in-Err-step_core-clause-comes
returns-in-Err-step_core-clause-comes g c serving =
    let e = c.room.ensures in
    refused_by g.B.Book.stands g.B.KeptBook.held g.B.KeptBook.snapshot_of g.B.KeptBook.goes_on g.D.Disk.honest g.D.Disk.bytes g.D.Disk.past g.D.Disk.faults serving
    (record { settles = e.«open»; reads = e.bytes; stops = e.past; counted = e.faults }) c.in-Err-step_core.ensures.above (rule_of c.args.event.now) c.in-Err-step_core.why c.in-Err-step_core.ensures.refused c.in-Err-step_core.ensures.err

pub returns-in-Err-step_core-clause-file : goal.returns-in-Err-step_core-clause-file
returns-in-Err-step_core-clause-file g c =
    let e = c.room.ensures in
    ends_untouched g.D.Disk.honest g.D.Disk.bytes g.D.Disk.past g.D.Disk.faults (record { settles = e.«open»; reads = e.bytes; stops = e.past; counted = e.faults }) c.requires.settled

pub returns-in-Ok-keep-clause-comes : goal.returns-in-Ok-keep-clause-comes
returns-in-Ok-keep-clause-comes g c here =
    let e = c.room.ensures in
    let above = c.step_core.ensures.above in
    let steps = c.in-Ok-step_core.ensures.steps in
    let is = c.of-before.ensures in
    let len = c.ledger_len-kept in
    let kept = c.keep.ensures in
    done_by g.B.Book.stands g.B.KeptBook.held g.B.KeptBook.snapshot_of g.B.KeptBook.goes_on g.D.Disk.honest g.D.Disk.bytes g.D.Disk.past g.D.Disk.faults c.keep.new.journal here
    (record { settles = e.«open»; reads = e.bytes; stops = e.past; counted = e.faults }) above (rule_of c.args.event.now) c.in-Ok-step_core.done steps
    (turned_base g.B.Book.stands g.B.KeptBook.held g.B.KeptBook.snapshot_of here.above here.some.standing above (steps here.some.rules here.some.me here.some.node here.some.standing).node (c.requires.turned here.some.rules here.some.me here.some.node here.some.standing))
    (λ d. IsChange g.B.KeptBook.held g.B.KeptBook.goes_on d c.of-before.result len.result [] c.step_core.new.core)
    (λ h.
    let s = here.some.standing in
    let f = here.file h in
    turned_change g.B.Book.stands g.B.KeptBook.held g.B.KeptBook.snapshot_of here.above s above (steps here.some.rules here.some.me here.some.node s).node g.B.KeptBook.goes_on f.state c.of-before.result len.result []
    (c.requires.turned here.some.rules here.some.me here.some.node s) f.keeps f.leaves is.view is.vote (is.len here.some.rules _ s.ledger) is.leaves (len.ensures.value here.some.rules _ (steps here.some.rules here.some.me here.some.node s).node.ledger) refl c.step_core.ensures.follow c.step_core.ensures.leaves)
    c.keep.result kept.«open» kept.kept kept.after kept.any_moment kept.faults c.in-Ok-keep.field-0 c.in-Ok-keep.is

pub returns-in-Ok-keep-clause-file : goal.returns-in-Ok-keep-clause-file
returns-in-Ok-keep-clause-file g c =
    let e = c.room.ensures in
    let put = c.keep.ensures in
    ends_settled g.D.Disk.honest g.D.Disk.bytes g.D.Disk.past g.D.Disk.faults c.keep.new.journal (record { settles = e.«open»; reads = e.bytes; stops = e.past; counted = e.faults }) c.keep.result put.faults put.«open» c.in-Ok-keep.field-0 c.in-Ok-keep.is

pub returns-in-Err-keep-clause-comes : goal.returns-in-Err-keep-clause-comes
returns-in-Err-keep-clause-comes g c here =
    let e = c.room.ensures in
    let above = c.step_core.ensures.above in
    let steps = c.in-Ok-step_core.ensures.steps in
    let is = c.of-before.ensures in
    let len = c.ledger_len-kept in
    let kept = c.keep.ensures in
    broken_by g.B.Book.stands g.B.KeptBook.held g.B.KeptBook.snapshot_of g.B.KeptBook.goes_on g.D.Disk.honest g.D.Disk.bytes g.D.Disk.past g.D.Disk.faults c.keep.new.journal here
    (record { settles = e.«open»; reads = e.bytes; stops = e.past; counted = e.faults }) above (rule_of c.args.event.now) c.in-Ok-step_core.done steps
    (turned_base g.B.Book.stands g.B.KeptBook.held g.B.KeptBook.snapshot_of here.above here.some.standing above (steps here.some.rules here.some.me here.some.node here.some.standing).node (c.requires.turned here.some.rules here.some.me here.some.node here.some.standing))
    (λ d. IsChange g.B.KeptBook.held g.B.KeptBook.goes_on d c.of-before.result len.result [] c.step_core.new.core)
    (λ h.
    let s = here.some.standing in
    let f = here.file h in
    turned_change g.B.Book.stands g.B.KeptBook.held g.B.KeptBook.snapshot_of here.above s above (steps here.some.rules here.some.me here.some.node s).node g.B.KeptBook.goes_on f.state c.of-before.result len.result []
    (c.requires.turned here.some.rules here.some.me here.some.node s) f.keeps f.leaves is.view is.vote (is.len here.some.rules _ s.ledger) is.leaves (len.ensures.value here.some.rules _ (steps here.some.rules here.some.me here.some.node s).node.ledger) refl c.step_core.ensures.follow c.step_core.ensures.leaves)
    c.keep.result kept.«open» kept.kept kept.after kept.any_moment kept.faults c.in-Err-keep.field-0 c.in-Err-keep.is

pub returns-in-Err-keep-clause-file : goal.returns-in-Err-keep-clause-file
returns-in-Err-keep-clause-file g c =
    let e = c.room.ensures in
    let put = c.keep.ensures in
    ends_broken g.D.Disk.honest g.D.Disk.bytes g.D.Disk.past g.D.Disk.faults c.keep.new.journal (record { settles = e.«open»; reads = e.bytes; stops = e.past; counted = e.faults }) c.keep.result put.faults c.in-Err-keep.field-0 c.in-Err-keep.is
