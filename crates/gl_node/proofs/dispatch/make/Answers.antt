use Rattle.std.proofs.Common.{◌≡◌, ◌≤◌, ℕ, List, length, drop, map, sym, ap, ◌∙◌, arith}
use Rattle.gl_entry.specs.Entry.{frame_bytes}
use Rattle.gl_journal.specs.Parts.{items_of}
use Rattle.gl_replication.specs.Events.{rule_of}
use Rattle.gl_replication.specs.declared.done.Refusal.TheVariants.{NoMemory}
use Rattle.gl_node.specs.Batches.{IsChange}
use Rattle.gl_node.specs.Frames.{appends_size}
use Rattle.gl_node.proofs.Coming.{done_by, broken_by, refused_by}
use Rattle.gl_node.proofs.Ending.{ends_broken, ends_settled, ends_untouched, untouched}
use Rattle.gl_node.proofs.OneMoreEntry.{after_held, base_within, more_base, more_prefix, step_extended, step_more, step_reserves, step_rises}
use Rattle.gl_node.proofs.Standings.{reserved_of, to_change, used_of}
use Rattle.gl_node.proofs.dispatch.make.Goals as goal

pub returns-in-Err-clause-comes : goal.returns-in-Err-clause-comes
returns-in-Err-clause-comes g c serving =
    refused_by g.B.Book.stands g.B.KeptBook.held g.B.KeptBook.snapshot_of g.B.KeptBook.goes_on g.D.Disk.honest g.D.Disk.bytes g.D.Disk.past g.D.Disk.faults serving
    (untouched g.D.Disk.honest g.D.Disk.bytes g.D.Disk.past g.D.Disk.faults c.args.journal.now) c.in-Err.ensures.above (rule_of c.args.event.now) c.in-Err.why c.in-Err.ensures.refused c.in-Err.ensures.err

pub returns-in-Err-clause-file : goal.returns-in-Err-clause-file
returns-in-Err-clause-file g c = ends_untouched g.D.Disk.honest g.D.Disk.bytes g.D.Disk.past g.D.Disk.faults (untouched g.D.Disk.honest g.D.Disk.bytes g.D.Disk.past g.D.Disk.faults c.args.journal.now) c.requires.settled

pub returns-in-Err-next_frame-clause-comes : goal.returns-in-Err-next_frame-clause-comes
returns-in-Err-next_frame-clause-comes g c serving =
    let is = c.of-before.ensures in
    refused_by g.B.Book.stands g.B.KeptBook.held g.B.KeptBook.snapshot_of g.B.KeptBook.goes_on g.D.Disk.honest g.D.Disk.bytes g.D.Disk.past g.D.Disk.faults serving
    (untouched g.D.Disk.honest g.D.Disk.bytes g.D.Disk.past g.D.Disk.faults c.args.journal.now) c.take_back.ensures.above (rule_of c.args.event.now) NoMemory (λ b x n s. tt)
    (λ b x n s.
    c.take_back.ensures.back b x n (rule_of c.args.event.now b x n).node (c.in-Ok.ensures.steps b x n s).node
    (step_extended g.B.Book.stands g.B.KeptBook.held g.B.KeptBook.snapshot_of serving.above s c.step_core.ensures.above (rule_of c.args.event.now b x n) c.in-Ok.done (c.in-Ok.ensures.steps b x n s) (c.requires.extends b x n s))
    (base_within g.B.Book.stands g.B.KeptBook.held g.B.KeptBook.snapshot_of serving.above s c.step_core.ensures.above (rule_of c.args.event.now b x n) c.in-Ok.done (c.in-Ok.ensures.steps b x n s) (c.requires.extends b x n s))
    (is.len b _ s.ledger) (ap (λ l. l.used) is.leaves ∙ used_of g.B.Book.stands s) (ap (λ l. l.reserved) is.leaves ∙ reserved_of g.B.Book.stands s))

pub returns-in-Err-next_frame-clause-file : goal.returns-in-Err-next_frame-clause-file
returns-in-Err-next_frame-clause-file g c = ends_untouched g.D.Disk.honest g.D.Disk.bytes g.D.Disk.past g.D.Disk.faults (untouched g.D.Disk.honest g.D.Disk.bytes g.D.Disk.past g.D.Disk.faults c.args.journal.now) c.requires.settled

pub room-requires : goal.room-requires
room-requires g c =
    let same = ap (λ (l : List _). appends_size (items_of l)) c.deref.ensures.value in
    omega (arith, same, c.in-Ok-next_frame.ensures.small)

pub returns-in-Err-room-clause-comes : goal.returns-in-Err-room-clause-comes
returns-in-Err-room-clause-comes g c serving =
    let is = c.of-before.ensures in
    let e = c.room.ensures in
    refused_by g.B.Book.stands g.B.KeptBook.held g.B.KeptBook.snapshot_of g.B.KeptBook.goes_on g.D.Disk.honest g.D.Disk.bytes g.D.Disk.past g.D.Disk.faults serving
    (record { settles = e.«open»; reads = e.bytes; stops = e.past; counted = e.faults }) c.take_back-in-Err-room.ensures.above (rule_of c.args.event.now) NoMemory (λ b x n s. tt)
    (λ b x n s.
    c.take_back-in-Err-room.ensures.back b x n (rule_of c.args.event.now b x n).node (c.in-Ok.ensures.steps b x n s).node
    (step_extended g.B.Book.stands g.B.KeptBook.held g.B.KeptBook.snapshot_of serving.above s c.step_core.ensures.above (rule_of c.args.event.now b x n) c.in-Ok.done (c.in-Ok.ensures.steps b x n s) (c.requires.extends b x n s))
    (base_within g.B.Book.stands g.B.KeptBook.held g.B.KeptBook.snapshot_of serving.above s c.step_core.ensures.above (rule_of c.args.event.now b x n) c.in-Ok.done (c.in-Ok.ensures.steps b x n s) (c.requires.extends b x n s))
    (is.len b _ s.ledger) (ap (λ l. l.used) is.leaves ∙ used_of g.B.Book.stands s) (ap (λ l. l.reserved) is.leaves ∙ reserved_of g.B.Book.stands s))

pub returns-in-Err-room-clause-file : goal.returns-in-Err-room-clause-file
returns-in-Err-room-clause-file g c =
    let e = c.room.ensures in
    ends_untouched g.D.Disk.honest g.D.Disk.bytes g.D.Disk.past g.D.Disk.faults (record { settles = e.«open»; reads = e.bytes; stops = e.past; counted = e.faults }) c.requires.settled

pub keep-requires-clause-open : goal.keep-requires-clause-open
keep-requires-clause-open g c h = c.room.ensures.«open» h (c.requires.settled h)

pub keep-requires-clause-small : goal.keep-requires-clause-small
keep-requires-clause-small g c =
    let same = ap (λ (l : List _). appends_size (items_of l)) c.deref-2.ensures.value in
    omega (arith, same, c.in-Ok-next_frame.ensures.small)

pub returns-in-Ok-keep-clause-comes : goal.returns-in-Ok-keep-clause-comes
returns-in-Ok-keep-clause-comes g c here =
    let b = here.some.rules in
    let x = here.some.me in
    let n = here.some.node in
    let s = here.some.standing in
    let is = c.of-before.ensures in
    let step = rule_of c.args.event.now b x n in
    let stepped = c.in-Ok.ensures.steps b x n s in
    let above = c.step_core.ensures.above in
    let extends = c.requires.extends b x n s in
    let more = step_more g.B.Book.stands g.B.KeptBook.held g.B.KeptBook.snapshot_of here.above s above step c.in-Ok.done stepped extends in
    let frames = items_of c.deref-2.result.now in
    let len : c.of-before.result.len ≡ length n.log = is.len b _ s.ledger in
    let suffix : frames ≡ map frame_bytes (drop c.of-before.result.len step.node.log) =
    ap items_of c.deref-2.ensures.value ∙ c.in-Ok-next_frame.ensures.frames
    ∙ ap (map frame_bytes) (after_held g.B.Book.stands g.B.KeptBook.held g.B.KeptBook.snapshot_of here.above s above step c.in-Ok.done stepped extends c.of-before.result.count is.count)
    ∙ ap (λ (i : ℕ). map frame_bytes (drop i step.node.log)) (sym len) in
    let rises = step_rises g.B.Book.stands g.B.KeptBook.held g.B.KeptBook.snapshot_of here.above s above step c.in-Ok.done stepped extends in
    let reserves = step_reserves g.B.Book.stands g.B.KeptBook.held g.B.KeptBook.snapshot_of here.above s above step c.in-Ok.done stepped extends in
    let within : c.of-before.result.len ≤ length n.log = omega (arith, len) in
    let stays = more_base g.B.Book.stands g.B.KeptBook.held g.B.KeptBook.snapshot_of here.above s above step c.in-Ok.done stepped extends in
    let low : n.base ≤ c.of-before.result.len = omega (arith, len, base_within g.B.Book.stands g.B.KeptBook.held g.B.KeptBook.snapshot_of here.above s above step c.in-Ok.done stepped extends) in
    let e = c.room.ensures in
    let put = c.keep.ensures in
    done_by g.B.Book.stands g.B.KeptBook.held g.B.KeptBook.snapshot_of g.B.KeptBook.goes_on g.D.Disk.honest g.D.Disk.bytes g.D.Disk.past g.D.Disk.faults c.keep.new.journal here
    (record { settles = e.«open»; reads = e.bytes; stops = e.past; counted = e.faults }) above (rule_of c.args.event.now) c.in-Ok.done c.in-Ok.ensures.steps stays
    (λ d. IsChange g.B.KeptBook.held g.B.KeptBook.goes_on d c.of-before.result c.of-before.result.len frames c.step_core.new.core)
    (λ h.
    let f = here.file h in
    to_change g.B.Book.stands g.B.KeptBook.held g.B.KeptBook.snapshot_of here.above s above stepped.node g.B.KeptBook.goes_on f.state c.of-before.result c.of-before.result.len frames rises reserves stays.base low within
    (more_prefix n.log step.node.log more c.of-before.result.len len) suffix f.keeps f.leaves is.view is.vote len is.leaves c.step_core.ensures.follow c.step_core.ensures.leaves)
    c.keep.result put.«open» put.kept put.after put.any_moment put.faults c.in-Ok-keep.field-0 c.in-Ok-keep.is

pub returns-in-Ok-keep-clause-file : goal.returns-in-Ok-keep-clause-file
returns-in-Ok-keep-clause-file g c =
    let e = c.room.ensures in
    let put = c.keep.ensures in
    ends_settled g.D.Disk.honest g.D.Disk.bytes g.D.Disk.past g.D.Disk.faults c.keep.new.journal (record { settles = e.«open»; reads = e.bytes; stops = e.past; counted = e.faults }) c.keep.result put.faults put.«open» c.in-Ok-keep.field-0 c.in-Ok-keep.is

pub returns-in-Err-keep-clause-comes : goal.returns-in-Err-keep-clause-comes
returns-in-Err-keep-clause-comes g c here =
    let b = here.some.rules in
    let x = here.some.me in
    let n = here.some.node in
    let s = here.some.standing in
    let is = c.of-before.ensures in
    let step = rule_of c.args.event.now b x n in
    let stepped = c.in-Ok.ensures.steps b x n s in
    let above = c.step_core.ensures.above in
    let extends = c.requires.extends b x n s in
    let more = step_more g.B.Book.stands g.B.KeptBook.held g.B.KeptBook.snapshot_of here.above s above step c.in-Ok.done stepped extends in
    let frames = items_of c.deref-2.result.now in
    let len : c.of-before.result.len ≡ length n.log = is.len b _ s.ledger in
    let suffix : frames ≡ map frame_bytes (drop c.of-before.result.len step.node.log) =
    ap items_of c.deref-2.ensures.value ∙ c.in-Ok-next_frame.ensures.frames
    ∙ ap (map frame_bytes) (after_held g.B.Book.stands g.B.KeptBook.held g.B.KeptBook.snapshot_of here.above s above step c.in-Ok.done stepped extends c.of-before.result.count is.count)
    ∙ ap (λ (i : ℕ). map frame_bytes (drop i step.node.log)) (sym len) in
    let rises = step_rises g.B.Book.stands g.B.KeptBook.held g.B.KeptBook.snapshot_of here.above s above step c.in-Ok.done stepped extends in
    let reserves = step_reserves g.B.Book.stands g.B.KeptBook.held g.B.KeptBook.snapshot_of here.above s above step c.in-Ok.done stepped extends in
    let within : c.of-before.result.len ≤ length n.log = omega (arith, len) in
    let stays = more_base g.B.Book.stands g.B.KeptBook.held g.B.KeptBook.snapshot_of here.above s above step c.in-Ok.done stepped extends in
    let low : n.base ≤ c.of-before.result.len = omega (arith, len, base_within g.B.Book.stands g.B.KeptBook.held g.B.KeptBook.snapshot_of here.above s above step c.in-Ok.done stepped extends) in
    let e = c.room.ensures in
    let put = c.keep.ensures in
    broken_by g.B.Book.stands g.B.KeptBook.held g.B.KeptBook.snapshot_of g.B.KeptBook.goes_on g.D.Disk.honest g.D.Disk.bytes g.D.Disk.past g.D.Disk.faults c.keep.new.journal here
    (record { settles = e.«open»; reads = e.bytes; stops = e.past; counted = e.faults }) above (rule_of c.args.event.now) c.in-Ok.done c.in-Ok.ensures.steps stays
    (λ d. IsChange g.B.KeptBook.held g.B.KeptBook.goes_on d c.of-before.result c.of-before.result.len frames c.step_core.new.core)
    (λ h.
    let f = here.file h in
    to_change g.B.Book.stands g.B.KeptBook.held g.B.KeptBook.snapshot_of here.above s above stepped.node g.B.KeptBook.goes_on f.state c.of-before.result c.of-before.result.len frames rises reserves stays.base low within
    (more_prefix n.log step.node.log more c.of-before.result.len len) suffix f.keeps f.leaves is.view is.vote len is.leaves c.step_core.ensures.follow c.step_core.ensures.leaves)
    c.keep.result put.«open» put.kept put.after put.any_moment put.faults c.in-Err-keep.field-0 c.in-Err-keep.is

pub returns-in-Err-keep-clause-file : goal.returns-in-Err-keep-clause-file
returns-in-Err-keep-clause-file g c =
    let e = c.room.ensures in
    let put = c.keep.ensures in
    ends_broken g.D.Disk.honest g.D.Disk.bytes g.D.Disk.past g.D.Disk.faults c.keep.new.journal (record { settles = e.«open»; reads = e.bytes; stops = e.past; counted = e.faults }) c.keep.result put.faults c.in-Err-keep.field-0 c.in-Err-keep.is
