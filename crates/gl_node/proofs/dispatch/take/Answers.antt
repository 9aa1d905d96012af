use Rattle.std.proofs.Common.{◌≡◌, ◌≤◌, ℕ, ◌-◌, ◌+◌, length, take, drop, map, sym, ap, ◌∙◌, arith, List}
use Rattle.gl_entry.specs.Entry.{frame_bytes}
use Rattle.gl_journal.specs.Parts.{items_of}
use Rattle.gl_journal.proofs.PartLaws.{length_items_of}
use Rattle.gl_replication.specs.Events.{rule_of}
use Rattle.gl_replication.specs.declared.done.Refusal.TheVariants.{NoMemory}
use Rattle.gl_replication.proofs.Merging.{rest_is}
use Rattle.gl_node.specs.Batches.{IsChange}
use Rattle.gl_node.specs.Frames.{appends_size, frame_if_fits}
use Rattle.gl_node.proofs.Coming.{done_by, broken_by, refused_by}
use Rattle.gl_node.proofs.Ending.{ends_broken, ends_settled, ends_untouched}
use Rattle.gl_node.proofs.TakenEntries.{step_base, step_led, step_low, step_tail}
use Rattle.gl_node.proofs.Standings.{fits_after, to_change}
use Rattle.gl_node.proofs.Framing.{small_frames, appends_part, frames_tail, length_map, room_less}
use Rattle.gl_node.proofs.dispatch.take.Goals as goal

pub room-requires : goal.room-requires
room-requires g c =
    let size = ap (λ (l : List _). appends_size (items_of l)) c.deref.ensures.value ∙ ap appends_size c.in-Ok.ensures in
    omega (arith, size, small_frames c.args.entries.now, c.requires.few)

pub returns-in-Err-room-clause-comes : goal.returns-in-Err-room-clause-comes
returns-in-Err-room-clause-comes g c serving =
    let e = c.room.ensures in
    refused_by g.B.Book.stands g.B.KeptBook.held g.B.KeptBook.snapshot_of g.B.KeptBook.goes_on g.D.Disk.honest g.D.Disk.bytes g.D.Disk.past g.D.Disk.faults serving
    (record { settles = e.«open»; reads = e.bytes; stops = e.past; counted = e.faults }) serving.above (rule_of c.args.event.now) NoMemory (λ b x n s. tt) (λ b x n s. s)

pub returns-in-Err-room-clause-file : goal.returns-in-Err-room-clause-file
returns-in-Err-room-clause-file g c =
    let e = c.room.ensures in
    ends_untouched g.D.Disk.honest g.D.Disk.bytes g.D.Disk.past g.D.Disk.faults (record { settles = e.«open»; reads = e.bytes; stops = e.past; counted = e.faults }) c.requires.settled

pub returns-in-Err-step_core-clause-comes : goal.returns-in-Err-step_core-clause-comes
returns-in-Err-step_core-clause-comes g c serving =
    let e = c.room.ensures in
    refused_by g.B.Book.stands g.B.KeptBook.held g.B.KeptBook.snapshot_of g.B.KeptBook.goes_on g.D.Disk.honest g.D.Disk.bytes g.D.Disk.past g.D.Disk.faults serving
    (record { settles = e.«open»; reads = e.bytes; stops = e.past; counted = e.faults }) c.in-Err-step_core.ensures.above (rule_of c.args.event.now) c.in-Err-step_core.why c.in-Err-step_core.ensures.refused c.in-Err-step_core.ensures.err

pub returns-in-Err-step_core-clause-file : goal.returns-in-Err-step_core-clause-file
returns-in-Err-step_core-clause-file g c =
    let e = c.room.ensures in
    ends_untouched g.D.Disk.honest g.D.Disk.bytes g.D.Disk.past g.D.Disk.faults (record { settles = e.«open»; reads = e.bytes; stops = e.past; counted = e.faults }) c.requires.settled

pub keep-requires-clause-small : goal.keep-requires-clause-small
keep-requires-clause-small g c =
    let size = ap (λ (l : List _). appends_size (items_of l)) c.deref-in-Ok-step_core.ensures.value ∙ ap appends_size c.in-Ok.ensures in
    let k = c.saturating_sub.result in
    let fs = c.deref-in-Ok-step_core.result.now in
    omega (arith, size, small_frames c.args.entries.now, c.requires.few, appends_part (length fs - k) k fs)

pub keep-requires-clause-room : goal.keep-requires-clause-room
keep-requires-clause-room g c =
    let k = c.saturating_sub.result in
    let fs = c.deref-in-Ok-step_core.result.now in
    let same = ap (λ (l : List _). appends_size (items_of l)) (c.deref.ensures.value ∙ sym c.deref-in-Ok-step_core.ensures.value) in
    room_less g.D.Disk.room_end g.D.Disk.room_calls c.room.new.journal (64 + appends_size (items_of c.deref.result.now)) _ (omega (arith, same, appends_part (length fs - k) k fs)) c.in-Ok-room.ensures.room

pub returns-in-Ok-keep-clause-comes : goal.returns-in-Ok-keep-clause-comes
returns-in-Ok-keep-clause-comes g c here =
    let b = here.some.rules in
    let x = here.some.me in
    let n = here.some.node in
    let s = here.some.standing in
    let es = c.args.entries.now in
    let kept = c.kept_upto-kept.result in
    let step = rule_of c.args.event.now b x n in
    let stepped = c.in-Ok-step_core.ensures.steps b x n s in
    let takes = c.requires.takes b x n s in
    let signed = c.kept_upto-kept.ensures.signed b _ s.ledger in
    let above = c.step_core.ensures.above in
    let tail = step_tail g.B.Book.stands g.B.KeptBook.held g.B.KeptBook.snapshot_of here.above s above step c.in-Ok-step_core.done stepped c.args.view c.args.prev es takes signed kept (c.kept_upto-kept.ensures.kept b x n s) in
    let fs = c.deref-in-Ok-step_core.result.now in
    let made = ap items_of c.deref-in-Ok-step_core.ensures.value ∙ c.in-Ok.ensures in
    let all : length fs ≡ length es = sym (length_items_of fs) ∙ ap length made ∙ length_map frame_if_fits es in
    let count : c.len.result ≡ length es = omega (arith, all, c.len.ensures, c.deref-in-Ok-step_core.ensures.len) in
    let led = step_led g.B.Book.stands g.B.KeptBook.held g.B.KeptBook.snapshot_of here.above s above step c.in-Ok-step_core.done stepped c.args.view c.args.prev es takes signed in
    let long : c.ledger_len.result ≡ length step.node.log = c.ledger_len.ensures.value b _ stepped.node.ledger in
    let low = step_low g.B.Book.stands g.B.KeptBook.held g.B.KeptBook.snapshot_of here.above s above step c.in-Ok-step_core.done stepped c.args.view c.args.prev es takes signed kept (c.kept_upto-kept.ensures.kept b x n s) in
    let fit = fits_after g.B.Book.stands g.B.KeptBook.held g.B.KeptBook.snapshot_of above stepped.node kept (omega (arith, led.base, low)) c.step_core.ensures.fit in
    let is = c.of-before.ensures in
    let k = c.saturating_sub.result in
    let frames = items_of (take (length fs - k) (drop k fs)) in
    let start : k ≡ length es - (length step.node.log - kept) = omega (arith, count, long, c.saturating_sub-count.ensures, c.saturating_sub.ensures) in
    let suffix : frames ≡ map frame_bytes (drop kept step.node.log) = ap items_of (rest_is k fs) ∙ frames_tail fs es step.node.log kept k made (tail.tail ∙ ap (λ (i : ℕ). drop i es) (sym start)) fit in
    let e = c.room.ensures in
    let put = c.keep.ensures in
    done_by g.B.Book.stands g.B.KeptBook.held g.B.KeptBook.snapshot_of g.B.KeptBook.goes_on g.D.Disk.honest g.D.Disk.bytes g.D.Disk.past g.D.Disk.faults c.keep.new.journal here
    (record { settles = e.«open»; reads = e.bytes; stops = e.past; counted = e.faults }) above (rule_of c.args.event.now) c.in-Ok-step_core.done c.in-Ok-step_core.ensures.steps
    (step_base g.B.Book.stands g.B.KeptBook.held g.B.KeptBook.snapshot_of here.above s above step c.in-Ok-step_core.done stepped c.args.view c.args.prev es takes signed)
    (λ d. IsChange g.B.KeptBook.held g.B.KeptBook.goes_on d c.of-before.result kept frames c.step_core.new.core)
    (λ h.
    let f = here.file h in
    let more : n.reserved ≤ step.node.reserved = omega (arith, led.reserved) in
    to_change g.B.Book.stands g.B.KeptBook.held g.B.KeptBook.snapshot_of here.above s above stepped.node g.B.KeptBook.goes_on f.state c.of-before.result kept frames led.view more led.base low tail.within tail.prefix suffix
    f.keeps f.leaves is.view is.vote (is.len b _ s.ledger) is.leaves c.step_core.ensures.follow c.step_core.ensures.leaves)
    c.keep.result put.«open» put.kept put.after put.any_moment put.faults c.in-Ok-keep.field-0 c.in-Ok-keep.is

pub returns-in-Ok-keep-clause-file : goal.returns-in-Ok-keep-clause-file
returns-in-Ok-keep-clause-file g c =
    let e = c.room.ensures in
    let put = c.keep.ensures in
    ends_settled g.D.Disk.honest g.D.Disk.bytes g.D.Disk.past g.D.Disk.faults c.keep.new.journal (record { settles = e.«open»; reads = e.bytes; stops = e.past; counted = e.faults }) c.keep.result put.faults put.«open» c.in-Ok-keep.field-0 c.in-Ok-keep.is

pub returns-clause-comes : goal.returns-clause-comes
returns-clause-comes g c here =
    let b = here.some.rules in
    let x = here.some.me in
    let n = here.some.node in
    let s = here.some.standing in
    let es = c.args.entries.now in
    let kept = c.kept_upto-kept.result in
    let step = rule_of c.args.event.now b x n in
    let stepped = c.in-Ok-step_core.ensures.steps b x n s in
    let takes = c.requires.takes b x n s in
    let signed = c.kept_upto-kept.ensures.signed b _ s.ledger in
    let above = c.step_core.ensures.above in
    let tail = step_tail g.B.Book.stands g.B.KeptBook.held g.B.KeptBook.snapshot_of here.above s above step c.in-Ok-step_core.done stepped c.args.view c.args.prev es takes signed kept (c.kept_upto-kept.ensures.kept b x n s) in
    let fs = c.deref-in-Ok-step_core.result.now in
    let made = ap items_of c.deref-in-Ok-step_core.ensures.value ∙ c.in-Ok.ensures in
    let all : length fs ≡ length es = sym (length_items_of fs) ∙ ap length made ∙ length_map frame_if_fits es in
    let count : c.len.result ≡ length es = omega (arith, all, c.len.ensures, c.deref-in-Ok-step_core.ensures.len) in
    let led = step_led g.B.Book.stands g.B.KeptBook.held g.B.KeptBook.snapshot_of here.above s above step c.in-Ok-step_core.done stepped c.args.view c.args.prev es takes signed in
    let long : c.ledger_len.result ≡ length step.node.log = c.ledger_len.ensures.value b _ stepped.node.ledger in
    let low = step_low g.B.Book.stands g.B.KeptBook.held g.B.KeptBook.snapshot_of here.above s above step c.in-Ok-step_core.done stepped c.args.view c.args.prev es takes signed kept (c.kept_upto-kept.ensures.kept b x n s) in
    let fit = fits_after g.B.Book.stands g.B.KeptBook.held g.B.KeptBook.snapshot_of above stepped.node kept (omega (arith, led.base, low)) c.step_core.ensures.fit in
    let is = c.of-before.ensures in
    let k = c.saturating_sub.result in
    let frames = items_of (take (length fs - k) (drop k fs)) in
    let start : k ≡ length es - (length step.node.log - kept) = omega (arith, count, long, c.saturating_sub-count.ensures, c.saturating_sub.ensures) in
    let suffix : frames ≡ map frame_bytes (drop kept step.node.log) = ap items_of (rest_is k fs) ∙ frames_tail fs es step.node.log kept k made (tail.tail ∙ ap (λ (i : ℕ). drop i es) (sym start)) fit in
    let e = c.room.ensures in
    let put = c.keep.ensures in
    broken_by g.B.Book.stands g.B.KeptBook.held g.B.KeptBook.snapshot_of g.B.KeptBook.goes_on g.D.Disk.honest g.D.Disk.bytes g.D.Disk.past g.D.Disk.faults c.keep.new.journal here
    (record { settles = e.«open»; reads = e.bytes; stops = e.past; counted = e.faults }) above (rule_of c.args.event.now) c.in-Ok-step_core.done c.in-Ok-step_core.ensures.steps
    (step_base g.B.Book.stands g.B.KeptBook.held g.B.KeptBook.snapshot_of here.above s above step c.in-Ok-step_core.done stepped c.args.view c.args.prev es takes signed)
    (λ d. IsChange g.B.KeptBook.held g.B.KeptBook.goes_on d c.of-before.result kept frames c.step_core.new.core)
    (λ h.
    let f = here.file h in
    let more : n.reserved ≤ step.node.reserved = omega (arith, led.reserved) in
    to_change g.B.Book.stands g.B.KeptBook.held g.B.KeptBook.snapshot_of here.above s above stepped.node g.B.KeptBook.goes_on f.state c.of-before.result kept frames led.view more led.base low tail.within tail.prefix suffix
    f.keeps f.leaves is.view is.vote (is.len b _ s.ledger) is.leaves c.step_core.ensures.follow c.step_core.ensures.leaves)
    c.keep.result put.«open» put.kept put.after put.any_moment put.faults c.in-Err-keep.field-0 c.in-Err-keep.is

pub returns-clause-file : goal.returns-clause-file
returns-clause-file g c =
    let e = c.room.ensures in
    let put = c.keep.ensures in
    ends_broken g.D.Disk.honest g.D.Disk.bytes g.D.Disk.past g.D.Disk.faults c.keep.new.journal (record { settles = e.«open»; reads = e.bytes; stops = e.past; counted = e.faults }) c.keep.result put.faults c.in-Err-keep.field-0 c.in-Err-keep.is
