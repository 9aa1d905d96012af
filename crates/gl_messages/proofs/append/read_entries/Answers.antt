use Rattle.std.proofs.lemmas.Result.{err_from_is_err_and}
use Rattle.gl_messages.specs.MessageReading.{before_first, entries_at}
use Rattle.gl_messages.proofs.Appending.{goes_on, ends, is_done}
use Rattle.gl_messages.proofs.append.read_entries.Goals as goal

pub returns-in_err-entry : goal.returns-in_err-entry
returns-in_err-entry c =
    let p = err_from_is_err_and c.from_residual.result c.from_residual.ensures.1 in
    rw (p.1, p.2) (ends c.args.most c.in_err-entry.field-0.0 c.loop.entries.items c.args.count c.loop.counter c.loop.before c.loop.cut (entries_at c.args.most (before_first c.args.prev) c.args.count c.args.cut.now) c.loop-test.true c.in_err-entry.ensures.exact c.loop.invariant)

pub loop-preserved : goal.loop-preserved
loop-preserved c =
    rw c.in_ok-push.ensures.items (goes_on c.args.most c.loop.entries.items c.args.count c.loop.counter c.loop.before c.read_entry.new.before c.loop.cut c.read_entry.new.cut c.in_ok-entry.entry (entries_at c.args.most (before_first c.args.prev) c.args.count c.args.cut.now) c.loop-test.true c.in_ok-entry.ensures.exact c.in_ok-entry.ensures.next c.loop.invariant)

pub returns : goal.returns
returns c = is_done c.args.most c.loop.entries.items c.args.count c.loop.counter c.loop.before c.loop.cut (entries_at c.args.most (before_first c.args.prev) c.args.count c.args.cut.now) c.loop-test.false c.loop.invariant
