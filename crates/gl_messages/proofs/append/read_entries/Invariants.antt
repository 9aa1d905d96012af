use Rattle.std.proofs.Common.{◌≡◌}
use Rattle.gl_messages.specs.MessageReading.{before_first, entries_at}
use Rattle.gl_messages.proofs.Appending.{suffix}
use Rattle.gl_messages.proofs.append.read_entries.Given as goal

-- the entries so far, and what is still read
abbrev pub invariant-loop : goal.invariant-loop
invariant-loop l = suffix l.most l.entries.items l.count l.counter l.before l.cut ≡ entries_at l.most (before_first l.fn.prev) l.count l.fn.cut
