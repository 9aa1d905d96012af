use Rattle.std.proofs.Common.{◌≡◌, ◌++◌, take}
use Rattle.gl_messages.specs.Message.{frames_bytes}
use Rattle.gl_messages.proofs.append.put_entries.Given as goal

-- the frames so far
abbrev pub invariant-loop-entry : goal.invariant-loop-entry
invariant-loop-entry l = l.out.items ≡ l.fn.out.items ++ frames_bytes (take l.entry-index l.entries)
