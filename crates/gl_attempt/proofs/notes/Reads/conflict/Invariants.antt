use Rattle.std.proofs.Common.{◌≡◌, drop}
use Rattle.gl_attempt.specs.Attempt.{versioned_of, conflict_of}
use Rattle.gl_attempt.proofs.notes.Reads.conflict.Given as goal

-- None of the notes so far was written since.
abbrev pub invariant-loop-note : goal.invariant-loop-note
invariant-loop-note l =
    conflict_of l.began (versioned_of l.tables) (drop l.note-index l.note-items) ≡ conflict_of l.began (versioned_of l.tables) l.self
