use Rattle.std.proofs.Common.{◌≡◌, ℕ, ◌≤◌, List, ◌++◌, length, ap, length-append, arith}
use Rattle.gl_entry.specs.Entry.{frame_bytes, frame_size}
use Rattle.gl_entry.specs.declared.entry.Entry.{Entry}
use Rattle.gl_entry.proofs.EntryLaws.{length-frame_bytes}
use Rattle.gl_snapshot.proofs.entry.first_entry.Goals as goal

within : (bytes rest : List ℕ) (e : Entry) (size : ℕ) → size ≡ frame_size e → bytes ≡ frame_bytes e ++ rest → size ≤ length bytes
within bytes rest e size is parts = omega (arith, is, ap length parts, length-append (frame_bytes e) rest, length-frame_bytes e)

pub returns-in-Ok-clause-within : goal.returns-in-Ok-clause-within
returns-in-Ok-clause-within c =
    let found = c.in-Ok.ensures.found in
    within c.args.bytes.now found.2 c.in-Ok.read.0 c.in-Ok.read.1 found.1 found.3
