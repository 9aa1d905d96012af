-- How many bytes the frame of an entry has at most.
use Rattle.std.proofs.Common.{◌≡◌, ◌^◌, ◌<◌, ◌≤◌, true, length, arith}
use Rattle.gl_entry.specs.Entry.{body_bytes, body_limit, frame_bytes, is_entry}
use Rattle.gl_entry.specs.declared.entry.Entry.{Entry}
use Rattle.gl_entry.proofs.EntryLaws.{body_within, length-frame_bytes}

pub frame_small : (e : Entry) → is_entry e ≡ true → length (frame_bytes e) < 2 ^ 32
frame_small e is = omega (arith, body_within e is, length-frame_bytes e)

pub ruleset frame_within = (frame_small, body_within)
