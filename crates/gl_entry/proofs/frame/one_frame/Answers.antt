use Rattle.gl_entry.proofs.EntryLaws.{frames_differ}
use Rattle.gl_entry.proofs.frame.one_frame.Goals as goal

pub returns : goal.returns
returns c = frames_differ
