use Rattle.std.proofs.Common.{sym}
use Rattle.gl_base.proofs.Numbers.{bytes_at_length}
use Rattle.gl_entry.proofs.contents.read_digest.Goals as goal

pub copy_from_slice-requires : goal.copy_from_slice-requires
copy_from_slice-requires c = sym (bytes_at_length 32 _ _ _ c.in_ok-bytes.ensures.exact)
