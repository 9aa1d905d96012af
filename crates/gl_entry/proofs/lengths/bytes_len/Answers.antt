use Rattle.std.proofs.Common.{rules}
use Rattle.gl_base.proofs.ByteLists.{are_bytes-true}
use Rattle.gl_entry.proofs.lengths.bytes_len.Goals as goal

pub returns-clause-bytes : goal.returns-clause-bytes
returns-clause-bytes c = are_bytes-true c.args.bytes.now (λ i. search rules)
