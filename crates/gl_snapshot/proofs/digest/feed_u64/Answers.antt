use Rattle.std.proofs.Common.{List, ℕ, ◌++◌, subst, ◌∙◌}
use Rattle.sha2.specs.Hashers.{Holds256}
use Rattle.gl_entry.proofs.NumberBytes.{to_le_bytes-u64}
use Rattle.gl_snapshot.proofs.digest.feed_u64.Goals as goal

pub returns : goal.returns
returns c = λ message held.
    subst (λ (xs : List ℕ). Holds256 c.update.new.self (message ++ xs)) (c.to_le_bytes.ensures ∙ to_le_bytes-u64 _) (c.update.ensures message held)
