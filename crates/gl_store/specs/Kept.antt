-- What a store keeps: a whole ledger, and its commit.
use Rattle.std.specs.Prelude.{ℕ, ◌≤◌, length}
use Rattle.gl_snapshot_body.specs.Body.{no_body}
use Rattle.gl_ledger.specs.Signed.{IsSignedUpTo}
use Rattle.gl_store.specs.Tail.{StandsBehind, Tail}

-- The entries are a whole ledger, and commit is the seqno of a signature of it or 0.
pub record IsKept (t : Tail) (commit : ℕ) : Type 0 where
  pub stands : StandsBehind no_body t
  pub within : commit ≤ length t.entries
  pub committed : IsSignedUpTo t.entries commit
