-- What contracts see of a node that serves from a file.
use Rattle.std.specs.Prelude.{ℕ, Option}
use Rattle.gl_replication.specs.declared.node.Core.{Core}

-- The node, the disk with its file, and whether it has stopped.
pub record Seen (D S Q G R A F : Type 0) : Type 0 where
  pub core : Core S Q G R A F
  pub disk : D
  -- since the disk failed: how often it had failed then
  pub stopped : Option ℕ
