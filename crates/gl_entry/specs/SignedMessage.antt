-- The message that a node signs in a signature entry (CCF documentation, "Ledger").
use Rattle.std.specs.Prelude.{ℕ, List, ◌++◌}
use Rattle.gl_base.specs.LittleEndian.{little_endian}

-- The root of the Merkle tree over all earlier entries, and the view, the place and the recorded
-- commit of the signature entry, in 32, 4, 8 and 8 bytes.
abbrev pub signed_message : List ℕ → ℕ → ℕ → ℕ → List ℕ
signed_message root view seqno commit =
    root ++ little_endian 4 view ++ little_endian 8 seqno ++ little_endian 8 commit
