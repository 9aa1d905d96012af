-- The tables of a ledger, and its leaves in the Merkle tree (CCF documentation, "Merkle Tree").
use Rattle.std.specs.Prelude.{ℕ, List, [], ◌∷◌}
use Rattle.std.specs.List.{flat_map}
use Rattle.gl_vmaps.specs.Tables.{Tables, no_tables, wrote_all}
use Rattle.gl_vmaps.specs.Versions.{Placed, placed_at, written_by}
use Rattle.gl_entry.specs.Leaf.{leaf_of}
use Rattle.gl_entry.specs.declared.entry.Entry.{Entry}
use Rattle.gl_ledger.specs.ServiceRow.{identity_in}

-- The writes of a ledger, each at the seqno of its entry.
abbrev pub writes_of : List Entry → List Placed
writes_of ledger = flat_map (λ (e : Entry). placed_at e.seqno e.writes) ledger

-- The tables of a ledger: what its write sets make of no tables.
abbrev pub tables_of : List Entry → Tables
tables_of ledger = written_by (writes_of ledger)

-- The leaves of entries that stand after tables, each under the identity that is in force once the
-- entry's own writes are made.
abbrev pub leaves_from : Tables → List Entry → List (List ℕ)
leaves_from tables [] = []
leaves_from tables (e ∷ es) =
    leaf_of (identity_in (wrote_all tables e.writes)) e ∷ leaves_from (wrote_all tables e.writes) es

-- The leaves of a ledger, from its first entry.
abbrev pub leaves_of : List Entry → List (List ℕ)
leaves_of ledger = leaves_from no_tables ledger
