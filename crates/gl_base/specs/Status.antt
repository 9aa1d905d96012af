-- The status of a transaction, told by what one node knows (CCF documentation, "Transaction
-- status").
use Rattle.std.specs.Prelude.{ℕ, Bool, false, Option, Some, None, ◌==◌, nat_lt, nat_le, if◌then◌else◌}
use Rattle.gl_base.specs.declared.tx_id.TxId.{TxId}
use Rattle.gl_base.specs.declared.tx_id.Status.{Status}
use Rattle.gl_base.specs.declared.tx_id.Status.TheVariants.{Unknown, Pending, Committed, Invalid}

-- The node holds this transaction: the entry at its place, if any, is of its view.
abbrev pub is_held : TxId → Option ℕ → Bool
is_held asked None = false
is_held asked (Some view) = view == asked.view

-- Where nothing is committed, the commit's view and place count as 0.
abbrev pub commit_view : Option TxId → ℕ
commit_view None = 0
commit_view (Some commit) = commit.view

abbrev pub commit_seqno : Option TxId → ℕ
commit_seqno None = 0
commit_seqno (Some commit) = commit.seqno

-- At or below the commit the place is decided: the transaction stands there, or never will.
abbrev pub decided : Bool → Status
decided held = if held then Committed else Invalid

-- Above the commit it may still come, unless the commit is of a later view than it.
abbrev pub undecided : Bool → Bool → Status
undecided held passed = if held then Pending else (if passed then Invalid else Unknown)

-- The status of a transaction at a node, by the view of the entry that the node holds at its seqno,
-- and by the identifier of its last committed entry.
abbrev pub status_of : TxId → Option ℕ → Option TxId → Status
status_of asked local commit =
    if nat_le asked.seqno (commit_seqno commit)
    then decided (is_held asked local)
    else undecided (is_held asked local) (nat_lt asked.view (commit_view commit))
