-- Requests at the leader: Submit, Finish, Govern, Reserve, Sign, Evidence.
use Rattle.std.specs.Prelude.{ℕ, ◌+◌, ◌-◌, ◌||◌, not, Option, None, Some, Result, Ok, Err, length, nat_lt, nat_le, ◌==◌, if◌then◌else◌}
pub use Rattle.gl_base.specs.TxId.{last_count}
use Rattle.gl_rules.specs.Identity.{NodeId}
use Rattle.gl_rules.specs.Book.{Book}
use Rattle.gl_rules.specs.Node.{Node}
use Rattle.gl_rules.specs.Outcome.{Step, quiet, refuse, Done, Accepted, Signed, TooManyPending, NotReserved, KeyExhausted, NothingToSign, RemovalNotCommitted, RolledBack, ByLedger}
use Rattle.gl_rules.specs.Log.{entry_at, is_signature_in}
use Rattle.gl_rules.specs.Configuration.{configurations_above}
use Rattle.gl_rules.specs.Steps.{append_entry, if_leader}

-- So many configurations above commit are too many for a governance request.
abbrev pub pending_limit : ℕ
pending_limit = 16

module _ {E Q G R A F : Type 0} (book : Book E Q G R A F) where
  -- One more entry in the log, with its identifier and its answer; or the ledger's refusal.
  abbrev pub append_result : Node E → Result (E × A) F → Step E A F
  append_result n (Err why) = refuse n (ByLedger why)
  append_result n (Ok made) =
      quiet (append_entry n made.0) (Accepted (book.view_of made.0) (length n.log + 1) made.1)

  abbrev pub execute_request : Q → Node E → Step E A F
  execute_request q n = append_result n (book.execute n.log n.view q)

  -- Submit x q: an application request, as one entry.
  unfoldable pub submit : Q → Node E → Step E A F
  submit q n = if_leader n (execute_request q n)

  abbrev pub unless_conflict : Option F → Node E → Step E A F → Step E A F
  unless_conflict None n step = step
  unless_conflict (Some why) n step = refuse n (ByLedger why)

  abbrev pub finish_as_leader : ℕ → ℕ → R → Q → Node E → Step E A F
  finish_as_leader len cuts reads q n =
      if not (n.cuts == cuts) || (n.cuts == last_count)
      then refuse n (RolledBack cuts n.cuts)
      else unless_conflict (book.conflict n.base n.log len reads) n (execute_request q n)

  -- Finish x (len, cuts, reads, q): a transaction that began at this length and count of cuts and
  -- read these keys.
  unfoldable pub finish : ℕ → ℕ → R → Q → Node E → Step E A F
  finish len cuts reads q n = if_leader n (finish_as_leader len cuts reads q n)

  abbrev pub if_removal_committed : Option ℕ → Node E → Step E A F → Step E A F
  if_removal_committed None n step = step
  if_removal_committed (Some seqno) n step =
      if nat_lt n.commit seqno
      then refuse n (RemovalNotCommitted seqno n.commit)
      else step

  abbrev pub unless_mark_refused : Option F → NodeId → Node E → Step E A F → Step E A F
  unless_mark_refused (Some why) y n step = refuse n (ByLedger why)
  unless_mark_refused None y n step = if_removal_committed (book.removal n.log y) n step

  -- A mark waits until the removal of its node is committed here.
  abbrev pub if_markable : Option NodeId → Node E → Step E A F → Step E A F
  if_markable None n step = step
  if_markable (Some y) n step = unless_mark_refused (book.mark_refusal n.log y) y n step

  abbrev pub govern_as_leader : G → Node E → Step E A F
  govern_as_leader g n =
      if nat_le pending_limit (length (configurations_above book n.log n.commit (length n.log)))
      then refuse n (TooManyPending pending_limit)
      else if_markable (book.marked_node g) n (append_result n (book.govern n.log n.view g))

  -- Govern x g: a governance request, as one entry.
  unfoldable pub govern : G → Node E → Step E A F
  govern g n = if_leader n (govern_as_leader g n)

  -- Reserve x: one more leaf of its key, at any node.
  unfoldable pub reserve : NodeId → Node E → Step E A F
  reserve x n =
      if nat_le (book.leaves x) n.reserved
      then refuse n (KeyExhausted n.reserved)
      else quiet (record n { reserved = n.reserved + 1 }) Done

  abbrev pub append_signature : Node E → Result E F → Step E A F
  append_signature n (Err why) = refuse n (ByLedger why)
  append_signature n (Ok e) =
      quiet (record (append_entry n e) { used = n.used + 1 })
      (Signed (book.view_of e) (length n.log + 1))

  abbrev pub sign_as_leader : NodeId → Node E → Step E A F
  sign_as_leader x n =
      if n.used == n.reserved
      then refuse n (NotReserved n.reserved)
      else (
      if is_signature_in book n.view (entry_at n.log (length n.log))
      then refuse n (NothingToSign (length n.log))
      else append_signature n (book.sign x n.used n.log n.view n.commit)
      )

  -- Sign x: a signature over the ledger so far, with the first leaf that is not used.
  unfoldable pub sign : NodeId → Node E → Step E A F
  sign x n = if_leader n (sign_as_leader x n)

  abbrev pub append_evidence : Node E → Result E F → Step E A F
  append_evidence n (Err why) = refuse n (ByLedger why)
  append_evidence n (Ok e) = quiet (append_entry n e) (Signed (book.view_of e) (length n.log + 1))

  -- Evidence x: the digest of a snapshot. The book makes one right after a signature alone.
  unfoldable pub evidence : Node E → Step E A F
  evidence n = if_leader n (append_evidence n (book.evidence n.log n.view))
