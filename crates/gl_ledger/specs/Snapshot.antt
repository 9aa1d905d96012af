-- What entries come to behind a base: the entries up to it came by a snapshot, of which this body
-- tells what is left of them. Behind no body it is what a whole ledger comes to.
use Rattle.std.specs.Prelude.{ℕ, suc, ◌+◌, ◌-◌, List, [], ◌∷◌, ◌++◌, Option, None, Some, max, nat_le, length, fold, option_map, ◌==◌, if◌then◌else◌}
use Rattle.std.specs.List.{flat_map}
use Rattle.std.specs.Result.{result_ok}
use Rattle.gl_merkle.specs.Peaks.{peaks_over}
use Rattle.gl_rules.specs.Log.{entry_at}
use Rattle.gl_vmaps.specs.LastWrite.{last_such}
use Rattle.gl_vmaps.specs.Rows.{row_writes, rows_over, tables_with}
use Rattle.gl_vmaps.specs.Tables.{Tables}
use Rattle.gl_vmaps.specs.Versions.{Placed, placed_at, written_by}
use Rattle.gl_entry.specs.Entry.{is_signature, recorded_commit}
use Rattle.gl_entry.specs.declared.entry.Content.{Content}
use Rattle.gl_entry.specs.declared.entry.Content.TheVariants as content
use Rattle.gl_entry.specs.declared.entry.Entry.{Entry}
use Rattle.gl_gov_rules.specs.declared.change.Recorded.{Recorded}
use Rattle.gl_gov_rules.specs.declared.row.GovernedRows.{GovernedRows}
use Rattle.gl_gov_rules.specs.GovernedRows.{governed_rows}
use Rattle.gl_ledger.specs.Recordings.{last_entry, requests_from}
use Rattle.gl_ledger.specs.Tree.{writes_of, leaves_from}
use Rattle.gl_snapshot_body.specs.Body.{no_body, body_bytes}
use Rattle.gl_snapshot_body.specs.declared.body.Body.{Body}
use Rattle.gl_snapshot_body.specs.declared.body.ViewStart.{ViewStart}

-- Where each view after one starts, in order.
abbrev pub starts_from : ℕ → List Entry → List ViewStart
starts_from view [] = []
starts_from view (e ∷ es) =
    if e.view == view then starts_from view es
    else record { view = e.view; seqno = e.seqno } ∷ starts_from e.view es

-- The view of the entry with a seqno, by where views start.
abbrev pub view_in : List ViewStart → ℕ → Option ℕ
view_in views seqno =
    option_map (λ (v : ViewStart). v.view)
    (last_such (λ (v : ViewStart). nat_le v.seqno seqno) views)

-- The view of the last entry, or that of the base where there is none.
abbrev pub view_or : ℕ → Option Entry → ℕ
view_or view None = view
view_or view (Some e) = e.view

-- The greatest commit that signatures record. A node's own base counts in none of them.
abbrev pub greatest_with : ℕ → Content → ℕ
greatest_with commit (content.Signature s) = max commit s.commit
greatest_with commit (content.Governance bytes) = commit
greatest_with commit (content.Application bytes) = commit
greatest_with commit (content.Evidence d) = commit

abbrev pub greatest_from : ℕ → List Entry → ℕ
greatest_from commit [] = commit
greatest_from commit (e ∷ es) = greatest_from (greatest_with commit e.content) es

module _ (body : Body) where
  -- The rows of governance of the body, if there is one.
  abbrev pub governed_base : Option GovernedRows
  governed_base = if body.base == 0 then None else result_ok (governed_rows body.base body.rows)

  -- The writes, those that set the body's rows first.
  abbrev pub writes_over : List Entry → List Placed
  writes_over es = placed_at 0 (row_writes body.rows) ++ writes_of es

  abbrev pub tables_over : List Entry → Tables
  tables_over es = written_by (writes_over es)

  -- The leaves of the entries, which stand behind the tables with the body's rows; and the peaks of
  -- the tree of all entries.
  abbrev pub leaves_over : List Entry → List (List ℕ)
  leaves_over es = leaves_from (tables_with body.rows) es

  abbrev pub all_peaks : List Entry → List (List ℕ)
  all_peaks es = peaks_over body.base body.peaks (leaves_over es)

  abbrev pub requests_over : List Entry → List Recorded
  requests_over es = requests_from (suc body.base) es

  -- The view of the entry with a seqno above 0, if there is one.
  abbrev pub view_at : List Entry → ℕ → Option ℕ
  view_at es seqno =
      if nat_le seqno body.base then view_in body.views seqno
      else option_map (λ (e : Entry). e.view) (entry_at es (seqno - body.base))

  -- The body of a snapshot of all entries.
  abbrev pub snapshot_over : List Entry → Body
  snapshot_over es = record {
    base = body.base + length es;
    view = view_or body.view (last_entry es);
    commit = greatest_from body.commit es;
    views = body.views ++ starts_from body.view es;
    peaks = all_peaks es;
    rows = rows_over body.rows (flat_map (λ (e : Entry). e.writes) es);
  }

-- The body of a snapshot of a ledger, and its bytes.
abbrev pub snapshot_of : List Entry → Body
snapshot_of ledger = snapshot_over no_body ledger

abbrev pub snapshot_bytes : List Entry → List ℕ
snapshot_bytes ledger = body_bytes (snapshot_of ledger)
