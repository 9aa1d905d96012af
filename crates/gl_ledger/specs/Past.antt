-- What the rules of the audit read of the entries before one: of a whole ledger, and of a ledger
-- whose first entries came by a snapshot.
use Rattle.std.specs.Prelude.{ℕ, zero, suc, ◌+◌, ◌-◌, List, [], ◌∷◌, ◌++◌, Option, None, Some, Bool, true, false, ◌&&◌, ◌||◌, nat_lt, nat_le, length, map, option_map, ◌==◌, if◌then◌else◌}
use Rattle.gl_merkle.specs.Peaks.{root_of_peaks}
use Rattle.gl_merkle.specs.Tree.{root_of}
use Rattle.gl_rules.specs.Identity.{NodeId}
use Rattle.gl_rules.specs.Log.{entry_at, seqno_with_first}
use Rattle.gl_vmaps.specs.Tables.{Tables}
use Rattle.gl_entry.specs.Entry.{is_signature}
use Rattle.gl_entry.specs.declared.entry.Content.{Content}
use Rattle.gl_entry.specs.declared.entry.Content.TheVariants as content
use Rattle.gl_entry.specs.declared.entry.Entry.{Entry}
use Rattle.gl_gov_rules.specs.Changes.{history}
use Rattle.gl_gov_rules.specs.GovernedRows.{history_over}
use Rattle.gl_gov_rules.specs.History.{History}
use Rattle.gl_gov_rules.specs.Nodes as nodes
use Rattle.gl_gov_rules.specs.declared.change.Recorded.{Recorded}
use Rattle.gl_gov_rules.specs.declared.change.RecordedNode.{RecordedNode}
use Rattle.gl_snapshot_body.specs.declared.body.Body.{Body}
use Rattle.gl_ledger.specs.Tree.{tables_of, leaves_of}
use Rattle.gl_ledger.specs.Recordings.{begins, last_entry, requests_of, recorded_nodes, removal, mark}
use Rattle.gl_ledger.specs.Snapshot.{governed_base, tables_over, all_peaks, requests_over, snapshot_over, snapshot_of}

abbrev pub signs_at : Option Entry → Bool
signs_at None = false
signs_at (Some e) = is_signature e.content

-- The seqno of the last signature of a ledger, 0 where there is none.
abbrev pub last_signed : List Entry → ℕ
last_signed [] = 0
last_signed (e ∷ es) = seqno_with_first (is_signature e.content) (last_signed es)

abbrev pub commit_after : ℕ → Content → ℕ
commit_after commit (content.Signature s) = s.commit
commit_after commit (content.Governance bytes) = commit
commit_after commit (content.Application bytes) = commit
commit_after commit (content.Evidence d) = commit

abbrev pub commit_from : ℕ → List Entry → ℕ
commit_from commit [] = commit
commit_from commit (e ∷ es) = commit_from (commit_after commit e.content) es

-- The commit that the last signature of a ledger records, 0 where there is none.
abbrev pub last_commit : List Entry → ℕ
last_commit ledger = commit_from 0 ledger

-- Of the last entry: its view, whether it is a signature, and whether a service, or its life under
-- another key, begins with it.
pub record Last : Type 0 where
  pub view : ℕ
  pub signs : Bool
  pub begins : Bool

abbrev pub last_of : Entry → Last
last_of e = record { view = e.view; signs = is_signature e.content; begins = begins e }

-- A service begins with the last entry, so that a signature opens it.
abbrev pub is_begun : Option Last → Bool
is_begun None = false
is_begun (Some last) = last.begins

-- A signature stands last.
abbrev pub is_signed : Option Last → Bool
is_signed None = false
is_signed (Some last) = last.signs

abbrev pub is_unopened : Option Entry → Bool
is_unopened last = is_begun (option_map last_of last)

-- What the rules read of the entries before one.
pub record Past : Type 0 where
  -- how many they are
  pub len : ℕ
  pub last : Option Last
  pub tables : Tables
  -- the history of governance, and it with one more request; and of the nodes that it records the
  -- seqnos of removals and marks
  pub history : History
  pub after : Recorded → History
  pub nodes : List NodeId
  pub removal : NodeId → Option ℕ
  pub mark : NodeId → Option ℕ
  -- the root of the tree of their leaves
  pub root : List ℕ
  -- where signatures stand, the seqno of the last one, and the commit that it records
  pub signs_at : ℕ → Bool
  pub last_signed : ℕ
  pub last_commit : ℕ
  -- the body of a snapshot of them
  pub snapshot : Body

-- Of a ledger.
abbrev pub past_of : List Entry → Past
past_of ledger = record {
  len = length ledger;
  last = option_map last_of (last_entry ledger);
  tables = tables_of ledger;
  history = history (requests_of ledger);
  after = λ r. history (requests_of ledger ++ r ∷ []);
  nodes = recorded_nodes ledger;
  removal = removal ledger;
  mark = mark ledger;
  root = root_of (leaves_of ledger);
  signs_at = λ seqno. signs_at (entry_at ledger seqno);
  last_signed = last_signed ledger;
  last_commit = last_commit ledger;
  snapshot = snapshot_of ledger;
}

-- Of a ledger as a node reads it that has its entries up to a base from a snapshot, and so can't
-- tell which of them are signatures: each counts as one.
abbrev pub past_from : ℕ → List Entry → Past
past_from base ledger = record (past_of ledger) {
  signs_at = λ seqno.
      (nat_lt 0 seqno && nat_le seqno base) || signs_at (entry_at ledger seqno);
}

-- Of entries behind a base that is above 0, of which this body tells.
module _ (body : Body) where
  -- The entry at the base is a signature. It begins nothing.
  abbrev pub last_or_base : Option Entry → Last
  last_or_base None = record { view = body.view; signs = true; begins = false }
  last_or_base (Some e) = last_of e

  -- Each seqno up to the base counts as a signature's.
  abbrev pub signs_over : List Entry → ℕ → Bool
  signs_over es seqno =
      (nat_lt 0 seqno && nat_le seqno body.base) || signs_at (entry_at es (seqno - body.base))

  abbrev pub last_signed_over : List Entry → ℕ
  last_signed_over es = if last_signed es == 0 then body.base else body.base + last_signed es

  abbrev pub past_behind : List Entry → Past
  past_behind es =
      let now = history_over (governed_base body) (requests_over body es) in
      record {
        len = body.base + length es;
        last = Some (last_or_base (last_entry es));
        tables = tables_over body es;
        history = now;
        after = λ r. history_over (governed_base body) (requests_over body es ++ r ∷ []);
        nodes = map (λ (n : RecordedNode). n.id) (nodes.nodes now);
        removal = nodes.removal now;
        mark = nodes.mark now;
        root = root_of_peaks (all_peaks body es);
        signs_at = signs_over es;
        last_signed = last_signed_over es;
        last_commit = commit_from body.commit es;
        snapshot = snapshot_over body es;
      }

-- Of entries behind a base; where it is 0 they are the whole ledger.
abbrev pub past_at : ℕ → Body → List Entry → Past
past_at zero body es = past_of es
past_at (suc before) body es = past_behind body es

abbrev pub past_over : Body → List Entry → Past
past_over body es = past_at body.base body es
