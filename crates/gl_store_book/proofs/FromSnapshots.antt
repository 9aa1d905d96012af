-- A node's file that begins from a snapshot: what its record folds into.
use Rattle.std.proofs.Common.{◌≡◌, ℕ, ◌≤◌, Bool, true, false, ◌&&◌, ◌==◌, if◌then◌else◌, nat_lt, List, [], ◌∷◌, Option, None, Some, is_some, is_ok, Result, Ok, length, refl, sym, ap, subst, ◌∙◌, arith, ltb-false}
use Rattle.std.proofs.lemmas.Bool.{and_parts, or_parts}
use Rattle.std.proofs.lemmas.List.{nil_from_length}
use Rattle.gl_base.proofs.Steps.{ok_injective}
use Rattle.gl_vmaps.specs.declared.row.Row.{Row}
use Rattle.gl_gov_rules.specs.GovernedRows.{governed_rows, no_rows}
use Rattle.gl_gov_rules.specs.declared.row.GovernedRows.{GovernedRows}
use Rattle.gl_gov_rules.specs.declared.row.ServiceRow.{ServiceRow}
use Rattle.gl_gov_base.proofs.RowsCollected.{Ended, rows_ended}
use Rattle.gl_hss.specs.Secrets.{PrivateKey}
use Rattle.gl_outside.specs.Disk.{Step}
use Rattle.gl_rules.specs.Identity.{NodeId}
use Rattle.gl_journal.specs.Durable.{Durable, fold_record, fold_records, leaf_count, raised}
use Rattle.gl_journal.specs.declared.durable.Durable as journal
use Rattle.gl_journal.specs.declared.journal.Journal.{Journal}
use Rattle.gl_journal.specs.declared.key.KeyKind.TheVariants.{Node}
use Rattle.gl_journal.specs.Records.{Install, then_some}
use Rattle.gl_ledger.specs.Behind.{IsBaseBody}
use Rattle.gl_snapshot.specs.Parsing.{body_of as governed_body}
use Rattle.gl_snapshot.specs.declared.fault.SnapshotFault.{SnapshotFault}
use Rattle.gl_snapshot.specs.declared.snapshot.Snapshot.{Snapshot}
use Rattle.gl_snapshot.proofs.Parts.{body-reads}
use Rattle.gl_snapshot_body.specs.Body.{body_bytes}
use Rattle.gl_snapshot_body.specs.declared.body.Body.{Body}
use Rattle.gl_store_book.specs.Frames.{goes_on_ledger}
use Rattle.gl_store_book.specs.FromSnapshot.{IsBehind, IsReadBehind, installed_state, verified_snapshot}
use Rattle.gl_store_book.specs.NodeFile.{IsFileOfNode, IsNodeFile, IsOpened, StandsOnSnapshot, has_ledger, key_of, node_of, seen_state}
use Rattle.gl_store_book.specs.declared.node_file.ledger_log.LedgerLog.{LedgerLog}
use Rattle.gl_store_book.specs.declared.node_file.from_snapshot.Behind.{Behind}

-- rows of governance that spell have the service's
pub service_there : (base : ℕ) (rows : List Row) (g : GovernedRows) → governed_rows base rows ≡ Ok g → g.service ≡ None → ⊥
unfolding governed_rows
service_there base rows g read none =
    let ended = rows_ended 0 (no_rows base) rows g read in
    let there : is_some g.service ≡ true =
    ap (λ (n : GovernedRows). is_some n.service) (sym ended.is)
    ∙ (and_parts (is_some ended.last.service) (is_some ended.last.dealing) (and_parts (is_some ended.last.service && is_some ended.last.dealing) (length ended.last.rules == 7) ended.full).0).0 in
    let lacks : is_some g.service ≡ false = ap (λ (o : Option ServiceRow). is_some o) none in
    cc

-- one record that folds, as a batch
pub folds_alone : (d next : Durable) (body : List ℕ) → fold_record goes_on_ledger d (Install body) ≡ Some next → fold_records goes_on_ledger d (Install body ∷ []) ≡ Some next
folds_alone d next body folds = ap (λ (o : Option Durable). then_some o (λ n. Some n)) folds

-- a file without a ledger has no entry
pub none_kept : (d : Durable) → has_ledger d ≡ false → (d.base ≡ 0) × (d.log ≡ [])
none_kept d none =
    let parts = or_parts (nat_lt 0 d.base) (nat_lt 0 (length d.log)) none in
    let base = ltb-false 0 d.base parts.0 in
    let long = ltb-false 0 (length d.log) parts.1 in
    (omega (arith, base), nil_from_length d.log (omega (arith, long)))

-- the record of a snapshot folds there
pub snapshot_folds : (d : Durable) (body : Body) → has_ledger d ≡ false → IsBaseBody body → fold_record goes_on_ledger d (Install (body_bytes body)) ≡ Some (installed_state body d)
snapshot_folds d body none is =
    let kept = none_kept d none in
    let read : governed_body 0 (body_bytes body) ≡ Ok body = body-reads 0 body is.fits (ap (λ (r : Result GovernedRows ℕ). is_ok r) is.spelled) in
    rw (kept.0, kept.1, read) refl

-- so does that of the snapshot that is all of some bytes
pub behind_folds : (bytes encoded : List ℕ) (b : Behind) (d : Durable) (s : Snapshot) → has_ledger d ≡ false → IsReadBehind bytes b → encoded ≡ b.body.items → verified_snapshot bytes ≡ Ok s
    → fold_record goes_on_ledger d (Install encoded) ≡ Some (installed_state s.body d)
behind_folds bytes encoded b d s none r is verified =
    let same : r.snapshot ≡ s = ok_injective {E = SnapshotFault} r.snapshot s (sym r.verified ∙ verified) in
    ap (λ (bs : List ℕ). fold_record goes_on_ledger d (Install bs)) (is ∙ r.behind.bytes) ∙ snapshot_folds d r.snapshot.body none r.read
    ∙ ap (λ (x : Snapshot). Some (installed_state x.body d)) same

-- ---- the file then

-- A file's key is that of a node, as a file that was opened has it.
record IsOfNode (d : Durable) (key : PrivateKey) (me : NodeId) : Type 0 where
  kind : d.key.kind ≡ Node
  within : d.reserved ≤ leaf_count d
  grown : key ≡ key_of d
  named : me ≡ node_of d

raised_node : (view : ℕ) (d : Durable) (key : PrivateKey) (me : NodeId) → IsOfNode d key me → IsOfNode (raised view d) key me
raised_node view d key me n = go (nat_lt d.view view)
  where
    go : (b : Bool) → IsOfNode (if b then record d { view = view; vote = None } else d) key me
    go true = record { kind = n.kind; within = n.within; grown = n.grown; named = n.named }
    go false = n

-- What a file is made to hold, once the snapshot that is all of some bytes was made ready.
pub record IsMadeOf (bytes : List ℕ) (b : Behind) (d : Durable) (next : journal.Durable LedgerLog) : Type 0 where
  pub none : has_ledger d ≡ false
  pub read : IsReadBehind bytes b
  pub state : (body : Body) → IsBehind body b → d.log ≡ [] → seen_state next ≡ installed_state body d
  pub stands : (body : Body) → IsBehind body b → StandsOnSnapshot next

module _ (bytes : List ℕ) (b : Behind) (d : Durable) (next : journal.Durable LedgerLog) (m : IsMadeOf bytes b d next) where
  made_state : seen_state next ≡ installed_state m.read.snapshot.body d
  made_state = m.state m.read.snapshot.body m.read.behind (none_kept d m.none).1

  pub holds : (given : Durable) (s : Snapshot) → d ≡ given → verified_snapshot bytes ≡ Ok s → seen_state next ≡ installed_state s.body given
  holds given s seen verified =
      let same : m.read.snapshot ≡ s = ok_injective {E = SnapshotFault} m.read.snapshot s (sym m.read.verified ∙ verified) in
      made_state ∙ ap (λ (x : Snapshot). installed_state x.body d) same ∙ ap (λ (x : Durable). installed_state s.body x) seen

  -- it has a snapshot
  pub not_without : (seen_state next).snapshot ≡ None → ⊥
  not_without none =
      let some : Some (body_bytes m.read.snapshot.body) ≡ None = ap (λ (x : Durable). x.snapshot) (sym made_state) ∙ none in
      cc

  -- and is the file of the same node
  pub made_file : {D : Type 0} (honest : Bool) (bytes_of : D → List ℕ) (past : D → List Step) (old new : Journal D) (key : PrivateKey) (me : NodeId) → IsNodeFile honest bytes_of past old d key me
      → ((s : Snapshot) → verified_snapshot bytes ≡ Ok s → IsOpened honest bytes_of past new (installed_state s.body d)) → IsFileOfNode honest bytes_of past new next key me
  made_file honest bytes_of past old new key me file opens =
      let body = m.read.snapshot.body in
      let n = raised_node body.view d key me (record { kind = file.kind; within = file.within; grown = file.grown; named = file.named }) in
      let here : IsNodeFile honest bytes_of past new (installed_state body d) key me =
      record { file = opens m.read.snapshot m.read.verified; kind = n.kind; within = n.within; grown = n.grown; named = n.named } in
      record {
        file = subst (λ (x : Durable). IsNodeFile honest bytes_of past new x key me) (sym made_state) here;
        stands = m.stands body m.read.behind;
      }
