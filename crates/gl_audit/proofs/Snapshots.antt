-- The body of a snapshot, by what is kept of entries.
use Rattle.std.proofs.Common.{◌≡◌, ℕ, zero, suc, ◌+◌, ◌-◌, ◌≤◌, true, List, [], ◌∷◌, ◌++◌, map, max, length, take, refl, sym, ◌∙◌, ap, ap₂, arith}
use Rattle.std.specs.List.{flat_map, list_all}
use Rattle.std.proofs.lemmas.Bool.{and_parts}
use Rattle.std.proofs.lemmas.List.{map-append, length-take-le}
use Rattle.std.proofs.Math.Seq.{take-length}
use Rattle.gl_base.proofs.Lists.{take-past}
use Rattle.gl_merkle.specs.Peaks.{peaks_over}
use Rattle.gl_vmaps.specs.Rows.{rows_over, are_ascending}
use Rattle.gl_vmaps.specs.Versions.{Placed, placed_at, up_to, writes_up_to}
use Rattle.gl_vmaps.specs.declared.row.Row.{Row}
use Rattle.gl_vmaps.specs.declared.write.Write.{Write}
use Rattle.gl_entry.specs.declared.entry.Entry.{Entry}
use Rattle.gl_snapshot_body.specs.Body.{are_rows, is_row}
use Rattle.gl_snapshot_body.specs.declared.body.Body.{Body}
use Rattle.gl_snapshot_body.specs.declared.body.ViewStart.{ViewStart}
use Rattle.gl_snapshot_body.proofs.BodyLaws.{parts_of}
use Rattle.gl_ledger.specs.NodeKeys.{service_layers}
use Rattle.gl_ledger.specs.Snapshot.{all_peaks, leaves_over, snapshot_over}
use Rattle.gl_ledger.specs.Tree.{writes_of}
use Rattle.gl_ledger.specs.Behind.{IsReadAt, IsReadBody}
use Rattle.gl_audit.specs.Ends.{end_over, view_of}
use Rattle.gl_audit.specs.Kept.{starts_up_to, IsStateOver}
use Rattle.gl_audit.specs.declared.ledger_end.LedgerEnd.{LedgerEnd}
use Rattle.gl_audit.specs.declared.ledger_state.LedgerState.{LedgerState}
use Rattle.gl_audit.proofs.Cutting.{CountFrom, leaves_over-take, writes_from-take}
use Rattle.gl_ledger.proofs.EachPassing.{over-take}
use Rattle.gl_audit.proofs.Ends.{commit_over, view_over}
use Rattle.gl_audit.proofs.GovernanceBehind.{numbered_over}
use Rattle.gl_audit.proofs.GreatestCommits.{greatest_over}
use Rattle.gl_audit.proofs.PastOver.{count_kept, end_len}
use Rattle.gl_audit.proofs.TreeOver.{all_peaks_over, peaks_up_to}
use Rattle.gl_audit.proofs.ViewStarts.{starts_over-take}

-- ---- the rows

placed_writes : (place : ℕ) (ws : List Write) → map (λ (p : Placed). p.write) (placed_at place ws) ≡ ws
placed_writes place [] = refl
placed_writes place (w ∷ ws) = ap (λ (vs : List Write). w ∷ vs) (placed_writes place ws)

-- the writes of entries without their places
pub all_writes : (es : List Entry) → map (λ (p : Placed). p.write) (writes_of es) ≡ flat_map (λ (e : Entry). e.writes) es
all_writes [] = refl
all_writes (e ∷ es) =
    map-append (λ (p : Placed). p.write) (placed_at e.seqno e.writes) (writes_of es)
    ∙ ap₂ (λ (vs ws : List Write). vs ++ ws) (placed_writes e.seqno e.writes) (all_writes es)

-- the writes of entries behind a base up to the last one are all
written_up_to : (base : ℕ) (es : List Entry) (len : ℕ) → CountFrom (suc base) es → len ≡ base + length es → writes_up_to len (writes_of es) ≡ flat_map (λ (e : Entry). e.writes) es
written_up_to base es len count at =
    ap (map (λ (p : Placed). p.write))
    (ap (λ (n : ℕ). up_to n (writes_of es)) at ∙ sym (writes_from-take base es (length es) count) ∙ ap writes_of (take-length es))
    ∙ all_writes es

-- and those up to a seqno are all of the entries up to it
written_in : (base : ℕ) (es : List Entry) (to : ℕ) → CountFrom (suc base) es → base ≤ to → writes_up_to to (writes_of es) ≡ flat_map (λ (e : Entry). e.writes) (take (to - base) es)
written_in base es to count low =
    ap (map (λ (p : Placed). p.write))
    (ap (λ (n : ℕ). up_to n (writes_of es)) (let same : to ≡ base + (to - base) = omega (arith, low) in same) ∙ sym (writes_from-take base es (to - base) count))
    ∙ all_writes (take (to - base) es)

-- the rows of a body that was read ascend
pub rows_ascending : (body : Body) → IsReadBody body → are_ascending body.rows ≡ true
rows_ascending body read = go body.base read
  where
    go : (n : ℕ) → IsReadAt n body → are_ascending body.rows ≡ true
    go zero none = ap (λ (b : Body). are_ascending b.rows) none
    go (suc n) b = (and_parts (list_all is_row body.rows) (are_ascending body.rows) (and_parts _ (are_rows body.rows) (parts_of body b.fits).rows).1).1

-- ---- the body

body_with : ℕ → ℕ → ℕ → List ViewStart → List (List ℕ) → List Row → Body
body_with base view commit views peaks rows = record { base = base; view = view; commit = commit; views = views; peaks = peaks; rows = rows }

body_made : (body : Body) (base view commit : ℕ) (views : List ViewStart) (peaks : List (List ℕ)) (rows : List Row) → body.base ≡ base → body.view ≡ view → body.commit ≡ commit → body.views ≡ views →
    body.peaks ≡ peaks → body.rows ≡ rows → body ≡ record { base = base; view = view; commit = commit; views = views; peaks = peaks; rows = rows }
unfolding body_with
body_made body base view commit views peaks rows is_base is_view is_commit is_views is_peaks is_rows =
    ap₂ (λ (a b : ℕ). body_with a b body.commit body.views body.peaks body.rows) is_base is_view
    ∙ ap₂ (λ (a : ℕ) (b : List ViewStart). body_with base view a b body.peaks body.rows) is_commit is_views
    ∙ ap₂ (λ (a : List (List ℕ)) (b : List Row). body_with base view commit views a b) is_peaks is_rows

-- the peaks of all leaves that are kept are those of all entries
pub peaks_kept : (before : Body) (es : List Entry) (s : LedgerState) (peaks : List (List ℕ)) → IsStateOver before es s →
    peaks ≡ peaks_over s.frontier.base s.frontier.peaks (take (s.end.len - s.frontier.base) s.frontier.leaves) → peaks ≡ all_peaks before es
peaks_kept before es s peaks k are =
    let count = count_kept before es s k in
    are ∙ ap (peaks_over s.frontier.base s.frontier.peaks) (take-past s.frontier.leaves (s.end.len - s.frontier.base) (omega (arith, count)))
    ∙ all_peaks_over before (leaves_over before es) s.frontier k.tree

-- the body with what is kept of entries is that of their snapshot
pub snapshot_kept : (before : Body) (es : List Entry) (s : LedgerState) (body : Body) → IsStateOver before es s → body.base ≡ s.end.len → body.view ≡ view_of s.end.last →
    body.commit ≡ max s.base_commit s.end.commit → body.views ≡ s.views.items →
    body.peaks ≡ all_peaks before es →
    body.rows ≡ rows_over before.rows (writes_up_to s.end.len (writes_of es)) → body ≡ snapshot_over before es
snapshot_kept before es s body k base view commit views peaks rows =
    body_made body _ _ _ _ _ _ (base ∙ len) (view ∙ ap (λ (end : LedgerEnd). view_of end.last) k.ends ∙ view_over before es k.read)
    (commit ∙ ap₂ max k.base_commit_is (ap (λ (end : LedgerEnd). end.commit) k.ends ∙ commit_over before es k.read) ∙ sym (greatest_over before es k.read k.valid)) (views ∙ k.views)
    peaks
    (rows ∙ ap (rows_over before.rows) (written_up_to before.base es s.end.len numbered len))
  where
    len : s.end.len ≡ before.base + length es
    len = end_len before es s k

    numbered : CountFrom (suc before.base) es
    numbered i e at = let place = numbered_over service_layers before es k.valid i e at in omega (arith, place)

-- ---- up to a seqno

-- the entries up to the last one are all
pub all_taken : (before : Body) (es : List Entry) (s : LedgerState) → IsStateOver before es s → take (s.end.len - before.base) es ≡ es
all_taken before es s k = let len = end_len before es s k in take-past es (s.end.len - before.base) (omega (arith, len))

-- the body with what is kept up to a seqno, where the entries up to it end so, is that of their snapshot
pub snapshot_cut : (before : Body) (es : List Entry) (s : LedgerState) (body : Body) (to : ℕ) (end : LedgerEnd) → IsStateOver before es s → s.frontier.base ≤ to → to ≤ s.end.len →
    end ≡ end_over before (take (to - before.base) es) → body.base ≡ to → body.view ≡ view_of end.last →
    body.commit ≡ max s.base_commit end.commit → body.views ≡ starts_up_to to s.views.items →
    body.peaks ≡ peaks_over s.frontier.base s.frontier.peaks (take (to - s.frontier.base) s.frontier.leaves) →
    body.rows ≡ rows_over before.rows (writes_up_to to (writes_of es)) → body ≡ snapshot_over before (take (to - before.base) es)
snapshot_cut before es s body to end k low within ends base view commit views peaks rows =
    body_made body _ _ _ _ _ _ (base ∙ (let at : to ≡ before.base + length (take (to - before.base) es) = omega (arith, long, above) in at)) (view ∙ ap (λ (end : LedgerEnd). view_of end.last) ends ∙ view_over before (take (to - before.base) es) k.read)
    (commit ∙ ap₂ max k.base_commit_is (ap (λ (end : LedgerEnd). end.commit) ends ∙ commit_over before (take (to - before.base) es) k.read)
    ∙ sym (greatest_over before (take (to - before.base) es) k.read (over-take service_layers before es (to - before.base) k.valid)))
    (views ∙ ap (starts_up_to to) k.views ∙ sym (starts_over-take before es to k.read numbered above))
    (peaks ∙ peaks_up_to before (leaves_over before es) s.frontier k.tree to low ∙ ap (peaks_over before.base before.peaks) (sym (leaves_over-take before es (to - before.base))))
    (rows ∙ ap (rows_over before.rows) (written_in before.base es to numbered above))
  where
    above : before.base ≤ to
    above = let from = k.tree.from_base in omega (arith, from, low)

    long : length (take (to - before.base) es) ≡ to - before.base
    long = let len = end_len before es s k in length-take-le (to - before.base) es (omega (arith, len, within))

    numbered : CountFrom (suc before.base) es
    numbered i e at = let place = numbered_over service_layers before es k.valid i e at in omega (arith, place)
