-- The tables, the leaves and the peaks of entries behind a base with one more entry.
use Rattle.std.proofs.Common.{◌≡◌, ℕ, suc, ◌+◌, List, [], ◌∷◌, ◌++◌, length, refl, sym, ◌∙◌, ap, append_assoc}
use Rattle.gl_merkle.specs.Peaks.{peaks_with, peaks_over}
use Rattle.gl_merkle.proofs.MorePeaks.{peaks_over-push}
use Rattle.gl_vmaps.specs.Rows.{row_writes, tables_with}
use Rattle.gl_vmaps.specs.Tables.{Tables, no_tables, wrote_all}
use Rattle.gl_vmaps.specs.Versions.{Placed, placed_at, written_after}
use Rattle.gl_vmaps.proofs.TablesLaws.{written_after-append}
use Rattle.gl_entry.specs.Leaf.{leaf_of}
use Rattle.gl_entry.specs.declared.entry.Entry.{Entry}
use Rattle.gl_snapshot_body.specs.declared.body.Body.{Body}
use Rattle.gl_ledger.specs.ServiceRow.{identity_in}
use Rattle.gl_ledger.specs.Snapshot.{writes_over, tables_over, leaves_over, all_peaks}
use Rattle.gl_ledger.specs.Tree.{writes_of, leaves_from}
use Rattle.gl_ledger.proofs.TablesLaws.{placed_in, leaf_after, writes_of-push, written_after-placed_at}

-- ---- writes and tables

pub writes_over-push : (body : Body) (es : List Entry) (e : Entry) → writes_over body (es ++ e ∷ []) ≡ writes_over body es ++ placed_in e
writes_over-push body es e =
    ap (λ (ps : List Placed). placed_at 0 (row_writes body.rows) ++ ps) (writes_of-push es e) ∙ sym (append_assoc (placed_at 0 (row_writes body.rows)) (writes_of es) (placed_in e))

pub tables_over-push : (body : Body) (es : List Entry) (e : Entry) → tables_over body (es ++ e ∷ []) ≡ wrote_all (tables_over body es) e.writes
tables_over-push body es e =
    ap (written_after no_tables) (writes_over-push body es e) ∙ written_after-append no_tables (writes_over body es) (placed_in e) ∙ written_after-placed_at (tables_over body es) e.seqno e.writes

-- the tables with the body's rows come first
begun_with : (body : Body) (es : List Entry) → written_after (tables_with body.rows) (writes_of es) ≡ tables_over body es
begun_with body es =
    ap (λ (t : Tables). written_after t (writes_of es)) (sym (written_after-placed_at no_tables 0 (row_writes body.rows)))
    ∙ sym (written_after-append no_tables (placed_at 0 (row_writes body.rows)) (writes_of es))

-- ---- leaves

-- the last entry's leaf comes after all others, after whatever tables these stand
after_tables : (t : Tables) (es : List Entry) (e : Entry) → leaves_from t (es ++ e ∷ []) ≡ leaves_from t es ++ leaf_after (written_after t (writes_of es)) e ∷ []
after_tables t [] e = refl
after_tables t (f ∷ es) e =
    ap (λ (ls : List (List ℕ)). leaf_after t f ∷ ls)
    (after_tables (wrote_all t f.writes) es e
    ∙ ap (λ (s : Tables). leaves_from (wrote_all t f.writes) es ++ leaf_after s e ∷ [])
    (sym (written_after-append t (placed_in f) (writes_of es) ∙ ap (λ (s : Tables). written_after s (writes_of es)) (written_after-placed_at t f.seqno f.writes))))

pub leaves_over-push : (body : Body) (es : List Entry) (e : Entry) → leaves_over body (es ++ e ∷ []) ≡ leaves_over body es ++ leaf_after (tables_over body es) e ∷ []
leaves_over-push body es e =
    after_tables (tables_with body.rows) es e ∙ ap (λ (t : Tables). leaves_over body es ++ leaf_after t e ∷ []) (begun_with body es)

-- under the identity that is in force with the entry
last_leaf : (body : Body) (es : List Entry) (e : Entry) → leaf_after (tables_over body es) e ≡ leaf_of (identity_in (tables_over body (es ++ e ∷ []))) e
last_leaf body es e = ap (λ (t : Tables). leaf_of (identity_in t) e) (sym (tables_over-push body es e))

pub leaves_pushed : (body : Body) (es : List Entry) (e : Entry) → leaves_over body (es ++ e ∷ []) ≡ leaves_over body es ++ leaf_of (identity_in (tables_over body (es ++ e ∷ []))) e ∷ []
leaves_pushed body es e = leaves_over-push body es e ∙ ap (λ (x : List ℕ). leaves_over body es ++ x ∷ []) (last_leaf body es e)

one_each : (t : Tables) (es : List Entry) → length (leaves_from t es) ≡ length es
one_each t [] = refl
one_each t (e ∷ es) = ap suc (one_each (wrote_all t e.writes) es)

pub length-leaves_over : (body : Body) (es : List Entry) → length (leaves_over body es) ≡ length es
length-leaves_over body es = one_each (tables_with body.rows) es

-- ---- peaks

pub peaks_pushed : (body : Body) (es : List Entry) (e : Entry) →
    all_peaks body (es ++ e ∷ []) ≡ peaks_with (suc (body.base + length es)) (body.base + length es) (all_peaks body es) (leaf_of (identity_in (tables_over body (es ++ e ∷ []))) e)
peaks_pushed body es e =
    ap (peaks_over body.base body.peaks) (leaves_pushed body es e)
    ∙ peaks_over-push body.base body.peaks (leaves_over body es) (leaf_of (identity_in (tables_over body (es ++ e ∷ []))) e)
    ∙ ap (λ (n : ℕ). peaks_with (suc (body.base + n)) (body.base + n) (all_peaks body es) (leaf_of (identity_in (tables_over body (es ++ e ∷ []))) e)) (length-leaves_over body es)
