-- The tables and the leaves of a ledger with one more entry.
use Rattle.std.proofs.Common.{◌≡◌, ℕ, suc, ◌<◌, List, [], ◌∷◌, ◌++◌, length, Some, Bool, true, false, max, if◌then◌else◌, refl, sym, ◌∙◌, ap, arith}
use Rattle.std.specs.List.{slice_get}
use Rattle.std.proofs.lemmas.Grind.{flat_map-append}
use Rattle.std.proofs.lemmas.List.{append-nil}
use Rattle.gl_vmaps.specs.Tables.{Tables, no_tables, wrote, wrote_all}
use Rattle.gl_vmaps.specs.Versions.{Placed, placed_at, written_after, greatest_place, version_in, is_to_row, IsAbove}
use Rattle.gl_vmaps.proofs.TablesLaws.{written_after-append}
use Rattle.gl_vmaps.specs.declared.write.Write.{Write}
use Rattle.gl_entry.specs.Leaf.{leaf_of}
use Rattle.gl_entry.specs.declared.entry.Entry.{Entry}
use Rattle.gl_ledger.specs.ServiceRow.{identity_in}
use Rattle.gl_ledger.specs.Serial.{IsLedger}
use Rattle.gl_ledger.specs.Tree.{writes_of, tables_of, leaves_from, leaves_of}
use Rattle.gl_base.proofs.Lists.{slice_get-within}

-- the writes of an entry, at its place
abbrev pub placed_in : Entry → List Placed
placed_in e = placed_at e.seqno e.writes

-- ---- the tables

-- places make no difference to what a write set makes of tables
pub written_after-placed_at : (t : Tables) (place : ℕ) (ws : List Write) → written_after t (placed_at place ws) ≡ wrote_all t ws
written_after-placed_at t place [] = refl
written_after-placed_at t place (w ∷ ws) = written_after-placed_at (wrote t w) place ws

pub writes_of-push : (ledger : List Entry) (e : Entry) → writes_of (ledger ++ e ∷ []) ≡ writes_of ledger ++ placed_in e
writes_of-push ledger e = flat_map-append placed_in ledger (e ∷ []) ∙ ap (λ (ps : List Placed). writes_of ledger ++ ps) (append-nil (placed_in e))

-- what is written after an entry and others is written after what the entry makes
written_after-cons : (t : Tables) (e : Entry) (es : List Entry) → written_after t (writes_of (e ∷ es)) ≡ written_after (wrote_all t e.writes) (writes_of es)
written_after-cons t e es =
    written_after-append t (placed_in e) (writes_of es) ∙ ap (λ (s : Tables). written_after s (writes_of es)) (written_after-placed_at t e.seqno e.writes)

-- the last entry's writes come after all others
pub tables_of-push : (ledger : List Entry) (e : Entry) → tables_of (ledger ++ e ∷ []) ≡ wrote_all (tables_of ledger) e.writes
tables_of-push ledger e =
    ap (written_after no_tables) (writes_of-push ledger e) ∙ written_after-append no_tables (writes_of ledger) (placed_in e)
    ∙ written_after-placed_at (tables_of ledger) e.seqno e.writes

-- ---- the leaves

-- the leaf of an entry after tables
abbrev pub leaf_after : Tables → Entry → List ℕ
leaf_after t e = leaf_of (identity_in (wrote_all t e.writes)) e

leaves_from-push : (t : Tables) (es : List Entry) (e : Entry) →
    leaves_from t (es ++ e ∷ []) ≡ leaves_from t es ++ leaf_after (written_after t (writes_of es)) e ∷ []
leaves_from-push t [] e = refl
leaves_from-push t (f ∷ es) e =
    ap (λ (ls : List (List ℕ)). leaf_after t f ∷ ls)
    (leaves_from-push (wrote_all t f.writes) es e
    ∙ ap (λ (s : Tables). leaves_from (wrote_all t f.writes) es ++ leaf_after s e ∷ []) (sym (written_after-cons t f es)))

-- the last entry's leaf comes after all others, under the identity that is in force there
pub leaves_of-push : (ledger : List Entry) (e : Entry) → leaves_of (ledger ++ e ∷ []) ≡ leaves_of ledger ++ leaf_after (tables_of ledger) e ∷ []
leaves_of-push ledger e = leaves_from-push no_tables ledger e

-- each entry has one leaf
length-leaves_from : (t : Tables) (es : List Entry) → length (leaves_from t es) ≡ length es
length-leaves_from t [] = refl
length-leaves_from t (e ∷ es) = ap suc (length-leaves_from (wrote_all t e.writes) es)

pub length-leaves_of : (ledger : List Entry) → length (leaves_of ledger) ≡ length ledger
length-leaves_of ledger = length-leaves_from no_tables ledger

-- ---- the places of writes

above-append : (place : ℕ) (ps qs : List Placed) → IsAbove place ps → IsAbove place qs → IsAbove place (ps ++ qs)
above-append place [] qs all rest = rest
above-append place (p ∷ ps) qs all rest = (all.0, above-append place ps qs all.1 rest)

above-placed_at : (place low : ℕ) (ws : List Write) → low < place → IsAbove place (placed_at low ws)
above-placed_at place low [] less = tt
above-placed_at place low (w ∷ ws) less = (less, above-placed_at place low ws less)

above_each : (place : ℕ) (es : List Entry) → ((i : ℕ) (e : Entry) → slice_get es i ≡ Some e → e.seqno < place) → IsAbove place (writes_of es)
above_each place [] below = tt
above_each place (e ∷ es) below = above-append place (placed_in e) (writes_of es) (above-placed_at place e.seqno e.writes (below 0 e refl)) (above_each place es (λ i f s. below (suc i) f s))

next_above : (ledger : List Entry) → IsLedger ledger → IsAbove (suc (length ledger)) (writes_of ledger)
next_above ledger h =
    above_each (suc (length ledger)) ledger
    (λ i e s. let there : i < length ledger = slice_get-within ledger i e s in let place : e.seqno ≡ suc i = h.seqnos i e s in omega arith)

greatest_below : (is_such : Write → Bool) (place : ℕ) (ps : List Placed) → 0 < place → IsAbove place ps → greatest_place is_such ps < place
greatest_below is_such place [] some all = some
greatest_below is_such place (p ∷ ps) some all = go (is_such p.write) (greatest_below is_such place ps some all.1)
  where
    go : (b : Bool) → greatest_place is_such ps < place → max (if b then p.place else 0) (greatest_place is_such ps) < place
    go true rest = let first : p.place < place = all.0 in omega arith
    go false rest = omega arith

-- the next seqno is above the version of each row
pub version_below : (ledger : List Entry) → IsLedger ledger → (map key : List ℕ) → version_in (writes_of ledger) map key < suc (length ledger)
version_below ledger h map key = greatest_below (is_to_row map key) (suc (length ledger)) (writes_of ledger) (omega arith) (next_above ledger h)
