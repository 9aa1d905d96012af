-- The snapshot of a ledger that breaks no rule is a body that can be read: its fields are in their
-- ranges, and its rows of governance spell.
use Rattle.std.proofs.Common.{◌≡◌, ℕ, zero, suc, ◌+◌, ◌-◌, ◌/◌, ◌%◌, ◌^◌, ◌<◌, ◌≤◌, nat_eq, nat_le, nat_lt, ◌==◌, Bool, true, false, ◌&&◌, if◌then◌else◌, List, [], ◌∷◌, ◌++◌, length, take, slice_get, get_or, Option, Some, None, count_ones, filter_map, option_map, refl, sym, ◌∙◌, ap, subst, arith, length-append}
use Rattle.std.specs.List.{cons_option, flat_map, list_all}
use Rattle.std.proofs.lemmas.Bool.{and_parts, and_from, eq-eqb}
use Rattle.std.proofs.lemmas.Bool.Decides.{nat_tests}
use Rattle.std.proofs.lemmas.List.{nil_from_length}
use Rattle.std.proofs.lemmas.List.Folds.{list_all-append}
use Rattle.gl_base.specs.Bytes.{is_digest}
use Rattle.gl_base.specs.Row.{map_name_bytes, key_bytes, value_bytes}
use Rattle.gl_base.specs.TxId.{last_seqno}
use Rattle.gl_base.proofs.RowLaws.{length-encoded}
use Rattle.gl_merkle.specs.Peaks.{peaks_of, peaks_over, peaks_with, peaks_within}
use Rattle.gl_merkle.specs.Tree.{inner_of}
use Rattle.gl_merkle.proofs.MorePeaks.{peaks_of-more}
use Rattle.gl_merkle.proofs.PeakLemmas.{length-peaks_within}
use Rattle.gl_merkle.proofs.TreeLemmas.{below_pow}
use Rattle.gl_rules.specs.World.{first_view}
use Rattle.gl_vmaps.specs.Changes.{set_from}
use Rattle.gl_vmaps.specs.Name.{is_key, is_map_name}
use Rattle.gl_vmaps.specs.Rows.{are_ascending, row_left}
use Rattle.gl_vmaps.specs.Tables.{Tables, no_tables, wrote_all}
use Rattle.gl_vmaps.specs.Writes.{is_ordered, is_write, is_written_value}
use Rattle.gl_vmaps.specs.declared.row.Row.{Row}
use Rattle.gl_vmaps.specs.declared.write.Write.{Write}
use Rattle.gl_vmaps.proofs.RowsOverLaws.{ordered-over}
use Rattle.gl_vmaps.proofs.WriteSets.{list_all-set_from}
use Rattle.gl_entry.specs.Entry.{is_content, is_entry}
use Rattle.gl_entry.specs.Leaf.{leaf_of}
use Rattle.gl_entry.specs.declared.entry.Entry.{Entry}
use Rattle.gl_entry.proofs.EntryRanges.{fits_parts}
use Rattle.gl_gov_rules.proofs.Digests.{sha256_digest}
use Rattle.gl_snapshot_body.specs.Body.{are_peaks, are_rows, are_starts, body_bytes, follow, head_bytes, is_body, is_row, is_start, is_start_after, row_bytes, snapshot_limit}
use Rattle.gl_snapshot_body.specs.declared.body.Body.{Body}
use Rattle.gl_snapshot_body.specs.declared.body.ViewStart.{ViewStart}
use Rattle.gl_snapshot_body.proofs.BodyLaws.{of_parts}
use Rattle.gl_snapshot_body.proofs.Sizes.{length-head_bytes}
use Rattle.gl_ledger.specs.Behind.{IsBaseBody, IsReadAt, IsReadBody}
use Rattle.gl_ledger.specs.Layers.{Layers}
use Rattle.gl_ledger.specs.Recordings.{last_entry}
use Rattle.gl_ledger.specs.ServiceRow.{identity_in}
use Rattle.gl_ledger.specs.Serial.{IsLedger}
use Rattle.gl_ledger.specs.Snapshot.{snapshot_of, starts_from, view_or}
use Rattle.gl_ledger.specs.Tree.{leaves_from, leaves_of}
use Rattle.gl_ledger.proofs.TablesLaws.{length-leaves_of}
use Rattle.gl_ledger_base.specs.Ledgers.{IsBase}
use Rattle.gl_ledger_base.proofs.LedgersAlike.{rows_spelled}
use Rattle.gl_ledger_base.proofs.LedgersRead.{IsRead, is_read}

-- ---- tests of numbers

lt_true : (a b : ℕ) → a < b → nat_lt a b ≡ true
lt_true a b low = grind (arith, nat_tests)

le_true : (a b : ℕ) → a ≤ b → nat_le a b ≡ true
le_true a b low = grind (arith, nat_tests)

same_number : (a b : ℕ) → (a == b) ≡ true → a ≡ b
same_number a b is = grind (arith, nat_tests)

later_number : (a b : ℕ) → a ≤ b → (b == a) ≡ false → a < b
later_number a b low other = grind (arith, nat_tests)

-- ---- where views start

-- entries in order from a seqno on, of views that never fall below one
record AreBehind (n view : ℕ) (es : List Entry) : Type 0 where
  fits : (i : ℕ) (e : Entry) → slice_get es i ≡ Some e → is_entry e ≡ true
  counted : (i : ℕ) (e : Entry) → slice_get es i ≡ Some e → e.seqno ≡ n + i
  up : (i : ℕ) (e : Entry) → slice_get es i ≡ Some e → view ≤ e.view
  views : (i j : ℕ) (e f : Entry) → i ≤ j → slice_get es i ≡ Some e → slice_get es j ≡ Some f → e.view ≤ f.view

rest_behind : (n view : ℕ) (e : Entry) (es : List Entry) → AreBehind n view (e ∷ es) → AreBehind (suc n) e.view es
rest_behind n view e es all = record {
  fits = λ i f at. all.fits (suc i) f at;
  counted = λ i f at. all.counted (suc i) f at ∙ omega arith;
  up = λ i f at. all.views 0 (suc i) e f (omega arith) refl at;
  views = λ i j f g le at further. all.views (suc i) (suc j) f g (omega (arith, le)) at further;
}

abbrev start_of : Entry → ViewStart
start_of e = record { view = e.view; seqno = e.seqno }

-- an entry within its format is a start
start_fits : (e : Entry) → is_entry e ≡ true → is_start (start_of e) ≡ true
start_fits e is =
    let fits = fits_parts e is in
    and_from (nat_lt e.view (2 ^ 32)) (nat_lt e.seqno (2 ^ 64)) (lt_true e.view (2 ^ 32) fits.view) (lt_true e.seqno (2 ^ 64) fits.seqno)

starts_behind : (base n : ℕ) (last : ViewStart) (es : List Entry) → last.seqno < n → n + length es ≤ base + 1 → AreBehind n last.view es → follow (is_start_after base) (Some last) (starts_from last.view es) ≡ true
starts_behind base n last [] low high all = refl
starts_behind base n last (e ∷ es) low high all =
    go (e.view == last.view) refl
    (λ behind. starts_behind base (suc n) last es (omega (arith, low)) (omega (arith, high)) behind)
    (starts_behind base (suc n) (start_of e) es (let at = all.counted 0 e refl in omega (arith, at)) (omega (arith, high)) (rest_behind n last.view e es all))
  where
    at : e.seqno ≡ n
    at = all.counted 0 e refl ∙ omega arith

    up : last.view ≤ e.view
    up = all.up 0 e refl

    go : (b : Bool) → (e.view == last.view) ≡ b → (AreBehind (suc n) last.view es → follow (is_start_after base) (Some last) (starts_from last.view es) ≡ true) →
        follow (is_start_after base) (Some (start_of e)) (starts_from e.view es) ≡ true →
        follow (is_start_after base) (Some last) (if b then starts_from last.view es else start_of e ∷ starts_from e.view es) ≡ true
    go true is same other = same (subst (λ (v : ℕ). AreBehind (suc n) v es) (same_number e.view last.view is) (rest_behind n last.view e es all))
    go false is same other =
        let view = lt_true last.view e.view (later_number last.view e.view up is) in
        let seqno = lt_true last.seqno e.seqno (omega (arith, at, low)) in
        let within = le_true e.seqno base (omega (arith, at, high)) in
        and_from (is_start_after base (Some last) (start_of e)) (follow (is_start_after base) (Some (start_of e)) (starts_from e.view es))
        (and_from (is_start (start_of e)) (nat_lt last.view e.view && nat_lt last.seqno e.seqno && nat_le e.seqno base) (start_fits e (all.fits 0 e refl))
        (and_from (nat_lt last.view e.view && nat_lt last.seqno e.seqno) (nat_le e.seqno base) (and_from (nat_lt last.view e.view) (nat_lt last.seqno e.seqno) view seqno) within))
        other

starts_fit : (ledger : List Entry) → IsLedger ledger → ((e : Entry) → slice_get ledger 0 ≡ Some e → e.view ≡ first_view) → (base : ℕ) → base ≡ length ledger → are_starts base (starts_from 0 ledger) ≡ true
starts_fit [] all first base is = refl
starts_fit (e ∷ es) all first base is = go (e.view == 0) refl
  where
    at : e.seqno ≡ 1
    at = all.seqnos 0 e refl

    behind : AreBehind 2 e.view es
    behind = rest_behind 1 0 e es (record {
      fits = all.fits;
      counted = λ i f there. all.seqnos i f there ∙ omega arith;
      up = λ i f there. omega arith;
      views = all.views;
    })

    go : (b : Bool) → (e.view == 0) ≡ b → are_starts base (if b then starts_from 0 es else start_of e ∷ starts_from e.view es) ≡ true
    go true none = absurd (let one = first e refl in let nil = same_number e.view 0 none in omega (arith, one, nil))
    go false some =
        let begins = eq-eqb e.seqno 1 at in
        let within = le_true e.seqno base (omega (arith, at, is)) in
        and_from (is_start_after base None (start_of e)) (follow (is_start_after base) (Some (start_of e)) (starts_from e.view es))
        (and_from (is_start (start_of e)) ((e.seqno == 1) && nat_le e.seqno base) (start_fits e (all.fits 0 e refl)) (and_from (e.seqno == 1) (nat_le e.seqno base) begins within))
        (starts_behind base 2 (start_of e) es (omega (arith, at)) (omega (arith, is)) behind)

-- ---- peaks

digests_taken : (n : ℕ) (ps : List (List ℕ)) → list_all is_digest ps ≡ true → list_all is_digest (take n ps) ≡ true
digests_taken zero ps all = refl
digests_taken (suc n) [] all = refl
digests_taken (suc n) (p ∷ ps) all =
    let both = and_parts (is_digest p) (list_all is_digest ps) all in
    and_from (is_digest p) (list_all is_digest (take n ps)) both.0 (digests_taken n ps both.1)

digests_more : (ps : List (List ℕ)) (x : List ℕ) → list_all is_digest ps ≡ true → is_digest x ≡ true → list_all is_digest (ps ++ x ∷ []) ≡ true
digests_more ps x all one = list_all-append is_digest ps (x ∷ []) ∙ and_from (list_all is_digest ps) (list_all is_digest (x ∷ [])) all (and_from (is_digest x) true one refl)

digests_with : (h n : ℕ) (ps : List (List ℕ)) (x : List ℕ) → list_all is_digest ps ≡ true → is_digest x ≡ true → list_all is_digest (peaks_with h n ps x) ≡ true
unfolding peaks_with
digests_with zero n ps x all one = digests_more ps x all one
digests_with (suc h) n ps x all one =
    let fewer = take (length ps - 1) ps in
    let joined = inner_of (get_or ps (length ps - 1) []) x in
    go (nat_eq (n % 2) 0) (digests_with h (n / 2) fewer joined (digests_taken (length ps - 1) ps all) (sha256_digest _))
  where
    go : (b : Bool) → list_all is_digest (peaks_with h (n / 2) (take (length ps - 1) ps) (inner_of (get_or ps (length ps - 1) []) x)) ≡ true →
        list_all is_digest (if b then ps ++ x ∷ [] else peaks_with h (n / 2) (take (length ps - 1) ps) (inner_of (get_or ps (length ps - 1) []) x)) ≡ true
    go true rest = digests_more ps x all one
    go false rest = rest

digests_over : (n : ℕ) (ps xs : List (List ℕ)) → list_all is_digest ps ≡ true → list_all is_digest xs ≡ true → list_all is_digest (peaks_over n ps xs) ≡ true
digests_over n ps [] all more = all
digests_over n ps (x ∷ xs) all more =
    let both = and_parts (is_digest x) (list_all is_digest xs) more in
    digests_over (suc n) (peaks_with (suc n) n ps x) xs (digests_with (suc n) n ps x all both.0) both.1

leaves_digests : (t : Tables) (es : List Entry) → list_all is_digest (leaves_from t es) ≡ true
leaves_digests t [] = refl
leaves_digests t (e ∷ es) =
    and_from (is_digest (leaf_of (identity_in (wrote_all t e.writes)) e)) (list_all is_digest (leaves_from (wrote_all t e.writes) es)) (sha256_digest _) (leaves_digests (wrote_all t e.writes) es)

peaks_counted : (xs : List (List ℕ)) → length (peaks_over 0 [] xs) ≡ count_ones (length xs)
unfolding peaks_of peaks_within
peaks_counted xs = ap length (sym (peaks_of-more [] xs)) ∙ length-peaks_within (length xs) xs (below_pow (length xs))

peaks_fit : (ledger : List Entry) (base : ℕ) → base ≡ length ledger → are_peaks base (snapshot_of ledger).peaks ≡ true
peaks_fit ledger base is =
    let count : length (snapshot_of ledger).peaks ≡ count_ones base = peaks_counted (leaves_of ledger) ∙ ap count_ones (length-leaves_of ledger ∙ sym is) in
    and_from (length (snapshot_of ledger).peaks == count_ones base) (list_all is_digest (snapshot_of ledger).peaks)
    (eq-eqb (length (snapshot_of ledger).peaks) (count_ones base) count)
    (digests_over 0 [] (leaves_of ledger) refl (leaves_digests no_tables ledger))

-- ---- rows

-- what an entry writes is within the limits
limits : (e : Entry) → is_entry e ≡ true → list_all is_write e.writes ≡ true
limits e is =
    let a = nat_lt e.view (2 ^ 32) && nat_lt e.seqno (2 ^ 64) && is_content e.content in
    let upper = (and_parts _ _ (and_parts _ _ (and_parts _ _ (and_parts _ _ is).0).0).0).0 in
    (and_parts a (list_all is_write e.writes) (and_parts (a && list_all is_write e.writes) (is_ordered e.writes) upper).0).1

writes_fit : (es : List Entry) → ((i : ℕ) (e : Entry) → slice_get es i ≡ Some e → is_entry e ≡ true) → list_all is_write (flat_map (λ (e : Entry). e.writes) es) ≡ true
writes_fit [] all = refl
writes_fit (e ∷ es) all =
    let rest = flat_map (λ (f : Entry). f.writes) es in
    list_all-append is_write e.writes rest
    ∙ and_from (list_all is_write e.writes) (list_all is_write rest) (limits e (all 0 e refl)) (writes_fit es (λ i f at. all (suc i) f at))

left_fit : (ws : List Write) → list_all is_write ws ≡ true → list_all is_row (filter_map row_left ws) ≡ true
left_fit [] all = refl
left_fit (w ∷ ws) all = go w.value refl (left_fit ws both.1)
  where
    both : (is_write w ≡ true) × (list_all is_write ws ≡ true)
    both = and_parts (is_write w) (list_all is_write ws) all

    go : (v : Option (List ℕ)) → w.value ≡ v → list_all is_row (filter_map row_left ws) ≡ true →
        list_all is_row (cons_option (option_map (λ value. record { map = w.map; key = w.key; value = value }) v) (filter_map row_left ws)) ≡ true
    go None is rest = rest
    go (Some v) is rest =
        and_from (is_row (record { map = w.map; key = w.key; value = v })) (list_all is_row (filter_map row_left ws))
        (ap (λ (o : Option (List ℕ)). is_map_name w.map && is_key w.key && is_written_value o) (sym is) ∙ both.0) rest

rows_fit : (ledger : List Entry) → IsLedger ledger → are_rows (snapshot_of ledger).rows ≡ true
rows_fit ledger all =
    let ws = flat_map (λ (e : Entry). e.writes) ledger in
    and_from (list_all is_row (snapshot_of ledger).rows) (are_ascending (snapshot_of ledger).rows)
    (left_fit (set_from [] ws) (list_all-set_from is_write [] ws refl (writes_fit ledger all.fits)))
    (ordered-over [] ws refl)

-- ---- counts

-- where each has a byte there are as many bytes at least
counted_within : {X : Type 0} (bytes : X → List ℕ) (is : X → Bool) → ((x : X) → is x ≡ true → 1 ≤ length (bytes x)) → (xs : List X) → list_all is xs ≡ true → length xs ≤ length (flat_map bytes xs)
counted_within bytes is some [] all = omega arith
counted_within bytes is some (x ∷ xs) all =
    let both = and_parts (is x) (list_all is xs) all in
    omega (arith, some x both.0, counted_within bytes is some xs both.1, length-append (bytes x) (flat_map bytes xs))

digest_some : (xs : List ℕ) → is_digest xs ≡ true → 1 ≤ length xs
digest_some xs is = let long = same_number (length xs) 32 (and_parts (length xs == 32) _ is).0 in omega (arith, long)

row_some : (r : Row) → is_row r ≡ true → 1 ≤ length (row_bytes r)
row_some r is =
    let whole = length-append (map_name_bytes r.map ++ key_bytes r.key) (value_bytes r.value) in
    let two = length-append (map_name_bytes r.map) (key_bytes r.key) in
    omega (arith, whole, two, length-encoded 1 r.map)

record AreCounted (b : Body) : Type 0 where
  views : nat_lt (length b.views) (2 ^ 32) ≡ true
  peaks : nat_lt (length b.peaks) (2 ^ 32) ≡ true
  rows : nat_lt (length b.rows) (2 ^ 32) ≡ true

counts_fit : (b : Body) → length (body_bytes b) ≤ snapshot_limit → are_peaks b.base b.peaks ≡ true → are_rows b.rows ≡ true → AreCounted b
counts_fit b within peaks rows =
    let whole = length-append (head_bytes b) (flat_map row_bytes b.rows) in
    let head = length-head_bytes b in
    let few = counted_within (λ (peak : List ℕ). peak) is_digest digest_some b.peaks (and_parts (length b.peaks == count_ones b.base) (list_all is_digest b.peaks) peaks).1 in
    let each = counted_within row_bytes is_row row_some b.rows (and_parts (list_all is_row b.rows) (are_ascending b.rows) rows).0 in
    record {
      views = lt_true (length b.views) (2 ^ 32) (omega (arith, within, whole, head));
      peaks = lt_true (length b.peaks) (2 ^ 32) (omega (arith, within, whole, head, few));
      rows = lt_true (length b.rows) (2 ^ 32) (omega (arith, within, whole, head, each));
    }

-- ---- the body

view_small : (es : List Entry) → ((i : ℕ) (e : Entry) → slice_get es i ≡ Some e → is_entry e ≡ true) → view_or 0 (last_entry es) < 2 ^ 32
view_small es all = go (last_entry es) refl
  where
    go : (o : Option Entry) → last_entry es ≡ o → view_or 0 o < 2 ^ 32
    go None is = omega arith
    go (Some e) is = (fits_parts e (all (length es - 1) e is)).view

module _ (ledger : List Entry) (all : IsRead ledger) (within : length (body_bytes (snapshot_of ledger)) ≤ snapshot_limit) where
  abbrev body : Body
  body = snapshot_of ledger

  counted : body.base ≡ length ledger
  counted = omega arith

  fits : 0 < length ledger → is_body body ≡ true
  fits some =
      let recorded : body.commit < 2 ^ 64 = let greatest = all.greatest in omega (arith, greatest, all.within, all.named) in
      let low = le_true 1 body.base (omega (arith, counted, some)) in
      let high = le_true body.base last_seqno (omega (arith, counted, all.named)) in
      let starts = starts_fit ledger all.in_order all.first body.base counted in
      let peaks = peaks_fit ledger body.base counted in
      let rows = rows_fit ledger all.in_order in
      let counts = counts_fit body within peaks rows in
      of_parts body (record {
        base = and_from (nat_le 1 body.base) (nat_le body.base last_seqno) low high;
        view = lt_true body.view (2 ^ 32) (view_small ledger all.in_order.fits);
        commit = lt_true body.commit (2 ^ 64) recorded;
        views = and_from (nat_lt (length body.views) (2 ^ 32)) (are_starts body.base body.views) counts.views starts;
        peaks = and_from (nat_lt (length body.peaks) (2 ^ 32)) (are_peaks body.base body.peaks) counts.peaks peaks;
        rows = and_from (nat_lt (length body.rows) (2 ^ 32)) (are_rows body.rows) counts.rows rows;
      })

  base_body : 0 < length ledger → IsBaseBody body
  base_body some = let spelled = rows_spelled ledger some all in record { fits = fits some; rows = spelled.0; spelled = spelled.1 }

  read_at : (n : ℕ) → body.base ≡ n → IsReadAt n body
  read_at zero is = ap snapshot_of (nil_from_length ledger (omega (arith, is)))
  read_at (suc n) is = base_body (omega (arith, is))

-- ---- the body of a base

of_base : (P : Body → Type 0) (layers : Layers) (b : Body) (ledger : List Entry) → IsBase layers b ledger → (IsRead ledger → P (snapshot_of ledger)) → P b
of_base P layers b ledger base h = subst P base.snapshot (h (is_read layers (length ledger) ledger base.valid))

-- it can be read
pub readable : (layers : Layers) (b : Body) (ledger : List Entry) → IsBase layers b ledger → 0 < b.base → length (body_bytes b) ≤ snapshot_limit → IsBaseBody b
readable layers b ledger base =
    of_base (λ (x : Body). 0 < x.base → length (body_bytes x) ≤ snapshot_limit → IsBaseBody x) layers b ledger base
    (λ all some within. base_body ledger all within (omega (arith, some)))

-- and where nothing is told it is the body of no entries
pub readable_or_none : (layers : Layers) (b : Body) (ledger : List Entry) → IsBase layers b ledger → length (body_bytes b) ≤ snapshot_limit → IsReadBody b
readable_or_none layers b ledger base =
    of_base (λ (x : Body). length (body_bytes x) ≤ snapshot_limit → IsReadBody x) layers b ledger base
    (λ all within. read_at ledger all within (snapshot_of ledger).base refl)
