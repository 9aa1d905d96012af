-- What the snapshot of a ledger and the entries behind it come to is what the whole ledger comes to:
-- its tables, its leaves and their root, its snapshot, and where signatures stand.
use Rattle.std.proofs.Common.{◌≡◌, ℕ, zero, suc, ◌+◌, ◌-◌, ◌<◌, List, [], ◌∷◌, ◌++◌, length, Option, Some, None, Bool, true, false, ◌&&◌, ◌||◌, ◌==◌, nat_lt, nat_le, slice_get, option_map, if◌then◌else◌, refl, sym, ◌∙◌, ap, arith, append_assoc, append-nil, length-append}
use Rattle.std.proofs.Math.Path.{fun_ext}
use Rattle.std.specs.List.{flat_map}
use Rattle.std.proofs.lemmas.Bool.Decides.{nat_tests}
use Rattle.std.proofs.lemmas.Grind.{flat_map-append}
use Rattle.gl_base.proofs.Lists.{slice_get-below}
use Rattle.gl_merkle.specs.Peaks.{peaks_with, peaks_over, peaks_of, peaks_within, root_of_peaks}
use Rattle.gl_merkle.specs.Tree.{root_of}
use Rattle.gl_merkle.proofs.MorePeaks.{peaks_of-more, root_of-peaks}
use Rattle.gl_rules.specs.Log.{entry_at, seqno_with_first}
use Rattle.gl_vmaps.specs.Rows.{row_writes, rows_over, tables_with}
use Rattle.gl_vmaps.specs.Tables.{Tables, no_tables, value_in, wrote_all}
use Rattle.gl_vmaps.specs.Versions.{placed_at, written_after}
use Rattle.gl_vmaps.specs.declared.write.Write.{Write}
use Rattle.gl_vmaps.proofs.RowsOverLaws.{append-over, values-over}
use Rattle.gl_vmaps.proofs.StandingLaws.{same_rows}
use Rattle.gl_vmaps.proofs.TablesLaws.{written_after-append}
use Rattle.gl_vmaps.proofs.WriteSets.{wrote_all-append}
use Rattle.gl_entry.specs.Entry.{is_signature}
use Rattle.gl_entry.specs.declared.entry.Content.{Content}
use Rattle.gl_entry.specs.declared.entry.Content.TheVariants as content
use Rattle.gl_entry.specs.declared.entry.Entry.{Entry}
use Rattle.gl_gov_rules.specs.declared.change.Recorded.{Recorded}
use Rattle.gl_snapshot_body.specs.Body.{no_body}
use Rattle.gl_snapshot_body.specs.declared.body.Body.{Body}
use Rattle.gl_snapshot_body.specs.declared.body.ViewStart.{ViewStart}
use Rattle.gl_ledger.specs.Past.{commit_after, commit_from, last_of, last_or_base, last_signed, last_signed_over, signs_at, signs_over}
use Rattle.gl_ledger.specs.Recordings.{begins, founds, last_entry, recorded_in, recording_of, records_founding, records_recovery, requests_from, requests_of}
use Rattle.gl_ledger.specs.Snapshot.{all_peaks, greatest_from, greatest_with, leaves_over, snapshot_of, snapshot_over, starts_from, tables_over, view_or}
use Rattle.gl_ledger.specs.Tree.{leaves_from, leaves_of, tables_of, writes_of}
use Rattle.gl_ledger.proofs.Pushes.{no_last}
use Rattle.gl_ledger.proofs.TablesLaws.{placed_in, leaf_after, written_after-placed_at}

-- ---- entries in two parts

-- those behind the first ones stand further on
pub behind_first : (xs ys : List Entry) (i k : ℕ) → k ≡ length xs + i → slice_get (xs ++ ys) k ≡ slice_get ys i
behind_first [] ys i k is = ap (slice_get ys) (let same : k ≡ i = omega (arith, is) in same)
behind_first (x ∷ xs) ys i zero is = absurd (omega (arith, is))
behind_first (x ∷ xs) ys i (suc k) is = behind_first xs ys i k (omega (arith, is))

-- the last of those behind is the last of all
pub last_behind : (xs ys : List Entry) → 0 < length ys → last_entry (xs ++ ys) ≡ last_entry ys
last_behind xs ys some = behind_first xs ys (length ys - 1) (length (xs ++ ys) - 1) (omega (arith, some, length-append xs ys))

-- where none stands behind it is the last of the first ones
last_of_none : (xs ys : List Entry) → ys ≡ [] → last_entry (xs ++ ys) ≡ last_entry xs
last_of_none xs ys none = ap (λ (zs : List Entry). last_entry (xs ++ zs)) none ∙ ap last_entry (append-nil xs)

-- ---- tables

abbrev all_writes : List Entry → List Write
all_writes es = flat_map (λ (e : Entry). e.writes) es

-- tables with the same values are the same
same_tables : (t u : Tables) → ((map key : List ℕ) → value_in t map key ≡ value_in u map key) → t ≡ u
same_tables t u same = fun_ext (λ map. same_rows (t map) (u map) (same map))

written_from : (t : Tables) (es : List Entry) → written_after t (writes_of es) ≡ wrote_all t (all_writes es)
written_from t [] = refl
written_from t (e ∷ es) =
    written_after-append t (placed_in e) (writes_of es)
    ∙ ap (λ (s : Tables). written_after s (writes_of es)) (written_after-placed_at t e.seqno e.writes)
    ∙ written_from (wrote_all t e.writes) es
    ∙ sym (wrote_all-append t e.writes (all_writes es))

-- the rows of a snapshot are those of the ledger's tables
pub rows_told : (below : List Entry) → tables_with (snapshot_of below).rows ≡ tables_of below
rows_told below = same_tables (tables_with (snapshot_of below).rows) (tables_of below)
    (λ map key. values-over [] (all_writes below) refl map key ∙ ap (λ (t : Tables). value_in t map key) (sym (written_from no_tables below)))

-- so the tables behind it are those of the whole ledger
pub tables_told : (below es : List Entry) → tables_over (snapshot_of below) es ≡ tables_of (below ++ es)
tables_told below es =
    let rows = row_writes (snapshot_of below).rows in
    written_after-append no_tables (placed_at 0 rows) (writes_of es)
    ∙ ap (λ (t : Tables). written_after t (writes_of es)) (written_after-placed_at no_tables 0 rows ∙ rows_told below)
    ∙ sym (written_after-append no_tables (writes_of below) (writes_of es))
    ∙ ap (written_after no_tables) (sym (flat_map-append placed_in below es))

-- ---- leaves

leaves_both : (t : Tables) (xs ys : List Entry) → leaves_from t (xs ++ ys) ≡ leaves_from t xs ++ leaves_from (wrote_all t (all_writes xs)) ys
leaves_both t [] ys = refl
leaves_both t (x ∷ xs) ys =
    ap (λ (ls : List (List ℕ)). leaf_after t x ∷ ls)
    (leaves_both (wrote_all t x.writes) xs ys
    ∙ ap (λ (s : Tables). leaves_from (wrote_all t x.writes) xs ++ leaves_from s ys) (sym (wrote_all-append t x.writes (all_writes xs))))

pub leaves_told : (below es : List Entry) → leaves_of below ++ leaves_over (snapshot_of below) es ≡ leaves_of (below ++ es)
leaves_told below es =
    ap (λ (t : Tables). leaves_of below ++ leaves_from t es) (rows_told below ∙ written_from no_tables below) ∙ sym (leaves_both no_tables below es)

one_each : (t : Tables) (es : List Entry) → length (leaves_from t es) ≡ length es
one_each t [] = refl
one_each t (e ∷ es) = ap suc (one_each (wrote_all t e.writes) es)

peaks_both : (n m : ℕ) (ps xs ys : List (List ℕ)) → m ≡ n + length xs → peaks_over n ps (xs ++ ys) ≡ peaks_over m (peaks_over n ps xs) ys
peaks_both n m ps [] ys is = ap (λ (k : ℕ). peaks_over k ps ys) (let same : n ≡ m = omega (arith, is) in same)
peaks_both n m ps (x ∷ xs) ys is = peaks_both (suc n) m (peaks_with (suc n) n ps x) xs ys (omega (arith, is))

-- the peaks are those of the whole ledger
peaks_told : (below es : List Entry) → all_peaks (snapshot_of below) es ≡ all_peaks no_body (below ++ es)
peaks_told below es =
    sym (peaks_both 0 (snapshot_of below).base [] (leaves_of below) (leaves_over (snapshot_of below) es) (omega (arith, one_each no_tables below)))
    ∙ ap (peaks_over 0 []) (leaves_told below es)

pub root_told : (below es : List Entry) → root_of_peaks (all_peaks (snapshot_of below) es) ≡ root_of (leaves_of (below ++ es))
unfolding peaks_of peaks_within
root_told below es =
    ap root_of_peaks (peaks_told below es ∙ sym (peaks_of-more [] (leaves_of (below ++ es)))) ∙ sym (root_of-peaks (leaves_of (below ++ es)))

-- ---- views

view_after : ℕ → List Entry → ℕ
view_after view [] = view
view_after view (e ∷ es) = view_after e.view es

view_last : (view : ℕ) (es : List Entry) → view_after view es ≡ view_or view (last_entry es)
unfolding view_after
view_last view [] = refl
view_last view (e ∷ []) = refl
view_last view (e ∷ f ∷ es) = view_last e.view (f ∷ es) ∙ go (slice_get-below (f ∷ es) (length (f ∷ es) - 1) (omega arith))
  where
    go : (x : Entry) × (last_entry (f ∷ es) ≡ Some x) → view_or e.view (last_entry (f ∷ es)) ≡ view_or view (last_entry (e ∷ f ∷ es))
    go last = ap (view_or e.view) last.1 ∙ sym (ap (view_or view) (last_behind (e ∷ []) (f ∷ es) (omega arith) ∙ last.1))

view_both : (view : ℕ) (xs ys : List Entry) → view_after view (xs ++ ys) ≡ view_after (view_after view xs) ys
unfolding view_after
view_both view [] ys = refl
view_both view (x ∷ xs) ys = view_both x.view xs ys

view_told : (below es : List Entry) → view_or (snapshot_of below).view (last_entry es) ≡ (snapshot_of (below ++ es)).view
view_told below es =
    sym (view_last (view_or 0 (last_entry below)) es) ∙ ap (λ (v : ℕ). view_after v es) (sym (view_last 0 below))
    ∙ sym (view_both 0 below es) ∙ view_last 0 (below ++ es)

starts_both : (view : ℕ) (xs ys : List Entry) → starts_from view (xs ++ ys) ≡ starts_from view xs ++ starts_from (view_after view xs) ys
unfolding view_after
starts_both view [] ys = refl
starts_both view (x ∷ xs) ys = go (x.view == view) refl (starts_both view xs ys) (starts_both x.view xs ys)
  where
    start : ViewStart
    start = record { view = x.view; seqno = x.seqno }

    go : (b : Bool) → (x.view == view) ≡ b → starts_from view (xs ++ ys) ≡ starts_from view xs ++ starts_from (view_after view xs) ys →
        starts_from x.view (xs ++ ys) ≡ starts_from x.view xs ++ starts_from (view_after x.view xs) ys →
        (if b then starts_from view (xs ++ ys) else start ∷ starts_from x.view (xs ++ ys))
        ≡ (if b then starts_from view xs else start ∷ starts_from x.view xs) ++ starts_from (view_after x.view xs) ys
    go true is same other =
        let at : view ≡ x.view = grind (arith, nat_tests, is) in
        same ∙ ap (λ (v : ℕ). starts_from view xs ++ starts_from (view_after v xs) ys) at
    go false is same other = ap (λ (vs : List ViewStart). start ∷ vs) other

starts_told : (below es : List Entry) → (snapshot_of below).views ++ starts_from (snapshot_of below).view es ≡ (snapshot_of (below ++ es)).views
starts_told below es = ap (λ (v : ℕ). starts_from 0 below ++ starts_from v es) (sym (view_last 0 below)) ∙ sym (starts_both 0 below es)

-- ---- commits

pub greatest_both : (commit : ℕ) (xs ys : List Entry) → greatest_from commit (xs ++ ys) ≡ greatest_from (greatest_from commit xs) ys
greatest_both commit [] ys = refl
greatest_both commit (x ∷ xs) ys = greatest_both (greatest_with commit x.content) xs ys

pub commit_both : (commit : ℕ) (xs ys : List Entry) → commit_from commit (xs ++ ys) ≡ commit_from (commit_from commit xs) ys
commit_both commit [] ys = refl
commit_both commit (x ∷ xs) ys = commit_both (commit_after commit x.content) xs ys

-- ---- the snapshot

rows_both : (below es : List Entry) → rows_over (snapshot_of below).rows (all_writes es) ≡ (snapshot_of (below ++ es)).rows
rows_both below es =
    sym (append-over [] (all_writes below) (all_writes es) refl) ∙ ap (rows_over []) (sym (flat_map-append (λ (e : Entry). e.writes) below es))

-- a snapshot behind a snapshot is one of the whole ledger
pub snapshot_told : (below es : List Entry) → snapshot_over (snapshot_of below) es ≡ snapshot_of (below ++ es)
snapshot_told below es =
    let base : (snapshot_of below).base + length es ≡ (snapshot_of (below ++ es)).base = omega (arith, length-append below es) in
    let commit : greatest_from (snapshot_of below).commit es ≡ (snapshot_of (below ++ es)).commit = sym (greatest_both 0 below es) in
    λ i. record {
      base = base i;
      view = view_told below es i;
      commit = commit i;
      views = starts_told below es i;
      peaks = peaks_told below es i;
      rows = rows_both below es i;
    }

-- ---- requests

requests_both : (from to : ℕ) (xs ys : List Entry) → to ≡ from + length xs → requests_from from (xs ++ ys) ≡ requests_from from xs ++ requests_from to ys
requests_both from to [] ys is = ap (λ (k : ℕ). requests_from k ys) (let same : from ≡ to = omega (arith, is) in same)
requests_both from to (x ∷ xs) ys is =
    ap (λ (rs : List Recorded). recorded_in from x.content ++ rs) (requests_both (suc from) to xs ys (omega (arith, is)))
    ∙ sym (append_assoc (recorded_in from x.content) (requests_from (suc from) xs) (requests_from to ys))

pub requests_told : (below es : List Entry) (base : ℕ) → base ≡ length below → requests_of (below ++ es) ≡ requests_of below ++ requests_from (suc base) es
requests_told below es base is = requests_both 1 (suc base) below es (omega (arith, is))

-- ---- signatures

-- where a signature stands last, its seqno is the length
pub signed_end : (es : List Entry) (e : Entry) → last_entry es ≡ Some e → is_signature e.content ≡ true → last_signed es ≡ length es
signed_end [] e at signs = absurd (cc)
signed_end (x ∷ []) e at signs =
    let same : x ≡ e = cc in
    ap (λ (b : Bool). seqno_with_first b 0) (ap (λ (f : Entry). is_signature f.content) same ∙ signs)
signed_end (x ∷ y ∷ ys) e at signs =
    ap (seqno_with_first (is_signature x.content)) (signed_end (y ∷ ys) e (sym (last_behind (x ∷ []) (y ∷ ys) (omega arith)) ∙ at) signs)

-- the last of those behind, or else the last of the first ones
signed_both : (xs ys : List Entry) (n : ℕ) → last_signed ys ≡ n → last_signed xs ≡ length xs → last_signed (xs ++ ys) ≡ length xs + n
signed_both [] ys n is ends = is ∙ omega arith
signed_both (x ∷ []) ys zero is ends = ap (seqno_with_first (is_signature x.content)) is ∙ ends ∙ omega arith
signed_both (x ∷ []) ys (suc n) is ends = ap (seqno_with_first (is_signature x.content)) is ∙ two (is_signature x.content)
  where
    two : (b : Bool) → seqno_with_first b (suc n) ≡ 1 + suc n
    two true = omega arith
    two false = omega arith
signed_both (x ∷ y ∷ xs) ys n is ends =
    ap (seqno_with_first (is_signature x.content)) (signed_both (y ∷ xs) ys n is (rest (is_signature x.content) (last_signed (y ∷ xs)) refl ends))
    ∙ next (is_signature x.content) (length (y ∷ xs) + n) refl
  where
    rest : (b : Bool) (m : ℕ) → last_signed (y ∷ xs) ≡ m → seqno_with_first b m ≡ length (x ∷ y ∷ xs) → last_signed (y ∷ xs) ≡ length (y ∷ xs)
    rest true zero at w = absurd (let q : 1 ≡ length (x ∷ y ∷ xs) = w in omega (arith, q))
    rest false zero at w = absurd (let q : 0 ≡ length (x ∷ y ∷ xs) = w in omega (arith, q))
    rest b (suc m) at w = at ∙ (let q : suc (suc m) ≡ length (x ∷ y ∷ xs) = w in omega (arith, q))

    next : (b : Bool) (m : ℕ) → length (y ∷ xs) + n ≡ m → seqno_with_first b m ≡ length (x ∷ y ∷ xs) + n
    next b zero all = absurd (omega (arith, all))
    next b (suc m) all = omega (arith, all)

pub last_signed_told : (body : Body) (below es : List Entry) → body.base ≡ length below → last_signed below ≡ length below → last_signed_over body es ≡ last_signed (below ++ es)
last_signed_told body below es is ends = go (last_signed es) refl (last_signed es == 0) refl ∙ sym (signed_both below es (last_signed es) refl ends)
  where
    go : (n : ℕ) → last_signed es ≡ n → (b : Bool) → (last_signed es == 0) ≡ b → (if b then body.base else body.base + last_signed es) ≡ length below + last_signed es
    go n at true w = let none : last_signed es ≡ 0 = grind (arith, nat_tests, w) in omega (arith, is, none)
    go n at false w = omega (arith, is)

-- an entry behind stands above the base
pub entry_behind : (base : ℕ) (below es : List Entry) (seqno : ℕ) → base ≡ length below → base < seqno → entry_at es (seqno - base) ≡ entry_at (below ++ es) seqno
entry_behind base below es zero is high = absurd (omega (arith, high))
entry_behind base below es (suc k) is high = go (suc k - base) refl
  where
    go : (m : ℕ) → suc k - base ≡ m → entry_at es m ≡ entry_at (below ++ es) (suc k)
    go zero left = absurd (omega (arith, high, left))
    go (suc m) left = sym (behind_first below es m k (omega (arith, is, left, high)))

-- each seqno up to the base counts, and above it those behind
pub signs_told : (body : Body) (below es : List Entry) (seqno : ℕ) → body.base ≡ length below →
    signs_over body es seqno ≡ ((nat_lt 0 seqno && nat_le seqno body.base) || signs_at (entry_at (below ++ es) seqno))
signs_told body below es seqno is = go (nat_lt 0 seqno) refl (nat_le seqno body.base) refl
  where
    none : nat_lt 0 seqno ≡ false → entry_at es (seqno - body.base) ≡ entry_at (below ++ es) seqno
    none w =
        let least : seqno ≡ 0 = grind (arith, nat_tests, w) in
        ap (entry_at es) (let left : seqno - body.base ≡ 0 = omega (arith, least) in left) ∙ ap (entry_at (below ++ es)) (sym least)

    go : (a : Bool) → nat_lt 0 seqno ≡ a → (b : Bool) → nat_le seqno body.base ≡ b → ((a && b) || signs_at (entry_at es (seqno - body.base))) ≡ ((a && b) || signs_at (entry_at (below ++ es) seqno))
    go true above true low = refl
    go true above false high = ap signs_at (entry_behind body.base below es seqno is (let up : body.base < seqno = grind (arith, nat_tests, high) in up))
    go false least b low = ap signs_at (none least)

-- ---- the last entry

some_behind : (es : List Entry) (x : Entry) → last_entry es ≡ Some x → 0 < length es
some_behind [] x is = absurd (cc)
some_behind (e ∷ es) x is = omega arith

no_founding : (c : Content) → is_signature c ≡ true → records_founding (recording_of c) ≡ false
no_founding (content.Governance bytes) is = absurd (cc)
no_founding (content.Application bytes) is = absurd (cc)
no_founding (content.Signature s) is = refl
no_founding (content.Evidence d) is = absurd (cc)

no_recovery : (c : Content) → is_signature c ≡ true → records_recovery (recording_of c) ≡ false
no_recovery (content.Governance bytes) is = absurd (cc)
no_recovery (content.Application bytes) is = absurd (cc)
no_recovery (content.Signature s) is = refl
no_recovery (content.Evidence d) is = absurd (cc)

-- the entry at the base is a signature, with which nothing begins
pub last_told : (body : Body) (below es : List Entry) (e : Entry) → last_entry below ≡ Some e → is_signature e.content ≡ true → body.view ≡ e.view → Some (last_or_base body (last_entry es)) ≡ option_map last_of (last_entry (below ++ es))
last_told body below es e at signs view = go (last_entry es) refl
  where
    begins_none : begins e ≡ false
    begins_none = ap (λ (b : Bool). founds e || b) (no_recovery e.content signs) ∙ ap (λ (b : Bool). b || false) (no_founding e.content signs)

    go : (o : Option Entry) → last_entry es ≡ o → Some (last_or_base body o) ≡ option_map last_of (last_entry (below ++ es))
    go None is =
        (λ i. Some (record { view = view i; signs = sym signs i; begins = sym begins_none i }))
        ∙ ap (option_map last_of) (sym (last_of_none below es (no_last es is) ∙ at))
    go (Some x) is = ap (option_map last_of) (sym (last_behind below es (some_behind es x is) ∙ is))
