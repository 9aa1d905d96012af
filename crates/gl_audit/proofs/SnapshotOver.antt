-- The requests behind a base, the body of a snapshot, and the signatures, with one more entry.
use Rattle.std.proofs.Common.{◌≡◌, ℕ, zero, suc, ◌+◌, ◌-◌, ◌≤◌, List, [], ◌∷◌, ◌++◌, length, Option, Some, None, Bool, true, false, cond, ◌&&◌, ◌||◌, ◌==◌, nat_lt, nat_le, slice_get, if◌then◌else◌, refl, sym, ◌∙◌, ap, arith, append_assoc, length-append}
use Rattle.std.specs.List.{flat_map}
use Rattle.std.proofs.lemmas.Bool.Decides.{nat_tests}
use Rattle.std.proofs.lemmas.Grind.{flat_map-append}
use Rattle.std.proofs.lemmas.List.{append-nil}
use Rattle.gl_base.proofs.Lists.{slice_get-append, slice_get-below, slice_get-last}
use Rattle.gl_rules.specs.Log.{entry_at, seqno_with_first}
use Rattle.gl_vmaps.specs.Rows.{are_ascending, rows_over}
use Rattle.gl_vmaps.specs.declared.write.Write.{Write}
use Rattle.gl_vmaps.proofs.RowsOverLaws.{append-over, ordered-over}
use Rattle.gl_entry.specs.Entry.{is_signature}
use Rattle.gl_entry.specs.declared.entry.Entry.{Entry}
use Rattle.gl_gov_rules.specs.declared.change.Recorded.{Recorded}
use Rattle.gl_snapshot_body.specs.declared.body.Body.{Body}
use Rattle.gl_snapshot_body.specs.declared.body.ViewStart.{ViewStart}
use Rattle.gl_ledger.specs.Past.{commit_after, commit_from, last_signed, last_signed_over, signs_at, signs_over}
use Rattle.gl_ledger.specs.Recordings.{last_entry, recorded_in, requests_from}
use Rattle.gl_ledger.specs.Snapshot.{greatest_from, greatest_with, requests_over, snapshot_over, starts_from, view_or}
use Rattle.gl_ledger.specs.Behind.{start_if}

-- ---- requests

requests_counted : (seqno : ℕ) (es : List Entry) (e : Entry) (at : ℕ) → at ≡ seqno + length es → requests_from seqno (es ++ e ∷ []) ≡ requests_from seqno es ++ recorded_in at e.content
requests_counted seqno [] e at is = append-nil (recorded_in seqno e.content) ∙ ap (λ (k : ℕ). recorded_in k e.content) (omega (arith, is))
requests_counted seqno (f ∷ es) e at is =
    ap (λ (rs : List Recorded). recorded_in seqno f.content ++ rs) (requests_counted (suc seqno) es e at (omega (arith, is)))
    ∙ sym (append_assoc (recorded_in seqno f.content) (requests_from (suc seqno) es) (recorded_in at e.content))

pub requests_over-push : (body : Body) (es : List Entry) (e : Entry) → requests_over body (es ++ e ∷ []) ≡ requests_over body es ++ recorded_in (body.base + length es + 1) e.content
requests_over-push body es e = requests_counted (suc body.base) es e (body.base + length es + 1) (omega arith)

-- ---- the body

one_longer : (es : List Entry) (e : Entry) → length (es ++ e ∷ []) ≡ length es + 1
one_longer es e = length-append es (e ∷ [])

pub base_pushed : (body : Body) (es : List Entry) (e : Entry) → (snapshot_over body (es ++ e ∷ [])).base ≡ (snapshot_over body es).base + 1
base_pushed body es e = let long = one_longer es e in omega (arith, long)

pub last_pushed : (es : List Entry) (e : Entry) → last_entry (es ++ e ∷ []) ≡ Some e
last_pushed es e = ap (slice_get (es ++ e ∷ [])) (let long = one_longer es e in omega (arith, long)) ∙ slice_get-last es e

pub view_pushed : (body : Body) (es : List Entry) (e : Entry) → (snapshot_over body (es ++ e ∷ [])).view ≡ e.view
view_pushed body es e = ap (view_or body.view) (last_pushed es e)

greatest_pushed : (commit : ℕ) (es : List Entry) (e : Entry) → greatest_from commit (es ++ e ∷ []) ≡ greatest_with (greatest_from commit es) e.content
greatest_pushed commit [] e = refl
greatest_pushed commit (f ∷ es) e = greatest_pushed (greatest_with commit f.content) es e

pub commit_pushed : (body : Body) (es : List Entry) (e : Entry) → (snapshot_over body (es ++ e ∷ [])).commit ≡ greatest_with (snapshot_over body es).commit e.content
commit_pushed body es e = greatest_pushed body.commit es e

-- the view of the last entry, first to last
abbrev last_view : ℕ → List Entry → ℕ
last_view view [] = view
last_view view (e ∷ es) = last_view e.view es

last_view_is : (view : ℕ) (es : List Entry) → last_view view es ≡ view_or view (last_entry es)
last_view_is view [] = refl
last_view_is view (e ∷ []) = refl
last_view_is view (e ∷ f ∷ es) =
    last_view_is e.view (f ∷ es)
    ∙ ap (λ (n : ℕ). view_or e.view (slice_get (f ∷ es) n)) (let at : length (f ∷ es) - 1 ≡ length es = omega arith in at)
    ∙ some_last (slice_get (f ∷ es) (length es)) refl
    ∙ ap (λ (n : ℕ). view_or view (slice_get (e ∷ f ∷ es) n)) (let at : suc (length es) ≡ length (e ∷ f ∷ es) - 1 = omega arith in at)
  where
    some_last : (o : Option Entry) → slice_get (f ∷ es) (length es) ≡ o → view_or e.view o ≡ view_or view o
    some_last (Some x) is = refl
    some_last None is = absurd (let there = slice_get-below (f ∷ es) (length es) (omega arith) in let both = sym is ∙ there.1 in cc)

starts_pushed : (view : ℕ) (es : List Entry) (e : Entry) → starts_from view (es ++ e ∷ []) ≡ starts_from view es ++ start_if (last_view view es) e
starts_pushed view [] e = refl
starts_pushed view (f ∷ es) e = go (f.view == view) refl (starts_pushed view es e) (starts_pushed f.view es e)
  where
    start : ViewStart
    start = record { view = f.view; seqno = f.seqno }

    go : (b : Bool) → (f.view == view) ≡ b →
        starts_from view (es ++ e ∷ []) ≡ starts_from view es ++ start_if (last_view view es) e →
        starts_from f.view (es ++ e ∷ []) ≡ starts_from f.view es ++ start_if (last_view f.view es) e →
        cond b (starts_from view (es ++ e ∷ [])) (start ∷ starts_from f.view (es ++ e ∷ []))
        ≡ cond b (starts_from view es) (start ∷ starts_from f.view es) ++ start_if (last_view f.view es) e
    go true is same_view other = same_view ∙ ap (λ (v : ℕ). starts_from view es ++ start_if (last_view v es) e) (let same : f.view ≡ view = grind (arith, nat_tests, is) in sym same)
    go false is same_view other = ap (λ (vs : List ViewStart). start ∷ vs) other

pub views_pushed : (body : Body) (es : List Entry) (e : Entry) → (snapshot_over body (es ++ e ∷ [])).views ≡ (snapshot_over body es).views ++ start_if (snapshot_over body es).view e
views_pushed body es e =
    ap (λ (vs : List ViewStart). body.views ++ vs) (starts_pushed body.view es e ∙ ap (λ (v : ℕ). starts_from body.view es ++ start_if v e) (last_view_is body.view es))
    ∙ sym (append_assoc body.views (starts_from body.view es) (start_if (view_or body.view (last_entry es)) e))

abbrev all_writes : List Entry → List Write
all_writes es = flat_map (λ (e : Entry). e.writes) es

pub rows_pushed : (body : Body) (es : List Entry) (e : Entry) → are_ascending body.rows ≡ true → (snapshot_over body (es ++ e ∷ [])).rows ≡ rows_over (snapshot_over body es).rows e.writes
rows_pushed body es e ascend =
    ap (rows_over body.rows) (flat_map-append (λ (x : Entry). x.writes) es (e ∷ []) ∙ ap (λ (ws : List Write). all_writes es ++ ws) (append-nil e.writes))
    ∙ append-over body.rows (all_writes es) e.writes ascend

pub rows_ascend : (body : Body) (es : List Entry) → are_ascending body.rows ≡ true → are_ascending (snapshot_over body es).rows ≡ true
rows_ascend body es ascend = ordered-over body.rows (all_writes es) ascend

-- ---- signatures

pub signs_before : (body : Body) (es : List Entry) (e : Entry) (seqno : ℕ) → seqno ≤ body.base + length es → signs_over body (es ++ e ∷ []) seqno ≡ signs_over body es seqno
signs_before body es e seqno low = ap (λ (b : Bool). (nat_lt 0 seqno && nat_le seqno body.base) || b) (go (seqno - body.base) (omega (arith, low)))
  where
    go : (n : ℕ) → n ≤ length es → signs_at (entry_at (es ++ e ∷ []) n) ≡ signs_at (entry_at es n)
    go zero within = refl
    go (suc n) within = let there = slice_get-below es n (omega (arith, within)) in ap signs_at (slice_get-append es (e ∷ []) n there.0 there.1 ∙ sym there.1)

pub signs_here : (body : Body) (es : List Entry) (e : Entry) → signs_over body (es ++ e ∷ []) (body.base + length es + 1) ≡ is_signature e.content
signs_here body es e = go (nat_lt 0 (body.base + length es + 1)) (nat_le (body.base + length es + 1) body.base) (grind (arith, nat_tests)) ∙ there
  where
    go : (a b : Bool) → b ≡ false → ((a && b) || signs_at (entry_at (es ++ e ∷ []) (body.base + length es + 1 - body.base))) ≡ signs_at (entry_at (es ++ e ∷ []) (body.base + length es + 1 - body.base))
    go true true is = absurd (cc)
    go false true is = absurd (cc)
    go true false is = refl
    go false false is = refl

    there : signs_at (entry_at (es ++ e ∷ []) (body.base + length es + 1 - body.base)) ≡ is_signature e.content
    there = ap (λ (n : ℕ). signs_at (entry_at (es ++ e ∷ []) n)) (let at : body.base + length es + 1 - body.base ≡ suc (length es) = omega arith in at) ∙ ap signs_at (slice_get-last es e)

first_one : (b c : Bool) (last n : ℕ) → seqno_with_first b (if c then suc n else last) ≡ (if c then suc (suc n) else seqno_with_first b last)
first_one true true last n = refl
first_one false true last n = refl
first_one true false last n = refl
first_one false false last n = refl

signed_pushed : (es : List Entry) (e : Entry) → last_signed (es ++ e ∷ []) ≡ (if is_signature e.content then suc (length es) else last_signed es)
signed_pushed [] e = go (is_signature e.content)
  where
    go : (b : Bool) → seqno_with_first b 0 ≡ (if b then 1 else 0)
    go true = refl
    go false = refl
signed_pushed (f ∷ es) e =
    ap (seqno_with_first (is_signature f.content)) (signed_pushed es e) ∙ first_one (is_signature f.content) (is_signature e.content) (last_signed es) (length es)

pub last_signed_pushed : (body : Body) (es : List Entry) (e : Entry) → last_signed_over body (es ++ e ∷ []) ≡ (if is_signature e.content then body.base + length es + 1 else last_signed_over body es)
last_signed_pushed body es e =
    ap (λ (n : ℕ). if n == 0 then body.base else body.base + n) (signed_pushed es e) ∙ go (is_signature e.content)
  where
    above : (n : ℕ) (b : Bool) → (suc n == 0) ≡ b → (if b then body.base else body.base + suc n) ≡ body.base + n + 1
    above n true is = absurd (let none : suc n ≡ 0 = grind (arith, nat_tests, is) in omega (arith, none))
    above n false is = omega arith

    go : (b : Bool) → (if (if b then suc (length es) else last_signed es) == 0 then body.base else body.base + (if b then suc (length es) else last_signed es))
        ≡ (if b then body.base + length es + 1 else last_signed_over body es)
    go true = above (length es) (suc (length es) == 0) refl
    go false = refl

pub commit_from-push : (commit : ℕ) (es : List Entry) (e : Entry) → commit_from commit (es ++ e ∷ []) ≡ commit_after (commit_from commit es) e.content
commit_from-push commit [] e = refl
commit_from-push commit (f ∷ es) e = commit_from-push (commit_after commit f.content) es e
