-- Of the ledgers that a body and the entries behind it stand for: the rules read the same of the
-- entries behind, so these break a rule alike, and the snapshot of all is one of the ledger.
use Rattle.std.proofs.Common.{◌≡◌, ℕ, zero, suc, ◌+◌, ◌<◌, List, [], ◌∷◌, ◌++◌, length, take, slice_get, min, Some, None, option_map, refl, sym, ◌∙◌, ap, subst, arith, append-nil, append_assoc, length-append}
use Rattle.gl_merkle.specs.Peaks.{root_of_peaks}
use Rattle.gl_merkle.specs.Tree.{root_of}
use Rattle.gl_rules.specs.Log.{entry_at}
use Rattle.gl_entry.specs.declared.entry.Entry.{Entry}
use Rattle.gl_gov_rules.specs.declared.row.GovernedRows.{GovernedRows}
use Rattle.gl_gov_base.specs.Law.{IsOver}
use Rattle.gl_snapshot_body.specs.Body.{no_body}
use Rattle.gl_snapshot_body.specs.declared.body.Body.{Body}
use Rattle.gl_ledger.specs.Audit.{audited, audited_over}
use Rattle.gl_ledger.specs.Broken.{broken, broken_after, broken_at, broken_from, broken_over}
use Rattle.gl_ledger.specs.Layers.{Layers}
use Rattle.gl_ledger.specs.Past.{Past, past_at, past_from, past_of, past_over}
use Rattle.gl_ledger.specs.Recordings.{requests_of}
use Rattle.gl_ledger.specs.Signed.{IsSignedUpTo}
use Rattle.gl_ledger.specs.Snapshot.{all_peaks, governed_base, requests_over, snapshot_of, snapshot_over, tables_over, view_at}
use Rattle.gl_ledger.specs.Tree.{leaves_of, tables_of}
use Rattle.gl_ledger_base.specs.Ledgers.{AreAlike, HoldsLedger, IsBase, audited_from}
use Rattle.gl_ledger_base.proofs.LedgersAlike.{alike, governed}
use Rattle.gl_ledger_base.proofs.LedgersBroken.{same_broken}
use Rattle.gl_ledger.proofs.EachPassing.{all_over, each_over, passes-push, passes-take, passes_induction}
use Rattle.gl_ledger_base.proofs.LedgersEach.{all_from, broken_counting, each_from}
use Rattle.gl_ledger_base.proofs.LedgersPassing.{none_counts, told_from}
use Rattle.gl_ledger_base.proofs.LedgersRead.{IsRead, is_read}
use Rattle.gl_ledger_base.proofs.LedgersTold.{behind_first, requests_told, root_told, snapshot_told, tables_told}
use Rattle.gl_ledger_base.proofs.LedgersViews.{view_told}
use Rattle.gl_ledger_base.proofs.LedgersWeaker.{audited_more, audited_whole}

-- ---- pasts

-- a past is alike to itself
self_alike : (p : Past) → AreAlike p p
self_alike p = record {
  len = refl;
  last = refl;
  tables = refl;
  root = refl;
  signs = λ seqno. refl;
  last_signed = refl;
  last_commit = refl;
  snapshot = refl;
  nodes = refl;
  removals = λ y. refl;
  marks = λ y commit. refl;
  trusted = refl;
  keys = λ y. refl;
  endorsements = λ y. refl;
  rows = refl;
  refusals = λ seqno g above fits. refl;
  effects = λ r above fits accepted. refl;
  statuses = λ r g above fits accepted. refl;
}

no_entry : (es : List Entry) → length es ≡ 0 → es ≡ []
no_entry [] is = refl
no_entry (e ∷ es) is = absurd (omega (arith, is))

-- ---- a ledger, its snapshot, and entries behind it

module _ (below : List Entry) (ends : IsSignedUpTo below (length below)) (first : IsRead below) where
  alike_from : (es : List Entry) → IsRead (below ++ es) → AreAlike (past_over (snapshot_of below) es) (past_from (snapshot_of below).base (below ++ es))
  alike_from es all = go (length below) refl
    where
      whole : AreAlike (past_over no_body es) (past_from 0 ([] ++ es))
      whole = subst (AreAlike (past_of es)) (sym (none_counts es)) (self_alike (past_of es))

      go : (n : ℕ) → length below ≡ n → AreAlike (past_over (snapshot_of below) es) (past_from (snapshot_of below).base (below ++ es))
      go zero is = subst (λ (l : List Entry). AreAlike (past_over (snapshot_of l) es) (past_from (snapshot_of l).base (l ++ es))) (sym (no_entry below is)) whole
      go (suc n) is =
          let some : (snapshot_of below).base ≡ suc n = omega (arith, is) in
          subst (λ (p : Past). AreAlike p (past_from (snapshot_of below).base (below ++ es))) (sym (ap (λ (k : ℕ). past_at k (snapshot_of below) es) some))
          (alike below es (omega (arith, is)) ends first all)

-- each base has a past, by which the rules are told
told_over : (layers : Layers) (body : Body) (es : List Entry) (e : Entry) → broken_over layers body es e ≡ broken_after layers (past_over body es) e
unfolding broken
told_over layers body es e = go body.base
  where
    go : (n : ℕ) → broken_at layers n body es e ≡ broken_after layers (past_at n body es) e
    go zero = refl
    go (suc n) = refl

take_behind : (xs ys : List Entry) (i k : ℕ) → k ≡ length xs + i → take k (xs ++ ys) ≡ xs ++ take i ys
take_behind [] ys i k is = ap (λ (n : ℕ). take n ys) (let same : k ≡ i = omega (arith, is) in same)
take_behind (x ∷ xs) ys i zero is = absurd (omega (arith, is))
take_behind (x ∷ xs) ys i (suc k) is = ap (λ (l : List Entry). x ∷ l) (take_behind xs ys i k (omega (arith, is)))

module _ (layers : Layers) (below : List Entry) (valid : audited_from layers (length below) below ≡ None) (ends : IsSignedUpTo below (length below)) where
  abbrev body : Body
  body = snapshot_of below

  first : IsRead below
  first = is_read layers (length below) below valid

  counted : body.base ≡ length below
  counted = omega arith

  -- the same rule is broken, or none
  broken_alike : (es : List Entry) (e : Entry) → audited_from layers body.base (below ++ es) ≡ None → broken_over layers body es e ≡ broken_from layers body.base (below ++ es) e
  broken_alike es e h =
      told_over layers body es e
      ∙ same_broken (past_over body es) (past_from body.base (below ++ es)) (alike_from below ends first es (is_read layers body.base (below ++ es) h)) layers e
      ∙ sym (told_from layers body.base (below ++ es) e)

  -- behind the base it counts as many as there are up to it
  all_count : (es : List Entry) (e : Entry) → broken_counting layers body.base (below ++ es) e ≡ broken_from layers body.base (below ++ es) e
  all_count es e = ap (λ (k : ℕ). broken_from layers k (below ++ es) e) (let long = length-append below es in let least : min body.base (length (below ++ es)) ≡ body.base = omega (arith, long, counted) in least)

  audited_to : (es : List Entry) → audited_over layers body es ≡ None → audited_from layers body.base (below ++ es) ≡ None
  audited_to es h = passes_induction (broken_over layers body) (λ (l : List Entry). audited_from layers body.base (below ++ l) ≡ None) none more es (each_over layers body es h)
    where
      none : audited_from layers body.base (below ++ []) ≡ None
      none = ap (λ (l : List Entry). audited_from layers body.base l) (append-nil below) ∙ ap (λ (n : ℕ). audited_from layers n below) counted ∙ valid

      more : (l : List Entry) (e : Entry) → ((i : ℕ) (f : Entry) → slice_get l i ≡ Some f → broken_over layers body (take i l) f ≡ None) → audited_from layers body.base (below ++ l) ≡ None → broken_over layers body l e ≡ None →
          audited_from layers body.base (below ++ (l ++ e ∷ [])) ≡ None
      more l e each before one =
          ap (λ (k : List Entry). audited_from layers body.base k) (sym (append_assoc below l (e ∷ [])))
          ∙ all_from layers body.base ((below ++ l) ++ e ∷ [])
          (passes-push (broken_counting layers body.base) (below ++ l) e (each_from layers body.base (below ++ l) before) (all_count l e ∙ sym (broken_alike l e before) ∙ one))

  audited_back : (es : List Entry) → audited_from layers body.base (below ++ es) ≡ None → audited_over layers body es ≡ None
  audited_back es h = all_over layers body es each
    where
      cut : (i : ℕ) → take (length below + i) (below ++ es) ≡ below ++ take i es
      cut i = take_behind below es i (length below + i) refl

      prefix : (i : ℕ) → audited_from layers body.base (below ++ take i es) ≡ None
      prefix i =
          ap (λ (l : List Entry). audited_from layers body.base l) (sym (cut i))
          ∙ all_from layers body.base (take (length below + i) (below ++ es)) (passes-take (broken_counting layers body.base) (below ++ es) (length below + i) (each_from layers body.base (below ++ es) h))

      each : (i : ℕ) (e : Entry) → slice_get es i ≡ Some e → broken_over layers body (take i es) e ≡ None
      each i e at =
          broken_alike (take i es) e (prefix i)
          ∙ sym (all_count (take i es) e)
          ∙ ap (λ (l : List Entry). broken_counting layers body.base l e) (sym (cut i))
          ∙ each_from layers body.base (below ++ es) h (length below + i) e (behind_first below es i (length below + i) refl ∙ at)

-- ---- the ledgers that a body and entries stand for

module _ (layers : Layers) (body : Body) (es ledger : List Entry) (holds : HoldsLedger layers body es ledger) where
  abbrev below : List Entry
  below = holds.below

  -- what holds of the ledger's own snapshot holds of the body
  of_body : (P : Body → List Entry → Type 0) → P (snapshot_of below) (below ++ es) → P body ledger
  of_body P h = subst (λ (b : Body). P b ledger) holds.base.snapshot (subst (P (snapshot_of below)) (sym holds.whole) h)

  pub held_base : body.base ≡ length below
  held_base = subst (λ (b : Body). b.base ≡ length below) holds.base.snapshot (omega arith)

  pub held_length : length ledger ≡ body.base + length es
  held_length = of_body (λ (b : Body) (l : List Entry). length l ≡ b.base + length es) (let long = length-append below es in omega (arith, long))

  pub held_entry : (n : ℕ) → 0 < n → entry_at ledger (body.base + n) ≡ entry_at es n
  held_entry n some = of_body (λ (b : Body) (l : List Entry). entry_at l (b.base + n) ≡ entry_at es n) (go n some ((snapshot_of below).base + n) refl)
    where
      go : (m : ℕ) → 0 < m → (k : ℕ) → (snapshot_of below).base + m ≡ k → entry_at (below ++ es) k ≡ entry_at es m
      go zero high k is = absurd (omega (arith, high))
      go (suc m) high zero is = absurd (omega (arith, is))
      go (suc m) high (suc k) is = behind_first below es m k (omega (arith, is))

  pub held_view : (seqno : ℕ) → 0 < seqno → view_at body es seqno ≡ option_map (λ (e : Entry). e.view) (entry_at ledger seqno)
  held_view seqno some =
      let read = is_read layers (length below) below holds.base.valid in
      of_body (λ (b : Body) (l : List Entry). view_at b es seqno ≡ option_map (λ (e : Entry). e.view) (entry_at l seqno)) (view_told below es read.in_order.seqnos read.first seqno some)

  pub held_snapshot : snapshot_over body es ≡ snapshot_of ledger
  held_snapshot = of_body (λ (b : Body) (l : List Entry). snapshot_over b es ≡ snapshot_of l) (snapshot_told below es)

  pub held_tables : tables_over body es ≡ tables_of ledger
  held_tables = of_body (λ (b : Body) (l : List Entry). tables_over b es ≡ tables_of l) (tables_told below es)

  pub held_root : root_of_peaks (all_peaks body es) ≡ root_of (leaves_of ledger)
  held_root = of_body (λ (b : Body) (l : List Entry). root_of_peaks (all_peaks b es) ≡ root_of (leaves_of l)) (root_told below es)

  pub held_requests : requests_of ledger ≡ requests_of below ++ requests_over body es
  held_requests = of_body (λ (b : Body) (l : List Entry). requests_of l ≡ requests_of below ++ requests_over b es) (requests_told below es (snapshot_of below).base (omega arith))

  pub held_audited : audited_over layers body es ≡ None → audited_from layers body.base ledger ≡ None
  held_audited = of_body (λ (b : Body) (l : List Entry). audited_over layers b es ≡ None → audited_from layers b.base l ≡ None) (audited_to layers below holds.base.valid holds.base.ends es)

  pub held_back : audited_from layers body.base ledger ≡ None → audited_over layers body es ≡ None
  held_back = of_body (λ (b : Body) (l : List Entry). audited_from layers b.base l ≡ None → audited_over layers b es ≡ None) (audited_back layers below holds.base.valid holds.base.ends es)

  -- as a valid one does
  pub held_valid : audited layers ledger ≡ None → audited_over layers body es ≡ None
  held_valid h = held_back (audited_whole layers body.base ledger h)

  pub held_alike : audited_over layers body es ≡ None → AreAlike (past_over body es) (past_from body.base ledger)
  held_alike = of_body (λ (b : Body) (l : List Entry). audited_over layers b es ≡ None → AreAlike (past_over b es) (past_from b.base l))
      (λ h.
      alike_from below holds.base.ends (is_read layers (length below) below holds.base.valid) es
      (is_read layers (snapshot_of below).base (below ++ es) (audited_to layers below holds.base.valid holds.base.ends es h)))

  pub held_governance : audited_over layers body es ≡ None → 0 < body.base → (g : GovernedRows) × (governed_base body ≡ Some g) × IsOver body.base body.rows g (requests_of below) (requests_over body es)
  held_governance = of_body (λ (b : Body) (l : List Entry). audited_over layers b es ≡ None → 0 < b.base → (g : GovernedRows) × (governed_base b ≡ Some g) × IsOver b.base b.rows g (requests_of below) (requests_over b es))
      (λ h some.
      governed below es (omega (arith, some)) holds.base.ends (is_read layers (length below) below holds.base.valid)
      (is_read layers (snapshot_of below).base (below ++ es) (audited_to layers below holds.base.valid holds.base.ends es h)))

  pub held_broken : audited_over layers body es ≡ None → (e : Entry) → broken_over layers body es e ≡ broken_from layers body.base ledger e
  held_broken = of_body (λ (b : Body) (l : List Entry). audited_over layers b es ≡ None → (e : Entry) → broken_over layers b es e ≡ broken_from layers b.base l e)
      (λ h e. broken_alike layers below holds.base.valid holds.base.ends es e (audited_to layers below holds.base.valid holds.base.ends es h))

  -- where it ends with a signature it is the base of the next snapshot
  pub held_next : audited_over layers body es ≡ None → IsSignedUpTo ledger (length ledger) → IsBase layers (snapshot_over body es) ledger
  held_next h ends = record {
    valid = audited_more layers body.base (length ledger) ledger (let long = held_length in omega (arith, long)) (held_audited h);
    ends = ends;
    snapshot = sym held_snapshot;
  }

-- a valid ledger that ends with a signature is the base of its snapshot
pub whole_base : (layers : Layers) (ledger : List Entry) → audited layers ledger ≡ None → IsSignedUpTo ledger (length ledger) → IsBase layers (snapshot_of ledger) ledger
whole_base layers ledger h ends = record { valid = audited_whole layers (length ledger) ledger h; ends = ends; snapshot = refl }
