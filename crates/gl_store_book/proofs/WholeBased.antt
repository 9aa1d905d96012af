-- Of a ledger without a snapshot the entries are the whole ledger.
use Rattle.std.proofs.Common.{◌≡◌, ℕ, ◌≤◌, ◌==◌, if◌then◌else◌, List, [], ◌∷◌, length, Option, Some, None, option_map, is_some, Bor, Bool, true, false, refl, sym, ap, subst, ◌∙◌, arith}
use Rattle.std.specs.Result.{result_ok}
use Rattle.gl_entry.specs.declared.entry.Entry.{Entry}
use Rattle.gl_gov_rules.specs.Changes.{history}
use Rattle.gl_gov_rules.specs.GovernedRows.{governed_rows}
use Rattle.gl_snapshot_body.specs.declared.body.Body.{Body}
use Rattle.gl_ledger.specs.Audit.{audited}
use Rattle.gl_ledger.specs.Broken.{broken}
use Rattle.gl_ledger.specs.Makers.{MayMake}
use Rattle.gl_ledger.specs.NodeKeys.{service_layers}
use Rattle.gl_ledger.specs.Past.{is_unopened, past_at, past_of}
use Rattle.gl_ledger.specs.Recordings.{last_entry, requests_of}
use Rattle.gl_ledger.specs.Snapshot.{governed_base, requests_over}
use Rattle.gl_audit.specs.GovState.{history_of}
use Rattle.gl_store_book.specs.BasedLedgers as based
use Rattle.gl_store_book.specs.BasedLedgers.{BasedLedger, IsAudited, base_of, body_of, broken_after, governed_of, len_of, whole_ledger}

-- ---- without a snapshot

module _ (l : BasedLedger) (none : l.snapshot ≡ None) where
  pub is_whole : l ≡ whole_ledger l.entries
  is_whole = ap (λ (o : Option (List ℕ)). record { snapshot = o; entries = l.entries }) none

  pub no_base : base_of l ≡ 0
  no_base = ap (λ (m : BasedLedger). base_of m) is_whole

  pub whole_len : len_of l ≡ length l.entries
  whole_len = let base = no_base in omega (arith, base)

  pub whole_audited : IsAudited l → audited service_layers l.entries ≡ None
  whole_audited valid = subst (λ (m : BasedLedger). IsAudited m) is_whole valid

  pub whole_broken : (e : Entry) → broken_after l e ≡ broken service_layers l.entries e
  whole_broken e = ap (λ (m : BasedLedger). broken_after m e) is_whole

  pub whole_history : history_of (governed_of l) ≡ history (requests_of l.entries)
  whole_history = ap (λ (m : BasedLedger). history_of (governed_of m)) is_whole

-- no bytes are told of no snapshot
pub no_bytes : (o : Option (Bor (List ℕ))) (s : Option (List ℕ)) → option_map (λ (bytes : Bor (List ℕ)). bytes.now) o ≡ s → is_some o ≡ false → s ≡ None
no_bytes None s told is = sym told
no_bytes (Some bytes) s told is = absurd (cc)

-- ---- where entries may be made

-- after a last entry with which none begins, and that is of no later view, entries may be made
pub may_make_last : (ledger : List Entry) (view : ℕ) (last : Entry) → last_entry ledger ≡ Some last → is_unopened (last_entry ledger) ≡ false → last.view ≤ view → MayMake ledger view
may_make_last ledger view last at opened low = record { last = last; is_last = at; opened = ap is_unopened (sym at) ∙ opened; up = low }

-- ---- no entries

no_entry : (es : List Entry) → length es ≡ 0 → es ≡ []
no_entry [] is = refl
no_entry (e ∷ es) is = absurd (omega (arith, is))

module _ (l : BasedLedger) (none : len_of l ≡ 0) where
  nothing : l.entries ≡ []
  nothing = no_entry l.entries (omega (arith, none))

  begun : base_of l ≡ 0
  begun = omega (arith, none)

  pub no_past : based.past_of l ≡ past_of []
  no_past = ap (λ (n : ℕ). past_at n (body_of l.snapshot) l.entries) begun ∙ ap past_of nothing

  pub no_history : history_of (governed_of l) ≡ history []
  no_history =
      ap (λ (es : List Entry). history_of (record { base = governed_base (body_of l.snapshot); requests = requests_over (body_of l.snapshot) es })) nothing
      ∙ ungoverned (body_of l.snapshot) begun
    where
      ungoverned : (body : Body) → body.base ≡ 0 → history_of (record { base = governed_base body; requests = [] }) ≡ history []
      ungoverned body is = go (body.base == 0) (ap (λ (n : ℕ). n == 0) is)
        where
          go : (b : Bool) → b ≡ true → history_of (record { base = if b then None else result_ok (governed_rows body.base body.rows); requests = [] }) ≡ history []
          go true h = refl
          go false h = absurd (cc)
