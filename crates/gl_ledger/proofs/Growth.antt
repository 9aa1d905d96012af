-- A ledger in order stays so with one more entry, and what isn't of governance leaves its tables.
use Rattle.std.proofs.Common.{◌≡◌, ℕ, suc, ◌<◌, ◌≤◌, List, [], ◌∷◌, ◌++◌, length, Some, Bool, true, false, refl, sym, ◌∙◌, ap, subst, arith, ⊎_elim, if◌then◌else◌}
use Rattle.std.specs.List.{slice_get, AllByRecursion}
use Rattle.std.proofs.lemmas.Bool.{false≢true}
use Rattle.gl_vmaps.specs.Name.{is_governance}
use Rattle.gl_base.specs.Bytes.{same_bytes}
use Rattle.gl_vmaps.specs.Tables.{Tables, wrote, wrote_all, with_row}
use Rattle.gl_ledger.specs.Serial.{IsLedger}
use Rattle.gl_entry.specs.Entry.{is_entry}
use Rattle.gl_ledger.specs.Ledger.{HasViewsUpTo}
use Rattle.gl_entry.specs.declared.entry.Content.{Content}
use Rattle.gl_entry.specs.declared.entry.Content.TheVariants as content
use Rattle.gl_entry.specs.declared.entry.Entry.{Entry}
use Rattle.gl_vmaps.specs.declared.write.Write.{Write}
use Rattle.std.specs.Cmp.Lexicographic.{bytes_decides}
use Rattle.gl_base.proofs.Lists.{slice_get-push, slice_get-within}

-- a write to a table that is none of governance
abbrev pub IsOutside : Write → Type 0
IsOutside w = is_governance w.map ≡ false

abbrev pub IsNoGovernance : Content → Type 0
IsNoGovernance (content.Governance bytes) = ⊥
IsNoGovernance (content.Application bytes) = Unit {0}
IsNoGovernance (content.Signature s) = Unit {0}
IsNoGovernance (content.Evidence d) = Unit {0}

untouched_by : (t : Tables) (w : Write) (map : List ℕ) → IsOutside w → is_governance map ≡ true → wrote t w map ≡ t map
untouched_by t w map out inside = go (same_bytes map w.map) refl
  where
    go : (b : Bool) → same_bytes map w.map ≡ b → (if b then with_row (t map) w.key w.value else t map) ≡ t map
    go true is = absurd (false≢true (sym out ∙ ap is_governance (sym ((bytes_decides map w.map).0 is)) ∙ inside))
    go false is = refl

-- writes outside of governance leave its tables
pub untouched : (t : Tables) (ws : List Write) (map : List ℕ) → AllByRecursion IsOutside ws → is_governance map ≡ true → wrote_all t ws map ≡ t map
untouched t [] map out inside = refl
untouched t (w ∷ ws) map out inside = untouched (wrote t w) ws map out.1 inside ∙ untouched_by t w map out.0 inside

pub in_order-push : (ledger : List Entry) (e : Entry) → IsLedger ledger → is_entry e ≡ true → e.seqno ≡ suc (length ledger) →
    HasViewsUpTo e.view ledger → IsLedger (ledger ++ e ∷ [])
in_order-push ledger e h fits at up = record {
  fits = λ i f s. ⊎_elim
      (λ (old : slice_get ledger i ≡ Some f). h.fits i f old)
      (λ (new : (i ≡ length ledger) × (f ≡ e)). subst (λ (x : Entry). is_entry x ≡ true) (sym new.1) fits)
      (slice_get-push ledger e i f s);
  seqnos = λ i f s. ⊎_elim
      (λ (old : slice_get ledger i ≡ Some f). h.seqnos i f old)
      (λ (new : (i ≡ length ledger) × (f ≡ e)). ap (λ (x : Entry). x.seqno) new.1 ∙ at ∙ ap suc (sym new.0))
      (slice_get-push ledger e i f s);
  views = λ i j f g le s r. ⊎_elim
      (λ (old : slice_get ledger j ≡ Some g). ⊎_elim
      (λ (first : slice_get ledger i ≡ Some f). h.views i j f g le first old)
      (λ (new : (i ≡ length ledger) × (f ≡ e)). let w : j < length ledger = slice_get-within ledger j g old in absurd (omega (arith, new.0)))
      (slice_get-push ledger e i f s))
      (λ (last : (j ≡ length ledger) × (g ≡ e)). subst (λ (x : Entry). f.view ≤ x.view) (sym last.1) (⊎_elim
      (λ (first : slice_get ledger i ≡ Some f). up i f first)
      (λ (new : (i ≡ length ledger) × (f ≡ e)). subst (λ (x : Entry). x.view ≤ e.view) (sym new.1) (omega arith))
      (slice_get-push ledger e i f s)))
      (slice_get-push ledger e j g r);
}
