-- The key that is in force after the first entries of a ledger: what their write sets leave in the
-- service's row. Each leaf is under the one after its own entry.
use Rattle.std.proofs.Common.{◌≡◌, ℕ, zero, suc, ◌+◌, ◌≤◌, nat_le, max, List, [], ◌∷◌, ◌++◌, length, take, slice_get, Option, Some, None, IfNone, Bool, true, false, refl, sym, ap, ◌∙◌, arith, if◌then◌else◌, cond}
use Rattle.std.specs.Option.{option_or}
use Rattle.std.proofs.lemmas.Bool.Decides.{nat_tests}
use Rattle.std.proofs.lemmas.List.{length-take-le}
use Rattle.gl_vmaps.specs.Tables.{Tables, no_tables, value_in, wrote_all}
use Rattle.gl_vmaps.specs.LastWrite.{last_write, value_after}
use Rattle.gl_vmaps.specs.Versions.{Placed, written_after, written_by, is_to_row, version_in, up_to}
use Rattle.gl_vmaps.specs.declared.write.Write.{Write}
use Rattle.gl_vmaps.proofs.LastWrites.{last_such-cons}
use Rattle.gl_vmaps.proofs.TablesLaws as tables_laws
use Rattle.gl_vmaps.proofs.TablesLaws.{value_in-wrote_all, value_in-written_by, written_after-append}
use Rattle.gl_entry.specs.Leaf.{leaf_of}
use Rattle.gl_entry.specs.declared.entry.Entry.{Entry}
use Rattle.gl_gov_rules.specs.Rows.{service_map, service_key}
use Rattle.gl_ledger.specs.ServiceRow.{identity_of_value, identity_in}
use Rattle.gl_ledger.specs.Tree.{writes_of, tables_of, leaves_from, leaves_of}
use Rattle.gl_ledger.proofs.TablesLaws.{placed_in, written_after-placed_at, tables_of-push}
use Rattle.gl_ledger.specs.NodeKeys.{service_layers}
use Rattle.gl_ledger.specs.Sound.{IsSound}
use Rattle.gl_ledger.proofs.Founded.{length_identity}
use Rattle.gl_ledger.proofs.LedgerPrefixes.{sound_prefix}
use Rattle.gl_receipt.specs.Made.{at_seqno, entry_at}
use Rattle.gl_audit.specs.Kept.{key_of}
use Rattle.gl_audit.proofs.PastOver.{none_of}

-- ---- leaves

-- what is written after an entry and others is written after what the entry makes
pub written_after-cons : (t : Tables) (e : Entry) (es : List Entry) → written_after t (writes_of (e ∷ es)) ≡ written_after (wrote_all t e.writes) (writes_of es)
written_after-cons t e es =
    written_after-append t (placed_in e) (writes_of es) ∙ ap (λ (s : Tables). written_after s (writes_of es)) (written_after-placed_at t e.seqno e.writes)

-- each leaf is under the key in force after its entry
leaf_under : (t : Tables) (es : List Entry) (i : ℕ) (e : Entry) → slice_get es i ≡ Some e →
    slice_get (leaves_from t es) i ≡ Some (leaf_of (identity_in (written_after t (writes_of (take (suc i) es)))) e)
leaf_under t [] i e at = absurd (cc)
leaf_under t (f ∷ es) zero e at =
    let same : f ≡ e = cc in
    ap (λ (x : Entry). Some (leaf_of (identity_in (wrote_all t f.writes)) x)) same ∙ ap (λ (s : Tables). Some (leaf_of (identity_in s) e)) (sym (written_after-cons t f []))
leaf_under t (f ∷ es) (suc i) e at =
    leaf_under (wrote_all t f.writes) es i e at ∙ ap (λ (s : Tables). Some (leaf_of (identity_in s) e)) (sym (written_after-cons t f (take (suc i) es)))

pub leaf_in_force : (ledger : List Entry) (seqno : ℕ) (e : Entry) → entry_at ledger seqno ≡ Some e →
    at_seqno (leaves_of ledger) seqno ≡ Some (leaf_of (identity_in (tables_of (take seqno ledger))) e)
leaf_in_force ledger zero e at = absurd (cc)
leaf_in_force ledger (suc i) e at = leaf_under no_tables ledger i e at

-- ---- the service's row

-- after one more entry the key is the one that it wrote, or as before
pub key_pushed : (es : List Entry) (e : Entry) →
    identity_in (tables_of (es ++ e ∷ [])) ≡ identity_of_value (value_after (last_write service_map service_key e.writes) (value_in (tables_of es) service_map service_key))
key_pushed es e =
    ap identity_in (tables_of-push es e) ∙ ap identity_of_value (value_in-wrote_all (tables_of es) e.writes service_map service_key)

-- where the entry doesn't write to the row, it is as before
pub key_kept : (es : List Entry) (e : Entry) → last_write service_map service_key e.writes ≡ None → identity_in (tables_of (es ++ e ∷ [])) ≡ identity_in (tables_of es)
key_kept es e none = key_pushed es e ∙ ap (λ (o : Option Write). identity_of_value (value_after o (value_in (tables_of es) service_map service_key))) none

-- and else it is the one that the entry wrote
pub key_written : (es : List Entry) (e : Entry) (w : Write) → last_write service_map service_key e.writes ≡ Some w → identity_in (tables_of (es ++ e ∷ [])) ≡ identity_of_value w.value
key_written es e w is = key_pushed es e ∙ ap (λ (o : Option Write). identity_of_value (value_after o (value_in (tables_of es) service_map service_key))) is

-- from the first entry on there is a key
pub key_there : (ledger : List Entry) → IsSound service_layers ledger → (seqno : ℕ) → seqno ≤ length ledger → (o : Option (List ℕ)) → o ≡ key_of (identity_in (tables_of (take seqno ledger))) → IfNone o (seqno ≡ 0)
key_there ledger sound seqno within (Some key) is = tt
key_there ledger sound zero within None is = refl
key_there ledger sound (suc n) within None is =
    let long : length (take (suc n) ledger) ≡ suc n = length-take-le (suc n) ledger within in
    absurd (none_of (identity_in (tables_of (take (suc n) ledger))) (length_identity service_layers (take (suc n) ledger) (sound_prefix service_layers ledger sound (suc n)) (omega (arith, long))) is)

-- without a write above a seqno the last write to a row is the last one up to there
last_up_to : (seqno : ℕ) (ps : List Placed) (m k : List ℕ) → version_in ps m k ≤ seqno → last_write m k (tables_laws.writes_of ps) ≡ last_write m k (tables_laws.writes_of (up_to seqno ps))
last_up_to seqno [] m k low = refl
last_up_to seqno (p ∷ ps) m k low = go (nat_le p.place seqno) refl (is_to_row m k p.write) refl
    (last_up_to seqno ps m k (let a : version_in (p ∷ ps) m k ≤ seqno = low in omega (arith, a)))
  where
    more : (qs : List Placed) → last_write m k (tables_laws.writes_of (p ∷ qs)) ≡ option_or (last_write m k (tables_laws.writes_of qs)) (cond (is_to_row m k p.write) (Some p.write) None)
    more qs = last_such-cons (is_to_row m k) p.write (tables_laws.writes_of qs)

    or_none : (o : Option Write) → option_or o None ≡ o
    or_none None = refl
    or_none (Some w) = refl

    kept : (b : Bool) → nat_le p.place seqno ≡ b → up_to seqno (p ∷ ps) ≡ cond b (p ∷ up_to seqno ps) (up_to seqno ps)
    kept b is = ap (λ (x : Bool). cond x (p ∷ up_to seqno ps) (up_to seqno ps)) is

    go : (b : Bool) → nat_le p.place seqno ≡ b → (t : Bool) → is_to_row m k p.write ≡ t → last_write m k (tables_laws.writes_of ps) ≡ last_write m k (tables_laws.writes_of (up_to seqno ps)) →
        last_write m k (tables_laws.writes_of (p ∷ ps)) ≡ last_write m k (tables_laws.writes_of (up_to seqno (p ∷ ps)))
    go true within t to rest =
        more ps ∙ ap (λ (o : Option Write). option_or o (cond (is_to_row m k p.write) (Some p.write) None)) rest ∙ sym (more (up_to seqno ps))
        ∙ ap (λ (qs : List Placed). last_write m k (tables_laws.writes_of qs)) (sym (kept true within))
    go false above true to rest =
        absurd (let a : (max (if is_to_row m k p.write then p.place else 0) (version_in ps m k)) ≤ seqno = low in
        let b : (if is_to_row m k p.write then p.place else 0) ≡ p.place = ap (λ (x : Bool). if x then p.place else 0) to in
        let c : seqno + 1 ≤ p.place = grind (arith, nat_tests, above) in
        omega (arith, a, b, c))
    go false above false to rest =
        more ps ∙ ap (λ (x : Bool). option_or (last_write m k (tables_laws.writes_of ps)) (cond x (Some p.write) None)) to ∙ or_none (last_write m k (tables_laws.writes_of ps)) ∙ rest
        ∙ ap (λ (qs : List Placed). last_write m k (tables_laws.writes_of qs)) (sym (kept false above))

-- so the row has the value that it had there, and the key is the one in force there
pub key_up_to : (seqno : ℕ) (ps : List Placed) → version_in ps service_map service_key ≤ seqno → identity_in (written_by ps) ≡ identity_in (written_by (up_to seqno ps))
key_up_to seqno ps low =
    ap identity_of_value
    (value_in-written_by ps service_map service_key
    ∙ ap (λ (o : Option Write). value_after o None) (last_up_to seqno ps service_map service_key low)
    ∙ sym (value_in-written_by (up_to seqno ps) service_map service_key))
