-- The service's key in force at the seqno of an entry behind a base: the one that the entries up to
-- it wrote last, else that of the base.
use Rattle.std.proofs.Common.{◌≡◌, ℕ, zero, suc, ◌+◌, ◌-◌, ◌≤◌, List, [], ◌∷◌, length, take, Option, Some, None, IfNone, Bool, true, false, ◌==◌, if◌then◌else◌, refl, sym, ◌∙◌, ap, subst, arith}
use Rattle.std.specs.Option.{option_or}
use Rattle.std.proofs.lemmas.List.{append-nil, length-take-le}
use Rattle.gl_vmaps.specs.LastWrite.{last_write, value_after}
use Rattle.gl_vmaps.specs.Rows.{row_writes}
use Rattle.gl_vmaps.specs.Tables.{Tables, no_tables, value_in}
use Rattle.gl_vmaps.specs.Versions.{Placed, placed_at, written_after, written_by, version_in}
use Rattle.gl_vmaps.specs.declared.write.Write.{Write}
use Rattle.gl_vmaps.proofs.TablesLaws as tables_laws
use Rattle.gl_vmaps.proofs.TablesLaws.{value_in-nothing, value_in-wrote_all, written_after-append, written_after-writes}
use Rattle.gl_entry.specs.declared.entry.Entry.{Entry}
use Rattle.gl_gov_rules.specs.Rows.{service_map, service_key}
use Rattle.gl_snapshot_body.specs.declared.body.Body.{Body}
use Rattle.gl_ledger.specs.Audit.{audited_over}
use Rattle.gl_ledger.specs.Behind.{IsReadBody}
use Rattle.gl_ledger.specs.NodeKeys.{service_layers}
use Rattle.gl_ledger.specs.ServiceRow.{identity_in, identity_of_value}
use Rattle.gl_ledger.specs.Snapshot.{tables_over, writes_over}
use Rattle.gl_ledger.specs.Tree.{tables_of, writes_of}
use Rattle.gl_ledger.proofs.EachPassing.{over-take}
use Rattle.gl_audit.specs.Kept.{key_of}
use Rattle.gl_audit.proofs.Cutting.{CountFrom, writes_over-take}
use Rattle.gl_audit.proofs.GovernanceBehind.{numbered_over}
use Rattle.gl_audit.proofs.InForce.{key_up_to}
use Rattle.gl_audit.proofs.KeyBehind.{key_behind}
use Rattle.gl_audit.proofs.PastOver.{none_of}
use Rattle.gl_store.specs.Tail.{StandsBehind, Tail}

-- the last write of the entries to the service's row
abbrev service_write : List Entry → Option Write
service_write es = last_write service_map service_key (tables_laws.writes_of (writes_of es))

-- what the row has after the entries
row_after : (t : Tables) (es : List Entry) → identity_in (written_after t (writes_of es)) ≡ identity_of_value (value_after (service_write es) (value_in t service_map service_key))
row_after t es =
    ap identity_in (written_after-writes t (writes_of es)) ∙ ap identity_of_value (value_in-wrote_all t (tables_laws.writes_of (writes_of es)) service_map service_key)

over_after : (body : Body) (es : List Entry) → identity_in (tables_over body es) ≡ identity_of_value (value_after (service_write es) (value_in (tables_over body []) service_map service_key))
over_after body es =
    ap identity_in (written_after-append no_tables (placed_at 0 (row_writes body.rows)) (writes_of es)) ∙ row_after (written_by (placed_at 0 (row_writes body.rows))) es
    ∙ ap (λ (ps : List Placed). identity_of_value (value_after (service_write es) (value_in (written_by ps) service_map service_key))) (sym (append-nil (placed_at 0 (row_writes body.rows))))

of_after : (es : List Entry) → identity_in (tables_of es) ≡ identity_of_value (value_after (service_write es) None)
of_after es = row_after no_tables es ∙ ap (λ (o : Option (List ℕ)). identity_of_value (value_after (service_write es) o)) (value_in-nothing service_map service_key)

-- the key that the entries wrote last, else that of the base
pub key_before : (body : Body) (es : List Entry) → IsReadBody body → audited_over service_layers body es ≡ None →
    (written base : Option (List ℕ)) → written ≡ key_of (identity_in (tables_of es)) → base ≡ key_of (identity_in (tables_over body [])) → option_or written base ≡ key_of (identity_in (tables_over body es))
key_before body es read valid written base is at = go es (service_write es) refl read valid is
  where
    taken : (o : Option (List ℕ)) (key : List ℕ) → o ≡ key_of key → length key ≡ 60 → option_or o base ≡ key_of key
    taken None key is long = absurd (none_of key long is)
    taken (Some k) key is long = is

    left : (o : Option (List ℕ)) → o ≡ None → option_or o base ≡ base
    left None is = refl
    left (Some k) is = absurd (cc)

    go : (xs : List Entry) (w : Option Write) → service_write xs ≡ w → IsReadBody body → audited_over service_layers body xs ≡ None → written ≡ key_of (identity_in (tables_of xs)) →
        option_or written base ≡ key_of (identity_in (tables_over body xs))
    go xs None none read valid is =
        left written (is ∙ ap key_of (of_after xs ∙ ap (λ (o : Option Write). identity_of_value (value_after o None)) none)) ∙ at
        ∙ sym (ap key_of (over_after body xs ∙ ap (λ (o : Option Write). identity_of_value (value_after o (value_in (tables_over body []) service_map service_key))) none))
    go [] (Some w) wrote read valid is = absurd (cc)
    go (e ∷ xs) (Some w) wrote read valid is =
        let same : identity_in (tables_of (e ∷ xs)) ≡ identity_in (tables_over body (e ∷ xs)) =
        of_after (e ∷ xs) ∙ ap (λ (o : Option Write). identity_of_value (value_after o None)) wrote
        ∙ sym (over_after body (e ∷ xs) ∙ ap (λ (o : Option Write). identity_of_value (value_after o (value_in (tables_over body []) service_map service_key))) wrote) in
        taken written (identity_in (tables_over body (e ∷ xs))) (is ∙ ap key_of same) (key_behind service_layers body (e ∷ xs) read valid (omega arith))

-- the present key, where the row was last written up to the seqno
pub key_present : (body : Body) (t : Tail) (seqno version : ℕ) → StandsBehind body t → body.base ≤ seqno → version ≡ version_in (writes_over body t.entries) service_map service_key → version ≤ seqno →
    t.state.identity ≡ key_of (identity_in (tables_over body (take (seqno - body.base) t.entries)))
key_present body t seqno version s from is low =
    s.stands.identity_is ∙ ap key_of (key_up_to seqno (writes_over body t.entries) (subst (λ (n : ℕ). n ≤ seqno) is low))
    ∙ ap (λ (ps : List Placed). key_of (identity_in (written_by ps))) (sym (writes_over-take body t.entries seqno numbered from))
  where
    numbered : CountFrom (suc body.base) t.entries
    numbered i e at = let place = numbered_over service_layers body t.entries s.stands.valid i e at in omega (arith, place)

-- from the first entry on there is a key
pub key_there : (body : Body) (t : Tail) (seqno : ℕ) → StandsBehind body t → body.base ≤ seqno → seqno ≤ body.base + length t.entries →
    (o : Option (List ℕ)) → o ≡ key_of (identity_in (tables_over body (take (seqno - body.base) t.entries))) → IfNone o (seqno ≡ 0)
key_there body t seqno s from within (Some key) is = tt
key_there body t zero s from within None is = refl
key_there body t (suc n) s from within None is =
    let long : length (take (suc n - body.base) t.entries) ≡ suc n - body.base = length-take-le (suc n - body.base) t.entries (omega (arith, within)) in
    absurd (none_of (identity_in (tables_over body (take (suc n - body.base) t.entries)))
    (key_behind service_layers body (take (suc n - body.base) t.entries) s.stands.read (over-take service_layers body t.entries (suc n - body.base) s.stands.valid) (omega (arith, long, from))) is)

-- a key that is there is the one in force
pub key_is : (bytes key : List ℕ) → Some key ≡ key_of bytes → key ≡ bytes
key_is bytes key is = go (length bytes == 60) is
  where
    go : (b : Bool) → Some key ≡ (if b then Some bytes else None) → key ≡ bytes
    go true is = cc
    go false is = absurd (cc)
