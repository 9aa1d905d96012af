-- What the verdicts mean: each comes exactly where it is true.
use Rattle.std.proofs.Common.{◌≡◌, ◌≢◌, ◌⊎◌, inl, inr, ℕ, suc, List, [], Bool, true, false, length, Option, None, Some, if◌then◌else◌, refl, sym, ap, ◌∙◌}
use Rattle.std.specs.Prelude.{◌↔◌, option_map}
use Rattle.std.specs.Cmp.Lexicographic.{bytes_decides}
use Rattle.gl_base.specs.Bytes.{same_bytes}
use Rattle.gl_base.specs.declared.tx_id.TxId.{TxId}
use Rattle.gl_entry.specs.declared.entry.Entry.{Entry}
use Rattle.gl_entry.specs.declared.fault.EntryFault.{EntryFault}
use Rattle.gl_ledger.specs.Audit.{LedgerFault, audited}
use Rattle.gl_ledger.specs.NodeKeys.{service_layers}
use Rattle.gl_ledger.specs.Recordings.{last_entry}
use Rattle.gl_ledger.specs.Sound.{IsSound}
use Rattle.gl_ledger.proofs.Pushes.{no_last}
use Rattle.gl_ledger.proofs.Valid.{valid_sound}
use Rattle.gl_entry.specs.LedgerFile.{LedgerFile, ledger_file}
use Rattle.gl_entry.specs.Leaf.{id_of}
use Rattle.gl_audit.specs.Verdict.{IsFaulty, IsForeignTo, IsLedgerOf, IsValidLedger, judged, key_in_force, last_signature, unless_broken, unless_unread, verdict, verdict_of}
use Rattle.gl_audit.specs.declared.verdict.Verdict.{Verdict}
use Rattle.gl_audit.specs.declared.verdict.Verdict.TheVariants as verdicts
use Rattle.gl_entry.proofs.FileLaws.{file_end}
use Rattle.gl_entry.proofs.EncodedEntries.{no_bytes}

-- ---- the last entry of a file

has_last : (bytes : List ℕ) → (ledger_file bytes).fault ≡ None → bytes ≢ [] → (e : Entry) × (last_entry (ledger_file bytes).entries ≡ Some e)
has_last bytes whole some = go (last_entry (ledger_file bytes).entries) refl
  where
    go : (o : Option Entry) → last_entry (ledger_file bytes).entries ≡ o → (e : Entry) × (o ≡ Some e)
    go None is = absurd (some (no_bytes bytes (no_last (ledger_file bytes).entries is) whole))
    go (Some e) is = (e, refl)

no_last_of_none : (bytes : List ℕ) → bytes ≡ [] → last_entry (ledger_file bytes).entries ≡ None
no_last_of_none bytes none = ap (λ (given : List ℕ). last_entry (ledger_file given).entries) none ∙ ap (λ (file : LedgerFile). last_entry file.entries) file_end

not_empty : (bytes : List ℕ) (e : Entry) → last_entry (ledger_file bytes).entries ≡ Some e → bytes ≢ []
not_empty bytes e is none = let other = sym (no_last_of_none bytes none) ∙ is in cc

-- ---- what was found, by what was reported

-- What an auditor judges by: the first rule that is broken, bytes that are no frame, the last
-- entry.
abbrev reported : List ℕ → List Entry → Option LedgerFault → Option EntryFault → Option Entry → Verdict
reported identity ledger broken fault last = unless_broken broken (unless_unread (suc (length ledger)) fault (judged identity ledger last))

-- No rule is broken, there are no other bytes, and this is the last entry.
abbrev IsWhole : Option LedgerFault → Option EntryFault → Option Entry → Type 0
IsWhole broken fault last = (broken ≡ None) × (fault ≡ None) × ((e : Entry) × (last ≡ Some e))

module _ (identity : List ℕ) (ledger : List Entry) where
  record IsReportedValid (broken : Option LedgerFault) (fault : Option EntryFault) (last : Option Entry) (id : TxId) (signed : Option TxId) : Type 0 where
    whole : IsWhole broken fault last
    service : key_in_force ledger ≡ identity
    named : option_map id_of last ≡ Some id
    signs : last_signature ledger ≡ signed

  reported_valid : (broken : Option LedgerFault) (fault : Option EntryFault) (last : Option Entry) (id : TxId) (signed : Option TxId)
      → reported identity ledger broken fault last ≡ verdicts.Valid id signed → IsReportedValid broken fault last id signed
  reported_valid (Some b) fault last id signed h = absurd cc
  reported_valid None (Some f) last id signed h = absurd cc
  reported_valid None None None id signed h = absurd cc
  reported_valid None None (Some e) id signed h = go (same_bytes (key_in_force ledger) identity) refl h
    where
      go : (b : Bool) → same_bytes (key_in_force ledger) identity ≡ b
          → (if b then verdicts.Valid (id_of e) (last_signature ledger) else verdicts.Foreign (key_in_force ledger)) ≡ verdicts.Valid id signed
          → IsReportedValid None None (Some e) id signed
      go true same is = record {
        whole = (refl, refl, (e, refl));
        service = (bytes_decides (key_in_force ledger) identity).0 same;
        named = cc;
        signs = cc;
      }
      go false other is = absurd cc

  record IsReportedForeign (broken : Option LedgerFault) (fault : Option EntryFault) (last : Option Entry) (key : List ℕ) : Type 0 where
    whole : IsWhole broken fault last
    service : key_in_force ledger ≡ key
    other : key ≢ identity

  reported_foreign : (broken : Option LedgerFault) (fault : Option EntryFault) (last : Option Entry) (key : List ℕ)
      → reported identity ledger broken fault last ≡ verdicts.Foreign key → IsReportedForeign broken fault last key
  reported_foreign (Some b) fault last key h = absurd cc
  reported_foreign None (Some f) last key h = absurd cc
  reported_foreign None None None key h = absurd cc
  reported_foreign None None (Some e) key h = go (same_bytes (key_in_force ledger) identity) refl h
    where
      go : (b : Bool) → same_bytes (key_in_force ledger) identity ≡ b
          → (if b then verdicts.Valid (id_of e) (last_signature ledger) else verdicts.Foreign (key_in_force ledger)) ≡ verdicts.Foreign key
          → IsReportedForeign None None (Some e) key
      go true same is = absurd cc
      go false other is =
          let service : key_in_force ledger ≡ key = cc in
          record {
            whole = (refl, refl, (e, refl));
            service = service;
            other = λ one. let same = (bytes_decides (key_in_force ledger) identity).1 (service ∙ one) in cc;
          }

  abbrev IsReportedFaulty : Option LedgerFault → Option EntryFault → Option Entry → ℕ → ℕ → Type 0
  IsReportedFaulty broken fault last seqno rule =
      ((b : LedgerFault) × (broken ≡ Some b) × (b.seqno ≡ seqno) × (b.broken.rule ≡ rule))
      ⊎ (((broken ≡ None) × ((f : EntryFault) × (fault ≡ Some f)) × (seqno ≡ suc (length ledger)) × (rule ≡ 1))
      ⊎ ((fault ≡ None) × (last ≡ None) × (seqno ≡ 1) × (rule ≡ 3)))

  reported_faulty : (broken : Option LedgerFault) (fault : Option EntryFault) (last : Option Entry) (seqno rule : ℕ)
      → reported identity ledger broken fault last ≡ verdicts.Fault seqno rule → IsReportedFaulty broken fault last seqno rule
  reported_faulty (Some b) fault last seqno rule h = inl (b, refl, cc, cc)
  reported_faulty None (Some f) last seqno rule h = inr (inl (refl, (f, refl), cc, cc))
  reported_faulty None None None seqno rule h = inr (inr (refl, refl, cc, cc))
  reported_faulty None None (Some e) seqno rule h = absurd (go (same_bytes (key_in_force ledger) identity) h)
    where
      go : (b : Bool) → (if b then verdicts.Valid (id_of e) (last_signature ledger) else verdicts.Foreign (key_in_force ledger)) ≡ verdicts.Fault seqno rule → ⊥
      go true is = cc
      go false is = cc

  -- ---- and the other way round

  judged_valid : (last : Option Entry) (id : TxId) (signed : Option TxId) → option_map id_of last ≡ Some id → last_signature ledger ≡ signed → key_in_force ledger ≡ identity
      → judged identity ledger last ≡ verdicts.Valid id signed
  judged_valid None id signed is its same = absurd cc
  judged_valid (Some e) id signed is its same =
      let one : id_of e ≡ id = cc in
      ap (λ (b : Bool). if b then verdicts.Valid (id_of e) (last_signature ledger) else verdicts.Foreign (key_in_force ledger)) ((bytes_decides (key_in_force ledger) identity).1 same)
      ∙ ap (λ (x : TxId). verdicts.Valid x (last_signature ledger)) one ∙ ap (verdicts.Valid id) its

  judged_foreign : (last : Option Entry) (e : Entry) (key : List ℕ) → last ≡ Some e → key_in_force ledger ≡ key → key ≢ identity
      → judged identity ledger last ≡ verdicts.Foreign key
  judged_foreign last e key is its other =
      ap (judged identity ledger) is ∙ go (same_bytes (key_in_force ledger) identity) refl ∙ ap verdicts.Foreign its
    where
      go : (b : Bool) → same_bytes (key_in_force ledger) identity ≡ b
          → (if b then verdicts.Valid (id_of e) (last_signature ledger) else verdicts.Foreign (key_in_force ledger)) ≡ verdicts.Foreign (key_in_force ledger)
      go true same = absurd (other (sym its ∙ (bytes_decides (key_in_force ledger) identity).0 same))
      go false differ = refl

-- ---- the verdict on a file

module _ (identity bytes : List ℕ) where
  abbrev entries : List Entry
  entries = (ledger_file bytes).entries

  abbrev fault_found : Option LedgerFault
  fault_found = audited service_layers entries

  verdict_is : verdict identity bytes ≡ reported identity entries fault_found (ledger_file bytes).fault (last_entry entries)
  unfolding verdict
  verdict_is = refl

  is_valid : IsWhole fault_found (ledger_file bytes).fault (last_entry entries) → IsValidLedger bytes
  is_valid w = record { unbroken = w.0; whole = w.1; some = not_empty bytes w.2.0 w.2.1 }

  -- Of a valid ledger file.
  of_valid : IsValidLedger bytes → verdict identity bytes ≡ judged identity entries (last_entry entries)
  of_valid v =
      verdict_is
      ∙ ap (λ (broken : Option LedgerFault). reported identity entries broken (ledger_file bytes).fault (last_entry entries)) v.unbroken
      ∙ ap (λ (fault : Option EntryFault). reported identity entries None fault (last_entry entries)) v.whole

  is_ledger_of : (last : TxId) (signed : Option TxId) → verdict identity bytes ≡ verdicts.Valid last signed → IsLedgerOf identity bytes last signed
  is_ledger_of last signed h =
      let t = reported_valid identity entries fault_found (ledger_file bytes).fault (last_entry entries) last signed (sym verdict_is ∙ h) in
      record { valid = is_valid t.whole; service = t.service; ends = t.named; signs = t.signs }

  of_ledger : (last : TxId) (signed : Option TxId) → IsLedgerOf identity bytes last signed → verdict identity bytes ≡ verdicts.Valid last signed
  of_ledger last signed l = of_valid l.valid ∙ judged_valid identity entries (last_entry entries) last signed l.ends l.signs l.service

  is_foreign_to : (key : List ℕ) → verdict identity bytes ≡ verdicts.Foreign key → IsForeignTo identity bytes key
  is_foreign_to key h =
      let t = reported_foreign identity entries fault_found (ledger_file bytes).fault (last_entry entries) key (sym verdict_is ∙ h) in
      record { valid = is_valid t.whole; service = t.service; other = t.other }

  of_foreign : (key : List ℕ) → IsForeignTo identity bytes key → verdict identity bytes ≡ verdicts.Foreign key
  of_foreign key f =
      let last = has_last bytes f.valid.whole f.valid.some in
      of_valid f.valid ∙ judged_foreign identity entries (last_entry entries) last.0 key last.1 f.service f.other

  is_faulty : (seqno rule : ℕ) → verdict identity bytes ≡ verdicts.Fault seqno rule → IsFaulty bytes seqno rule
  is_faulty seqno rule h = go (reported_faulty identity entries fault_found (ledger_file bytes).fault (last_entry entries) seqno rule (sym verdict_is ∙ h))
    where
      go : IsReportedFaulty identity entries fault_found (ledger_file bytes).fault (last_entry entries) seqno rule → IsFaulty bytes seqno rule
      go (inl b) = inl b
      go (inr (inl u)) = inr (inl u)
      go (inr (inr e)) = inr (inr (no_bytes bytes (no_last entries e.1) e.0, e.2, e.3))

  of_empty : bytes ≡ [] → verdict identity bytes ≡ verdicts.Fault 1 3
  unfolding verdict audited
  of_empty none = ap (verdict identity) none ∙ ap (verdict_of identity) file_end

  of_faulty : (seqno rule : ℕ) → IsFaulty bytes seqno rule → verdict identity bytes ≡ verdicts.Fault seqno rule
  of_faulty seqno rule (inl b) =
      verdict_is
      ∙ ap (λ (broken : Option LedgerFault). reported identity entries broken (ledger_file bytes).fault (last_entry entries)) b.1
      ∙ ap (λ (n : ℕ). verdicts.Fault n b.0.broken.rule) b.2 ∙ ap (verdicts.Fault seqno) b.3
  of_faulty seqno rule (inr (inl u)) =
      verdict_is
      ∙ ap (λ (broken : Option LedgerFault). reported identity entries broken (ledger_file bytes).fault (last_entry entries)) u.0
      ∙ ap (λ (fault : Option EntryFault). reported identity entries None fault (last_entry entries)) u.1.1
      ∙ ap (λ (n : ℕ). verdicts.Fault n 1) (sym u.2) ∙ ap (verdicts.Fault seqno) (sym u.3)
  of_faulty seqno rule (inr (inr e)) = of_empty e.0 ∙ ap (λ (n : ℕ). verdicts.Fault n 3) (sym e.1) ∙ ap (verdicts.Fault seqno) (sym e.2)

pub sound : (bytes : List ℕ) → IsValidLedger bytes → IsSound service_layers (ledger_file bytes).entries
sound bytes v = valid_sound service_layers (ledger_file bytes).entries v.unbroken

-- ---- the three verdicts

pub valid_where : (identity bytes : List ℕ) (last : TxId) (signed : Option TxId) → verdict identity bytes ≡ verdicts.Valid last signed ↔ IsLedgerOf identity bytes last signed
valid_where identity bytes last signed = (is_ledger_of identity bytes last signed, of_ledger identity bytes last signed)

pub foreign_where : (identity bytes key : List ℕ) → verdict identity bytes ≡ verdicts.Foreign key ↔ IsForeignTo identity bytes key
foreign_where identity bytes key = (is_foreign_to identity bytes key, of_foreign identity bytes key)

pub faulty_where : (identity bytes : List ℕ) (seqno rule : ℕ) → verdict identity bytes ≡ verdicts.Fault seqno rule ↔ IsFaulty bytes seqno rule
faulty_where identity bytes seqno rule = (is_faulty identity bytes seqno rule, of_faulty identity bytes seqno rule)
