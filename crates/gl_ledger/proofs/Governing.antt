-- The guard refuses no request of governance: its entry fits its format and breaks no rule.
use Rattle.std.proofs.Common.{◌≡◌, ℕ, ◌+◌, ◌<◌, ◌≤◌, ◌^◌, List, [], length, Option, Some, None, Result, Ok, Err, Bool, true, false, ◌||◌, nat_lt, if◌then◌else◌, refl, sym, ◌∙◌, ap, arith}
use Rattle.std.proofs.lemmas.Bool.Decides.{nat_tests}
use Rattle.gl_base.specs.TxId.{last_seqno}
use Rattle.gl_vmaps.proofs.WriteLaws.{all_writes}
use Rattle.gl_entry.specs.Entry.{no_digest, is_entry, body_bytes, body_limit}
use Rattle.gl_entry.specs.declared.entry.Entry.{Entry}
use Rattle.gl_requests.specs.Encoding as requests_encoded
use Rattle.gl_requests.specs.Ranges as ranges
use Rattle.gl_requests.specs.declared.request.GovernanceRequest.{GovernanceRequest}
use Rattle.gl_gov_rules.specs.declared.change.Recorded.{Recorded}
use Rattle.gl_gov_rules.specs.declared.refusal.GovernanceRefusal.{GovernanceRefusal}
use Rattle.gl_gov_rules.specs.Changes.{history}
use Rattle.gl_gov_rules.specs.Governed.{Follows, is_founding, is_recovery, is_nothing}
use Rattle.gl_gov_rules.specs.Refusals.{refusal}
use Rattle.gl_gov_rules.specs.Rows.{effect_writes}
use Rattle.gl_gov_rules.proofs.Effects.{effect_ordered}
use Rattle.gl_gov_rules.proofs.RowsFit.{effect_fits}
use Rattle.gl_ledger.specs.Ledger.{governance_entry, within_size, within_seqnos}
use Rattle.gl_ledger.specs.declared.refusal.Refusal.TheVariants as refusals
use Rattle.gl_ledger.specs.Layers.{Layers}
use Rattle.gl_ledger.specs.NodeKeys.{NodeKeys}
use Rattle.gl_ledger.specs.Recordings.{last_entry, requests_of}
use Rattle.gl_ledger.specs.Broken.{broken}
use Rattle.gl_ledger.specs.Sound.{IsSound}
use Rattle.gl_ledger.specs.declared.response.Response.{Response}
use Rattle.gl_ledger.specs.declared.response.Rejection.{Rejection}
use Rattle.gl_ledger.specs.declared.response.Rejection.TheVariants.{Unencodable, Founding}
use Rattle.gl_ledger.specs.Makers.{MayMake, by_store, unless_refused, governance_made, govern_result, guarded}
use Rattle.gl_ledger.specs.LedgerBook.{ledger_book}
use Rattle.gl_ledger.proofs.Entries.{governance_fits, is_entry-from_fields}
use Rattle.gl_ledger.proofs.GovernanceBytes.{governance_are_bytes}
use Rattle.gl_ledger.proofs.Governed.{above, nothing_recorded, governed}
use Rattle.gl_ledger.proofs.MadeEntries.{governed_unbroken, unless_none}

-- ---- what may be made

-- neither of two
pub neither : (a b : Bool) → (a || b) ≡ false → (a ≡ false) × (b ≡ false)
neither true b h = absurd (cc)
neither false b h = (refl, h)

module _ (layers : Layers) (ledger : List Entry) (view : ℕ) (m : MayMake ledger view) (sound : IsSound layers ledger) where
  -- where an entry may be made a request is recorded
  some_recorded : is_nothing (requests_of ledger) ≡ false
  some_recorded = go (is_nothing (requests_of ledger)) refl
    where
      go : (b : Bool) → is_nothing (requests_of ledger) ≡ b → b ≡ false
      go false is = refl
      go true is =
          absurd (let none : last_entry [] ≡ Some m.last = ap last_entry (sym (nothing_recorded layers ledger sound is)) ∙ m.is_last in cc)

  -- an accepted request that founds no service follows those that are recorded
  follows_after : (g : GovernanceRequest) → ranges.is_request g ≡ true → is_founding g ≡ false → refusal (history (requests_of ledger)) (length ledger + 1) g ≡ None →
      Follows (requests_of ledger) (record { seqno = length ledger + 1; request = g })
  follows_after g fits other accepted = record { above = above ledger; fits = fits; founding = other ∙ sym some_recorded; accepted = accepted }

  -- its entry fits its format, in a view of four bytes, where its body is small enough and a seqno
  -- is left
  pub governed_fits : (g : GovernanceRequest) → view < 2 ^ 32 → ranges.is_request g ≡ true → is_founding g ≡ false → refusal (history (requests_of ledger)) (length ledger + 1) g ≡ None →
      length ledger < last_seqno → length (body_bytes (governance_entry g ledger view)) ≤ body_limit → is_entry (governance_entry g ledger view) ≡ true
  governed_fits g low fits other accepted left small =
      let r : Recorded = record { seqno = length ledger + 1; request = g } in
      let writes = effect_writes (requests_of ledger) r in
      is_entry-from_fields (governance_entry g ledger view)
      (governance_fits view (length ledger + 1) (requests_encoded.request_bytes g) writes no_digest low (omega (arith, left)) (governance_are_bytes g fits)
      (all_writes writes (effect_fits (requests_of ledger) r (governed layers ledger sound) (follows_after g fits other accepted)))
      (effect_ordered (requests_of ledger) r) refl)
      small

-- ---- the guard

-- where an entry may be made after a sound ledger the book refuses no request of governance for a
-- rule of the audit
pub govern_is : (layers : Layers) (keys : NodeKeys) (ledger : List Entry) (view : ℕ) → view < 2 ^ 32 → MayMake ledger view → IsSound layers ledger → (g : GovernanceRequest) →
    (ledger_book layers keys).govern ledger view g ≡ govern_result ledger view g
govern_is layers keys ledger view low m sound g =
    go (ranges.is_request g) (is_founding g || is_recovery g) (refusal (history (requests_of ledger)) (length ledger + 1) g) refl refl refl
  where
    e : Entry
    e = governance_entry g ledger view

    made : Result (Entry × Response) Rejection
    made = by_store (within_size (length (body_bytes e)) (within_seqnos ledger (governance_made ledger g e)))

    accepted_made : ranges.is_request g ≡ true → (is_founding g || is_recovery g) ≡ false → refusal (history (requests_of ledger)) (length ledger + 1) g ≡ None →
        (large left : Bool) → nat_lt body_limit (length (body_bytes e)) ≡ large → nat_lt (length ledger) last_seqno ≡ left →
        guarded layers (λ (x : Entry × Response). x.0) ledger (by_store (if large then Err (refusals.TooLarge (length (body_bytes e))) else (if left then Ok (governance_made ledger g e) else Err refusals.SeqnoLimit)))
        ≡ by_store (if large then Err (refusals.TooLarge (length (body_bytes e))) else (if left then Ok (governance_made ledger g e) else Err refusals.SeqnoLimit))
    accepted_made fits none accepted true left is1 is2 = refl
    accepted_made fits none accepted false false is1 is2 = refl
    accepted_made fits none accepted false true is1 is2 =
        let both = neither (is_founding g) (is_recovery g) none in
        let small : length (body_bytes e) ≤ body_limit = grind (arith, nat_tests) in
        let place : length ledger < last_seqno = grind (arith, nat_tests) in
        unless_none layers keys (broken layers ledger e) (governance_made ledger g e)
        (governed_unbroken layers keys ledger view m g fits accepted both.0 both.1 place (governed_fits layers ledger view m sound g low fits both.0 accepted place small))

    go : (a b : Bool) (o : Option GovernanceRefusal) → ranges.is_request g ≡ a → (is_founding g || is_recovery g) ≡ b → refusal (history (requests_of ledger)) (length ledger + 1) g ≡ o →
        guarded layers (λ (x : Entry × Response). x.0) ledger (if a then (if b then Err Founding else unless_refused o made) else Err Unencodable)
        ≡ (if a then (if b then Err Founding else unless_refused o made) else Err Unencodable)
    go false b o fits none accepted = refl
    go true true o fits none accepted = refl
    go true false (Some why) fits none accepted = refl
    go true false None fits none accepted = accepted_made fits none accepted (nat_lt body_limit (length (body_bytes e))) (nat_lt (length ledger) last_seqno) refl refl
