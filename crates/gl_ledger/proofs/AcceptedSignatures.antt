-- Where a commit may be recorded an entry may be made, and the guard refuses no valid signature of
-- a recorded node.
use Rattle.std.proofs.Common.{◌≡◌, ℕ, zero, suc, ◌-◌, ◌≤◌, ◌<◌, ◌^◌, List, [], ◌∷◌, ◌++◌, length, take, drop, Bool, true, false, nat_lt, if◌then◌else◌, Option, Some, None, Result, Ok, Err, refl, sym, ◌∙◌, ap, subst, arith}
use Rattle.std.proofs.lemmas.Bool.{or_from}
use Rattle.std.proofs.lemmas.Bool.Decides.{nat_tests}
use Rattle.gl_base.specs.TxId.{last_seqno}
use Rattle.gl_base.proofs.Lists.{slice_get-within}
use Rattle.gl_rules.specs.Identity.{NodeId, member}
use Rattle.gl_rules.specs.Log.{entry_at}
use Rattle.gl_rules.specs.Safety.{EachFollows, ViewsUpTo, MayRecord, IsConfigured}
use Rattle.gl_entry.specs.Entry.{is_signature}
use Rattle.gl_entry.specs.declared.entry.Content.{Content}
use Rattle.gl_entry.specs.declared.entry.Content.TheVariants as content
use Rattle.gl_entry.specs.declared.entry.Entry.{Entry}
use Rattle.gl_ledger.specs.declared.refusal.Refusal.TheVariants as refusals
use Rattle.gl_ledger.specs.Layers.{Layers}
use Rattle.gl_ledger.specs.NodeKeys.{NodeKeys}
use Rattle.gl_ledger.specs.Recordings.{last_entry, recording_of, records_founding, founds, recovers, recorded_nodes, configuration}
use Rattle.gl_ledger.specs.Broken.{broken}
use Rattle.gl_ledger.specs.declared.response.Rejection.{Rejection}
use Rattle.gl_ledger.specs.Makers.{MayMake, MakesValid, by_store, guarded, signed_entry, signing_result, unless_empty}
use Rattle.gl_ledger.specs.LedgerBook.{ledger_book}
use Rattle.gl_ledger.specs.Sound.{IsSound, IsUnrecovered}
use Rattle.gl_ledger.proofs.Governed.{followed}
use Rattle.gl_ledger.proofs.RecordedNodes.{recorded_digest, stays_recorded, trusted_is_recorded}
use Rattle.gl_ledger.proofs.Configurations.{configuration_is}
use Rattle.gl_ledger.proofs.SignatureEntries.{signed_is_entry}
use Rattle.gl_ledger.proofs.Pushes.{no_last}
use Rattle.gl_ledger.proofs.MadeEntries.{signed_unbroken, unless_none}

-- ---- recorded nodes

-- a ledger is its first entries and the others
take_drop : (es : List Entry) (k : ℕ) → take k es ++ drop k es ≡ es
take_drop es zero = refl
take_drop [] (suc k) = refl
take_drop (e ∷ es) (suc k) = ap (λ (l : List Entry). e ∷ l) (take_drop es k)

-- an entry that founds stands alone where it is the last
alone : (layers : Layers) (es : List Entry) (f : Entry) → IsSound layers es → last_entry es ≡ Some f → founds f ≡ true → es ≡ f ∷ []
alone layers es f sound last founded = one es last (sound.founded.once (length es - 1) f last founded)
  where
    one : (l : List Entry) → last_entry l ≡ Some f → length l - 1 ≡ 0 → l ≡ f ∷ []
    one [] a d = absurd (cc)
    one (y ∷ []) a d = let u : y ≡ f = cc in ap (λ (e : Entry). e ∷ []) u
    one (y ∷ v ∷ l) a d = absurd (omega (arith, d))

module _ (layers : Layers) (keys : NodeKeys) where
  -- the nodes of a configuration are recorded
  configured : (x : NodeId) (es : List Entry) (ys : List NodeId) → configuration es ≡ Some ys → member x ys ≡ true → member x (recorded_nodes es) ≡ true
  configured x es ys is h = trusted_is_recorded x es (sym (ap (member x) (configuration_is es ys is)) ∙ h)

  -- so is a node that is in one of a ledger
  pub configured_recorded : (x : NodeId) (es : List Entry) → IsConfigured (ledger_book layers keys) x es → member x (recorded_nodes es) ≡ true
  configured_recorded x es c =
      subst (λ (l : List Entry). member x (recorded_nodes l) ≡ true) (take_drop es c.0)
      (stays_recorded x (take c.0 es) (drop c.0 es) (configured x (take c.0 es) c.1 c.2 c.3))

  -- ---- where a signature stands an entry may be made

  has_last : (es : List Entry) (seqno : ℕ) (g : Entry) → entry_at es seqno ≡ Some g → (f : Entry) × (last_entry es ≡ Some f)
  has_last es seqno g at = go (last_entry es) refl
    where
      empty : (k : ℕ) → entry_at {E = Entry} [] k ≡ Some g → ⊥
      empty zero w = cc
      empty (suc k) w = cc

      go : (o : Option Entry) → last_entry es ≡ o → (f : Entry) × (o ≡ Some f)
      go None is = absurd (empty seqno (ap (λ (l : List Entry). entry_at l seqno) (sym (no_last es is)) ∙ at))
      go (Some f) is = (f, refl)

  -- a signature can't stand where the service's founding is the last entry
  not_founding : (es : List Entry) (f g : Entry) (seqno : ℕ) → EachFollows (ledger_book layers keys) es → last_entry es ≡ Some f → entry_at es seqno ≡ Some g → is_signature g.content ≡ true →
      founds f ≡ false
  not_founding es f g seqno z last at signs = go (founds f) refl
    where
      no_signature : (c : Content) → is_signature c ≡ true → records_founding (recording_of c) ≡ true → ⊥
      no_signature (content.Signature s) a d = absurd (cc)
      no_signature (content.Governance bytes) a d = absurd (cc)
      no_signature (content.Application bytes) a d = absurd (cc)
      no_signature (content.Evidence bytes) a d = absurd (cc)

      one : (k : ℕ) → entry_at (f ∷ []) k ≡ Some g → f ≡ g
      one zero w = absurd (cc)
      one (suc zero) w = cc
      one (suc (suc k)) w = absurd (cc)

      go : (t : Bool) → founds f ≡ t → t ≡ false
      go false is = refl
      go true is =
          let same : f ≡ g = one seqno (ap (λ (l : List Entry). entry_at l seqno) (sym (alone layers es f (followed layers keys es z) last is)) ∙ at) in
          absurd (no_signature g.content signs (ap founds (sym same) ∙ is))

  pub may_make : (log : List Entry) (view commit : ℕ) → EachFollows (ledger_book layers keys) log → IsUnrecovered log → ViewsUpTo (ledger_book layers keys) view log → MayRecord (ledger_book layers keys) log commit → MayMake log view
  may_make log view commit z unrecovered up may =
      let last = has_last log commit may.signature may.at in
      record {
        last = last.0;
        is_last = last.1;
        opened = or_from (founds last.0) (recovers last.0) (not_founding log last.0 may.signature commit z last.1 may.at may.signs) (unrecovered (length log - 1) last.0 last.1);
        up = up (length log - 1) last.0 last.1;
      }

-- ---- signatures

module _ (layers : Layers) (keys : NodeKeys) where
  reached : (seqno : ℕ) (es : List Entry) (f : Entry) → entry_at es seqno ≡ Some f → seqno ≤ length es
  reached zero es f at = omega arith
  reached (suc i) es f at = let w = slice_get-within es i f at in omega arith

  -- the guard refuses no valid signature of a recorded node with a commit that may be recorded, in
  -- a view of four bytes
  pub sign_is : (ledger : List Entry) (view commit : ℕ) → view < 2 ^ 32 → MayMake ledger view → (x : NodeId) (leaf : ℕ) → member x (recorded_nodes ledger) ≡ true → MayRecord (ledger_book layers keys) ledger commit →
      MakesValid layers keys x leaf ledger view commit → (ledger_book layers keys).sign x leaf ledger view commit ≡ signing_result keys x leaf ledger view commit
  sign_is ledger view commit low may x leaf named records valid =
      let some : 1 ≤ length ledger = let w : length ledger - 1 < length ledger = slice_get-within ledger (length ledger - 1) may.last may.is_last in omega arith in
      ap (guarded layers (λ made. made) ledger) (suffix ledger some (signing_result keys x leaf ledger view commit))
      ∙ go some (reached commit ledger records.signature records.at) (nat_lt (length ledger) last_seqno) refl
    where
      suffix : {X : Type 0} (es : List Entry) → 1 ≤ length es → (made : Result X Rejection) → unless_empty es made ≡ made
      suffix [] some made = absurd (omega (arith, some))
      suffix (f ∷ fs) some made = refl

      go : 1 ≤ length ledger → commit ≤ length ledger → (t : Bool) → nat_lt (length ledger) last_seqno ≡ t →
          guarded layers (λ made. made) ledger (by_store (if t then Ok (signed_entry keys x leaf ledger view commit) else Err refusals.SeqnoLimit))
          ≡ by_store (if t then Ok (signed_entry keys x leaf ledger view commit) else Err refusals.SeqnoLimit)
      go some within false is = refl
      go some within true is =
          let place : length ledger < last_seqno = grind (arith, nat_tests) in
          unless_none layers keys (broken layers ledger (signed_entry keys x leaf ledger view commit)) (signed_entry keys x leaf ledger view commit)
          (signed_unbroken layers keys ledger view may x leaf commit place
          (signed_is_entry layers keys x leaf ledger view commit (recorded_digest x ledger named) some low (omega arith) (omega arith) valid) valid named records)
