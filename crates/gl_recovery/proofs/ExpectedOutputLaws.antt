-- The expected output for an old ledger, step by step.
use Rattle.std.proofs.Common.{◌≡◌, ℕ, suc, ◌+◌, ◌≤◌, nat_le, nat_lt, ◌==◌, ◌^◌, List, [], ◌∷◌, ◌++◌, length, Bool, true, false, if◌then◌else◌, Option, None, Some, Result, Ok, Err, IsErr, Vec, Global, refl, sym, ◌∙◌, ap, ap₂, subst, arith, length-append}
use Rattle.std.specs.List.{flat_map}
use Rattle.std.proofs.lemmas.Bool.{true≢false}
use Rattle.std.specs.Result.{IsErrAnd}
use Rattle.gl_base.specs.Answers.{Answers, Fails}
use Rattle.gl_base.specs.TxId.{last_seqno}
use Rattle.gl_base.specs.Steps.{◌>>=◌}
use Rattle.gl_base.specs.declared.or_no_memory.OrNoMemory.{OrNoMemory}
use Rattle.gl_base.specs.declared.or_no_memory.OrNoMemory.TheVariants.{NoMemory, Fault}
use Rattle.gl_hss.specs.Secrets.{PrivateKey}
use Rattle.gl_hss.specs.Signer.{hss_signature}
use Rattle.gl_entry.specs.Entry.{frame_bytes}
use Rattle.gl_entry.specs.declared.entry.Entry.{Entry}
use Rattle.gl_requests.specs.declared.genesis.Recovery.{Recovery}
use Rattle.gl_gov_rules.specs.declared.refusal.GovernanceRefusal.{GovernanceRefusal}
use Rattle.gl_gov_rules.specs.declared.refusal.GovernanceRefusal.TheVariants as governance
use Rattle.gl_entry.specs.declared.fault.EntryFault.{EntryFault}
use Rattle.gl_ledger.specs.Audit.{LedgerFault, audited}
use Rattle.gl_ledger.specs.NodeKeys.{service_layers}
use Rattle.gl_ledger.specs.Ledger.{message_after, signature_entry}
use Rattle.gl_ledger.specs.Recovery.{recovery_entry, recovery_result, recovery_view, with_recovery}
use Rattle.gl_ledger.specs.declared.refusal.Refusal.{Refusal}
use Rattle.gl_ledger.specs.declared.refusal.Refusal.TheVariants as refusals
use Rattle.gl_ledger.specs.Past.{last_signed}
use Rattle.gl_entry.specs.LedgerFile.{LedgerFile, ledger_file}
use Rattle.gl_entry.specs.SourceBytes.{OfBytes}
use Rattle.gl_entry.proofs.FileSteps.{of_map}
use Rattle.gl_recovery.specs.Answers.{AnswersOn, FailsOn}
use Rattle.gl_recovery.specs.OldLedger.{has_room, is_read_whole, signed_prefix, unless_broken, unless_empty, unless_unread, valid_ledger, with_signature}
use Rattle.gl_recovery.specs.ExpectedOutput.{expected_recovery, fault_of, first_endorsement, id_of, in_frames, recovered_from, refounded, unless_refused}
use Rattle.gl_recovery.specs.declared.fault.RecoveryFault.{RecoveryFault}
use Rattle.gl_recovery.specs.declared.fault.RecoveryFault.TheVariants as faults
use Rattle.gl_recovery.proofs.Accepted.{acceptable, first_short}

-- ---- after a valid ledger

module _ (r : Recovery) (by : PrivateKey) (leaf : ℕ) (ledger prefix : List Entry) (signed : with_signature ledger ≡ Ok prefix) (room : has_room prefix ≡ Ok tt) where
  -- a recovery that is refused
  pub refused_after : (error : OrNoMemory RecoveryFault) → Fails error (unless_refused (recovery_result r prefix)) → Fails error (in_frames (recovered_from r by leaf ledger))
  refused_after NoMemory fails = tt
  refused_after (Fault fault) fails = rw (signed, room, fails) refl

  -- and one that is accepted
  pub made_after : recovery_result r prefix ≡ Ok (recovery_entry r prefix) → in_frames (recovered_from r by leaf ledger) ≡ Ok (flat_map frame_bytes (refounded r by leaf prefix))
  made_after accepted = rw (signed, room, accepted) refl

-- its frames
pub reported_frames : (r : Recovery) (by : PrivateKey) (leaf view : ℕ) (prefix after : List Entry) (endorsement : List ℕ) (opening : Entry) (reported : List ℕ) → after ≡ with_recovery r prefix → view ≡ recovery_view prefix →
    endorsement ≡ first_endorsement r.nodes →
    opening ≡ signature_entry (id_of by) (hss_signature by (Some endorsement) leaf (message_after after view (length after + 1))) after view (length after + 1) →
    reported ≡ flat_map frame_bytes (after ++ opening ∷ []) → reported ≡ flat_map frame_bytes (refounded r by leaf prefix)
reported_frames r by leaf view prefix after endorsement opening reported after_is view_is endorsement_is opening_is reported_is =
    let next : length (with_recovery r prefix) + 1 ≡ length prefix + 2 = (let long = length-append prefix (recovery_entry r prefix ∷ []) in omega (arith, long)) in
    let made : (es : List Entry) (v n : ℕ) → List ℕ → Entry = λ es v n e. signature_entry (id_of by) (hss_signature by (Some e) leaf (message_after es v n)) es v n in
    let signs : opening ≡ made (with_recovery r prefix) (recovery_view prefix) (length prefix + 2) (first_endorsement r.nodes) =
    opening_is ∙ ap (λ (es : List Entry). made es view (length es + 1) endorsement) after_is
    ∙ ap₂ (λ (v n : ℕ). made (with_recovery r prefix) v n endorsement) view_is next ∙ ap (made (with_recovery r prefix) (recovery_view prefix) (length prefix + 2)) endorsement_is in
    reported_is ∙ ap₂ (λ (es : List Entry) (e : Entry). flat_map frame_bytes (es ++ e ∷ [])) after_is signs

pub short_endorsement : (r : Recovery) (prefix : List Entry) (endorsement : List ℕ) → recovery_result r prefix ≡ Ok (recovery_entry r prefix) → endorsement ≡ first_endorsement r.nodes → length endorsement ≤ 2 ^ 16
short_endorsement r prefix endorsement accepted is = let short = first_short r (acceptable r prefix accepted) in omega (arith, short, ap length is)

-- a fault that is handed on
pub refused_frames : (result : Result (Vec ℕ Global) (OrNoMemory RecoveryFault)) (error : OrNoMemory RecoveryFault) (reading : Result (List ℕ) RecoveryFault) → IsErr result → IsErrAnd result (λ e. e ≡ error) → Fails error reading →
    Answers (λ (reported : Vec ℕ Global). reported.items) result reading
refused_frames (Ok reported) error reading wrong same fails = absurd (cc)
refused_frames (Err e) error reading wrong same fails = subst (λ (x : OrNoMemory RecoveryFault). Fails x reading) (sym same) fails

-- ---- no source is blamed

abbrev NotOfSource : {X : Type 0} → Result X RecoveryFault → Type 0
NotOfSource r = r ≡ Err faults.SourceFailed → ⊥

then_too : {X Y : Type 0} (r : Result X RecoveryFault) (f : X → Result Y RecoveryFault) → NotOfSource r → ((x : X) → NotOfSource (f x)) → NotOfSource (r >>= f)
then_too (Ok x) f first next is = next x is
then_too (Err fault) f first next is = let same : fault ≡ faults.SourceFailed = cc in first (ap Err same)

signature_no_source : (ledger : List Entry) → NotOfSource (with_signature ledger)
signature_no_source ledger = go (last_signed ledger == 0)
  where
    go : (b : Bool) → NotOfSource {X = List Entry} (if b then Err faults.NothingSigned else Ok (signed_prefix ledger))
    go true is = cc
    go false is = cc

room_no_source : (ledger : List Entry) → NotOfSource (has_room ledger)
room_no_source ledger = go (nat_le (2 ^ 32) (recovery_view ledger)) (nat_lt last_seqno (length ledger + 2))
  where
    go : (a b : Bool) → NotOfSource {X = Unit {0}} (if a then Err faults.ViewLimit else (if b then Err faults.SeqnoLimit else Ok tt))
    go true b is = cc
    go false true is = cc
    go false false is = cc

governance_no_source : (why : GovernanceRefusal) → fault_of (refusals.Governance why) ≡ faults.SourceFailed → ⊥
governance_no_source governance.NotMember is = cc
governance_no_source governance.NotActive is = cc
governance_no_source governance.Signature is = cc
governance_no_source (governance.LeafNotGreater last got) is = cc
governance_no_source governance.NoProposal is = cc
governance_no_source (governance.NotOpen state) is = cc
governance_no_source governance.HasBallot is = cc
governance_no_source governance.NotProposer is = cc
governance_no_source (governance.BadAction index cause) is = cc
governance_no_source (governance.NodeState status) is = cc
governance_no_source (governance.TooMany limit) is = cc
governance_no_source (governance.ServiceState state) is = cc
governance_no_source (governance.KnownProposal id) is = cc
governance_no_source (governance.WrongShare digest) is = cc
governance_no_source (governance.KnownShare member) is = cc
governance_no_source (governance.Secret want got) is = cc

refusal_no_source : (made : Result Entry Refusal) → NotOfSource (unless_refused made)
refusal_no_source (Ok e) is = cc
refusal_no_source (Err (refusals.Governance why)) is = governance_no_source why (let same : fault_of (refusals.Governance why) ≡ faults.SourceFailed = cc in same)
refusal_no_source (Err (refusals.ServiceState state)) is = cc
refusal_no_source (Err (refusals.Aborted abort)) is = cc
refusal_no_source (Err (refusals.TooLarge size)) is = cc
refusal_no_source (Err refusals.SeqnoLimit) is = cc

made_no_source : {X : Type 0} (x : X) → NotOfSource (Ok x)
made_no_source x is = cc

frames_no_source : (expected_output : Result (List Entry) RecoveryFault) → NotOfSource expected_output → NotOfSource (in_frames expected_output)
frames_no_source (Ok ledger) none is = cc
frames_no_source (Err fault) none is = let same : fault ≡ faults.SourceFailed = cc in none (ap Err same)

pub no_source : (r : Recovery) (by : PrivateKey) (leaf : ℕ) (ledger : List Entry) → NotOfSource (in_frames (recovered_from r by leaf ledger))
no_source r by leaf ledger =
    frames_no_source (recovered_from r by leaf ledger)
    (then_too (with_signature ledger) _ (signature_no_source ledger)
    (λ prefix. then_too (has_room prefix) _ (room_no_source prefix)
    (λ room. then_too (unless_refused (recovery_result r prefix)) _ (refusal_no_source (recovery_result r prefix)) (λ e. made_no_source (refounded r by leaf prefix)))))

pub never_blamed : (result : Result (Vec ℕ Global) (OrNoMemory RecoveryFault)) (reading : Result (List ℕ) RecoveryFault) → Answers (λ (reported : Vec ℕ Global). reported.items) result reading → NotOfSource reading →
    result ≡ Err (Fault faults.SourceFailed) → ⊥
never_blamed (Ok reported) reading answers none is = cc
never_blamed (Err NoMemory) reading answers none is = cc
never_blamed (Err (Fault fault)) reading answers none is = let same : fault ≡ faults.SourceFailed = cc in none (answers ∙ ap Err same)

-- ---- of the bytes of a file

-- a fault but for that of the source
fails_on : {Y : Type 0} (given : Option (List ℕ)) (fault : RecoveryFault) (reading : List ℕ → Result Y RecoveryFault) → OfBytes given (λ bytes. reading bytes ≡ Err fault) → FailsOn given (Fault fault) reading
fails_on given (faults.Audit seqno rule) reading of = of
fails_on given faults.NothingSigned reading of = of
fails_on given faults.ViewLimit reading of = of
fails_on given faults.SeqnoLimit reading of = of
fails_on given (faults.BadAction index cause) reading of = of
fails_on given faults.Signature reading of = of
fails_on given (faults.TooLarge size) reading of = of
fails_on given faults.SourceFailed reading of = tt

module _ (r : Recovery) (by : PrivateKey) (leaf : ℕ) (given : Option (List ℕ)) where
  abbrev expected_output : List ℕ → Result (List ℕ) RecoveryFault
  expected_output bytes = in_frames (expected_recovery r by leaf bytes)

  abbrev valid : List ℕ → Result (List Entry) RecoveryFault
  valid bytes = valid_ledger (ledger_file bytes)

  unread_expected : (fault : RecoveryFault) → OfBytes given (λ bytes. valid bytes ≡ Err fault) → FailsOn given (Fault fault) expected_output
  unfolding expected_recovery
  unread_expected fault of =
      fails_on given fault expected_output
      (of_map given (λ bytes. valid bytes ≡ Err fault) (λ bytes. expected_output bytes ≡ Err fault) (λ bytes is. ap (λ (old : Result (List Entry) RecoveryFault). in_frames (old >>= recovered_from r by leaf)) is) of)

  -- where the old ledger isn't valid
  pub fails_expected : (error : OrNoMemory RecoveryFault) → FailsOn given error valid → FailsOn given error expected_output
  fails_expected NoMemory fails = tt
  fails_expected (Fault (faults.Audit seqno rule)) fails = unread_expected (faults.Audit seqno rule) fails
  fails_expected (Fault faults.NothingSigned) fails = unread_expected faults.NothingSigned fails
  fails_expected (Fault faults.ViewLimit) fails = unread_expected faults.ViewLimit fails
  fails_expected (Fault faults.SeqnoLimit) fails = unread_expected faults.SeqnoLimit fails
  fails_expected (Fault (faults.BadAction index cause)) fails = unread_expected (faults.BadAction index cause) fails
  fails_expected (Fault faults.Signature) fails = unread_expected faults.Signature fails
  fails_expected (Fault (faults.TooLarge size)) fails = unread_expected (faults.TooLarge size) fails
  fails_expected (Fault faults.SourceFailed) fails = tt

  -- and where it is
  pub answers_expected : (old : List Entry) (result : Result (Vec ℕ Global) (OrNoMemory RecoveryFault)) → OfBytes given (λ bytes. valid bytes ≡ Ok old) →
      Answers (λ (reported : Vec ℕ Global). reported.items) result (in_frames (recovered_from r by leaf old)) → AnswersOn given (λ (reported : Vec ℕ Global). reported.items) result expected_output
  unfolding expected_recovery
  answers_expected old (Ok reported) of answers =
      of_map given (λ bytes. valid bytes ≡ Ok old) (λ bytes. expected_output bytes ≡ Ok reported.items)
      (λ bytes is. ap (λ (file : Result (List Entry) RecoveryFault). in_frames (file >>= recovered_from r by leaf)) is ∙ answers) of
  answers_expected old (Err NoMemory) of answers = tt
  answers_expected old (Err (Fault fault)) of answers =
      fails_on given fault expected_output
      (of_map given (λ bytes. valid bytes ≡ Ok old) (λ bytes. expected_output bytes ≡ Err fault)
      (λ bytes is. ap (λ (file : Result (List Entry) RecoveryFault). in_frames (file >>= recovered_from r by leaf)) is ∙ answers) of)

-- ---- how far the source is read

-- an old ledger is refused for an entry, or for bytes that are no frame, and for nothing else
only_audit : (file : LedgerFile) (fault : RecoveryFault) → valid_ledger file ≡ Err fault → is_read_whole fault ≡ false
unfolding valid_ledger
only_audit file fault is = go (audited service_layers file.entries) file.fault file.entries is
  where
    go : (broken : Option LedgerFault) (unread : Option EntryFault) (es : List Entry) → unless_broken broken (unless_unread (suc (length file.entries)) unread (unless_empty es (Ok file.entries))) ≡ Err fault → is_read_whole fault ≡ false
    go (Some at) unread es reported = let same : faults.Audit at.seqno at.broken.rule ≡ fault = cc in ap is_read_whole (sym same)
    go None (Some cut) es reported = let same : faults.Audit (suc (length file.entries)) 1 ≡ fault = cc in ap is_read_whole (sym same)
    go None None [] reported = let same : faults.Audit 1 3 ≡ fault = cc in ap is_read_whole (sym same)
    go None None (e ∷ es) reported = absurd cc

of_none : (given : Option (List ℕ)) (P : List ℕ → Type 0) → OfBytes given P → ((bytes : List ℕ) → P bytes → ⊥) → ⊥
of_none None P of none = none of.0 of.1
of_none (Some bytes) P of none = none bytes of

module _ (given : Option (List ℕ)) where
  refused_whole : (fault : RecoveryFault) → OfBytes given (λ bytes. valid_ledger (ledger_file bytes) ≡ Err fault) → is_read_whole fault ≡ true → ⊥
  refused_whole fault of whole = of_none given (λ bytes. valid_ledger (ledger_file bytes) ≡ Err fault) of (λ bytes is. let not_whole = only_audit (ledger_file bytes) fault is in absurd (true≢false (sym whole ∙ not_whole)))

  -- it is told of a ledger that was read to its end
  pub never_whole : (error : OrNoMemory RecoveryFault) (fault : RecoveryFault) → FailsOn given error (λ bytes. valid_ledger (ledger_file bytes)) → error ≡ Fault fault → is_read_whole fault ≡ true → ⊥
  never_whole NoMemory fault fails is whole = absurd cc
  never_whole (Fault (faults.Audit seqno rule)) fault fails is whole = let same : faults.Audit seqno rule ≡ fault = cc in true≢false (sym whole ∙ ap is_read_whole (sym same))
  never_whole (Fault faults.SourceFailed) fault fails is whole = let same : faults.SourceFailed ≡ fault = cc in true≢false (sym whole ∙ ap is_read_whole (sym same))
  never_whole (Fault faults.NothingSigned) fault fails is whole = refused_whole faults.NothingSigned fails refl
  never_whole (Fault faults.ViewLimit) fault fails is whole = refused_whole faults.ViewLimit fails refl
  never_whole (Fault faults.SeqnoLimit) fault fails is whole = refused_whole faults.SeqnoLimit fails refl
  never_whole (Fault (faults.BadAction index cause)) fault fails is whole = refused_whole (faults.BadAction index cause) fails refl
  never_whole (Fault faults.Signature) fault fails is whole = refused_whole faults.Signature fails refl
  never_whole (Fault (faults.TooLarge size)) fault fails is whole = refused_whole (faults.TooLarge size) fails refl
