-- The expected output for the bytes of a source, from what was read of them.
use Rattle.std.proofs.Common.{◌≡◌, ℕ, List, ◌++◌, false, Option, Result, Ok, Err, IfOk, IsErr, Vec, Global, refl, sym, ap, ◌∙◌, subst}
use Rattle.std.specs.Result.{IsErrAnd}
use Rattle.gl_base.specs.Answers.{Fails, Widens}
use Rattle.gl_base.specs.Steps.{◌>>=◌}
use Rattle.gl_base.specs.declared.json.FormsFault.{FormsFault}
use Rattle.gl_base.specs.declared.or_no_memory.OrNoMemory.{OrNoMemory}
use Rattle.gl_base.specs.declared.or_no_memory.OrNoMemory.TheVariants.{NoMemory, Fault}
use Rattle.gl_requests.specs.declared.genesis.Recovery.{Recovery}
use Rattle.gl_forms.specs.Settings.{recovery_in}
use Rattle.gl_forms.specs.Text.{from_text}
use Rattle.gl_journal.specs.declared.key.Key.{Key}
use Rattle.gl_entry.specs.SourceBytes.{OfBytes}
use Rattle.gl_entry.proofs.FileSteps.{of_all, of_map}
use Rattle.gl_recovery.specs.Answers.{FailsOn}
use Rattle.gl_recovery.specs.SettingsPrefix.{Parts, TakesSettings, parts_of}
use Rattle.gl_recovery.specs.ExpectedOutput.{expected_recovery, in_frames}
use Rattle.gl_recovery.specs.RecoveryOutput.{expected_after, expected_by, expected_for, has_leaf, in_form, in_order, is_first_node, is_of_outside, private_key, widened}
use Rattle.gl_recovery.specs.declared.fault.RecoveryFault.{RecoveryFault}
use Rattle.gl_recovery.specs.declared.fault.RecoveryFault.TheVariants as recoveries
use Rattle.gl_recovery.specs.declared.recovering_fault.RecoveringFault.{RecoveringFault}
use Rattle.gl_recovery.specs.declared.recovering_fault.RecoveringFault.TheVariants as faults
use Rattle.gl_recovery.proofs.SourcePrefixes.{of_after, of_taken}

-- ---- after an old ledger

module _ (key : Key) (leaf : ℕ) (r : Recovery) where
  abbrev expected_output : List ℕ → Result (List ℕ) RecoveryFault
  expected_output ledger = in_frames (expected_recovery r (private_key key) leaf ledger)

  -- a key that isn't that of the first node
  pub other_node : (given : Option (List ℕ)) (fault : RecoveringFault) → is_first_node (private_key key) r.nodes ≡ Err fault → OfBytes given (λ ledger. expected_after key leaf r ledger ≡ Err fault)
  unfolding expected_after
  other_node given fault is = of_all given (λ ledger. expected_after key leaf r ledger ≡ Err fault) (λ ledger. rw is refl)

  module _ (first : is_first_node (private_key key) r.nodes ≡ Ok tt) where
    -- a key without a leaf
    pub no_leaf : (given : Option (List ℕ)) (fault : RecoveringFault) → has_leaf key.types leaf ≡ Err fault → OfBytes given (λ ledger. expected_after key leaf r ledger ≡ Err fault)
    unfolding expected_after
    no_leaf given fault is = of_all given (λ ledger. expected_after key leaf r ledger ≡ Err fault) (λ ledger. rw (first, is) refl)

    module _ (left : has_leaf key.types leaf ≡ Ok tt) where
      signed : (ledger : List ℕ) → expected_after key leaf r ledger ≡ in_order (expected_output ledger)
      unfolding expected_after
      signed ledger = rw (first, left) refl

      -- what is reported
      pub reported_after : (given : Option (List ℕ)) (reported : List ℕ) → OfBytes given (λ ledger. expected_output ledger ≡ Ok reported) → OfBytes given (λ ledger. expected_after key leaf r ledger ≡ Ok reported)
      reported_after given reported of = of_map given (λ ledger. expected_output ledger ≡ Ok reported) (λ ledger. expected_after key leaf r ledger ≡ Ok reported) (λ ledger is. signed ledger ∙ ap in_order is) of

      -- a fault but that of the source
      fault_after : (given : Option (List ℕ)) (why : RecoveryFault) (fault : RecoveringFault) → widened why ≡ fault → OfBytes given (λ ledger. expected_output ledger ≡ Err why) → OfBytes given (λ ledger. expected_after key leaf r ledger ≡ Err fault)
      fault_after given why fault is of = of_map given (λ ledger. expected_output ledger ≡ Err why) (λ ledger. expected_after key leaf r ledger ≡ Err fault) (λ ledger refused. signed ledger ∙ ap in_order refused ∙ ap Err is) of

      -- and why nothing is
      fails_after : (given : Option (List ℕ)) (why : RecoveryFault) (fault : RecoveringFault) → FailsOn given (Fault why) expected_output → widened why ≡ fault → is_of_outside fault ≡ false → OfBytes given (λ ledger. expected_after key leaf r ledger ≡ Err fault)
      fails_after given (recoveries.Audit seqno rule) fault fails is inside = fault_after given (recoveries.Audit seqno rule) fault is fails
      fails_after given recoveries.NothingSigned fault fails is inside = fault_after given recoveries.NothingSigned fault is fails
      fails_after given recoveries.ViewLimit fault fails is inside = fault_after given recoveries.ViewLimit fault is fails
      fails_after given recoveries.SeqnoLimit fault fails is inside = fault_after given recoveries.SeqnoLimit fault is fails
      fails_after given (recoveries.BadAction index cause) fault fails is inside = fault_after given (recoveries.BadAction index cause) fault is fails
      fails_after given recoveries.Signature fault fails is inside = fault_after given recoveries.Signature fault is fails
      fails_after given (recoveries.TooLarge size) fault fails is inside = fault_after given (recoveries.TooLarge size) fault is fails
      fails_after given recoveries.SourceFailed fault fails is inside = let failed = ap is_of_outside is ∙ inside in absurd cc

      pub refused_after : (given : Option (List ℕ)) (error : OrNoMemory RecoveryFault) (wider : OrNoMemory RecoveringFault) (fault : RecoveringFault) → FailsOn given error expected_output → Widens (λ f w. w ≡ widened f) error wider → wider ≡ Fault fault
          → is_of_outside fault ≡ false → OfBytes given (λ ledger. expected_after key leaf r ledger ≡ Err fault)
      refused_after given NoMemory wider fault fails widens is inside = absurd cc
      refused_after given (Fault why) wider fault fails widens is inside =
          let reported : Fault widens.0 ≡ Fault fault = sym widens.2 ∙ is in
          let same : widens.0 ≡ fault = cc in
          fails_after given why fault fails (sym widens.1 ∙ same) inside

-- ---- after the settings

module _ (key : Key) (leaf : ℕ) where
  settings_read : (prefix text ledger : List ℕ) (r : Recovery) → parts_of (prefix ++ ledger) ≡ Ok (record { settings = text; ledger = ledger }) → from_text recovery_in text ≡ Ok r → expected_by key leaf (prefix ++ ledger) ≡ expected_after key leaf r ledger
  unfolding expected_by
  settings_read prefix text ledger r parts is =
      ap (λ (p : Result Parts RecoveringFault). p >>= expected_for key leaf) parts
      ∙ ap (λ (form : Result Recovery FormsFault). in_form form >>= λ (recovery : Recovery). expected_after key leaf recovery ledger) is

  -- where the settings are read
  pub read_on : (left mid : Option (List ℕ)) (text : List ℕ) (r : Recovery) (reported : Result (List ℕ) RecoveringFault) → TakesSettings left text mid → from_text recovery_in text ≡ Ok r → OfBytes mid (λ ledger. expected_after key leaf r ledger ≡ reported)
      → OfBytes left (λ given. expected_by key leaf given ≡ reported)
  read_on left mid text r reported takes is of =
      of_after left mid takes.0 (λ ledger. expected_after key leaf r ledger ≡ reported) (λ given. expected_by key leaf given ≡ reported) takes.1
      (λ ledger expected_output. settings_read takes.0 text ledger r (takes.2 ledger) is ∙ expected_output) of

  -- where they have another form
  pub other_form : (left mid : Option (List ℕ)) (text : List ℕ) (why : FormsFault) → TakesSettings left text mid → from_text recovery_in text ≡ Err why → OfBytes left (λ given. expected_by key leaf given ≡ Err (faults.Form why))
  unfolding expected_by
  other_form left mid text why takes is =
      of_taken left mid takes.0 (λ given. expected_by key leaf given ≡ Err (faults.Form why)) takes.1
      (λ ledger. ap (λ (p : Result Parts RecoveringFault). p >>= expected_for key leaf) (takes.2 ledger)
      ∙ ap (λ (form : Result Recovery FormsFault). in_form form >>= λ (recovery : Recovery). expected_after key leaf recovery ledger) is)

  -- and where the bytes aren't those of settings
  pub no_settings : (left : Option (List ℕ)) (fault : RecoveringFault) → OfBytes left (λ given. parts_of given ≡ Err fault) → OfBytes left (λ given. expected_by key leaf given ≡ Err fault)
  unfolding expected_by
  no_settings left fault of =
      of_map left (λ given. parts_of given ≡ Err fault) (λ given. expected_by key leaf given ≡ Err fault) (λ given is. ap (λ (p : Result Parts RecoveringFault). p >>= expected_for key leaf) is) of

  -- what is reported after the settings
  pub reported_on : (left mid : Option (List ℕ)) (text : List ℕ) (r : Recovery) (result : Result (Vec ℕ Global) (OrNoMemory RecoveringFault)) → TakesSettings left text mid → from_text recovery_in text ≡ Ok r
      → IfOk result (λ reported. OfBytes mid (λ ledger. expected_after key leaf r ledger ≡ Ok reported.items)) → IfOk result (λ reported. OfBytes left (λ given. expected_by key leaf given ≡ Ok reported.items))
  reported_on left mid text r (Ok reported) takes is of = read_on left mid text r (Ok reported.items) takes is of
  reported_on left mid text r (Err error) takes is of = tt

  -- why the settings aren't read
  pub form_refused : (left mid : Option (List ℕ)) (text read : List ℕ) (error : OrNoMemory FormsFault) (wider : OrNoMemory RecoveringFault) (fault : RecoveringFault) → TakesSettings left text mid → read ≡ text
      → Fails error (from_text recovery_in read) → Widens (λ f w. w ≡ faults.Form f) error wider → wider ≡ Fault fault → OfBytes left (λ given. expected_by key leaf given ≡ Err fault)
  form_refused left mid text read NoMemory wider fault takes same fails widens is = absurd cc
  form_refused left mid text read (Fault why) wider fault takes same fails widens is =
      let reported : Fault widens.0 ≡ Fault fault = sym widens.2 ∙ is in
      let one : faults.Form why ≡ fault = (let there : widens.0 ≡ fault = cc in sym widens.1 ∙ there) in
      subst (λ (f : RecoveringFault). OfBytes left (λ given. expected_by key leaf given ≡ Err f)) one (other_form left mid text why takes (ap (from_text recovery_in) (sym same) ∙ fails))

-- a fault that is handed on
pub same_error : (result : Result (Vec ℕ Global) (OrNoMemory RecoveringFault)) (met : OrNoMemory RecoveringFault) (fault : RecoveringFault) → IsErr result → IsErrAnd result (λ e. e ≡ met) → result ≡ Err (Fault fault) → met ≡ Fault fault
same_error (Ok reported) met fault wrong same is = absurd cc
same_error (Err e) met fault wrong same is = let there : e ≡ Fault fault = cc in sym same ∙ there
