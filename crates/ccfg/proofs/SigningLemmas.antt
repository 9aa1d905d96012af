-- What is owed where something is signed.
use Rattle.std.proofs.Common.{◌≡◌, ◌<◌, ◌≤◌, inl, inr, ℕ, List, [], length, Option, Bool, true, false, Result, Ok, Err, IfOk, IsTrue, nat_lt, if◌then◌else◌, refl, sym, ap, subst, ◌∙◌, arith}
use Rattle.std.proofs.lemmas.Bool.Decides.{nat_tests}
use Rattle.gl_entry.specs.SourceBytes.{OfBytes}
use Rattle.gl_base.specs.declared.or_no_memory.OrNoMemory.{OrNoMemory}
use Rattle.gl_base.specs.declared.or_no_memory.OrNoMemory.TheVariants.{Fault as fault_of}
use Rattle.gl_consortium.specs.ExpectedOutput.{expected_output}
use Rattle.gl_consortium.specs.declared.fault.SigningFault.{SigningFault}
use Rattle.gl_consortium.specs.declared.fault.SigningFault.TheVariants as signings
use Rattle.gl_journal.specs.Durable.{Durable, key_alone}
use Rattle.gl_journal.specs.declared.fault.JournalFault.{JournalFault}
use Rattle.gl_journal.specs.declared.fault.JournalFault.TheVariants.{DiskFault}
use Rattle.gl_journal.specs.declared.key.KeyKind.{KeyKind}
use Rattle.gl_journal.specs.declared.key.KeyKind.TheVariants.{Service, Node, Member}
use Rattle.gl_store_book.specs.NodeFile.{opened}
use Rattle.gl_keyfile.specs.declared.fault.KeyFileFault.{KeyFileFault}
use Rattle.gl_keyfile.specs.declared.fault.KeyFileFault.TheVariants.{Journal, KeyKind as KeyKindOf}
use Rattle.gl_keyfile.specs.declared.leaf.LeafUse.{LeafUse}
use Rattle.gl_keyfile.specs.declared.signature.Signing.{Signing}
use Rattle.gl_hss.specs.declared.types.Types.TheVariants.{H5W4}
use Rattle.gl_outside.specs.Disk.{Step}
use Rattle.ccfg.specs.declared.fault.Fault.TheVariants as faults
use Rattle.ccfg.specs.declared.plan.Plan.{Plan}
use Rattle.ccfg.specs.declared.plan.Plan.TheVariants.{Play, Show, ShowLedger, Print, Refuse}
use Rattle.ccfg.specs.declared.plan.PlanError.{PlanError}
use Rattle.ccfg.specs.Plans.{OpensAsBefore, PlansPlayable, PrintsFault, PrintsSpent, PrintsUnopened, output_of_plan}
use Rattle.ccfg.specs.SignCommand.{HasNoKey, IsForeign}
use Rattle.ccfg.proofs.ShownLemmas.{of_any, of_map, ok_map}
use Rattle.ccfg.specs.ExpectedOutput.{EndsSource, OfShown, Output, Shown, is_kind, json_limit, output_of_fault, output_of_signed, output_of_text, output_with_key}

abbrev pub text_output : Signing → Durable → List ℕ → Bool → Result (List ℕ) SigningFault → Output
text_output signing state given long signed = if long then output_of_fault faults.TooMuchJson else output_of_signed signed

pub text_is : (signing : Signing) (state : Durable) (given : List ℕ) (long : Bool) (signed : Result (List ℕ) SigningFault) → nat_lt json_limit (length given) ≡ long → expected_output signing state given ≡ signed → output_of_text signing state given ≡ text_output signing state given long signed
unfolding output_of_text
text_is signing state given long signed l s = rw (l, s) refl

pub long_text : (signing : Signing) (state : Durable) (given : List ℕ) → json_limit < length given → output_of_text signing state given ≡ output_of_fault faults.TooMuchJson
long_text signing state given more = text_is signing state given true (expected_output signing state given) (grind (arith, nat_tests)) refl

pub short_text : (signing : Signing) (state : Durable) (given : List ℕ) (signed : Result (List ℕ) SigningFault) → length given ≤ json_limit → expected_output signing state given ≡ signed → output_of_text signing state given ≡ output_of_signed signed
short_text signing state given signed within is = text_is signing state given false signed (grind (arith, nat_tests)) is

pub same_kind : (want got : KeyKind) → is_kind want got ≡ true → got ≡ want
same_kind Service Service is = refl
same_kind Node Node is = refl
same_kind Member Member is = refl
same_kind want got is = cc

pub is_own_kind : (want got : KeyKind) → got ≡ want → is_kind want got ≡ true
is_own_kind Service got is = ap (is_kind Service) is
is_own_kind Node got is = ap (is_kind Node) is
is_own_kind Member got is = ap (is_kind Member) is

pub other_kind : (want got : KeyKind) → (got ≡ want → ⊥) → is_kind want got ≡ false
other_kind want got other = go (is_kind want got) refl
  where
    go : (b : Bool) → is_kind want got ≡ b → is_kind want got ≡ false
    go true is = absurd (other (same_kind want got is))
    go false is = is

-- a file that opens to a key of the kind that is wanted has one
pub key_found : {A : Type 0} (kind : KeyKind) (opens : Result Durable JournalFault) (state : Durable) → opens ≡ Ok state → state.key.kind ≡ kind → HasNoKey kind opens → A
key_found kind opens state is own none =
    let other : (state.key.kind ≡ kind → ⊥) = subst (HasNoKey kind) is none in
    absurd (other own)

-- and is no foreign one
pub key_opened : {A : Type 0} (opens : Result Durable JournalFault) (state : Durable) → opens ≡ Ok state → IsForeign opens → A
key_opened opens state is none = absurd (let both : ◌≡◌ {A = Result Durable JournalFault} (Ok state) (Err none.0) = sym is ∙ none.1 in cc)

-- what is owed with a key of another kind than that which is wanted
pub with_other_key : (kind : KeyKind) (owes : Durable → List ℕ → Output) (state : Durable) (given : List ℕ) → (state.key.kind ≡ kind → ⊥) → output_with_key kind owes (Ok state) given ≡ output_of_fault (faults.KeyKind kind state.key.kind)
with_other_key kind owes state given other =
    ap (λ (b : Bool). if b then owes state given else output_of_fault (faults.KeyKind kind state.key.kind)) (other_kind kind state.key.kind other)

pub with_own_key : (kind : KeyKind) (owes : Durable → List ℕ → Output) (state : Durable) (given : List ℕ) → state.key.kind ≡ kind → output_with_key kind owes (Ok state) given ≡ owes state given
with_own_key kind owes state given own =
    ap (λ (b : Bool). if b then owes state given else output_of_fault (faults.KeyKind kind state.key.kind)) (is_own_kind kind state.key.kind own)

-- bytes that aren't signed
pub unsigned_text : (signing : Signing) (state : Durable) (text : List ℕ) (fault : SigningFault) (r : Result Plan PlanError) → length text ≤ json_limit → ((fault ≡ signings.DiskFailed → ⊥) → expected_output signing state text ≡ Err fault) →
    IfOk r (λ plan. output_of_signed (Err fault) ≡ output_of_plan plan) → IfOk r (λ plan. PrintsFault plan × (fault ≡ signings.DiskFailed → ⊥)) → IfOk r (λ plan. output_of_text signing state text ≡ output_of_plan plan)
unsigned_text signing state text fault (Ok plan) within is output printed = short_text signing state text (Err fault) within (is printed.1) ∙ output
unsigned_text signing state text fault (Err stop) within is output printed = tt

-- more bytes than the limit
pub long_texts : (signing : Signing) (state : Durable) (given : Option (List ℕ)) → OfBytes given (λ g. json_limit < length g) → OfBytes given (λ g. output_of_text signing state g ≡ output_of_fault faults.TooMuchJson)
long_texts signing state given more = of_map given (λ g. json_limit < length g) (λ g. output_of_text signing state g ≡ output_of_fault faults.TooMuchJson) (long_text signing state) more

-- what a disk shows that opens so
abbrev shows : Result Durable JournalFault → Shown
shows opens = record { len = 0; opens = opens }

-- a disk that opens so, or that isn't honest
pub opens_so : (honest : Bool) (held : List ℕ) (opens : Result Durable JournalFault) (P : Result Durable JournalFault → Type 0) → (IsTrue honest → opened held ≡ opens) → P opens → OfShown honest held (λ h. P h.opens)
opens_so true held opens P is p = subst P (sym (is refl)) p
opens_so false held opens P is p = (shows opens, p)

-- with a key of the kind that is wanted, the expected output for its state is owed
pub expected_with_key : (honest : Bool) (held : List ℕ) (given : Option (List ℕ)) (kind : KeyKind) (owes : Durable → List ℕ → Output) (state : Durable) (r : Result Plan PlanError) → (IsTrue honest → opened held ≡ Ok state) → state.key.kind ≡ kind →
    IfOk r (λ plan. OfBytes given (λ g. owes state g ≡ output_of_plan plan)) → IfOk r (λ plan. OfShown honest held (λ h. OfBytes given (λ g. output_with_key kind owes h.opens g ≡ output_of_plan plan)))
expected_with_key honest held given kind owes state r opens own output =
    ok_map r (λ plan. OfBytes given (λ g. owes state g ≡ output_of_plan plan)) (λ plan. OfShown honest held (λ h. OfBytes given (λ g. output_with_key kind owes h.opens g ≡ output_of_plan plan)))
    (λ plan is. opens_so honest held (Ok state) (λ o. OfBytes given (λ g. output_with_key kind owes o g ≡ output_of_plan plan)) opens
    (of_map given (λ g. owes state g ≡ output_of_plan plan) (λ g. output_with_key kind owes (Ok state) g ≡ output_of_plan plan) (λ g d. with_own_key kind owes state g own ∙ d) is)) output

-- where no key file could be opened
printed_kind : (want got asked had : KeyKind) (plan : Plan) → asked ≡ want → got ≡ had → plan ≡ Refuse (faults.KeyKind asked had) → output_of_fault (faults.KeyKind want got) ≡ output_of_plan plan
printed_kind want got asked had plan w g p =
    ap (λ (k : KeyKind). output_of_fault (faults.KeyKind k got)) (sym w) ∙ ap (λ (k : KeyKind). output_of_fault (faults.KeyKind asked k)) g ∙ ap output_of_plan (sym p)

unopened_output : (honest : Bool) (held : List ℕ) (given : Option (List ℕ)) (kind : KeyKind) (owes : Durable → List ℕ → Output) (error : OrNoMemory KeyFileFault) (plan : Plan) →
    (IsTrue honest → (fault : JournalFault) → error ≡ fault_of (Journal fault) → (fault ≡ DiskFault → ⊥) → opened held ≡ Err fault) →
    (IsTrue honest → (want got : KeyKind) → error ≡ fault_of (KeyKindOf want got) → (state : Durable) × (opened held ≡ Ok state) × (state.key.kind ≡ got)) →
    ((want got : KeyKind) → error ≡ fault_of (KeyKindOf want got) → (want ≡ kind) × (got ≡ kind → ⊥)) →
    PrintsUnopened error plan → OfShown honest held (λ h. OfBytes given (λ g. output_with_key kind owes h.opens g ≡ output_of_plan plan))
unopened_output honest held given kind owes error plan damaged other kinds (inl t) =
    subst (λ (p : Plan). OfShown honest held (λ h. OfBytes given (λ g. output_with_key kind owes h.opens g ≡ output_of_plan p))) (sym t.3)
    (opens_so honest held (Err t.0) (λ o. OfBytes given (λ g. output_with_key kind owes o g ≡ output_of_fault (faults.Journal t.0))) (λ yes. damaged yes t.0 t.1 t.2)
    (of_any given (λ g. output_with_key kind owes (Err t.0) g ≡ output_of_fault (faults.Journal t.0)) (λ g. refl)))
unopened_output true held given kind owes error plan damaged other kinds (inr t) =
    let k = kinds t.0 t.1 t.2 in
    let s = other refl t.0 t.1 t.2 in
    let own : s.0.key.kind ≡ kind → ⊥ = λ is. k.1 (sym s.2 ∙ is) in
    of_any given (λ g. output_with_key kind owes (opened held) g ≡ output_of_plan plan)
    (λ g. ap (λ (o : Result Durable JournalFault). output_with_key kind owes o g) s.1 ∙ with_other_key kind owes s.0 g own ∙ printed_kind kind s.0.key.kind t.0 t.1 plan k.0 s.2 t.3)
unopened_output false held given kind owes error plan damaged other kinds (inr t) =
    let k = kinds t.0 t.1 t.2 in
    let state = key_alone (record { kind = t.1; types = H5W4; seed = [] }) in (
      shows (Ok state),
      of_any given (λ g. output_with_key kind owes (Ok state) g ≡ output_of_plan plan)
          (λ g. with_other_key kind owes state g k.1 ∙ printed_kind kind t.1 t.0 t.1 plan k.0 refl t.3),
    )

pub all_unopened_output : (honest : Bool) (held : List ℕ) (given : Option (List ℕ)) (kind : KeyKind) (owes : Durable → List ℕ → Output) (error : OrNoMemory KeyFileFault) (r : Result Plan PlanError) →
    (IsTrue honest → (fault : JournalFault) → error ≡ fault_of (Journal fault) → (fault ≡ DiskFault → ⊥) → opened held ≡ Err fault) →
    (IsTrue honest → (want got : KeyKind) → error ≡ fault_of (KeyKindOf want got) → (state : Durable) × (opened held ≡ Ok state) × (state.key.kind ≡ got)) →
    ((want got : KeyKind) → error ≡ fault_of (KeyKindOf want got) → (want ≡ kind) × (got ≡ kind → ⊥)) →
    IfOk r (PrintsUnopened error) → IfOk r (λ plan. OfShown honest held (λ h. OfBytes given (λ g. output_with_key kind owes h.opens g ≡ output_of_plan plan)))
all_unopened_output honest held given kind owes error r damaged other kinds printed =
    ok_map r (PrintsUnopened error) (λ plan. OfShown honest held (λ h. OfBytes given (λ g. output_with_key kind owes h.opens g ≡ output_of_plan plan)))
    (λ plan t. unopened_output honest held given kind owes error plan damaged other kinds t) printed

-- a file that could not be opened opens as it did
unopened_kept : (held holds : List ℕ) (error : OrNoMemory KeyFileFault) (plan : Plan) →
    ((fault : JournalFault) → error ≡ fault_of (Journal fault) → (fault ≡ DiskFault → ⊥) → opened held ≡ Err fault) →
    ((want got : KeyKind) → error ≡ fault_of (KeyKindOf want got) → (state : Durable) × (opened held ≡ Ok state) × (opened holds ≡ Ok state)) →
    PrintsUnopened error plan → OpensAsBefore held holds
unopened_kept held holds error plan damaged other (inl t) = λ state is. absurd (let no = damaged t.0 t.1 t.2 in cc)
unopened_kept held holds error plan damaged other (inr t) = λ state is. let s = other t.0 t.1 t.2 in cc

pub all_unopened_kept : (held holds : List ℕ) (error : OrNoMemory KeyFileFault) (r : Result Plan PlanError) →
    ((fault : JournalFault) → error ≡ fault_of (Journal fault) → (fault ≡ DiskFault → ⊥) → opened held ≡ Err fault) →
    ((want got : KeyKind) → error ≡ fault_of (KeyKindOf want got) → (state : Durable) × (opened held ≡ Ok state) × (opened holds ≡ Ok state)) →
    IfOk r (PrintsUnopened error) → IfOk r (λ plan. PrintsFault plan → OpensAsBefore held holds)
all_unopened_kept held holds error r damaged other printed =
    ok_map r (PrintsUnopened error) (λ plan. PrintsFault plan → OpensAsBefore held holds) (λ plan t fault. unopened_kept held holds error plan damaged other t) printed

-- it tells no key
unopened_spent : (leaf : LeafUse) (held : List ℕ) (past : List Step) (error : OrNoMemory KeyFileFault) (plan : Plan) → PrintsUnopened error plan → PrintsSpent leaf held past plan
unopened_spent leaf held past error plan (inl t) = subst (PrintsSpent leaf held past) (sym t.3) tt
unopened_spent leaf held past error plan (inr t) = subst (PrintsSpent leaf held past) (sym t.3) tt

pub all_unopened_spent : (leaf : LeafUse) (held : List ℕ) (past : List Step) (error : OrNoMemory KeyFileFault) (r : Result Plan PlanError) → IfOk r (PrintsUnopened error) → IfOk r (λ plan. PrintsSpent leaf held past plan)
all_unopened_spent leaf held past error r printed = ok_map r (PrintsUnopened error) (λ plan. PrintsSpent leaf held past plan) (unopened_spent leaf held past error) printed

-- and nothing is read for it
unopened_ended : (error : OrNoMemory KeyFileFault) (plan : Plan) (ended : Bool) → PrintsUnopened error plan → EndsSource (output_of_plan plan) ended
unopened_ended error plan ended (inl t) = subst (λ (p : Plan). EndsSource (output_of_plan p) ended) (sym t.3) (λ is. cc)
unopened_ended error plan ended (inr t) = subst (λ (p : Plan). EndsSource (output_of_plan p) ended) (sym t.3) (λ is. cc)

pub all_unopened_ended : (error : OrNoMemory KeyFileFault) (r : Result Plan PlanError) (ended : Bool) → IfOk r (PrintsUnopened error) → IfOk r (λ plan. EndsSource (output_of_plan plan) ended)
all_unopened_ended error r ended printed = ok_map r (PrintsUnopened error) (λ plan. EndsSource (output_of_plan plan) ended) (λ plan t. unopened_ended error plan ended t) printed

unopened_playable : (error : OrNoMemory KeyFileFault) (plan : Plan) → PrintsUnopened error plan → PlansPlayable plan
unopened_playable error plan (inl t) = subst PlansPlayable (sym t.3) tt
unopened_playable error plan (inr t) = subst PlansPlayable (sym t.3) tt

pub all_unopened_playable : (error : OrNoMemory KeyFileFault) (r : Result Plan PlanError) → IfOk r (PrintsUnopened error) → IfOk r (λ plan. PlansPlayable plan)
all_unopened_playable error r printed = ok_map r (PrintsUnopened error) PlansPlayable (unopened_playable error) printed

-- a leaf that is spent of what was opened is spent of what it was opened from
moved_spent : (leaf : LeafUse) (held holds : List ℕ) (state : Durable) (past : List Step) (plan : Plan) → opened held ≡ Ok state → opened holds ≡ Ok state → PrintsSpent leaf holds past plan → PrintsSpent leaf held past plan
moved_spent leaf held holds state past (Play schedule) is same printed = printed
moved_spent leaf held holds state past (Show id) is same printed = printed
moved_spent leaf held holds state past (ShowLedger last signed) is same printed = printed
moved_spent leaf held holds state past (Refuse fault) is same printed = printed
moved_spent leaf held holds state past (Print text) is same printed =
    (printed.0, is ∙ sym same ∙ printed.1, printed.2)

pub all_moved_spent : (leaf : LeafUse) (held holds : List ℕ) (state : Durable) (past : List Step) (r : Result Plan PlanError) → opened held ≡ Ok state → opened holds ≡ Ok state →
    IfOk r (λ plan. PrintsSpent leaf holds past plan) → IfOk r (λ plan. PrintsSpent leaf held past plan)
all_moved_spent leaf held holds state past r is same printed =
    ok_map r (λ plan. PrintsSpent leaf holds past plan) (λ plan. PrintsSpent leaf held past plan) (λ plan t. moved_spent leaf held holds state past plan is same t) printed

-- a leaf that is spent for the use of a task
pub spent_for : (leaf own : LeafUse) (held : List ℕ) (past : List Step) (r : Result Plan PlanError) → own ≡ leaf → IfOk r (λ plan. PrintsSpent own held past plan) → IfOk r (λ plan. PrintsSpent leaf held past plan)
spent_for leaf own held past r is printed = subst (λ (l : LeafUse). IfOk r (λ plan. PrintsSpent l held past plan)) is printed
