-- What is owed where a key is to begin.
use Rattle.std.proofs.Common.{◌≡◌, ℕ, zero, suc, ◌<◌, List, [], ◌∷◌, length, Option, None, Some, Bool, true, false, nat_lt, if◌then◌else◌, IfSome, Result, Ok, Err, IfOk, IsTrue, refl, sym, ap, ◌∙◌, subst, arith}
use Rattle.std.proofs.lemmas.Bool.Decides.{nat_tests}
use Rattle.gl_entry.specs.SourceBytes.{OfBytes}
use Rattle.gl_journal.specs.declared.key.Key.{Key}
use Rattle.gl_journal.specs.declared.key.KeyKind.{KeyKind}
use Rattle.gl_hss.specs.declared.types.Types.{Types}
use Rattle.ccfg.specs.declared.fault.Fault.TheVariants as faults
use Rattle.ccfg.specs.ExpectedOutput.{Output, OfShown, Shown, shown_by, output_of_answer, output_of_fault, output_of_seed, key_line, on_empty, seed_len}
use Rattle.gl_base.specs.declared.or_no_memory.OrNoMemory.{OrNoMemory}
use Rattle.gl_base.specs.declared.or_no_memory.OrNoMemory.TheVariants.{Fault as fault_of}
use Rattle.gl_journal.specs.declared.fault.JournalFault.TheVariants.{NotEmpty, NotJournal}
use Rattle.gl_keyfile.specs.declared.fault.KeyFileFault.{KeyFileFault}
use Rattle.gl_keyfile.specs.declared.fault.KeyFileFault.TheVariants.{Journal}
use Rattle.gl_outside.specs.Disk.{Step}
use Rattle.ccfg.specs.declared.fault.Fault.{Fault}
use Rattle.ccfg.specs.declared.plan.Plan.{Plan}
use Rattle.ccfg.specs.declared.plan.Plan.TheVariants.{Refuse}
use Rattle.ccfg.specs.declared.plan.PlanError.{PlanError}
use Rattle.ccfg.specs.Plans.{ShowsKept, output_of_plan}
use Rattle.ccfg.proofs.ShownLemmas.{shown_map, of_any, of_map, of_text, ok_map}

abbrev pub key_of : KeyKind → Types → List ℕ → Key
key_of kind types seed = record { kind = kind; types = types; seed = seed }

abbrev pub seed_output : KeyKind → Types → List ℕ → Bool → Bool → Output
seed_output kind types given short long =
    if short then output_of_fault (faults.Short (length given))
    else (if long then output_of_fault (faults.Trailing seed_len) else output_of_answer (key_line (key_of kind types given)))

seed_is : (kind : KeyKind) (types : Types) (given : List ℕ) (short long : Bool) → nat_lt (length given) seed_len ≡ short → nat_lt seed_len (length given) ≡ long → output_of_seed kind types given ≡ seed_output kind types given short long
unfolding output_of_seed
seed_is kind types given short long s l = rw (s, l) refl

pub short_seed : (kind : KeyKind) (types : Types) (given : List ℕ) → length given < seed_len → output_of_seed kind types given ≡ output_of_fault (faults.Short (length given))
short_seed kind types given short = seed_is kind types given true (nat_lt seed_len (length given)) (grind (arith, nat_tests)) refl

pub long_seed : (kind : KeyKind) (types : Types) (given : List ℕ) → seed_len < length given → output_of_seed kind types given ≡ output_of_fault (faults.Trailing seed_len)
long_seed kind types given long = seed_is kind types given false true (grind (arith, nat_tests)) (grind (arith, nat_tests))

pub whole_seed : (kind : KeyKind) (types : Types) (given : List ℕ) → length given ≡ seed_len → output_of_seed kind types given ≡ output_of_answer (key_line (key_of kind types given))
whole_seed kind types given whole = seed_is kind types given false false (grind (arith, nat_tests)) (grind (arith, nat_tests))

-- a disk that shows so many bytes
abbrev shows_bytes : ℕ → Shown
shows_bytes len = record { len = len; opens = Err (NotJournal 0) }

-- an empty disk, or one that isn't honest
pub empty_held : (honest : Bool) (held : List ℕ) (P : Shown → Type 0) → (IsTrue honest → held ≡ []) → ((h : Shown) → h.len ≡ 0 → P h) → OfShown honest held P
empty_held true held P empty p = p (shown_by held) (ap length (empty refl))
empty_held false held P empty p = (shows_bytes 0, p (shows_bytes 0) refl)

pub on_none : (len : ℕ) (expected_output : Output) → len ≡ 0 → on_empty len expected_output ≡ expected_output
on_none len expected_output is = ap (λ (n : ℕ). on_empty n expected_output) is

pub none_held : (held : List ℕ) → 0 ≡ length held → held ≡ []
none_held [] is = refl
none_held (byte ∷ held) is = absurd (omega (arith, is))

on_some : (held : ℕ) (expected_output : Output) → 0 < held → on_empty held expected_output ≡ output_of_fault (faults.NotEmpty held)
on_some zero expected_output some = absurd (omega (arith, some))
on_some (suc more) expected_output some = refl

held_bytes : (held : ℕ) (expected_output : Output) (len : ℕ) → 0 < len → len ≡ held → on_empty held expected_output ≡ output_of_fault (faults.NotEmpty len)
held_bytes held expected_output len some is = subst (λ (n : ℕ). on_empty n expected_output ≡ output_of_fault (faults.NotEmpty len)) is (on_some len expected_output some)

-- a disk that holds so many bytes, or that isn't honest
pub expected_on_bytes : (honest : Bool) (held : List ℕ) (expected_output : Output) (len : ℕ) → 0 < len → (IsTrue honest → len ≡ length held) → OfShown honest held (λ h. on_empty h.len expected_output ≡ output_of_fault (faults.NotEmpty len))
expected_on_bytes true held expected_output len some is = held_bytes (length held) expected_output len some (is refl)
expected_on_bytes false held expected_output len some is = (shows_bytes len, on_some len expected_output some)

-- a key that is begun on an empty disk
pub begun_output : (honest : Bool) (held : List ℕ) (key : Key) (line : List ℕ) → (IsTrue honest → held ≡ []) → line ≡ key_line key →
    OfShown honest held (λ h. on_empty h.len (output_of_answer (key_line key)) ≡ output_of_answer line)
begun_output honest held key line empty is =
    empty_held honest held (λ h. on_empty h.len (output_of_answer (key_line key)) ≡ output_of_answer line) empty
    (λ h none. on_none h.len (output_of_answer (key_line key)) none ∙ ap output_of_answer (sym is))

-- where no file could be begun
pub begin_output : (honest : Bool) (held : List ℕ) (expected_output : Output) (error : OrNoMemory KeyFileFault) (r : Result Plan PlanError) → (IsTrue honest → held ≡ []) → (IsTrue honest → (len : ℕ) → error ≡ fault_of (Journal (NotEmpty len)) → (len ≡ length held) × (0 < len)) →
    IfOk r (λ plan. (len printed : ℕ) × (error ≡ fault_of (Journal (NotEmpty len))) × (0 < printed) × (plan ≡ Refuse (faults.NotEmpty printed))) → IfOk r (λ plan. OfShown honest held (λ h. on_empty h.len expected_output ≡ output_of_plan plan))
begin_output honest held expected_output error (Ok plan) empty some printed =
    subst (λ (p : Plan). OfShown honest held (λ h. on_empty h.len expected_output ≡ output_of_plan p)) (sym printed.4)
    (expected_on_bytes honest held expected_output printed.1 printed.3 (λ yes. let there = some yes printed.0 printed.2 in absurd (omega (arith, there.0, there.1, ap length (empty yes)))))
begin_output honest held expected_output error (Err stop) empty some printed = tt

-- what a seed is owed
pub expected_seed : (honest : Bool) (held : List ℕ) (given : Option (List ℕ)) (kind : KeyKind) (types : Types) (text seed : List ℕ) (output : Output) → IfSome given (λ g. text ≡ g) → seed ≡ text → length text ≡ seed_len →
    OfShown honest held (λ h. on_empty h.len (output_of_answer (key_line (key_of kind types seed))) ≡ output) → OfShown honest held (λ h. OfBytes given (λ g. on_empty h.len (output_of_seed kind types g) ≡ output))
expected_seed honest held given kind types text seed output whole same long p =
    shown_map honest held (λ h. on_empty h.len (output_of_answer (key_line (key_of kind types seed))) ≡ output) (λ h. OfBytes given (λ g. on_empty h.len (output_of_seed kind types g) ≡ output))
    (λ h is. of_text given text (λ g. on_empty h.len (output_of_seed kind types g) ≡ output) whole
    (ap (on_empty h.len) (whole_seed kind types text long) ∙ ap (λ (s : List ℕ). on_empty h.len (output_of_answer (key_line (key_of kind types s)))) (sym same) ∙ is)) p

-- what fewer bytes are owed
pub short_expected : (honest : Bool) (held : List ℕ) (given : Option (List ℕ)) (kind : KeyKind) (types : Types) (text : List ℕ) (fault : Fault) → (IsTrue honest → held ≡ []) → IfSome given (λ g. text ≡ g) → fault ≡ faults.Short (length text) → length text < seed_len →
    OfShown honest held (λ h. OfBytes given (λ g. on_empty h.len (output_of_seed kind types g) ≡ output_of_fault fault))
short_expected honest held given kind types text fault empty whole is short =
    empty_held honest held (λ h. OfBytes given (λ g. on_empty h.len (output_of_seed kind types g) ≡ output_of_fault fault)) empty
    (λ h none. of_text given text (λ g. on_empty h.len (output_of_seed kind types g) ≡ output_of_fault fault) whole
    (on_none h.len (output_of_seed kind types text) none ∙ short_seed kind types text short ∙ ap output_of_fault (sym is)))

-- what more bytes are owed
pub long_expected : (honest : Bool) (held : List ℕ) (given : Option (List ℕ)) (kind : KeyKind) (types : Types) → (IsTrue honest → held ≡ []) → OfBytes given (λ g. seed_len < length g) →
    OfShown honest held (λ h. OfBytes given (λ g. on_empty h.len (output_of_seed kind types g) ≡ output_of_fault (faults.Trailing seed_len)))
long_expected honest held given kind types empty long =
    empty_held honest held (λ h. OfBytes given (λ g. on_empty h.len (output_of_seed kind types g) ≡ output_of_fault (faults.Trailing seed_len))) empty
    (λ h none. of_map given (λ g. seed_len < length g) (λ g. on_empty h.len (output_of_seed kind types g) ≡ output_of_fault (faults.Trailing seed_len))
    (λ g more. on_none h.len (output_of_seed kind types g) none ∙ long_seed kind types g more) long)

-- what a disk that holds bytes is owed, whatever the source gives
pub expected_bytes : (honest : Bool) (held : List ℕ) (given : Option (List ℕ)) (expected_output : List ℕ → Output) (len : ℕ) → 0 < len → (IsTrue honest → len ≡ length held) → OfShown honest held (λ h. OfBytes given (λ g. on_empty h.len (expected_output g) ≡ output_of_fault (faults.NotEmpty len)))
expected_bytes true held given expected_output len some is = of_any given (λ g. on_empty (length held) (expected_output g) ≡ output_of_fault (faults.NotEmpty len)) (λ g. held_bytes (length held) (expected_output g) len some (is refl))
expected_bytes false held given expected_output len some is =
    (shows_bytes len, of_any given (λ g. on_empty len (expected_output g) ≡ output_of_fault (faults.NotEmpty len)) (λ g. on_some len (expected_output g) some))

-- the key of a seed is kept
pub seed_kept : (given : Option (List ℕ)) (kind : KeyKind) (types : Types) (past : List Step) (text seed : List ℕ) (r : Result Plan PlanError) → IfSome given (λ g. text ≡ g) → seed ≡ text →
    IfOk r (λ plan. ShowsKept kind types past seed plan) → IfOk r (λ plan. OfBytes given (λ g. ShowsKept kind types past g plan))
seed_kept given kind types past text seed r whole same p =
    ok_map r (λ plan. ShowsKept kind types past seed plan) (λ plan. OfBytes given (λ g. ShowsKept kind types past g plan))
    (λ plan kept. of_text given text (λ g. ShowsKept kind types past g plan) whole (subst (λ (s : List ℕ). ShowsKept kind types past s plan) same kept)) p

pub seed_expected_all : (honest : Bool) (held : List ℕ) (given : Option (List ℕ)) (kind : KeyKind) (types : Types) (text seed : List ℕ) (r : Result Plan PlanError) → IfSome given (λ g. text ≡ g) → seed ≡ text → length text ≡ seed_len →
    IfOk r (λ plan. OfShown honest held (λ h. on_empty h.len (output_of_answer (key_line (key_of kind types seed))) ≡ output_of_plan plan)) → IfOk r (λ plan. OfShown honest held (λ h. OfBytes given (λ g. on_empty h.len (output_of_seed kind types g) ≡ output_of_plan plan)))
seed_expected_all honest held given kind types text seed r whole same long p =
    ok_map r (λ plan. OfShown honest held (λ h. on_empty h.len (output_of_answer (key_line (key_of kind types seed))) ≡ output_of_plan plan)) (λ plan. OfShown honest held (λ h. OfBytes given (λ g. on_empty h.len (output_of_seed kind types g) ≡ output_of_plan plan)))
    (λ plan q. expected_seed honest held given kind types text seed (output_of_plan plan) whole same long q) p

-- bytes that were read whole, by another name
pub whole_as : (given : Option (List ℕ)) (text other : List ℕ) → other ≡ text → IfSome given (λ g. text ≡ g) → IfSome given (λ g. other ≡ g)
whole_as None text other same whole = tt
whole_as (Some g) text other same whole = same ∙ whole
