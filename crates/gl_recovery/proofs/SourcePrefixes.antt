-- What is taken from the start of a source.
use Rattle.std.proofs.Common.{◌≡◌, ℕ, ◌+◌, ◌≤◌, ◌<◌, nat_lt, Bool, true, false, List, [], ◌++◌, Option, None, Some, Result, Ok, Err, IsErr, length, take, drop, refl, sym, ap, ap₂, ◌∙◌, subst, arith, append_assoc, append-nil, length-append}
use Rattle.std.proofs.Math.Seq.{take-append_seam, drop-append_seam}
use Rattle.std.proofs.lemmas.Bool.Decides.{nat_tests}
use Rattle.std.specs.Result.{IsErrAnd}
use Rattle.std.proofs.KnownBytes.{Consumes-trans}
use Rattle.std.specs.Io.KnownBytes.{Consumes, IsAtEnd}
use Rattle.gl_base.specs.LittleEndian.{from_little_endian}
use Rattle.gl_base.specs.Steps.{◌>>=◌}
use Rattle.gl_base.specs.declared.or_no_memory.OrNoMemory.{OrNoMemory}
use Rattle.gl_base.specs.declared.or_no_memory.OrNoMemory.TheVariants.{Fault}
use Rattle.gl_entry.specs.SourceBytes.{OfBytes}
use Rattle.gl_recovery.specs.SettingsPrefix.{TakesSettings, len_within, parts_after, parts_of, settings_len}
use Rattle.gl_recovery.specs.declared.recovering_fault.RecoveringFault.{RecoveringFault}
use Rattle.gl_recovery.specs.declared.recovering_fault.RecoveringFault.TheVariants as faults

-- ---- what holds of all bytes that begin so

-- whatever stands after the bytes that were taken
pub of_taken : (old new : Option (List ℕ)) (prefix : List ℕ) (Q : List ℕ → Type 0) → Consumes old new prefix → ((rest : List ℕ) → Q (prefix ++ rest)) → OfBytes old Q
of_taken None new prefix Q taken holds = (prefix ++ [], holds [])
of_taken (Some given) None prefix Q taken holds = absurd taken
of_taken (Some given) (Some rest) prefix Q taken holds = subst Q (sym taken) (holds rest)

-- where nothing stands after them
pub of_ended : (old new : Option (List ℕ)) (prefix : List ℕ) (Q : List ℕ → Type 0) → Consumes old new prefix → IsAtEnd new → Q prefix → OfBytes old Q
of_ended None new prefix Q taken ended holds = (prefix, holds)
of_ended (Some given) None prefix Q taken ended holds = absurd taken
of_ended (Some given) (Some rest) prefix Q taken ended holds = subst Q (sym (taken ∙ ap (λ (bytes : List ℕ). prefix ++ bytes) ended ∙ append-nil prefix)) holds

-- where P holds of what stands after them
pub of_after : (old new : Option (List ℕ)) (prefix : List ℕ) (P Q : List ℕ → Type 0) → Consumes old new prefix → ((rest : List ℕ) → P rest → Q (prefix ++ rest)) → OfBytes new P → OfBytes old Q
of_after None None prefix P Q taken holds after = (prefix ++ after.0, holds after.0 after.1)
of_after None (Some rest) prefix P Q taken holds after = (prefix ++ rest, holds rest after)
of_after (Some given) None prefix P Q taken holds after = absurd taken
of_after (Some given) (Some rest) prefix P Q taken holds after = subst Q (sym taken) (holds rest after)

-- ---- the parts

head_read : (given : List ℕ) → 4 ≤ length given → settings_len given ≡ len_within (from_little_endian (take 4 given))
head_read given long = let whole : nat_lt (length given) 4 ≡ false = grind (arith, nat_tests) in rw whole refl

head_short : (given : List ℕ) → length given < 4 → settings_len given ≡ Err (faults.Short (length given))
head_short given short = let cut : nat_lt (length given) 4 ≡ true = grind (arith, nat_tests) in rw cut refl

take_prefix : (head rest : List ℕ) (n : ℕ) → length head ≡ n → take n (head ++ rest) ≡ head
take_prefix head rest n long = ap (λ (k : ℕ). take k (head ++ rest)) (sym long) ∙ take-append_seam head rest

drop_prefix : (head rest : List ℕ) (n : ℕ) → length head ≡ n → drop n (head ++ rest) ≡ rest
drop_prefix head rest n long = ap (λ (k : ℕ). drop k (head ++ rest)) (sym long) ∙ drop-append_seam head rest

-- what stands after four bytes doesn't count for the length
head_kept : (head rest : List ℕ) → length head ≡ 4 → settings_len (head ++ rest) ≡ settings_len head
head_kept head rest four =
    let long : 4 ≤ length (head ++ rest) = (let both = length-append head rest in omega (arith, four, both)) in
    let alone : take 4 head ≡ head = ap (take 4) (sym (append-nil head)) ∙ take_prefix head [] 4 four in
    head_read (head ++ rest) long ∙ ap (λ (bytes : List ℕ). len_within (from_little_endian bytes)) (take_prefix head rest 4 four ∙ sym alone)
    ∙ sym (head_read head (omega (arith, four)))

-- bytes whose length is refused
pub head_refused : (head rest : List ℕ) (fault : RecoveringFault) → length head ≡ 4 → settings_len head ≡ Err fault → parts_of (head ++ rest) ≡ Err fault
unfolding parts_of
head_refused head rest fault four is = ap (λ (len : Result ℕ RecoveringFault). len >>= parts_after (head ++ rest)) (head_kept head rest four ∙ is)

-- bytes that end within the length
pub head_ended : (head : List ℕ) (fault : RecoveringFault) → settings_len head ≡ Err fault → parts_of head ≡ Err fault
unfolding parts_of
head_ended head fault is = ap (λ (len : Result ℕ RecoveringFault). len >>= parts_after head) is

module _ (head : List ℕ) (len : ℕ) (four : length head ≡ 4) (is : settings_len head ≡ Ok len) where
  after_len : (rest : List ℕ) → parts_of (head ++ rest) ≡ parts_after (head ++ rest) len
  unfolding parts_of
  after_len rest = ap (λ (len : Result ℕ RecoveringFault). len >>= parts_after (head ++ rest)) (head_kept head rest four ∙ is)

  -- bytes that end within the settings
  pub text_ended : (text : List ℕ) (at : ℕ) → length text < len → at ≡ length head + length text → parts_of (head ++ text) ≡ Err (faults.Short at)
  text_ended text at short here =
      let both : length (head ++ text) ≡ length head + length text = length-append head text in
      let cut : nat_lt (length (head ++ text)) (4 + len) ≡ true = grind (arith, nat_tests, both, four, short) in
      let reported : parts_after (head ++ text) len ≡ Err (faults.Short (length (head ++ text))) = rw cut refl in
      after_len text ∙ reported ∙ ap (λ (n : ℕ). Err (faults.Short n)) (both ∙ sym here)

  -- settings, and what stands after them
  pub text_taken : (text ledger : List ℕ) → length text ≡ len → parts_of ((head ++ text) ++ ledger) ≡ Ok (record { settings = text; ledger = ledger })
  text_taken text ledger whole =
      let given = head ++ (text ++ ledger) in
      let long : length given ≡ 4 + len + length ledger = (let a = length-append head (text ++ ledger) in let b = length-append text ledger in omega (arith, a, b, four, whole)) in
      let there : nat_lt (length given) (4 + len) ≡ false = grind (arith, nat_tests, long) in
      let reported : parts_after given len ≡ Ok (record { settings = take len (drop 4 given); ledger = drop (4 + len) given }) = rw there refl in
      let settings : take len (drop 4 given) ≡ text = ap (take len) (drop_prefix head (text ++ ledger) 4 four) ∙ take_prefix text ledger len whole in
      let prefix : length (head ++ text) ≡ 4 + len = (let a = length-append head text in omega (arith, a, four, whole)) in
      let after : drop (4 + len) given ≡ ledger = ap (drop (4 + len)) (sym (append_assoc head text ledger)) ∙ drop_prefix (head ++ text) ledger (4 + len) prefix in
      ap parts_of (append_assoc head text ledger) ∙ after_len (text ++ ledger) ∙ reported ∙ ap₂ (λ (t l : List ℕ). Ok (record { settings = t; ledger = l })) settings after

-- ---- what a call found

-- a length that was read has its four bytes
head_whole : (head : List ℕ) (len : ℕ) → length head ≤ 4 → settings_len head ≡ Ok len → length head ≡ 4
head_whole head len within is = go (nat_lt (length head) 4) refl
  where
    go : (b : Bool) → nat_lt (length head) 4 ≡ b → length head ≡ 4
    go true cut = let short : length head < 4 = grind (arith, nat_tests, cut) in let refused = sym (head_short head short) ∙ is in absurd cc
    go false there = let long : 4 ≤ length head = grind (arith, nat_tests, there) in omega (arith, long, within)

pub head_fault : (left new : Option (List ℕ)) (head : List ℕ) (fault : RecoveringFault) → Consumes left new head → length head ≤ 4 → (length head < 4 → IsAtEnd new) → settings_len head ≡ Err fault → OfBytes left (λ given. parts_of given ≡ Err fault)
head_fault left new head fault taken within ended is = go (nat_lt (length head) 4) refl
  where
    go : (b : Bool) → nat_lt (length head) 4 ≡ b → OfBytes left (λ given. parts_of given ≡ Err fault)
    go true cut = let short : length head < 4 = grind (arith, nat_tests, cut) in of_ended left new head (λ given. parts_of given ≡ Err fault) taken (ended short) (head_ended head fault is)
    go false there = let four : length head ≡ 4 = (let long : 4 ≤ length head = grind (arith, nat_tests, there) in omega (arith, long, within)) in of_taken left new head (λ given. parts_of given ≡ Err fault) taken (λ rest. head_refused head rest fault four is)

pub text_fault : (left mid new : Option (List ℕ)) (head text : List ℕ) (len at : ℕ) (fault : RecoveringFault) → Consumes left mid head → Consumes mid new text → length head ≤ 4 → settings_len head ≡ Ok len → length text < len → IsAtEnd new
    → at ≡ length head + length text → faults.Short at ≡ fault → OfBytes left (λ given. parts_of given ≡ Err fault)
text_fault left mid new head text len at fault first second within is short ended here reported =
    of_ended left new (head ++ text) (λ given. parts_of given ≡ Err fault) (Consumes-trans left mid new head text first second) ended (text_ended head len (head_whole head len within is) is text at short here ∙ ap Err reported)

pub takes_settings : (left mid new : Option (List ℕ)) (head text : List ℕ) (len : ℕ) → Consumes left mid head → Consumes mid new text → length head ≤ 4 → settings_len head ≡ Ok len → length text ≡ len → TakesSettings left text new
takes_settings left mid new head text len first second within is whole =
    (head ++ text, Consumes-trans left mid new head text first second, λ ledger. text_taken head len (head_whole head len within is) is text ledger whole)

-- a fault that is handed on
pub handed_on : {X : Type 0} (result : Result X (OrNoMemory RecoveringFault)) (met fault : RecoveringFault) → IsErr result → IsErrAnd result (λ e. e ≡ Fault met) → result ≡ Err (Fault fault) → met ≡ fault
handed_on (Ok x) met fault wrong same is = absurd cc
handed_on (Err e) met fault wrong same is = let both : Fault met ≡ Fault fault = sym same ∙ (let there : e ≡ Fault fault = cc in there) in cc
