-- What is owed where a recovery secret is to be dealt.
use Rattle.std.proofs.Common.{◌≡◌, ℕ, ◌<◌, List, length, Option, Bool, true, false, nat_lt, if◌then◌else◌, refl, ap, ◌∙◌, arith}
use Rattle.std.proofs.lemmas.Bool.Decides.{nat_tests}
use Rattle.gl_entry.specs.SourceBytes.{OfBytes}
use Rattle.gl_consortium.specs.Members.{can_deal}
use Rattle.ccfg.specs.declared.fault.Fault.TheVariants as faults
use Rattle.ccfg.specs.ExpectedOutput.{Output, dealing_len, output_of_answer, output_of_dealing, output_of_fault, text_of_dealing}
use Rattle.ccfg.proofs.ShownLemmas.{of_map}

abbrev pub dealing_output : ℕ → List ℕ → List ℕ → Bool → Bool → Bool → Output
dealing_output threshold members given short long can =
    if short then output_of_fault (faults.Short (length given))
    else (if long then output_of_fault (faults.Trailing dealing_len)
    else (if can then output_of_answer (text_of_dealing threshold members given) else output_of_fault faults.BadDealing))

dealing_is : (threshold : ℕ) (members given : List ℕ) (short long can : Bool) → nat_lt (length given) dealing_len ≡ short → nat_lt dealing_len (length given) ≡ long → can_deal threshold members ≡ can →
    output_of_dealing threshold members given ≡ dealing_output threshold members given short long can
unfolding output_of_dealing
dealing_is threshold members given short long can s l c =
    ap (λ (b : Bool). dealing_output threshold members given b (nat_lt dealing_len (length given)) (can_deal threshold members)) s
    ∙ ap (λ (b : Bool). dealing_output threshold members given short b (can_deal threshold members)) l ∙ ap (dealing_output threshold members given short long) c

pub short_dealing : (threshold : ℕ) (members given : List ℕ) → length given < dealing_len → output_of_dealing threshold members given ≡ output_of_fault (faults.Short (length given))
short_dealing threshold members given short =
    dealing_is threshold members given true (nat_lt dealing_len (length given)) (can_deal threshold members) (grind (arith, nat_tests)) refl refl

pub long_dealing : (threshold : ℕ) (members given : List ℕ) → dealing_len < length given → output_of_dealing threshold members given ≡ output_of_fault (faults.Trailing dealing_len)
long_dealing threshold members given long =
    dealing_is threshold members given false true (can_deal threshold members) (grind (arith, nat_tests)) (grind (arith, nat_tests)) refl

pub whole_dealing : (threshold : ℕ) (members given : List ℕ) (can : Bool) → length given ≡ dealing_len → can_deal threshold members ≡ can →
    output_of_dealing threshold members given ≡ dealing_output threshold members given false false can
whole_dealing threshold members given can whole is =
    dealing_is threshold members given false false can (grind (arith, nat_tests)) (grind (arith, nat_tests)) is

-- bytes of which more were read than belong to a secret and a seed
pub long_dealings : (threshold : ℕ) (members : List ℕ) (given : Option (List ℕ)) → OfBytes given (λ g. dealing_len < length g) →
    OfBytes given (λ g. output_of_dealing threshold members g ≡ output_of_fault (faults.Trailing dealing_len))
long_dealings threshold members given more =
    of_map given (λ g. dealing_len < length g) (λ g. output_of_dealing threshold members g ≡ output_of_fault (faults.Trailing dealing_len)) (long_dealing threshold members) more
