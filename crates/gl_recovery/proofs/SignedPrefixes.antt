-- What is signed of a ledger: its front up to the last signature.
use Rattle.std.proofs.Common.{◌≡◌, ℕ, zero, suc, ◌+◌, ◌-◌, ◌≤◌, ◌<◌, ◌^◌, nat_le, nat_lt, ◌==◌, List, length, take, Bool, true, false, if◌then◌else◌, Ok, Err, slice_get, refl, ap, ◌∙◌, arith}
use Rattle.std.proofs.lemmas.Bool.Decides.{nat_tests}
use Rattle.std.proofs.lemmas.List.{length-take-le}
use Rattle.gl_base.proofs.Lists.{slice_get-take}
use Rattle.gl_base.specs.TxId.{last_seqno}
use Rattle.gl_entry.specs.declared.entry.Entry.{Entry}
use Rattle.gl_ledger.specs.Recordings.{last_entry}
use Rattle.gl_ledger.specs.Recovery.{recovery_view}
use Rattle.gl_ledger.specs.Signed.{IsSignedAt}
use Rattle.gl_ledger.specs.Past.{last_signed, signs_at}
use Rattle.gl_ledger.proofs.Signatures.{signed_at_last, signed_within}
use Rattle.gl_recovery.specs.OldLedger.{has_room, signed_prefix, with_signature}
use Rattle.gl_recovery.specs.declared.fault.RecoveryFault.TheVariants as faults

-- the last signature stands within the ledger
pub last_within : (ledger : List Entry) → last_signed ledger ≤ length ledger
last_within ledger = signed_within ledger (last_signed ledger) (λ some. signed_at_last ledger some)

prefix_ends : (ledger : List Entry) (n : ℕ) → 0 < n → n ≤ length ledger → IsSignedAt ledger n → signs_at (last_entry (take n ledger)) ≡ true
prefix_ends ledger zero some within at = absurd (omega (arith, some))
prefix_ends ledger (suc i) some within at =
    let long : length (take (suc i) ledger) ≡ suc i = length-take-le (suc i) ledger within in
    let last : length (take (suc i) ledger) - 1 ≡ i = omega (arith, long) in
    ap (λ (k : ℕ). signs_at (slice_get (take (suc i) ledger) k)) last
    ∙ ap signs_at (slice_get-take (suc i) ledger i at.0 (omega arith) at.1) ∙ at.2

-- it ends what is signed
pub prefix_signed : (ledger : List Entry) → 0 < last_signed ledger → signs_at (last_entry (signed_prefix ledger)) ≡ true
prefix_signed ledger some = prefix_ends ledger (last_signed ledger) some (last_within ledger) (signed_at_last ledger some)

-- a ledger with a signature
pub signature_there : (ledger : List Entry) (n : ℕ) → n ≡ last_signed ledger → (n ≡ 0 → ⊥) → with_signature ledger ≡ Ok (signed_prefix ledger)
signature_there ledger n is some = go (last_signed ledger == 0) refl
  where
    go : (b : Bool) → (last_signed ledger == 0) ≡ b → (if b then Err faults.NothingSigned else Ok (signed_prefix ledger)) ≡ Ok (signed_prefix ledger)
    go true test = absurd (let none : last_signed ledger ≡ 0 = grind (arith, nat_tests, test) in some (is ∙ none))
    go false test = refl

pub record HasSignature (ledger prefix : List Entry) : Type 0 where
  pub some : 0 < last_signed ledger
  pub prefix_is : signed_prefix ledger ≡ prefix

pub signature_found : (ledger prefix : List Entry) → with_signature ledger ≡ Ok prefix → HasSignature ledger prefix
signature_found ledger prefix is = go (last_signed ledger == 0) refl is
  where
    go : (b : Bool) → (last_signed ledger == 0) ≡ b → (if b then Err faults.NothingSigned else Ok (signed_prefix ledger)) ≡ Ok prefix → HasSignature ledger prefix
    go true test is = absurd cc
    go false test is = record { some = grind (arith, nat_tests, test); prefix_is = cc }

pub record HasRoom (ledger : List Entry) : Type 0 where
  pub view : recovery_view ledger < 2 ^ 32
  pub left : length ledger + 2 ≤ last_seqno

pub room_found : (ledger : List Entry) (u : Unit {0}) → has_room ledger ≡ Ok u → HasRoom ledger
room_found ledger u is = go (nat_le (2 ^ 32) (recovery_view ledger)) (nat_lt last_seqno (length ledger + 2)) refl refl is
  where
    go : (a b : Bool) → nat_le (2 ^ 32) (recovery_view ledger) ≡ a → nat_lt last_seqno (length ledger + 2) ≡ b →
        (if a then Err faults.ViewLimit else (if b then Err faults.SeqnoLimit else Ok tt)) ≡ Ok u → HasRoom ledger
    go true b view left is = absurd cc
    go false true view left is = absurd cc
    go false false view left is = record { view = grind (arith, nat_tests, view); left = grind (arith, nat_tests, left) }
