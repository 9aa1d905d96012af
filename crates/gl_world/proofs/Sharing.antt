-- The numbers of the members among whom the recovery secret is dealt, and the digests of their
-- shares.
use Rattle.std.proofs.Common.{◌≡◌, ◌≢◌, ℕ, zero, suc, ◌+◌, ◌-◌, ◌<◌, ◌≤◌, List, [], ◌∷◌, ◌++◌, map, All, AllPairs, sym, ◌∙◌, ap, ap₂, arith, add-one, append_assoc}
use Rattle.std.proofs.lemmas.List.Elements.{All-nil, All-cons}
use Rattle.std.proofs.lemmas.List.Kept.{AllPairs-cons}
use Rattle.std.proofs.lemmas.Simd.{map-map}
use Rattle.gl_shares.specs.Dealing as sharing
use Rattle.gl_shares.specs.declared.share.Share.{Share}
use Rattle.gl_world.specs.declared.settings.Settings.{Settings}
use Rattle.gl_world.specs.Keys.{recovery_secret, deal_seed}
use Rattle.gl_world.specs.Founding.{numbers_from, dealt_to, digest_of, dealing_of}
use Rattle.gl_world.proofs.Numbers.{numbers-next}

-- with the next number, those so far and those left are still the whole
pub numbers-push : (out new whole : List ℕ) (x i n : ℕ) → i < n → x ≡ i + 1 → new ≡ out ++ x ∷ [] →
    out ++ numbers_from (suc i) (n - i) ≡ whole → new ++ numbers_from (suc (i + 1)) (n - (i + 1)) ≡ whole
numbers-push out new whole x i n below is pushed before =
    let rest : List ℕ = numbers_from (suc (i + 1)) (n - (i + 1)) in
    ap (λ (l : List ℕ). l ++ rest) pushed ∙ append_assoc out (x ∷ []) rest ∙ ap (λ (y : ℕ). out ++ y ∷ rest) is
    ∙ rw (add-one i) (ap (λ (ns : List ℕ). out ++ ns) (sym (numbers-next i n below))) ∙ before

-- what holds of all numbers from the first on
pub all_numbers : (P : ℕ → Type 0) (first count : ℕ) → ((k : ℕ) → first ≤ k → P k) → All P (numbers_from first count)
all_numbers P first zero each = All-nil P
all_numbers P first (suc count) each = All-cons P first (numbers_from (suc first) count) (each first (omega arith)) (all_numbers P (suc first) count (λ k low. each k (omega arith)))

-- no two of them are one
pub numbers_apart : (first count : ℕ) → AllPairs ◌≢◌ (numbers_from first count)
numbers_apart first zero = λ i j d before within. absurd (omega arith)
numbers_apart first (suc count) =
    AllPairs-cons ◌≢◌ first (numbers_from (suc first) count) (all_numbers (λ k. first ≢ k) (suc first) count (λ k low. omega arith))
    (numbers_apart (suc first) count)

-- the digests of the shares that are dealt
pub shares_dealt : (s : Settings) (secret seed numbers : List ℕ) (shares : List Share) → secret ≡ recovery_secret s → seed ≡ deal_seed s → numbers ≡ numbers_from 1 s.members →
    shares ≡ map (sharing.share_of (sharing.polynomials_of secret 1 seed)) numbers → map digest_of shares ≡ (dealing_of s).shares
shares_dealt s secret seed numbers shares hidden drawn are dealt =
    ap (map digest_of) (dealt ∙ ap₂ (λ (a b : List ℕ). map (sharing.share_of (sharing.polynomials_of a 1 b)) numbers) hidden drawn ∙ ap (map (dealt_to s)) are)
    ∙ map-map digest_of (dealt_to s) (numbers_from 1 s.members)
