-- The siblings on the way up from a leaf.
use Rattle.std.proofs.Common.{◌≡◌, ℕ, false, ◌+◌, ◌-◌, ◌*◌, ◌/◌, ◌%◌, ◌^◌, ◌<◌, ◌≤◌, [], ◌++◌, refl, add-one, arith, inl, inr}
use Rattle.std.specs.Prelude.{◌==◌}
use Rattle.std.proofs.lemmas.Bool.{cases_eq}
use Rattle.std.proofs.lemmas.Bool.Decides.{nat_tests}
use Rattle.std.proofs.lemmas.Grind.{pow_more}
use Rattle.std.proofs.lemmas.Nat.{le-div}
use Rattle.std.proofs.Math.Nat.{pow-le-pow_right, one-le-pow}
use Rattle.gl_hss.specs.Secrets.{PrivateKey, node, sibling, siblings}

pub siblings-none : (k : PrivateKey) (r : ℕ) → siblings k r 0 ≡ []
unfolding siblings
siblings-none k r = refl

pub siblings-more : (k : PrivateKey) (r i : ℕ) → siblings k r (i + 1) ≡ siblings k r i ++ node k (sibling (r / 2 ^ i))
unfolding siblings
siblings-more k r i = rw add-one refl

-- below the root a node has a number from 2 on
pub above_one : (h r i : ℕ) → 2 ^ h ≤ r → i < h → 2 ≤ r / 2 ^ i
above_one h r i leaf below =
    let up : 2 ^ (i + 1) ≤ 2 ^ h = pow-le-pow_right (omega arith) (omega arith) in
    le-div 2 r (2 ^ i) (one-le-pow i 2 (omega arith)) (omega (arith, pow_more 2 i, up, leaf))

-- a node and its sibling lie within the tree
pub sibling_within : (m n : ℕ) → 2 ≤ m → m < 2 * n → (1 ≤ sibling m) × (sibling m < 2 * n)
sibling_within m n low high =
    elim (cases_eq (m % 2) 1) [
      | inl odd ↦ let s : sibling m ≡ m - 1 = rw odd refl in (omega arith, omega arith)
      | inr even ↦ let t : (m % 2 == 1) ≡ false = grind (arith, nat_tests) in let s : sibling m ≡ m + 1 = rw t refl in (omega arith, omega arith)
    ]
