-- The steps of a chain, and the chains of a key, one more at a time.
use Rattle.std.proofs.Common.{◌≡◌, ℕ, ◌+◌, ◌-◌, ◌^◌, ◌≤◌, List, [], ◌++◌, refl, add-one, arith}
use Rattle.gl_hss.specs.declared.types.Types.{Types}
use Rattle.gl_hss.specs.Types.{width}
use Rattle.gl_hss.specs.Bytes.{block}
use Rattle.gl_hss.specs.Secrets.{PrivateKey, secret, whole_chains, shown_chains}
use Rattle.gl_hss.specs.Ots.{step, steps, chain, chain_prefix, chain_ends, coef}

pub steps-none : (prefix : List ℕ) (from : ℕ) (tmp : List ℕ) → steps prefix from 0 tmp ≡ tmp
unfolding steps
steps-none prefix from tmp = refl

-- the steps up to j + 1 are those up to j, and the one at j
pub steps-more : (prefix : List ℕ) (from j : ℕ) (tmp : List ℕ) → from ≤ j → steps prefix from (j + 1 - from) tmp ≡ step prefix j (steps prefix from (j - from) tmp)
unfolding steps
steps-more prefix from j tmp h =
    let more : j + 1 - from ≡ (j - from) + 1 = omega arith in
    let place : from + (j - from) ≡ j = omega arith in
    rw (more, add-one) (rw place)

pub chain_ends-none : (t : Types) (identifier : List ℕ) (q : ℕ) (ds y : List ℕ) → chain_ends t identifier q ds y 0 ≡ []
unfolding chain_ends
chain_ends-none t identifier q ds y = refl

pub chain_ends-more : (t : Types) (identifier : List ℕ) (q : ℕ) (ds y : List ℕ) (i : ℕ) → chain_ends t identifier q ds y (i + 1) ≡ chain_ends t identifier q ds y i ++ steps (chain_prefix identifier q i) (coef ds i (width t)) (2 ^ width t - 1 - coef ds i (width t)) (block y i)
unfolding chain_ends
chain_ends-more t identifier q ds y i = rw add-one refl

pub whole_chains-none : (k : PrivateKey) (q : ℕ) → whole_chains k q 0 ≡ []
unfolding whole_chains
whole_chains-none k q = refl

pub whole_chains-more : (k : PrivateKey) (q i : ℕ) → whole_chains k q (i + 1) ≡ whole_chains k q i ++ chain k.identifier q i 0 (2 ^ width k.types - 1) (secret k q i)
unfolding whole_chains
whole_chains-more k q i = rw add-one refl

pub shown_chains-none : (k : PrivateKey) (q : ℕ) (ds : List ℕ) → shown_chains k q ds 0 ≡ []
unfolding shown_chains
shown_chains-none k q ds = refl

pub shown_chains-more : (k : PrivateKey) (q : ℕ) (ds : List ℕ) (i : ℕ) → shown_chains k q ds (i + 1) ≡ shown_chains k q ds i ++ chain k.identifier q i 0 (coef ds i (width k.types)) (secret k q i)
unfolding shown_chains
shown_chains-more k q ds i = rw add-one refl
