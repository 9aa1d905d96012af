-- A path climbed, one level more at a time.
use Rattle.std.proofs.Common.{◌≡◌, ℕ, ◌+◌, ◌/◌, ◌^◌, List, refl, sym, ap, ◌∙◌, add-one}
use Rattle.std.proofs.Math.Nat.{div-div-eq-div-mul}
use Rattle.std.proofs.lemmas.Grind.{pow_more}
use Rattle.gl_hss.specs.Bytes.{block}
use Rattle.gl_hss.specs.Tree.{parent, climb}

pub climb-none : (identifier path : List ℕ) (r : ℕ) (value : List ℕ) → climb identifier path r 0 value ≡ value
unfolding climb
climb-none identifier path r value = refl

pub climb-more : (identifier path : List ℕ) (r i : ℕ) (value : List ℕ) → climb identifier path r (i + 1) value ≡ parent identifier (r / 2 ^ i) (block path i) (climb identifier path r i value)
unfolding climb
climb-more identifier path r i value = rw add-one refl

-- the node one level further up
pub halved-more : (r i : ℕ) → r / 2 ^ i / 2 ≡ r / 2 ^ (i + 1)
halved-more r i = div-div-eq-div-mul r (2 ^ i) 2 ∙ ap (λ n. r / n) (sym (pow_more 2 i))
