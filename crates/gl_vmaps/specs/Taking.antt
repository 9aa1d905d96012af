-- What is taken after what was there: nothing, and more after more.
use Rattle.std.proofs.Common.{◌≡◌, List, [], ◌++◌, sym, ap, ◌∙◌, append-nil, append_assoc}

pub took_nothing : {X : Type 0} (xs : List X) → xs ≡ xs ++ []
took_nothing xs = sym (append-nil xs)

pub took_further : {X : Type 0} (xs ys zs first more : List X) → ys ≡ xs ++ first →
    zs ≡ ys ++ more → zs ≡ xs ++ (first ++ more)
took_further xs ys zs first more is then =
    then ∙ ap (λ us. us ++ more) is ∙ append_assoc xs first more
