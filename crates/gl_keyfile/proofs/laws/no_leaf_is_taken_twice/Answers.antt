use Rattle.std.proofs.Common.{◌≡◌, arith, ap}
use Rattle.gl_journal.specs.Durable.{Durable}
use Rattle.gl_keyfile.specs.Leaf.{after_leaf}
use Rattle.gl_keyfile.proofs.Folding.{reserved_after, reserved_later}
use Rattle.gl_keyfile.proofs.laws.no_leaf_is_taken_twice.Goals as goal

pub returns : goal.returns
returns c goes_on leaf_use before found past image others after left is =
    let same : found ≡ after_leaf leaf_use before = cc (is, after image left) in
    let more = ap (λ (s : Durable). s.reserved) same in
    omega (arith, more, reserved_after leaf_use before, reserved_later others found)
