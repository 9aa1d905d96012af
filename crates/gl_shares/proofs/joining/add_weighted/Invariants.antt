use Rattle.std.proofs.Common.{◌≡◌, ℕ, ◌<◌, ◌≤◌, length, get_or, bit_xor}
use Rattle.gl_shares.specs.Field.{field_product}
use Rattle.gl_shares.proofs.joining.add_weighted.Given as goal

abbrev pub invariant-loop-byte : goal.invariant-loop-byte
invariant-loop-byte l =
    (length l.sum ≡ 32)
    × ((k : ℕ) → k < l.byte → get_or l.sum k 0 ≡ bit_xor (get_or l.initial.sum k 0) (field_product (get_or l.value k 0) l.weight))
    × ((k : ℕ) → l.byte ≤ k → get_or l.sum k 0 ≡ get_or l.initial.sum k 0)
