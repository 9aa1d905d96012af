-- Among which members a secret can be dealt.
use Rattle.std.specs.Prelude.{ℕ, List, [], ◌∷◌, Bool, true, ◌&&◌, length, nat_le, nat_lt}

-- The numbers are at most 255, and each is above the one before it, the first above a least one.
abbrev pub ascend_above : ℕ → List ℕ → Bool
ascend_above least [] = true
ascend_above least (number ∷ numbers) =
    nat_lt least number && nat_le number 255 && ascend_above number numbers

-- The threshold is at least 1, there are as many numbers, and these are from 1 to 255 and ascend.
abbrev pub can_deal : ℕ → List ℕ → Bool
can_deal threshold numbers =
    nat_le 1 threshold && nat_le threshold (length numbers) && ascend_above 0 numbers
