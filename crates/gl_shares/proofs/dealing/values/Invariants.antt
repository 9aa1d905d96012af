use Rattle.std.proofs.Common.{◌≡◌, ℕ, ◌*◌, ◌<◌, ◌∷◌, take, drop, length, get_or}
use Rattle.gl_shares.specs.Dealing.{value_at}
use Rattle.gl_shares.proofs.dealing.values.Given as goal

abbrev pub invariant-loop-byte : goal.invariant-loop-byte
invariant-loop-byte l =
    (length l.value ≡ 32)
    × ((k : ℕ) → k < l.byte → get_or l.value k 0 ≡ value_at (get_or l.secret k 0 ∷ take l.degree (drop (k * l.degree) l.above)) l.member)
