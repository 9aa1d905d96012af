use Rattle.std.proofs.Common.{◌≡◌, map}
use Rattle.std.specs.List.{range_with_len}
use Rattle.rand_chacha.specs.ChaCha.{key_of}
use Rattle.gl_shares.specs.Dealing.{drawn}
use Rattle.gl_shares.proofs.dealing.draw.Given as goal

abbrev pub invariant-loop : goal.invariant-loop
invariant-loop l =
    (l.words.key ≡ key_of l.fn.seed)
    × (l.words.stream ≡ 0)
    × (l.words.word_pos ≡ l.counter)
    × (l.bytes.items ≡ map (drawn l.fn.seed) (range_with_len 0 l.counter))
