-- The requests of a load, by the words of ChaCha8 (D. J. Bernstein, "ChaCha, a variant of Salsa20",
-- 2008) from its seed.
use Rattle.std.specs.Prelude.{ℕ, ◌+◌, ◌*◌, ◌%◌, List, [], ◌∷◌, codes}
use Rattle.rand_chacha.specs.ChaCha.{ChaCha, key_of, word_at}
use Rattle.gl_hss.specs.Bytes.{u32str}
use Rattle.gl_tx.specs.declared.request.Operation.{Operation}
use Rattle.gl_tx.specs.declared.request.Operation.TheVariants.{Put}

-- A word, counted from 0. ChaCha8 has four double rounds.
abbrev pub word : List ℕ → ℕ → ℕ
word seed n = word_at 4 (key_of seed) 0 n

-- The map that all requests write to.
abbrev pub load_map : List ℕ
load_map = codes "public:load"

-- A request takes two words: it puts the second one at the first one modulo 1,000, each in four
-- bytes, the high one first. Requests are counted from 0.
abbrev pub load_operation : List ℕ → ℕ → Operation
load_operation seed n =
    Put load_map (u32str (word seed (2 * n) % 1000)) (u32str (word seed (2 * n + 1)))

abbrev pub load_request : List ℕ → ℕ → List Operation
load_request seed n = load_operation seed n ∷ []

-- The generator once so many requests were drawn.
abbrev pub words_after : List ℕ → ℕ → ChaCha
words_after seed n = record { key = key_of seed; stream = 0; word_pos = 2 * n }
