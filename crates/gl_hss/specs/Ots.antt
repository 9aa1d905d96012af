-- One-time signatures, LM-OTS (RFC 8554, 4).
use Rattle.std.specs.Prelude.{ℕ, zero, suc, ◌+◌, ◌-◌, ◌*◌, ◌/◌, ◌%◌, ◌^◌, List, [], ◌∷◌, ◌++◌, slice_index, bit_and}
use Rattle.sha2.specs.Sha256.{sha256}
use Rattle.gl_hss.specs.declared.types.Types.{Types}
use Rattle.gl_hss.specs.Bytes.{u8str, u16str, u32str, block}
use Rattle.gl_hss.specs.Types.{width, chain_count, checksum_shift}

-- D_PBLC and D_MESG, which set the uses of the hash apart (7.1)
abbrev pub d_pblc : List ℕ
d_pblc = 0x80 ∷ 0x80 ∷ []

abbrev pub d_mesg : List ℕ
d_mesg = 0x81 ∷ 0x81 ∷ []

-- coef(S, i, w): the i-th digit of w bits of S (3.1.3)
unfoldable pub coef : List ℕ → ℕ → ℕ → ℕ
coef s i w = bit_and (2 ^ w - 1) (slice_index s (i * w / 8) / 2 ^ (8 - (w * (i % (8 / w)) + w)))

-- the sum of 2 ^ w - 1 - coef(Q, i, w) for the first n digits i (4.4)
unfoldable pub digit_sum : List ℕ → ℕ → ℕ → ℕ
digit_sum q w zero = 0
digit_sum q w (suc n) = digit_sum q w n + (2 ^ w - 1 - coef q n w)

-- Cksm(Q): that sum over all digits of Q, shifted to the left by ls bits (4.4)
unfoldable pub checksum : Types → List ℕ → ℕ
checksum t q = digit_sum q (width t) (256 / width t) * 2 ^ checksum_shift t

-- Q || Cksm(Q), whose i-th digit is the place in chain i that is shown (4.5)
unfoldable pub digits : Types → List ℕ → List ℕ
digits t q = q ++ u16str (checksum t q)

-- I || u32str(q) || u16str(i), with which each step of chain i of leaf q begins (4.3)
unfoldable pub chain_prefix : List ℕ → ℕ → ℕ → List ℕ
chain_prefix identifier q i = identifier ++ u32str q ++ u16str i

-- one step of a chain: tmp = H(I || u32str(q) || u16str(i) || u8str(j) || tmp) (4.3)
unfoldable pub step : List ℕ → ℕ → List ℕ → List ℕ
step prefix j tmp = sha256 (prefix ++ u8str j ++ tmp)

-- the n steps of a chain from j = from on (4.3, 4.5 and 4.6)
unfoldable pub steps : List ℕ → ℕ → ℕ → List ℕ → List ℕ
steps prefix from zero tmp = tmp
steps prefix from (suc n) tmp = step prefix (from + n) (steps prefix from n tmp)

-- tmp after the steps j = from, .., to - 1 of chain i of leaf q
abbrev pub chain : List ℕ → ℕ → ℕ → ℕ → ℕ → List ℕ → List ℕ
chain identifier q i from to tmp = steps (chain_prefix identifier q i) from (to - from) tmp

-- Q = H(I || u32str(q) || u16str(D_MESG) || C || message) (4.5)
unfoldable pub message_digest : List ℕ → ℕ → List ℕ → List ℕ → List ℕ
message_digest identifier q randomizer message =
    sha256 (identifier ++ u32str q ++ d_mesg ++ randomizer ++ message)

-- z[0] || .. || z[n-1]: the first n chains, each from the place shown in y on to its end (4.6,
-- algorithm 4b)
unfoldable pub chain_ends : Types → List ℕ → ℕ → List ℕ → List ℕ → ℕ → List ℕ
chain_ends t identifier q ds y zero = []
chain_ends t identifier q ds y (suc n) =
    chain_ends t identifier q ds y n
    ++ chain identifier q n (coef ds n (width t)) (2 ^ width t - 1) (block y n)

-- K = H(I || u32str(q) || u16str(D_PBLC) || ends), of the ends of all chains (4.3)
unfoldable pub one_time_key : List ℕ → ℕ → List ℕ → List ℕ
one_time_key identifier q ends = sha256 (identifier ++ u32str q ++ d_pblc ++ ends)

-- Kc: the one-time public key that a signature of the message leads to (4.6, algorithm 4b)
unfoldable pub key_candidate : Types → List ℕ → ℕ → List ℕ → List ℕ → List ℕ → List ℕ
key_candidate t identifier q randomizer y message =
    one_time_key identifier q
    (chain_ends t identifier q (digits t (message_digest identifier q randomizer message)) y
    (chain_count t))
