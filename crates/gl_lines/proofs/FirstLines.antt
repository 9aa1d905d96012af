-- What every first line keeps to.
use Rattle.std.proofs.Common.{◌≡◌, ℕ, ◌≤◌, List, [], ◌∷◌, Option, Some, None, Result, Ok, Err, Bool, true, false, ◌&&◌, nat_le, if◌then◌else◌, refl, ap, subst, arith, codes}
use Rattle.std.proofs.lemmas.Bool.Decides.{nat_tests}
use Rattle.gl_lines.specs.declared.world.WorldLine.{WorldLine}
use Rattle.gl_lines.specs.Worlds.{IsWithinLimits}
use Rattle.gl_lines.specs.Lines.{cut, newline}
use Rattle.gl_lines.specs.Words.{words_of, is, hex_sized}
use Rattle.gl_lines.specs.Numbers.{counted_number}
use Rattle.gl_base.specs.Steps.{◌>>=◌}
use Rattle.gl_lines.specs.declared.fault.LineFault.{LineFault}
use Rattle.gl_lines.specs.declared.fault.LineFault.TheVariants.{NoReading}
use Rattle.gl_lines.specs.declared.fault.ScheduleFault.{ScheduleFault}
use Rattle.gl_lines.specs.Parsing.{first_line, first_line_of, number_within, settings_read, state_of, or_line, world_of, world_read}

-- a number that is read is within its limits
within : (least most : ℕ) (word : List ℕ) (n : ℕ) → number_within least most word ≡ Ok n → (least ≤ n) × (n ≤ most)
unfolding number_within
within least most word n e = go (counted_number word) e
  where
    go : (r : Result ℕ LineFault) → (r >>= λ m. (if nat_le least m && nat_le m most then Ok m else Err NoReading)) ≡ Ok n → (least ≤ n) × (n ≤ most)
    go (Err fault) p = absurd (cc)
    go (Ok m) p = tests (nat_le least m) (nat_le m most) refl refl p
      where
        tests : (a b : Bool) → nat_le least m ≡ a → nat_le m most ≡ b → ◌≡◌ {A = Result ℕ LineFault} (if a && b then Ok m else Err NoReading) (Ok n) → (least ≤ n) × (n ≤ most)
        tests true true s t p = let same : m ≡ n = cc in (grind (arith, nat_tests), grind (arith, nat_tests))
        tests true false s t p = absurd (cc)
        tests false b s t p = absurd (cc)

settings_within : (starting joiners members state seed : List ℕ) (w : WorldLine) → settings_read starting joiners members state seed ≡ Ok w → IsWithinLimits w
unfolding settings_read
settings_within starting joiners members state seed w e =
    go (number_within 1 9 starting) (number_within 0 9 joiners) (number_within 1 64 members) (state_of state) (hex_sized seed 32) refl refl refl e
  where
    go : (n m k : Result ℕ LineFault) (s : Result Bool LineFault) (h : Result (List ℕ) LineFault) →
        number_within 1 9 starting ≡ n → number_within 0 9 joiners ≡ m → number_within 1 64 members ≡ k →
        ◌≡◌ {A = Result WorldLine LineFault} (n >>= λ n. m >>= λ m. k >>= λ k. s >>= λ is_open. h >>= λ bytes.
        Ok (record { starting = n; joiners = m; members = k; is_open = is_open; seed = bytes })) (Ok w) → IsWithinLimits w
    go (Err x) m k s h a b c p = absurd (cc)
    go (Ok n) (Err x) k s h a b c p = absurd (cc)
    go (Ok n) (Ok m) (Err x) s h a b c p = absurd (cc)
    go (Ok n) (Ok m) (Ok k) (Err x) h a b c p = absurd (cc)
    go (Ok n) (Ok m) (Ok k) (Ok o) (Err x) a b c p = absurd (cc)
    go (Ok n) (Ok m) (Ok k) (Ok o) (Ok bytes) a b c p =
        let q : record { starting = n; joiners = m; members = k; is_open = o; seed = bytes } ≡ w = cc in
        let start = within 1 9 starting n a in
        let join = within 0 9 joiners m b in
        let govern = within 1 64 members k c in
        let keeps : IsWithinLimits (record { starting = n; joiners = m; members = k; is_open = o; seed = bytes }) = record {
          some_start = start.0;
          few_start = start.1;
          few_join = join.1;
          some_govern = govern.0;
          few_govern = govern.1;
        } in
        subst IsWithinLimits q keeps

if_world : (b : Bool) (starting joiners members state seed : List ℕ) (w : WorldLine) →
    ◌≡◌ {A = Result WorldLine LineFault} (if b then settings_read starting joiners members state seed else Err NoReading) (Ok w) → IsWithinLimits w
if_world true starting joiners members state seed w e = settings_within starting joiners members state seed w e
if_world false starting joiners members state seed w e = absurd (cc)

words_within : (words : List (List ℕ)) (w : WorldLine) → world_read words ≡ Ok w → IsWithinLimits w
unfolding world_read
words_within [] w e = absurd (cc)
words_within (a ∷ []) w e = absurd (cc)
words_within (a ∷ b ∷ []) w e = absurd (cc)
words_within (a ∷ b ∷ c ∷ []) w e = absurd (cc)
words_within (a ∷ b ∷ c ∷ d ∷ []) w e = absurd (cc)
words_within (a ∷ b ∷ c ∷ d ∷ f ∷ []) w e = absurd (cc)
words_within (a ∷ b ∷ c ∷ d ∷ f ∷ g ∷ []) w e = if_world (is a (codes "world")) b c d f g w e
words_within (a ∷ b ∷ c ∷ d ∷ f ∷ g ∷ h ∷ rest) w e = absurd (cc)

world_within : (line : List ℕ) (w : WorldLine) → world_of line ≡ Ok w → IsWithinLimits w
unfolding world_of
world_within line w e = words_within (words_of line) w e

world_in : WorldLine → Result (WorldLine × List ℕ) ScheduleFault → WorldLine
world_in other (Ok (w, rest)) = w
world_in other (Err fault) = other

from_first : (line : List ℕ) (suffix : Option (List ℕ)) (w : WorldLine) (rest : List ℕ) → first_line_of line suffix ≡ Ok (w, rest) → IsWithinLimits w
unfolding world_in
from_first line None w rest e = absurd (cc)
from_first line (Some text) w rest e = go (world_of line) refl e
  where
    go : (o : Result WorldLine LineFault) → world_of line ≡ o →
        ◌≡◌ {A = Result (WorldLine × List ℕ) ScheduleFault} (or_line 1 o >>= λ world. Ok (world, text)) (Ok (w, rest)) → IsWithinLimits w
    go (Err x) at p = absurd (cc)
    go (Ok v) at p = let same : v ≡ w = ap (world_in w) p in subst IsWithinLimits same (world_within line v at)

-- the service of a first line that is read
pub first_within : (text : List ℕ) (w : WorldLine) (rest : List ℕ) → first_line text ≡ Ok (w, rest) → IsWithinLimits w
unfolding first_line
first_within text w rest e = from_first (cut newline text).prefix (cut newline text).suffix w rest e
