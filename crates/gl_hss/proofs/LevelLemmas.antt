-- The number of levels as it stands in the first four bytes of a key.
use Rattle.std.proofs.Common.{◌≡◌, ℕ, ◌^◌, ◌<◌, ◌≤◌, List, length, take, Some, refl, sym, ap, ◌∙◌, arith, ◌↔◌}
use Rattle.std.proofs.lemmas.Bool.Decides.{nat_tests}
use Rattle.gl_hss.specs.declared.levels.Levels.{Levels}
use Rattle.gl_hss.specs.declared.levels.Levels.TheVariants.{One, Two}
use Rattle.gl_hss.specs.Bytes.{u32str, number_at}
use Rattle.gl_hss.specs.Levels.{level_count, levels_named}
use Rattle.gl_hss.proofs.Spans.{IsBytes, number_encoded, number_read}

count_of_named : (n : ℕ) (levels : Levels) → levels_named n ≡ Some levels → n ≡ level_count levels
count_of_named n One e = grind (arith, nat_tests)
count_of_named n Two e = grind (arith, nat_tests)

named_of_count : (levels : Levels) → levels_named (level_count levels) ≡ Some levels
named_of_count One = refl
named_of_count Two = refl

count_small : (levels : Levels) → level_count levels < 2 ^ 32
count_small One = omega arith
count_small Two = omega arith

pub found_as_named : (key : List ℕ) (levels : Levels) → IsBytes key → 4 ≤ length key → (levels_named (number_at key 0) ≡ Some levels) ↔ (take 4 key ≡ u32str (level_count levels))
found_as_named key levels fits room = (
  λ found. sym (number_encoded key 0 fits room) ∙ ap u32str (count_of_named (number_at key 0) levels found),
  λ named. ap levels_named (number_read key 0 (level_count levels) named (count_small levels)) ∙ named_of_count levels,
)

pub count_some : (levels : Levels) → 1 ≤ level_count levels
count_some One = omega arith
count_some Two = omega arith

pub count_few : (levels : Levels) → level_count levels ≤ 2
count_few One = omega arith
count_few Two = omega arith
