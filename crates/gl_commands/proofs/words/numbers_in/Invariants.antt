use Rattle.std.proofs.Common.{◌≡◌, true, map, take}
use Rattle.std.specs.List.{list_all}
use Rattle.std.specs.Str.Parse.{digits_value}
use Rattle.gl_commands.specs.Words.{is_number}
use Rattle.gl_commands.proofs.words.numbers_in.Given as goal

-- the words so far encode these numbers
abbrev pub invariant-loop-word : goal.invariant-loop-word
invariant-loop-word l = record {
  all : list_all is_number (map (λ s. s.now) (take l.word-index l.words)) ≡ true;
  read : l.numbers.items ≡ map (digits_value 10) (map (λ s. s.now) (take l.word-index l.words));
}
