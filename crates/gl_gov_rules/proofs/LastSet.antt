-- The last thing that changes of one kind set, by the parts of the list of changes.
use Rattle.std.proofs.Common.{◌≡◌, List, [], ◌∷◌, ◌++◌, reverse, Option, Some, None, is_some, Bool, true, cond, find, refl, ◌∙◌, ap}
use Rattle.std.specs.Option.{option_or}
use Rattle.std.proofs.lemmas.List.{reverse-append}
use Rattle.std.proofs.lemmas.List.Folds.{find-append}
use Rattle.gl_gov_rules.specs.declared.change.Change.{Change}
use Rattle.gl_gov_rules.specs.declared.change.Changed.{Changed}
use Rattle.gl_gov_rules.specs.History.{set_by, last_set}
use Rattle.gl_gov_rules.proofs.Finding.{found_at}

-- where one of two is there, the first that is there is
some_of_first : {A : Type 0} (o p : Option A) → is_some o ≡ true → is_some (option_or o p) ≡ true
some_of_first None p there = absurd cc
some_of_first (Some x) p there = refl

some_of_second : {A : Type 0} (o p : Option A) → is_some p ≡ true → is_some (option_or o p) ≡ true
some_of_second None p there = there
some_of_second (Some x) p there = refl

module _ {A : Type 0} (sets : Change → Option A) where
  abbrev is_setting : Changed → Bool
  is_setting c = is_some (sets c.change)

  -- the last thing set is that of the later changes, or else that of the earlier ones
  pub last_set-append : (cs ds : List Changed) → last_set sets (cs ++ ds) ≡ option_or (last_set sets ds) (last_set sets cs)
  last_set-append cs ds =
      ap (λ (xs : List Changed). set_by sets (find is_setting xs)) (reverse-append cs ds)
      ∙ ap (set_by sets) (find-append is_setting (reverse ds) (reverse cs)) ∙ go (find is_setting (reverse ds)) refl
    where
      own : (o p : Option A) → is_some o ≡ true → o ≡ option_or o p
      own None p there = absurd cc
      own (Some x) p there = refl

      go : (o : Option Changed) → find is_setting (reverse ds) ≡ o → set_by sets (option_or o (find is_setting (reverse cs))) ≡ option_or (set_by sets o) (last_set sets cs)
      go None is = refl
      go (Some d) is = let at = found_at is_setting (reverse ds) d is in own (sets d.change) (last_set sets cs) at.passes

  pub last_set-cons : (c : Changed) (cs : List Changed) → last_set sets (c ∷ cs) ≡ option_or (last_set sets cs) (sets c.change)
  last_set-cons c cs = last_set-append (c ∷ []) cs ∙ ap (option_or (last_set sets cs)) (alone (sets c.change) refl)
    where
      alone : (o : Option A) → sets c.change ≡ o → set_by sets (cond (is_some o) (Some c) None) ≡ o
      alone None is = refl
      alone (Some x) is = is

  -- what is set stays set
  pub set_before : (cs ds : List Changed) → is_some (last_set sets cs) ≡ true → is_some (last_set sets (cs ++ ds)) ≡ true
  set_before cs ds there = ap is_some (last_set-append cs ds) ∙ some_of_second (last_set sets ds) (last_set sets cs) there

  -- what changes after set is set
  pub set_after : (cs ds : List Changed) → is_some (last_set sets ds) ≡ true → is_some (last_set sets (cs ++ ds)) ≡ true
  set_after cs ds there = ap is_some (last_set-append cs ds) ∙ some_of_first (last_set sets ds) (last_set sets cs) there

  -- so is what the first of them sets
  pub set_by_first : (c : Changed) (cs : List Changed) → is_some (sets c.change) ≡ true → is_some (last_set sets (c ∷ cs)) ≡ true
  set_by_first c cs there = ap is_some (last_set-cons c cs) ∙ some_of_second (last_set sets cs) (sets c.change) there
