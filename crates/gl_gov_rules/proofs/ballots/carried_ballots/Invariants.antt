use Rattle.std.proofs.Common.{◌≡◌, ℕ, ◌≤◌, ◌++◌, List, drop, vec_len}
use Rattle.std.specs.List.{filter_map}
use Rattle.gl_index.specs.KeyedLists.{list_on}
use Rattle.gl_gov_rules.specs.Proposals.{ballot_carried}
use Rattle.gl_gov_rules.proofs.ballots.carried_ballots.Given as goal

abbrev pub invariant-loop-answer : goal.invariant-loop-answer
invariant-loop-answer l =
    ((id : List ℕ) → list_on l.ballots id ++ filter_map (ballot_carried id) (drop l.answer-index l.answers)
    ≡ filter_map (ballot_carried id) l.answers)
    × (vec_len l.ballots.lists ≤ vec_len l.ballots.ids)
