use Rattle.std.proofs.Common.{◌≡◌, ◌++◌, drop, map}
use Rattle.gl_gov_rules.specs.declared.row.Vote.{Vote}
use Rattle.gl_gov_rules.proofs.carried.push_answers.Given as goal

abbrev pub invariant-loop-vote : goal.invariant-loop-vote
invariant-loop-vote l =
    l.answers.items ++ map (λ (v : Vote). record { id = l.id; member = v.member; agrees = v.agrees }) (drop l.vote-index l.votes)
    ≡ l.fn.answers.items ++ map (λ (v : Vote). record { id = l.id; member = v.member; agrees = v.agrees }) l.votes
