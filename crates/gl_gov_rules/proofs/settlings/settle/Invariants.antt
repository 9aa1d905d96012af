use Rattle.std.proofs.Common.{◌≡◌, List, ◌++◌, map, take, drop}
use Rattle.gl_gov_rules.specs.declared.change.Changed.{Changed}
use Rattle.gl_gov_rules.specs.Proposals.{settling_in}
use Rattle.gl_gov_rules.proofs.settlings.settle.Given as goal

-- those before are settled by all changes, the others by those of before
abbrev pub invariant-loop-i : goal.invariant-loop-i
invariant-loop-i l = (cs : List Changed) → l.initial.settlings ≡ map (settling_in cs) l.proposals →
    l.settlings ≡ map (settling_in (cs ++ l.more)) (take l.i l.proposals) ++ map (settling_in cs) (drop l.i l.proposals)
