use Rattle.std.proofs.Common.{◌≡◌, ◌++◌, map, take, drop}
use Rattle.gl_gov_rules.specs.Proposals.{settling_up_to}
use Rattle.gl_gov_rules.proofs.settlings.keep_up_to.Given as goal

-- those before are kept up to the seqno, the others stand as they did
abbrev pub invariant-loop-i : goal.invariant-loop-i
invariant-loop-i l =
    l.settlings ≡ map (settling_up_to l.to) (take l.i l.initial.settlings) ++ map (λ x. x) (drop l.i l.initial.settlings)
