use Rattle.std.proofs.Common.{◌≡◌, drop}
use Rattle.std.specs.List.{filter_map}
use Rattle.gl_gov_rules.specs.Proposals.{first_settling, settling_by}
use Rattle.gl_gov_rules.proofs.settlings.settling_in.Given as goal

-- the first change that settles the proposal is among those that are left
abbrev pub invariant-loop-changed : goal.invariant-loop-changed
invariant-loop-changed l =
    first_settling (filter_map (settling_by l.proposal) (drop l.changed-index l.changes))
    ≡ first_settling (filter_map (settling_by l.proposal) l.changes)
