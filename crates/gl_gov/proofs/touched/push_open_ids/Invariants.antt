use Rattle.std.proofs.Common.{◌≡◌, ◌++◌, drop, filter, map}
use Rattle.gl_gov_rules.specs.declared.change.Proposal.{Proposal}
use Rattle.gl_gov_rules.specs.Proposals.{proposals}
use Rattle.gl_gov.specs.Touched.{is_open, open_ids}
use Rattle.gl_gov.proofs.touched.push_open_ids.Given as goal

abbrev pub invariant-loop-place : goal.invariant-loop-place
invariant-loop-place l =
    l.ids.items ++ map (λ (p : Proposal). p.id) (filter (is_open l.past) (drop l.place (proposals l.past))) ≡ l.fn.ids.items ++ open_ids l.past
