use Rattle.std.proofs.Common.{◌∙◌, refl, sym, ap, map, arith}
use Rattle.std.proofs.lemmas.Option.{slice_get_read}
use Rattle.std.proofs.lemmas.Bool.Decides.{nat_tests}
use Rattle.gl_gov_rules.specs.Proposals.{settlings, settling_in}
use Rattle.gl_gov_rules.proofs.Settled.{kept_settling}
use Rattle.gl_gov_rules.proofs.history.History.settling.Goals as goal

pub returns-in-Some-get : goal.returns-in-Some-get
unfolding settlings
returns-in-Some-get c =
    kept_settling c.args.self.now.changes c.args.proposal.now c.proposals.result.now c.settlings.result.now c.in-Some.place c.in-Some-get.settling.now
    (c.settlings.ensures ∙ ap (map (settling_in c.args.self.now.changes)) (sym c.proposals.ensures)) (sym c.in-Some.ensures)
    (slice_get_read c.settlings.result.now _ c.in-Some.place c.in-Some-get.settling.now refl (grind (arith, nat_tests, c.in-Some-get.ensures.lookup)) c.in-Some-get.ensures.lookup.1)
