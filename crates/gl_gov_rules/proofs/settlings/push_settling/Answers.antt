use Rattle.std.proofs.Common.{◌≡◌, ◌++◌, Option, None, Some, option_map, slice_get, append-nil, refl, sym, ap, ◌∙◌, arith}
use Rattle.std.specs.Option.{option_to_list}
use Rattle.std.proofs.lemmas.Option.{slice_get_past, slice_get_read}
use Rattle.std.proofs.lemmas.Bool.Decides.{nat_tests}
use Rattle.gl_gov_rules.specs.declared.change.Proposal.{Proposal}
use Rattle.gl_gov_rules.specs.Proposals.{settling_in}
use Rattle.gl_gov_rules.proofs.settlings.push_settling.Goals as goal

pub returns-in-None : goal.returns-in-None
returns-in-None c =
    let at : None ≡ slice_get c.args.proposals.now c.len.result = sym (slice_get_past c.args.proposals.now c.len.result (grind (arith, nat_tests, c.in-None.ensures.lookup))) in
    sym (append-nil c.args.settlings.now.items)
    ∙ ap (λ (o : Option Proposal). c.args.settlings.now.items ++ option_to_list (option_map (settling_in c.args.changes.now) o)) (at ∙ ap (slice_get c.args.proposals.now) c.len.ensures)

pub returns-in-Some : goal.returns-in-Some
returns-in-Some c =
    let at : Some c.in-Some.proposal.now ≡ slice_get c.args.proposals.now c.len.result = sym (slice_get_read c.args.proposals.now _ c.len.result c.in-Some.proposal.now refl (grind (arith, nat_tests, c.in-Some.ensures.lookup)) c.in-Some.ensures.lookup.1) in
    c.push_reserved.ensures.items ∙ ap (λ s. c.args.settlings.now.items ++ option_to_list (Some s)) c.settling_in.ensures
    ∙ ap (λ (o : Option Proposal). c.args.settlings.now.items ++ option_to_list (option_map (settling_in c.args.changes.now) o)) (at ∙ ap (slice_get c.args.proposals.now) c.len.ensures)
