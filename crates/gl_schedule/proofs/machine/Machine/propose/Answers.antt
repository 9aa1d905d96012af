use Rattle.std.proofs.Common.{List, Option, subst, sym, ◌∙◌}
use Rattle.std.proofs.lemmas.Result.{on_ok_weaker}
use Rattle.gl_requests.specs.declared.action.Action.{Action}
use Rattle.gl_requests.specs.declared.request.MemberAct.TheVariants as acts
use Rattle.gl_lines.specs.declared.line.Line.TheVariants as lines
use Rattle.gl_schedule.specs.Play.{Prints}
use Rattle.gl_schedule.specs.Output.{at_member, at_node, effect_of, signs}
use Rattle.gl_schedule.proofs.machine.Machine.propose.Goals as goal

pub returns-in_ok-actions-in-Some : goal.returns-in_ok-actions-in-Some
returns-in_ok-actions-in-Some g c =
    let m = c.args.self.now in
    let new = c.ask_as.new.self in
    let before = c.args.out.now.items in
    let after = c.ask_as.new.out.items in
    record {
      prints = on_ok_weaker c.ask_as.result
          (λ prints. subst (λ (o : Option (List Action)). Prints c.args.number (λ s t. effect_of s t (lines.Propose c.args.node c.args.member o)) m new before after) (sym c.in-Some.is)
          (subst (λ (l : List Action). Prints c.args.number (λ s t. at_node s c.args.node (λ x. at_member c.args.member (signs s t x c.args.member (acts.Propose l)))) m new before after)
          (c.in_ok-actions-in-Some.ensures ∙ c.as_slice.ensures) prints)) c.ask_as.ensures.prints;
    }
