use Rattle.std.proofs.Common.{◌+◌, List, Bor, drop, map, sym, ap, ◌∙◌}
use Rattle.std.proofs.lemmas.List.{drop_all}
use Rattle.std.proofs.lemmas.Result.{err_from_is_err_and}
use Rattle.serde_json.specs.View.{view}
use Rattle.gl_requests.specs.declared.action.Rule.{Rule}
use Rattle.gl_forms.specs.Actions.{rules_of}
use Rattle.gl_forms.specs.Place.{pointer_of}
use Rattle.gl_forms.proofs.ElementLemmas.{after}
use Rattle.gl_forms.proofs.RuleLemmas.{rules_more, rules_stop, rules_end, names_at}
use Rattle.gl_forms.proofs.action.rules_of.Goals as goal

pub returns-in_err-rule_at : goal.returns-in_err-rule_at
returns-in_err-rule_at c =
    let p = err_from_is_err_and c.from_residual.result c.from_residual.ensures.1 in
    let names = names_at c.args.names.now c.loop-name.name-index c.loop-name-test.true in
    let whole = rw names at c.loop-name.invariant in
    rw (p.1, p.2) (rules_stop (pointer_of c.args.place.now) _ c.loop-name.rules.items _ _ _ _ c.in_err-rule_at.ensures whole)

pub loop-name-preserved : goal.loop-name-preserved
loop-name-preserved c =
    let place = pointer_of c.args.place.now in
    let names = names_at c.args.names.now c.loop-name.name-index c.loop-name-test.true in
    let whole = rw names at c.loop-name.invariant in
    let rest = map (λ (s : Bor (List _)). s.now) (drop (c.loop-name.name-index + 1) c.args.names.now) in
    let more = rules_more place c.loop-name.rules.items _ rest (view c.args.value.now) c.in_ok-rule_at.field-0 c.in_ok-rule_at.ensures in
    whole ∙ more ∙ ap (λ (rules : List Rule). after rules (rules_of place rest (view c.args.value.now))) (sym c.in_ok-push.ensures.items)

pub returns : goal.returns
returns c =
    let none = ap (map (λ (s : Bor (List _)). s.now)) (drop_all c.loop-name.name-index c.args.names.now c.loop-name-test.false) in
    rules_end (pointer_of c.args.place.now) c.loop-name.rules.items (view c.args.value.now) _ (rw none at c.loop-name.invariant)
