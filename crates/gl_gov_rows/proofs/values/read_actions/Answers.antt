use Rattle.std.proofs.Common.{◌≡◌, ◌∙◌, ◌==◌, ◌-◌, Err, length, true, false, sym, ap}
use Rattle.std.proofs.lemmas.Result.{err_from_is_err_and}
use Rattle.gl_base.specs.Code.{unread_of}
use Rattle.gl_gov_rules.specs.GovernedRows.{actions_to_end}
use Rattle.gl_gov_rows.proofs.Actions.{goes_on, ends, is_done, is_over, one_more, end_fails, end_passes}
use Rattle.gl_gov_rows.proofs.values.read_actions.Goals as goal

pub returns-then-is_empty-clause-exact : goal.returns-then-is_empty-clause-exact
returns-then-is_empty-clause-exact c =
    let none : (length c.loop.cut.bytes == 0) ≡ true = rw (← c.rest.ensures) (sym c.is_empty.ensures ∙ c.if-is_empty.true) in
    rw c.from.ensures (is_done c.loop.actions.items (length c.args.bytes.now - c.loop.counter) c.loop.cut (actions_to_end (length c.args.bytes.now) (unread_of c.args.bytes.now)) none c.loop.invariant.exact)

pub returns-in_err-read_action-clause-exact : goal.returns-in_err-read_action-clause-exact
returns-in_err-read_action-clause-exact c =
    let p = err_from_is_err_and c.from_residual.result c.from_residual.ensures.1 in
    let some : (length c.loop.cut.bytes == 0) ≡ false = rw (← c.rest.ensures) (sym c.is_empty.ensures ∙ c.if-is_empty.false) in
    rw (p.1, p.2) (ends c.in_err-read_action.field-0.0 c.loop.actions.items (length c.args.bytes.now) c.loop.counter c.loop.cut (actions_to_end (length c.args.bytes.now) (unread_of c.args.bytes.now)) c.loop-test.true some c.in_err-read_action.ensures c.loop.invariant.exact)

pub loop-preserved : goal.loop-preserved
loop-preserved c =
    let some : (length c.loop.cut.bytes == 0) ≡ false = rw (← c.rest.ensures) (sym c.is_empty.ensures ∙ c.if-is_empty.false) in
    let more = one_more c.loop.actions.items c.loop.cut c.read_action.new.cut c.in_ok-read_action.field-0 (length c.args.bytes.now) c.loop.invariant.left c.in_ok-read_action.ensures c.loop.invariant.size in
    rw c.in_ok-push.ensures.items (record {
      exact = goes_on c.loop.actions.items (length c.args.bytes.now) c.loop.counter c.loop.cut c.read_action.new.cut c.in_ok-read_action.field-0 (actions_to_end (length c.args.bytes.now) (unread_of c.args.bytes.now)) c.loop-test.true some c.in_ok-read_action.ensures c.loop.invariant.exact;
      size = more.0;
      left = more.1;
    })

pub returns-in_err-end-clause-exact : goal.returns-in_err-end-clause-exact
returns-in_err-end-clause-exact c =
    let p = err_from_is_err_and c.from_residual-in_err-end.result c.from_residual-in_err-end.ensures.1 in
    let over = end_fails c.loop.cut c.in_err-end.field-0.0 (sym c.end.ensures ∙ c.in_err-end.was) in
    rw (p.1, p.2.2, p.2.1) (is_over c.loop.actions.items (length c.args.bytes.now) c.loop.counter c.loop.cut (actions_to_end (length c.args.bytes.now) (unread_of c.args.bytes.now)) c.loop-test.false over.0 c.loop.invariant.exact ∙ ap (λ fault. Err fault) over.1)

pub returns-clause-exact : goal.returns-clause-exact
returns-clause-exact c =
    let none : (length c.loop.cut.bytes == 0) ≡ true = end_passes c.loop.cut (sym c.end.ensures ∙ c.in_ok-end.was) in
    rw c.from-2.ensures (is_done c.loop.actions.items (length c.args.bytes.now - c.loop.counter) c.loop.cut (actions_to_end (length c.args.bytes.now) (unread_of c.args.bytes.now)) none c.loop.invariant.exact)
