-- All that the operations so far ask for is noted; the next one asks, or fails, or the run goes on
-- after it.
use Rattle.std.proofs.Common.{◌≡◌, ◌+◌, Bool, List, true, false, ap, sym, ◌∙◌, subst, cond, [], drop, rules, arith}
use Rattle.gl_attempt.specs.Asks.{asks_of, asks_from, sees_by, first_unnoted, next_ask}
use Rattle.gl_attempt.specs.declared.notes.Note.{Note}
use Rattle.gl_attempt.proofs.AskLaws.{next_found, next_step}
use Rattle.gl_attempt.proofs.asks.next_ask.Goals as goal

pub returns-in-Some : goal.returns-in-Some
returns-in-Some c =
    next_found c.args.reads.now c.as_slice-operation-items.result.now c.loop-operation.operation-index c.operation-item.result (sees_by c.args.reads.now)
    c.loop-operation.overlay.writes (next_ask c.args.request.now c.args.reads.now) c.in-Some.ask c.loop-operation-test.true c.operation-item.is c.loop-operation.invariant.rest
    (sym c.in-Some.is ∙ c.in_ok-ask.ensures
    ∙ ap (λ (ns : List Note). first_unnoted ns (asks_of c.operation-item.result (sees_by ns) c.loop-operation.overlay.writes)) c.loop-operation.invariant.same)

pub returns-then-not-branch : goal.returns-then-not-branch
returns-then-not-branch c =
    let stops : c.in_ok-step-in-None.field-0 ≡ false = first_of (cc, search rules) in
    let reported =
    next_step c.loop-operation.overlay.base.now c.args.reads.now c.as_slice-operation-items.result.now c.loop-operation.operation-index c.operation-item.result
    c.loop-operation.overlay.writes c.step.new.overlay.writes (next_ask c.args.request.now c.args.reads.now) c.in_ok-step-in-None.field-0
    c.loop-operation-test.true c.operation-item.is c.loop-operation.invariant.same c.loop-operation.invariant.rest
    (sym c.in-None.is ∙ c.in_ok-ask.ensures) c.in_ok-step-in-None.ensures.rest in
    subst (λ (b : Bool). first_unnoted c.args.reads.now
    (cond b (asks_from (drop (c.loop-operation.operation-index + 1) c.as_slice-operation-items.result.now) (sees_by c.args.reads.now) c.step.new.overlay.writes) [])
    ≡ next_ask c.args.request.now c.args.reads.now) stops reported

pub loop-operation-preserved : goal.loop-operation-preserved
loop-operation-preserved c =
    let goes : c.in_ok-step-in-None.field-0 ≡ true = first_of (cc, search rules) in
    let reported =
    next_step c.loop-operation.overlay.base.now c.args.reads.now c.as_slice-operation-items.result.now c.loop-operation.operation-index c.operation-item.result
    c.loop-operation.overlay.writes c.step.new.overlay.writes (next_ask c.args.request.now c.args.reads.now) c.in_ok-step-in-None.field-0
    c.loop-operation-test.true c.operation-item.is c.loop-operation.invariant.same c.loop-operation.invariant.rest
    (sym c.in-None.is ∙ c.in_ok-ask.ensures) c.in_ok-step-in-None.ensures.rest in
    record {
      rest =
          subst (λ (b : Bool). first_unnoted c.args.reads.now
          (cond b (asks_from (drop (c.loop-operation.operation-index + 1) c.as_slice-operation-items.result.now) (sees_by c.args.reads.now) c.step.new.overlay.writes) [])
          ≡ next_ask c.args.request.now c.args.reads.now) goes reported;
      same = c.in_ok-step-in-None.ensures.same ∙ c.loop-operation.invariant.same;
      few = omega (arith, c.in_ok-step-in-None.ensures.few, c.loop-operation.invariant.few);
    }
