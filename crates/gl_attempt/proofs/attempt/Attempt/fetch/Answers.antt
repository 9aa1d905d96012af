-- A note of what is asked for next keeps the attempt under way, and so its notes few.
use Rattle.std.proofs.Common.{◌≤◌, List, length, subst, sym, ◌∙◌}
use Rattle.gl_tx.specs.Sees.{sees_of}
use Rattle.gl_attempt.specs.Attempt.{State, IsUnderWay}
use Rattle.gl_attempt.specs.declared.notes.Note.{Note}
use Rattle.gl_attempt.proofs.Fetching.{IsUnderWay-push, length-under_way}
use Rattle.gl_attempt.proofs.attempt.Attempt.fetch.Goals as goal

pub returns-in_err-next_ask-clause-few : goal.returns-in_err-next_ask-clause-few
returns-in_err-next_ask-clause-few c =
    subst (λ (a : State). length a.noted ≤ 128) c.self.view_is (length-under_way c.self.inside.request c.self.inside.reads c.self.invariant)

pub returns-in_err-note-in-Some-clause-few : goal.returns-in_err-note-in-Some-clause-few
returns-in_err-note-in-Some-clause-few c =
    subst (λ (a : State). length a.noted ≤ 128) c.self.view_is (length-under_way c.self.inside.request c.self.inside.reads c.self.invariant)

pub returns-in-None-clause-few : goal.returns-in-None-clause-few
returns-in-None-clause-few c =
    subst (λ (a : State). length a.noted ≤ 128) c.self.view_is (length-under_way c.self.inside.request c.self.inside.reads c.self.invariant)

pub returns-in_err-push-in-Some-clause-few : goal.returns-in_err-push-in-Some-clause-few
returns-in_err-push-in-Some-clause-few c =
    subst (λ (ns : List Note). length ns ≤ 128) (sym c.in_err-push-in-Some.ensures.err) (length-under_way c.self.inside.request c.self.inside.reads c.self.invariant)

pub invariant_of-self-in-Some : goal.invariant_of-self-in-Some
invariant_of-self-in-Some c =
    subst (IsUnderWay c.self.inside.request) (sym c.in_ok-push-in-Some.ensures.ok)
    (IsUnderWay-push (sees_of c.args.tables.now) c.self.inside.request c.self.inside.reads c.in-Some.ask c.in_ok-note-in-Some.note c.self.invariant
    (sym c.in-Some.is ∙ c.in_ok-next_ask.ensures) c.in_ok-note-in-Some.ensures.value)

pub returns-in_ok-push-in-Some-clause-few : goal.returns-in_ok-push-in-Some-clause-few
returns-in_ok-push-in-Some-clause-few c =
    length-under_way c.self.inside.request c.push.new.self
    (subst (IsUnderWay c.self.inside.request) (sym c.in_ok-push-in-Some.ensures.ok)
    (IsUnderWay-push (sees_of c.args.tables.now) c.self.inside.request c.self.inside.reads c.in-Some.ask c.in_ok-note-in-Some.note c.self.invariant
    (sym c.in-Some.is ∙ c.in_ok-next_ask.ensures) c.in_ok-note-in-Some.ensures.value))
