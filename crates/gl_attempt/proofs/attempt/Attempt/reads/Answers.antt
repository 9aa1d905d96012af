-- Two notes for each operation at most.
use Rattle.std.proofs.Common.{◌≤◌, length, subst}
use Rattle.gl_attempt.specs.Attempt.{State}
use Rattle.gl_attempt.proofs.Fetching.{length-under_way}
use Rattle.gl_attempt.proofs.attempt.Attempt.reads.Goals as goal

pub returns-clause-few : goal.returns-clause-few
returns-clause-few c =
    subst (λ (a : State). length a.noted ≤ 128) c.self.view_is
    (length-under_way c.self.inside.request c.self.inside.reads c.self.invariant)
