use Rattle.std.proofs.Common.{◌≡◌, None, subst, ap, ◌∙◌}
use Rattle.gl_journal.specs.Kept.{IsAtRest}
use Rattle.gl_journal.proofs.UnwrittenFiles.{at_rest}
use Rattle.gl_node.specs.Seen.{Seen}
use Rattle.gl_node.proofs.replica.Replica.disk.Goals as goal

pub returns-clause-at_rest : goal.returns-clause-at_rest
returns-clause-at_rest g c = λ honest going.
    let i = c.self.inside in
    let none : i.stopped ≡ None = ap (λ (v : Seen _ _ _ _ _ _ _). v.stopped) c.self.view_is ∙ going in
    subst (λ (v : Seen _ _ _ _ _ _ _). IsAtRest (g.D.Disk.bytes v.disk) (g.D.Disk.past v.disk)) c.self.view_is (at_rest g.D.Disk.bytes g.D.Disk.past i.journal (c.self.invariant.settled honest none))
