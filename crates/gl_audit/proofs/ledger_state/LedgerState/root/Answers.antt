use Rattle.std.proofs.Common.{◌∙◌, arith}
use Rattle.gl_audit.proofs.PastOver.{count_kept, root_kept}
use Rattle.gl_audit.proofs.ledger_state.LedgerState.root.Goals as goal

pub root-requires : goal.root-requires
root-requires c =
    let count = count_kept c.requires.state.0 c.requires.state.1 c.args.self.now c.requires.state.2 in
    omega (arith, count, c.requires.some)

pub returns : goal.returns
returns c = λ body es k. c.root.ensures.over ∙ root_kept body es c.args.self.now k
