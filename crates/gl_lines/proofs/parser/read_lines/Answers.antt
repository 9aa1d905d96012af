use Rattle.gl_lines.proofs.FitLines.{lines_fit}
use Rattle.gl_lines.proofs.parser.read_lines.Goals as goal

pub returns-clause-fit : goal.returns-clause-fit
returns-clause-fit c = rw c.from.ensures (lines_fit c.args.ids.now 2 _ _ c.in_ok-lines-2.lines.items c.in_ok-lines-2.ensures)
