-- What the lines that are read keep to.
use Rattle.std.specs.Prelude.{◌≡◌, List, true, IfSome}
use Rattle.gl_requests.specs.Ranges.{are_actions}
use Rattle.gl_requests.specs.declared.action.Action.{Action}
use Rattle.gl_lines.specs.declared.line.Line.{Line}
use Rattle.gl_lines.specs.declared.line.Line.TheVariants as lines

-- The actions are within their ranges.
abbrev pub AreProposed : List Action → Type 0
AreProposed list = are_actions list ≡ true

-- What the line proposes, if it proposes something, is a proposal.
abbrev pub IsFit : Line → Type 0
IsFit (lines.Propose node member list) = IfSome list AreProposed
IsFit other = Unit {0}
