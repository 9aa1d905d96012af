use Rattle.std.proofs.Common.{◌≡◌}
use Rattle.gl_gov_rows.specs.Reading.{all_of}
use Rattle.gl_gov_rows.proofs.NodesByNumber.{behind}
use Rattle.gl_gov_rows.proofs.numbered.all_of.Given as goal

-- what was found and what is still found make the whole
abbrev pub invariant-loop-place : goal.invariant-loop-place
invariant-loop-place l = behind l.nodes.items (all_of l.place-iterator.rest.items) ≡ all_of l.fn.places.items
