use Rattle.std.proofs.Common.{◌≡◌, ◌++◌, length}
use Rattle.gl_gov_rows.specs.Reading.{by_number}
use Rattle.gl_gov_rows.proofs.numbered.places_of.Given as goal

-- the nodes so far stand at their places
abbrev pub invariant-loop-node : goal.invariant-loop-node
invariant-loop-node l = record {
  all : l.yielded ++ l.node-iterator.rest.items ≡ l.fn.nodes.items;
  places : l.places.items ≡ by_number l.yielded (length l.fn.nodes.items);
}
