use Rattle.std.proofs.Common.{◌≡◌, ◌++◌, take, map}
use Rattle.gl_gov_rules.specs.declared.change.RecordedNode as a_node
use Rattle.gl_store_book.proofs.recorded.push_recorded.Given as goal

-- the nodes so far, and room for the others
abbrev pub invariant-loop-node : goal.invariant-loop-node
invariant-loop-node l = l.recorded.items ≡ l.fn.recorded.items ++ map (λ (n : a_node.RecordedNode). n.id) (take l.node-index l.more)
