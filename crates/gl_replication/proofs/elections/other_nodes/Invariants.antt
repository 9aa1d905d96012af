use Rattle.std.proofs.Common.{◌≡◌, ◌&&◌, filter, not, take}
use Rattle.gl_rules.specs.Identity.{same}
use Rattle.gl_rules.specs.Configuration.{in_some}
use Rattle.gl_config.specs.Active.{sets_of}
use Rattle.gl_replication.proofs.elections.other_nodes.Given as goal

-- those among the nodes so far
abbrev pub invariant-loop-node : goal.invariant-loop-node
invariant-loop-node l = l.others.items ≡ filter (λ y. not (same y l.fn.me) && in_some y (sets_of l.fn.active)) (take l.node-index l.fn.nodes)
