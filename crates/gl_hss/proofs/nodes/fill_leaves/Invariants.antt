use Rattle.std.proofs.Common.{◌≡◌, ◌+◌, ◌^◌, ◌<◌, ◌≤◌, ℕ, [], get_or}
use Rattle.gl_hss.specs.Types.{height}
use Rattle.gl_hss.specs.Secrets.{node}
use Rattle.gl_hss.specs.Source.{private_of}
use Rattle.gl_hss.proofs.nodes.fill_leaves.Given as goal

abbrev pub invariant-loop-q : goal.invariant-loop-q
invariant-loop-q l =
    (r : ℕ) → 2 ^ height l.source.types ≤ r → r < 2 ^ height l.source.types + l.q → get_or l.nodes r [] ≡ node (private_of l.source) r
