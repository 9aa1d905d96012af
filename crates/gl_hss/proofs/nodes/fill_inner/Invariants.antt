use Rattle.std.proofs.Common.{◌≡◌, ◌+◌, ◌-◌, ◌*◌, ◌^◌, ◌<◌, ◌≤◌, ℕ, [], get_or}
use Rattle.gl_hss.specs.Types.{height}
use Rattle.gl_hss.specs.Secrets.{node}
use Rattle.gl_hss.specs.Source.{private_of}
use Rattle.gl_hss.proofs.nodes.fill_inner.Given as goal

abbrev pub invariant-loop-done : goal.invariant-loop-done
invariant-loop-done l =
    (r : ℕ) → 2 ^ height l.source.types - l.done + 1 ≤ r → r < 2 * 2 ^ height l.source.types → get_or l.nodes r [] ≡ node (private_of l.source) r
