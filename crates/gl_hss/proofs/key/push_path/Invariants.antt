use Rattle.std.proofs.Common.{◌≡◌, ◌+◌, ◌/◌, ◌^◌, ◌++◌}
use Rattle.gl_hss.specs.Types.{height}
use Rattle.gl_hss.specs.Secrets.{siblings}
use Rattle.gl_hss.specs.Source.{private_of}
use Rattle.gl_hss.proofs.key.push_path.Given as goal

abbrev pub invariant-loop-i : goal.invariant-loop-i
invariant-loop-i l =
    (l.node ≡ (2 ^ height l.source.types + l.q) / 2 ^ l.i)
    × (l.out.items ≡ l.fn.out.items ++ siblings (private_of l.source) (2 ^ height l.source.types + l.q) l.i)
