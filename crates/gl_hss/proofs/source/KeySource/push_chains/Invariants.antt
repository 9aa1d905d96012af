use Rattle.std.proofs.Common.{◌≡◌, ◌++◌}
use Rattle.gl_hss.specs.Secrets.{shown_chains}
use Rattle.gl_hss.specs.Source.{private_of}
use Rattle.gl_hss.proofs.source.KeySource.push_chains.Given as goal

abbrev pub invariant-loop-i : goal.invariant-loop-i
invariant-loop-i l = l.out.items ≡ l.fn.out.items ++ shown_chains (private_of l.self) l.q l.digits l.i
