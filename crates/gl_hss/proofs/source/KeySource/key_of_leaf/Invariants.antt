use Rattle.std.proofs.Common.{◌++◌}
use Rattle.sha2.specs.Hashers.{Holds256}
use Rattle.gl_hss.specs.Bytes.{u32str}
use Rattle.gl_hss.specs.Ots.{d_pblc}
use Rattle.gl_hss.specs.Secrets.{whole_chains}
use Rattle.gl_hss.specs.Source.{private_of}
use Rattle.gl_hss.proofs.source.KeySource.key_of_leaf.Given as goal

abbrev pub invariant-loop-i : goal.invariant-loop-i
invariant-loop-i l = Holds256 l.hasher (l.self.identifier ++ u32str l.q ++ d_pblc ++ whole_chains (private_of l.self) l.q l.i)
