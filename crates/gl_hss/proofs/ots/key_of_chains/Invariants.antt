use Rattle.std.proofs.Common.{◌++◌}
use Rattle.sha2.specs.Hashers.{Holds256}
use Rattle.gl_hss.specs.Bytes.{u32str}
use Rattle.gl_hss.specs.Ots.{d_pblc, chain_ends}
use Rattle.gl_hss.proofs.ots.key_of_chains.Given as goal

abbrev pub invariant-loop-i : goal.invariant-loop-i
invariant-loop-i l = Holds256 l.hasher (l.identifier ++ u32str l.q ++ d_pblc ++ chain_ends l.types l.identifier l.q l.digits l.chains l.i)
