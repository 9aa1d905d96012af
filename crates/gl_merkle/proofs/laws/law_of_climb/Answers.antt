use Rattle.std.proofs.Common.{length, arith}
use Rattle.gl_merkle.specs.Tree.{root_of}
use Rattle.gl_merkle.specs.Path.{path_of}
use Rattle.gl_merkle.proofs.TreeLemmas.{below_pow}
use Rattle.gl_merkle.proofs.PathLemmas.{climb-within}
use Rattle.gl_merkle.proofs.laws.law_of_climb.Goals as goal

pub returns : goal.returns
unfolding root_of path_of
returns c = λ leaves index low high. climb-within (length leaves) leaves index low high (omega (arith, below_pow (length leaves)))
