use Rattle.std.proofs.Common.{◌^◌, refl}
use Rattle.gl_merkle.proofs.TreeLemmas.{root_of-one, root_of-split}
use Rattle.gl_merkle.proofs.laws.law_of_split.Goals as goal

pub returns-clause-one : goal.returns-clause-one
returns-clause-one c = root_of-one

pub returns-clause-several : goal.returns-clause-several
returns-clause-several c = λ k leaves lt le. root_of-split k (2 ^ k) leaves refl lt le
