use Rattle.gl_merkle.proofs.ReachLemmas.{reached}
use Rattle.gl_merkle.proofs.laws.law_of_reaching.Goals as goal

pub returns : goal.returns
returns c = λ node steps leaves digest siblings all some meet. reached node steps leaves digest siblings all some meet
