use Rattle.gl_merkle.proofs.MorePeaks.{peaks_of-more, root_of-peaks}
use Rattle.gl_merkle.proofs.laws.law_of_more_leaves.Goals as goal

pub returns-clause-peaks : goal.returns-clause-peaks
returns-clause-peaks c = peaks_of-more

pub returns-clause-root : goal.returns-clause-root
returns-clause-root c = root_of-peaks
