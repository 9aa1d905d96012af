use Rattle.std.proofs.Common.{length}
use Rattle.gl_merkle.specs.Peaks.{peaks_of}
use Rattle.gl_merkle.proofs.TreeLemmas.{below_pow}
use Rattle.gl_merkle.proofs.PeakLemmas.{length-peaks_within}
use Rattle.gl_merkle.proofs.laws.law_of_peaks.Goals as goal

pub returns : goal.returns
unfolding peaks_of
returns c = record { count = λ leaves. length-peaks_within (length leaves) leaves (below_pow (length leaves)) }
