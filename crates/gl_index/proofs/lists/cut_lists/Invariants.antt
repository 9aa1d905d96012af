use Rattle.std.proofs.Common.{nat_le}
use Rattle.gl_index.proofs.ListsByNumber.{AreCut}
use Rattle.gl_index.proofs.lists.cut_lists.Given as goal

-- those before are cut, and those from here on stand as they did
abbrev pub invariant-loop-list : goal.invariant-loop-list
invariant-loop-list g l = AreCut (λ x. nat_le (g.T.AtSeqno.seqno_at x) l.to) l.initial.lists l.lists l.list-index
