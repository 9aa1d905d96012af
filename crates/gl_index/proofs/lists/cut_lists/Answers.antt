use Rattle.std.proofs.Common.{arith}
use Rattle.gl_index.proofs.ListsByNumber.{one_cut}
use Rattle.gl_index.proofs.lists.cut_lists.Goals as goal

pub loop-list-preserved : goal.loop-list-preserved
loop-list-preserved g c = one_cut _ _ c.loop-list.lists c.loop-list.list-index c.list-item.result c.cut_list.new.list (omega arith) c.cut_list.ensures c.loop-list.invariant
