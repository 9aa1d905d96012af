use Rattle.std.proofs.Common.{rules, nat_le}
use Rattle.std.proofs.lemmas.List.Sorted.{IsPartitionPoint-from_clause}
use Rattle.gl_index.proofs.ListsByNumber.{taken_to_point}
use Rattle.gl_index.proofs.lists.cut_list.Goals as goal

pub returns : goal.returns
returns g c = λ parted.
    taken_to_point (λ x. nat_le (g.T.AtSeqno.seqno_at x) c.args.to) _ _ _ c.truncate.ensures.items
    (IsPartitionPoint-from_clause (λ x. nat_le (g.T.AtSeqno.seqno_at x) c.args.to) c.args.list.now.items c.partition_point-count.result (rw c.deref.ensures.value at c.partition_point-count.ensures.partitioned) parted (λ a r q k. search rules))
