use Rattle.std.proofs.Common.{rules, ◌∙◌, arith}
use Rattle.std.proofs.lemmas.Bool.Decides.{nat_tests}
use Rattle.std.proofs.lemmas.List.Sorted.{IsPartitionPoint-from_clause}
use Rattle.gl_vmaps.specs.Standing.{is_up_to}
use Rattle.gl_vmaps.proofs.RowsUpToLaws.{value_at-none, value_at-last, parted}
use Rattle.gl_vmaps.proofs.table.value_up_to.Goals as goal

pub returns-then-count-eq0 : goal.returns-then-count-eq0
returns-then-count-eq0 c =
    let vs = c.args.chain.now.items in
    let count = c.partition_point-count.result in
    let point = IsPartitionPoint-from_clause (is_up_to c.args.to) vs count c.partition_point-count.ensures.partitioned (parted c.args.to vs c.requires) (λ a r q k. search rules) in
    value_at-none c.args.to vs count (omega (arith, c.partition_point-count.ensures.bound, c.args.chain.now.ok.0)) point (grind (arith, nat_tests, c.if-count-eq0.true))

pub returns-in-Some : goal.returns-in-Some
returns-in-Some c =
    let vs = c.args.chain.now.items in
    let count = c.partition_point-count.result in
    let point = IsPartitionPoint-from_clause (is_up_to c.args.to) vs count c.partition_point-count.ensures.partitioned (parted c.args.to vs c.requires) (λ a r q k. search rules) in
    c.as_ref.ensures.value
    ∙ value_at-last c.args.to vs count c.in-Some.version.now (omega (arith, c.partition_point-count.ensures.bound, c.args.chain.now.ok.0)) point (grind (arith, nat_tests, c.if-count-eq0.false)) c.in-Some.ensures.lookup
