use Rattle.std.proofs.Common.{◌≡◌, ◌-◌, ℕ, suc, nat_le, slice_get, true, false, sym, ◌∙◌, ap, arith, rules, of_calls}
use Rattle.std.specs.List.Sorted.{IsPartitionPoint}
use Rattle.std.proofs.lemmas.Bool.Decides.{nat_tests}
use Rattle.std.proofs.lemmas.Fn.{always_returns_same}
use Rattle.gl_snapshot_body.specs.declared.body.ViewStart.{ViewStart}
use Rattle.gl_audit.proofs.ViewsAt.{before, last_before}
use Rattle.gl_audit.proofs.ledger_state.snapshot.last_start.Goals as goal

pub returns-then-count-eq0 : goal.returns-then-count-eq0
returns-then-count-eq0 c = λ parts.
    let views = c.args.views.now in
    let count = c.partition_point-count.result in
    let point = c.partition_point-count.ensures.partitioned (λ (v : ViewStart). nat_le v.seqno c.args.seqno) (always_returns_same _ _ _ (λ a r f k. search (rules, of_calls))) parts in
    let none : count ≡ 0 = (let is = c.if-count-eq0.true in grind (arith, nat_tests, is)) in
    sym (last_before (λ (v : ViewStart). nat_le v.seqno c.args.seqno) views count c.partition_point-count.ensures.bound point ∙ ap (λ (n : ℕ). before n views) none)

pub returns : goal.returns
returns c = λ parts.
    let views = c.args.views.now in
    let count = c.partition_point-count.result in
    let point = c.partition_point-count.ensures.partitioned (λ (v : ViewStart). nat_le v.seqno c.args.seqno) (always_returns_same _ _ _ (λ a r f k. search (rules, of_calls))) parts in
    let some : count ≡ suc (count - 1) = (let is = c.if-count-eq0.false in grind (arith, nat_tests, is)) in
    c.start_at.ensures
    ∙ sym (last_before (λ (v : ViewStart). nat_le v.seqno c.args.seqno) views count c.partition_point-count.ensures.bound point ∙ ap (λ (n : ℕ). before n views) some)
