use Rattle.std.proofs.Common.{◌≡◌, ◌<◌, ◌≤◌, ℕ, List, Some, nat_le, option_map, sym, ◌∙◌, ap, subst, arith}
use Rattle.std.specs.List.Sorted.{IsPartitionedBy}
use Rattle.std.proofs.lemmas.Bool.Decides.{nat_tests}
use Rattle.gl_vmaps.specs.LastWrite.{last_such}
use Rattle.gl_snapshot_body.specs.declared.body.ViewStart.{ViewStart}
use Rattle.gl_audit.proofs.ViewsAt.{view_above, view_below}
use Rattle.gl_audit.proofs.ledger_state.LedgerState.view_at.Goals as goal

pub returns-then-self-seqno-2-clause-entry : goal.returns-then-self-seqno-2-clause-entry
returns-then-self-seqno-2-clause-entry c = λ body es k some within.
    let n = c.args.seqno in
    let start = c.last_start-start.result in
    let high : c.args.self.now.base < n = (let is = c.if-self-seqno-2.true in grind (arith, nat_tests, is)) in
    ap (λ (view : ℕ). Some view) c.view_behind.ensures
    ∙ view_above n body es c.args.self.now start k
    (subst (λ (vs : List ViewStart). IsPartitionedBy (λ (v : ViewStart). nat_le v.seqno n) vs → start ≡ last_such (λ (v : ViewStart). nat_le v.seqno n) vs) c.deref.ensures.value c.last_start-start.ensures)
    high within

pub returns-in-None-clause-entry : goal.returns-in-None-clause-entry
returns-in-None-clause-entry c = λ body es k some within.
    let n = c.args.seqno in
    let start = c.last_start-start.result in
    let low : n ≤ c.args.self.now.base = (let is = c.if-self-seqno-2.false in grind (arith, nat_tests, is)) in
    sym (ap (option_map (λ (v : ViewStart). v.view)) c.in-None.is)
    ∙ view_below n body es c.args.self.now start k
    (subst (λ (vs : List ViewStart). IsPartitionedBy (λ (v : ViewStart). nat_le v.seqno n) vs → start ≡ last_such (λ (v : ViewStart). nat_le v.seqno n) vs) c.deref.ensures.value c.last_start-start.ensures)
    low

pub returns-in-Some-clause-entry : goal.returns-in-Some-clause-entry
returns-in-Some-clause-entry c = λ body es k some within.
    let n = c.args.seqno in
    let start = c.last_start-start.result in
    let low : n ≤ c.args.self.now.base = (let is = c.if-self-seqno-2.false in grind (arith, nat_tests, is)) in
    sym (ap (option_map (λ (v : ViewStart). v.view)) c.in-Some.is)
    ∙ view_below n body es c.args.self.now start k
    (subst (λ (vs : List ViewStart). IsPartitionedBy (λ (v : ViewStart). nat_le v.seqno n) vs → start ≡ last_such (λ (v : ViewStart). nat_le v.seqno n) vs) c.deref.ensures.value c.last_start-start.ensures)
    low
