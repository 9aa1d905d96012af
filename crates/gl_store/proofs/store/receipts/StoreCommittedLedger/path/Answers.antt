use Rattle.std.proofs.Common.{◌≡◌, ◌<◌, ◌≤◌, IfOk, length, take, subst, sym, ap, arith, ◌∙◌}
use Rattle.gl_merkle.specs.Frontier.{count_of}
use Rattle.gl_merkle.specs.Path.{path_of}
use Rattle.gl_ledger.specs.Tree.{leaves_of}
use Rattle.gl_audit.specs.Committed.{Held}
use Rattle.gl_audit.specs.declared.ledger_state.LedgerState.{LedgerState}
use Rattle.gl_audit.proofs.TablesLaws.{count_of_frontier, given_of_frontier}
use Rattle.gl_receipt.specs.Made.{Ledger}
use Rattle.gl_snapshot_body.specs.Body.{no_body}
use Rattle.gl_store.proofs.KeptEntries.{state_of}
use Rattle.gl_store.proofs.Tails.{from_base}
use Rattle.gl_store.proofs.store.receipts.StoreCommittedLedger.path.Goals as goal

pub path_of-requires-clause-above_base : goal.path_of-requires-clause-above_base
path_of-requires-clause-above_base c =
    let start = (from_base no_body c.self.inside.tail c.self.invariant.stands).0 in
    let none : c.state.result.now.frontier.base ≡ 0 = ap (λ (s : LedgerState). s.frontier.base) c.state.ensures.state ∙ start in
    let above : 0 < c.args.seqno = c.requires.above_base in
    omega (arith, none, above)

pub path_of-requires-clause-within : goal.path_of-requires-clause-within
path_of-requires-clause-within c =
    let es = c.self.inside.tail.entries in
    let k = state_of c.self.inside.tail _ c.state.result.now c.self.invariant c.state.ensures.state in
    let count : count_of c.state.result.now.frontier ≡ length es = count_of_frontier c.state.result.now.frontier es k.tree in
    let within : c.args.size ≤ length es = subst (λ (h : Held). c.args.size ≤ length h.ledger) (sym c.self.view_is) c.requires.within in
    omega (arith, count, within)

pub returns : goal.returns
returns c = λ l s.
    let es = c.self.inside.tail.entries in
    let k = state_of c.self.inside.tail _ c.state.result.now c.self.invariant c.state.ensures.state in
    subst (λ (m : Ledger). IfOk c.path_of.result (λ steps. steps.items ≡ path_of (take c.args.size m.leaves) c.args.seqno)) (sym s)
    (subst (λ (h : Held). IfOk c.path_of.result (λ steps. steps.items ≡ path_of (take c.args.size (leaves_of h.ledger)) c.args.seqno)) c.self.view_is
    (given_of_frontier c.state.result.now.frontier (leaves_of es) (λ steps leaves. steps.items ≡ path_of (take c.args.size leaves) c.args.seqno) c.path_of.result k.tree c.path_of.ensures))
