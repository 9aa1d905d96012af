use Rattle.std.proofs.Common.{◌≡◌, ◌<◌, length, ap, subst, sym, arith}
use Rattle.gl_merkle.specs.Tree.{root_of}
use Rattle.gl_ledger.specs.Tree.{leaves_of}
use Rattle.gl_audit.specs.Committed.{Held}
use Rattle.gl_audit.specs.declared.ledger_end.LedgerEnd.{LedgerEnd}
use Rattle.gl_store.proofs.KeptEntries.{state_of}
use Rattle.gl_store.proofs.store.Store.root.Goals as goal

pub root-requires-clause-state : goal.root-requires-clause-state
root-requires-clause-state c = (_, c.self.inside.tail.entries, (state_of c.self.inside.tail _ c.state.result.now c.self.invariant c.state.ensures.state))

pub root-requires-clause-some : goal.root-requires-clause-some
root-requires-clause-some c =
    let ledger = c.self.inside.tail.entries in
    let some : 0 < length ledger = subst (λ (h : Held). 0 < length h.ledger) (sym c.self.view_is) c.requires.some in
    let len : c.state.result.now.end.len ≡ length ledger = ap (λ (end : LedgerEnd). end.len) (state_of c.self.inside.tail _ c.state.result.now c.self.invariant c.state.ensures.state).ends in
    omega (arith, len, some)

pub returns : goal.returns
returns c = record {
  root = subst (λ (h : Held). c.root.result ≡ root_of (leaves_of h.ledger)) c.self.view_is (c.root.ensures _ c.self.inside.tail.entries (state_of c.self.inside.tail _ c.state.result.now c.self.invariant c.state.ensures.state));
}
