use Rattle.std.proofs.Common.{◌≡◌, ◌+◌, ◌∙◌, ◌≤◌, None, length, ap, subst, arith}
use Rattle.gl_base.specs.TxId.{last_seqno}
use Rattle.gl_ledger.specs.Audit.{audited_over}
use Rattle.gl_ledger.specs.NodeKeys.{service_layers}
use Rattle.gl_audit.specs.declared.ledger_end.LedgerEnd.{LedgerEnd}
use Rattle.gl_audit.proofs.Ends.{len_over}
use Rattle.gl_store.specs.Tail.{IsTail, Tail}
use Rattle.gl_store.proofs.Tails.{seen}
use Rattle.gl_store.proofs.ledger_tail.LedgerTail.ledger_len.Goals as goal

pub returns-clause-len : goal.returns-clause-len
returns-clause-len c =
    seen c.self.view_is (λ body t. c.end.result.len ≡ body.base + length t.entries) (λ body s. ap (λ (end : LedgerEnd). end.len) (c.end.ensures body _ s.stands) ∙ len_over body _)

pub returns-clause-named : goal.returns-clause-named
returns-clause-named c =
    let b = c.self.invariant in
    let s = b.1 in
    let es = c.self.inside.entries.items in
    let len : c.end.result.len ≡ b.0.base + length es = ap (λ (end : LedgerEnd). end.len) (c.end.ensures b.0 es s.stands) ∙ len_over b.0 es in
    let named : b.0.base + length es ≤ last_seqno = s.stands.named in
    omega (arith, len, named)

pub returns-clause-valid : goal.returns-clause-valid
returns-clause-valid c = seen c.self.view_is (λ body t. audited_over service_layers body t.entries ≡ None) (λ body s. s.stands.valid)

pub returns-clause-tail : goal.returns-clause-tail
returns-clause-tail c = subst (λ (t : Tail). IsTail t) c.self.view_is c.self.invariant
