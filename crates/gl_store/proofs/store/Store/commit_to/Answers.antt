use Rattle.std.proofs.Common.{sym, subst}
use Rattle.gl_ledger.specs.Signed.{IsSignedUpTo}
use Rattle.gl_ledger.proofs.Signatures.{signed_within}
use Rattle.gl_audit.specs.Committed.{Held}
use Rattle.gl_store.proofs.store.Store.commit_to.Goals as goal

pub invariant_of-self : goal.invariant_of-self
invariant_of-self c =
    let ledger = c.self.inside.tail.entries in
    let signed : IsSignedUpTo ledger c.args.seqno = subst (λ (h : Held). IsSignedUpTo h.ledger c.args.seqno) (sym c.self.view_is) c.requires.signed in
    record { stands = c.self.invariant.stands; within = signed_within ledger c.args.seqno signed; committed = signed }
