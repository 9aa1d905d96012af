use Rattle.std.proofs.Common.{◌≡◌, Ok, subst}
use Rattle.gl_base.specs.Answers.{Fails}
use Rattle.gl_ledger.specs.Makers.{evidence_result}
use Rattle.gl_ledger.specs.Past.{past_of}
use Rattle.gl_snapshot_body.specs.Body.{no_body}
use Rattle.gl_audit.specs.Committed.{Held}
use Rattle.gl_store.proofs.Tails.{if_err, if_ok}
use Rattle.gl_store.proofs.store.Store.evidence_entry.Goals as goal

pub returns-clause-made : goal.returns-clause-made
returns-clause-made c =
    if_ok c.evidence_entry.result (λ e each. subst (λ (h : Held). evidence_result (past_of h.ledger) c.args.view ≡ Ok e) c.self.view_is (each no_body c.self.invariant.stands)) c.evidence_entry.ensures.made

pub returns-clause-refused : goal.returns-clause-refused
returns-clause-refused c =
    if_err c.evidence_entry.result (λ e each. subst (λ (h : Held). Fails e (evidence_result (past_of h.ledger) c.args.view)) c.self.view_is (each no_body c.self.invariant.stands)) c.evidence_entry.ensures.refused
