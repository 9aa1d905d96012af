use Rattle.std.proofs.Common.{◌≡◌, Ok, subst}
use Rattle.gl_ledger.specs.Makers.{request_result}
use Rattle.gl_ledger.specs.declared.response.Response.TheVariants.{Replied}
use Rattle.gl_snapshot_body.specs.Body.{no_body}
use Rattle.gl_audit.specs.Committed.{Held}
use Rattle.gl_store.specs.Calls.{Refuses}
use Rattle.gl_store.proofs.Tails.{if_err, if_ok}
use Rattle.gl_store.proofs.store.Store.entry_of_request.Goals as goal

pub returns-clause-made : goal.returns-clause-made
returns-clause-made c =
    if_ok c.entry_of_request.result
    (λ made each. subst (λ (h : Held). request_result h.ledger c.args.view c.args.request.now ≡ Ok (made.0, Replied made.1)) c.self.view_is (each no_body c.self.invariant.stands)) c.entry_of_request.ensures.made

pub returns-clause-refused : goal.returns-clause-refused
returns-clause-refused c =
    if_err c.entry_of_request.result (λ e each. subst (λ (h : Held). Refuses (request_result h.ledger c.args.view c.args.request.now) e) c.self.view_is (each no_body c.self.invariant.stands)) c.entry_of_request.ensures.refused
