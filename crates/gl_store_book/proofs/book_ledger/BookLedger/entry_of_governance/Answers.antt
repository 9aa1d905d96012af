use Rattle.std.proofs.Common.{◌≡◌, ◌∙◌, Result, Ok, Option, ap, sym, refl, arith}
use Rattle.gl_entry.specs.declared.entry.Entry.{Entry}
use Rattle.gl_requests.specs.declared.request.GovernanceRequest.{GovernanceRequest}
use Rattle.gl_gov_rules.specs.declared.change.ProposalStatus.{ProposalStatus}
use Rattle.gl_ledger.specs.declared.response.Response.{Response}
use Rattle.gl_ledger.specs.declared.response.Rejection.{Rejection}
use Rattle.gl_ledger.specs.Makers.{govern_after, governance_made_after, status_with}
use Rattle.gl_ledger.specs.Past.{Past, past_over}
use Rattle.gl_ledger.specs.declared.response.Response.TheVariants.{Governed}
use Rattle.gl_store_book.specs.BasedLedgers.{past_of}
use Rattle.gl_store.specs.Calls.{Refuses}
use Rattle.gl_store.proofs.Tails.{if_err, if_ok_both}
use Rattle.gl_store_book.proofs.TailLists.{base_of_each, count_seen, kept_still, of_each, with_same}
use Rattle.gl_store_book.proofs.book_ledger.BookLedger.entry_of_governance.Goals as goal

pub entry_of_governance-requires-clause-some : goal.entry_of_governance-requires-clause-some
entry_of_governance-requires-clause-some c = λ body stands.
    let same = base_of_each _ c.self.inside.tail c.self.inside.lists c.args.self.now c.self.invariant c.self.view_is body stands in
    let count = count_seen _ c.self.inside.tail c.self.inside.lists c.args.self.now c.self.invariant c.self.view_is in
    let some = c.requires.some in
    omega (arith, same, count, some)

pub invariant_of-self : goal.invariant_of-self
invariant_of-self c =
    let k = c.self.invariant in
    let still = c.entry_of_governance.ensures.kept in
    kept_still _ c.self.inside.tail c.self.inside.lists k c.entry_of_governance.new.self c.self.inside.lists still.entries (still.stands _ k.stands) refl refl

with_status : (r : Result (Entry × Response) Rejection) (p : Past) (q : GovernanceRequest) (e : Entry) (status : Option ProposalStatus) →
    r ≡ Ok (governance_made_after p q e) → status ≡ status_with p q → r ≡ Ok (e, Governed status)
with_status r p q e status made is = made ∙ ap (λ (o : Option ProposalStatus). Ok (e, Governed o)) (sym is)

pub returns-clause-made : goal.returns-clause-made
returns-clause-made c =
    if_ok_both c.entry_of_governance.result
    (λ made each status.
    with_status _ (past_of c.args.self.now) c.args.request.now made.0 made.1.proposal
    (of_each _ c.self.inside.tail c.self.inside.lists c.args.self.now c.self.invariant c.self.view_is
    (λ b es. govern_after (past_over b es) c.args.view c.args.request.now ≡ Ok (governance_made_after (past_over b es) c.args.request.now made.0)) each)
    (of_each _ c.self.inside.tail c.self.inside.lists c.args.self.now c.self.invariant c.self.view_is
    (λ b es. made.1.proposal ≡ status_with (past_over b es) c.args.request.now) status))
    c.entry_of_governance.ensures.made c.entry_of_governance.ensures.status

pub returns-clause-refused : goal.returns-clause-refused
returns-clause-refused c =
    if_err c.entry_of_governance.result
    (λ e each. of_each _ c.self.inside.tail c.self.inside.lists c.args.self.now c.self.invariant c.self.view_is (λ b es. Refuses (govern_after (past_over b es) c.args.view c.args.request.now) e) each)
    c.entry_of_governance.ensures.refused

pub returns-clause-kept : goal.returns-clause-kept
returns-clause-kept c = with_same _ c.self.inside.tail c.args.self.now c.entry_of_governance.new.self.entries c.self.view_is c.entry_of_governance.ensures.kept.entries
