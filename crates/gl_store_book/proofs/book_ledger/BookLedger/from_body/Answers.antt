use Rattle.std.proofs.Common.{◌∙◌, ap, sym, subst}
use Rattle.gl_audit.specs.GovState.{IsGoverned}
use Rattle.gl_audit.specs.declared.ledger_state.LedgerState.{LedgerState}
use Rattle.gl_store_book.specs.Lists.{AreListsOf}
use Rattle.gl_store_book.proofs.TailLists.{base_above, begun_behind, counted, none_requested, stand_tail}
use Rattle.gl_store_book.proofs.book_ledger.BookLedger.from_body.Goals as goal

pub spelled-requires : goal.spelled-requires
spelled-requires c = counted c.args.body c.requires.read.fits

pub at_base-requires-clause-some : goal.at_base-requires-clause-some
at_base-requires-clause-some c = base_above c.args.body c.requires.read.fits

pub at_base-requires-2-clause-above : goal.at_base-requires-2-clause-above
at_base-requires-2-clause-above c = base_above c.args.body c.requires.read.fits

pub at_base-requires-2-clause-governed : goal.at_base-requires-2-clause-governed
at_base-requires-2-clause-governed c =
    subst (λ (s : LedgerState). IsGoverned s.gov) (sym c.state.ensures.state) (stand_tail c.args.body c.in_ok-tail.tail c.in_ok-tail.ensures.stands).governed

pub at_base-requires-2-clause-none : goal.at_base-requires-2-clause-none
at_base-requires-2-clause-none c =
    ap (λ (s : LedgerState). s.gov.requests) c.state.ensures.state ∙ none_requested c.args.body c.in_ok-tail.tail c.in_ok-tail.ensures.stands c.in_ok-tail.ensures.empty

pub invariant_of-result : goal.invariant_of-result
invariant_of-result c =
    begun_behind c.args.body _ c.in_ok-tail.tail c.in_ok-lists.lists c.requires.read.fits c.in_ok-snapshot.ensures c.in_ok-tail.ensures.empty c.in_ok-tail.ensures.stands
    (subst (λ (s : LedgerState). AreListsOf c.args.body.base s.gov 0 c.in_ok-lists.lists) c.state.ensures.state c.in_ok-lists.ensures)
