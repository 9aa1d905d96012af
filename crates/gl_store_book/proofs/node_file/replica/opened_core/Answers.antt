use Rattle.std.proofs.Common.{[], Bool, sym, subst}
use Rattle.gl_rules.specs.Steps.{lead_if}
use Rattle.gl_ledger.specs.LedgerBook.{ledger_book}
use Rattle.gl_ledger.specs.NodeKeys.{service_layers}
use Rattle.gl_replication.specs.Stands.{StandsFor}
use Rattle.gl_store_book.specs.AtOpening.{opened_state, restarted_node}
use Rattle.gl_store_book.specs.BasedLedgers.{BasedLedger, IsEncoded}
use Rattle.gl_store_book.specs.NodeFile.{node_of, seen_state}
use Rattle.gl_store_book.specs.ServiceStart.{service_start}
use Rattle.gl_store_book.specs.Stands.{Stands}
use Rattle.gl_store_book.proofs.FrameLaws.{valid_fit}
use Rattle.gl_store_book.proofs.ServedNodes.{Restarts, stands_opened}
use Rattle.gl_store_book.proofs.node_file.replica.opened_core.Goals as goal

pub restarted-requires : goal.restarted-requires
restarted-requires c = subst (λ (l : BasedLedger). IsEncoded l.snapshot) (sym c.into_ledger-ledger.ensures.ledger) tt

pub returns-clause-stands : goal.returns-clause-stands
returns-clause-stands c = λ keys has.
    let s = service_start c.args.opening.ledger c.args.opening.first in
    let d = seen_state c.args.state.now in
    let b = ledger_book service_layers keys in
    let n = restarted_node b [] (opened_state s d) in
    let t = c.args.turn in
    let restarts = subst (λ (l : BasedLedger). Restarts c.args.me c.args.key c.restarted.result l.snapshot t.view t.vote l.entries d.reserved) c.into_ledger-ledger.ensures.ledger c.restarted.ensures.stands in
    subst (λ (l : Bool). StandsFor Stands c.leading_if.result b (node_of d) (lead_if b l n)) c.leads_at_opening-leads.ensures
    (c.leading_if.ensures.stands b (node_of d) n
    (stands_opened s d t c.restarted.result c.args.me c.args.key (valid_fit c.args.opening.ledger c.len.ensures.valid) c.requires.turn c.requires.within c.requires.key c.requires.me restarts keys has))
