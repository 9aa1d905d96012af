use Rattle.std.proofs.Common.{◌≡◌, ◌+◌, length, sym, ap, subst, ◌∙◌, arith}
use Rattle.gl_audit.specs.GovState.{Governed, governed_up_to}
use Rattle.gl_audit.specs.declared.ledger_state.LedgerState.{LedgerState}
use Rattle.gl_store_book.specs.Lists.{StandBehind, nodes_of}
use Rattle.gl_store.proofs.Tails.{base_is}
use Rattle.gl_store_book.proofs.TailLists.{base_seen, governed_seen, stand_end}
use Rattle.gl_store_book.proofs.book_ledger.BookLedger.recorded_nodes.Goals as goal

pub recorded_nodes-requires : goal.recorded_nodes-requires
recorded_nodes-requires c = c.self.invariant.listed.recorded ∙ ap (λ (s : LedgerState). nodes_of s.gov) (sym c.state.ensures.state)

pub returns : goal.returns
returns c = λ low.
    let t = c.self.inside.tail in
    let k = c.self.invariant in
    let base = base_seen _ t c.self.inside.lists c.args.self.now k c.self.view_is in
    let here = c.ledger_len-last.ensures.len _ k.stands in
    let start = base_is _ t k.stands in
    let at : c.ledger_len-last.result ≡ t.base_end.len + length t.entries = omega (arith, here, start) in
    let stand = subst (λ (s : LedgerState). StandBehind t.base_end.len s.gov (length t.entries)) (sym c.state.ensures.state) (stand_end _ t k.stands) in
    c.recorded_nodes.ensures t.base_end.len (length t.entries) stand at (omega (arith, base, low))
    ∙ ap (λ (s : LedgerState). nodes_of (governed_up_to c.args.upto s.gov)) c.state.ensures.state
    ∙ ap (λ (g : Governed). nodes_of (governed_up_to c.args.upto g)) (governed_seen _ t c.self.inside.lists c.args.self.now k c.self.view_is)
