use Rattle.std.proofs.Common.{◌≤◌, ◌<◌, List, length, take, sym, ap, subst, ◌∙◌, arith}
use Rattle.std.specs.List.{AllPairs}
use Rattle.gl_config.specs.Active.{upto}
use Rattle.gl_config.specs.declared.configuration.Configuration.{Configuration}
use Rattle.gl_store_book.proofs.ListPrefixes.{ascend_take, behind_ascend}
use Rattle.gl_store_book.proofs.TailLists.{base_seen, configured_seen}
use Rattle.gl_store_book.proofs.book_ledger.BookLedger.configurations.Goals as goal

pub returns-clause-ascending : goal.returns-clause-ascending
returns-clause-ascending c =
    let t = c.self.inside.tail in
    let first = c.configurations.ensures.prefix in
    let all = behind_ascend t.base_end.len t.state.gov (length t.entries) in
    subst (λ (cs : List Configuration). AllPairs (λ (x y : Configuration). x.seqno < y.seqno) cs)
    (ap (take first.0) (sym c.self.invariant.listed.configured) ∙ sym first.1) (ascend_take first.0 _ all)

pub returns-clause-prefix : goal.returns-clause-prefix
returns-clause-prefix c = λ low.
    let t = c.self.inside.tail in
    let base = base_seen _ t c.self.inside.lists c.args.self.now c.self.invariant c.self.view_is in
    let from : t.base_end.len ≤ c.args.upto = omega (arith, base, low) in
    c.configurations.ensures.upto t.base_end.len (length t.entries) t.state.gov c.self.invariant.listed from
    ∙ ap (upto c.args.upto) (configured_seen _ t c.self.inside.lists c.args.self.now c.self.invariant c.self.view_is)
