use Rattle.std.proofs.Common.{◌-◌, ◌≤◌, ◌+◌, List, length, take, sym, ap, subst, ◌∙◌, arith}
use Rattle.gl_entry.specs.declared.entry.Entry.{Entry}
use Rattle.gl_ledger.specs.Snapshot.{snapshot_over}
use Rattle.gl_store.proofs.Tails.{if_ok}
use Rattle.gl_store_book.specs.BasedLedgers.{IsAudited, base_of, body_of}
use Rattle.gl_store_book.specs.Stands.{NodeStore}
use Rattle.gl_store_book.proofs.ShownSnapshots.{seqno_kept, shown_by, writable}
use Rattle.gl_store_book.proofs.snapshots.StoreBookSnapshots.snapshot.Goals as goal

pub returns-clause-shown : goal.returns-clause-shown
returns-clause-shown c =
    if_ok c.snapshot.result (λ body is b h s.
    let node = c.args.self.now in
    let to = c.args.to in
    let l = c.self.inside.ledger in
    let there = seqno_kept node b h to s (c.requires.base b h s) (c.requires.within b h s) in
    let here = subst (λ (n : NodeStore). (base_of n.ledger ≤ to) × (to ≤ base_of n.ledger + length n.ledger.entries)) (sym c.self.view_is) there in
    let long = ap (λ (es : List Entry). length es) c.tail-tail.ensures.entries in
    let at = c.within.ensures.same (body_of l.snapshot) c.tail-tail.ensures.stands here.0 (omega (arith, here.1, long)) in
    let given = is (body_of l.snapshot) c.tail-tail.ensures.stands in
    shown_by node b h to c.within.result body
    (subst (λ (n : NodeStore). IsAudited n.ledger) c.self.view_is c.tail-tail.ensures.valid) s (c.requires.base b h s) (c.requires.evidence b h s) at
    (given ∙ ap (λ (es : List Entry). snapshot_over (body_of l.snapshot) (take (c.within.result - (body_of l.snapshot).base) es)) c.tail-tail.ensures.entries
    ∙ ap (λ (n : NodeStore). snapshot_over (body_of n.ledger.snapshot) (take (c.within.result - (body_of n.ledger.snapshot).base) n.ledger.entries)) c.self.view_is))
    c.snapshot.ensures.body

pub returns-clause-writable : goal.returns-clause-writable
returns-clause-writable c = if_ok c.snapshot.result (λ body shown b h s. writable body b (take c.args.to h.log) (shown b h s)) (returns-clause-shown c)
