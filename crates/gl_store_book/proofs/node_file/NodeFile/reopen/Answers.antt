use Rattle.std.proofs.Common.{◌≡◌, sym, ap, subst, ◌∙◌}
use Rattle.gl_node.specs.Seen.{Seen}
use Rattle.gl_store_book.specs.AtOpening.{restarted_node}
use Rattle.gl_store_book.specs.NodeFile.{OpenFile, seen_state}
use Rattle.gl_store_book.specs.Replicas.{NodeCore, StandsForFile}
use Rattle.gl_store_book.proofs.ServedNodes.{serving_restarted, stands_restarted}
use Rattle.gl_store_book.proofs.node_file.NodeFile.reopen.Goals as goal

pub new-requires-clause-settled : goal.new-requires-clause-settled
new-requires-clause-settled g c h = c.self.invariant.file.file.kept h

pub new-requires-clause-serving : goal.new-requires-clause-serving
new-requires-clause-serving g c has =
    let f = c.self.inside in
    let d = seen_state f.state in
    let file = c.self.invariant.file in
    let l = c.in-Ok.ledger in
    let same : l.snapshot ≡ d.snapshot = sym c.in-Ok.ensures.snapshot ∙ c.self.invariant.stands in
    serving_restarted g.D.Disk.honest g.D.Disk.bytes g.D.Disk.past f.journal d c.restarted.result l.entries file.file
    (stands_restarted d l.entries c.restarted.result f.me f.key c.in-Ok.ensures.entries file.within file.grown file.named l.snapshot same c.restarted.ensures.stands)
    c.in-Ok.ensures.entries c.in-Ok.ensures.frames (c.restarted.ensures.snapshot ∙ same) has

pub returns-in-Ok-clause-stands : goal.returns-in-Ok-clause-stands
returns-in-Ok-clause-stands g c =
    let f = c.self.inside in
    let d = seen_state f.state in
    let file = c.self.invariant.file in
    let l = c.in-Ok.ledger in
    let same : l.snapshot ≡ d.snapshot = sym c.in-Ok.ensures.snapshot ∙ c.self.invariant.stands in
    let here = stands_restarted d l.entries c.restarted.result f.me f.key c.in-Ok.ensures.entries file.within file.grown file.named l.snapshot same c.restarted.ensures.stands in
    subst (λ (o : OpenFile g.row.D.Denot). StandsForFile o.state c.new.result.core (λ b below. restarted_node b below o.state)) c.self.view_is
    (subst (λ (core : NodeCore). StandsForFile d core (λ b below. restarted_node b below d)) (sym (ap (λ (v : Seen _ _ _ _ _ _ _). v.core) c.new.ensures)) here)

pub returns-in-Ok-clause-snapshot : goal.returns-in-Ok-clause-snapshot
returns-in-Ok-clause-snapshot g c =
    ap (λ (v : Seen _ _ _ _ _ _ _). v.core.book.ledger.snapshot) c.new.ensures ∙ c.restarted.ensures.snapshot ∙ sym c.in-Ok.ensures.snapshot ∙ c.self.invariant.stands
    ∙ ap (λ (o : OpenFile g.row.D.Denot). o.state.snapshot) c.self.view_is
