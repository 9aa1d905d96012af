use Rattle.std.proofs.Common.{rules, refl, sym, ap, subst, ◌∙◌}
use Rattle.gl_journal.specs.Durable.{Durable}
use Rattle.gl_replication.specs.declared.done.Outcome.TheVariants as answers
use Rattle.gl_rules.specs.Replication.{restart}
use Rattle.ccfg.specs.Disk.{HeldDisk}
use Rattle.gl_world.specs.WorldNodes.{ServiceDone, Steps}
use Rattle.gl_store_book.specs.AtOpening.{restarted_node}
use Rattle.ccfg.specs.FileNodes.{SeenFileNode, StandsOverFile}
use Rattle.gl_store_book.specs.NodeFile.{opened}
use Rattle.gl_store_book.specs.Replicas.{StandsForFile}
use Rattle.gl_store_book.specs.Stands.{HasLedger, NodeStore}
use Rattle.ccfg.proofs.FileNodes.{Restarts, file_ledger, one_state, restarted_steps}
use Rattle.ccfg.proofs.schedule_nodes.FileNode.restart.Goals as goal

pub open_node-requires : goal.open_node-requires
open_node-requires c =
    let is = c.self.invariant in
    let bytes = c.bytes.ensures ∙ ap (λ (d : HeldDisk). d.bytes) c.disk.ensures.disk in
    (is.state, record { opens = ap opened bytes ∙ is.file.opens; kind = is.file.kind })

pub invariant_of-self : goal.invariant_of-self
invariant_of-self c =
    let r = c.self.inside.replica in
    let q = c.in-Ok.ensures.opens in
    let bytes = c.bytes.ensures ∙ ap (λ (d : HeldDisk). d.bytes) c.disk.ensures.disk in
    let held : HasLedger q.0.snapshot = file_ledger r q.0 c.self.invariant (ap opened (sym bytes) ∙ q.1.opens) (c.disk.ensures.keeps refl c.self.invariant.serves) in
    record { serves = c.in-Ok.ensures.serves; ledger = subst HasLedger (sym q.4) held; state = q.0; file = q.2 }

pub returns-clause-again : goal.returns-clause-again
returns-clause-again c = λ state is.
    let r = c.self.inside.replica in
    let q = c.in-Ok.ensures.opens in
    let bytes = c.bytes.ensures ∙ ap (λ (d : HeldDisk). d.bytes) c.disk.ensures.disk in
    subst (λ (d : Durable). StandsForFile d c.in-Ok.replica.core (λ b below. restarted_node b below d))
    (one_state r.disk.bytes q.0 state (ap opened (sym bytes) ∙ q.1.opens) (ap (λ (f : SeenFileNode). opened f.disk.bytes) c.self.view_is ∙ is)) q.3

pub returns-clause-steps : goal.returns-clause-steps
returns-clause-steps c =
    let r = c.self.inside.replica in
    let q = c.in-Ok.ensures.opens in
    let bytes = c.bytes.ensures ∙ ap (λ (d : HeldDisk). d.bytes) c.disk.ensures.disk in
    let done : ServiceDone NodeStore = record { outcome = answers.Done; sent = c.from.result } in
    let held = c.a_stop_forgets_nothing.ensures in
    let law : Restarts r = record { gives = held.before refl c.self.invariant.serves; holds = held.holds refl c.self.invariant.serves; below = held.below } in
    subst (λ (old : SeenFileNode). Steps StandsOverFile (λ b x n. restart b n) old done c.in-Ok.replica) c.self.view_is
    (restarted_steps r c.in-Ok.replica done q.0 (ap opened (sym bytes) ∙ q.1.opens) q.2.opens q.3 law refl (search rules))
