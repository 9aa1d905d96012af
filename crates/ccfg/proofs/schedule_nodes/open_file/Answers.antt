use Rattle.std.proofs.Common.{refl, sym, ap, ◌∙◌}
use Rattle.gl_journal.specs.declared.key.KeyKind.TheVariants as kinds
use Rattle.gl_store_book.specs.NodeFile.{opened}
use Rattle.ccfg.proofs.FileNodes.{as_fault, as_other, opens_well}
use Rattle.ccfg.proofs.schedule_nodes.open_file.Goals as goal

pub only_memory-requires : goal.only_memory-requires
only_memory-requires c = λ fault is.
    let bytes = ap opened (sym c.in_ok-holding.ensures.bytes) in
    let e = as_fault _ _ _ fault c.in-Err.is is in
    opens_well c.args.bytes.now c.requires.0 fault c.requires.1 (c.open.ensures.only fault _ e)
    (λ why this other. bytes ∙ c.open.ensures.damaged refl why _ (as_other _ _ _ _ e this) other)
    (λ this. c.open.ensures.disk_fault _ (as_other _ _ _ _ e this))
    (λ got this. let q = c.open.ensures.key_kind refl kinds.Node got _ (as_other _ _ _ _ e this) in (q.0, bytes ∙ q.1, q.2))
    (λ got this. (c.open.ensures.kinds kinds.Node got _ (as_other _ _ _ _ e this)).1)

pub returns-in-Ok : goal.returns-in-Ok
returns-in-Ok c = (
  record { opens = ap opened (sym c.in_ok-holding.ensures.bytes) ∙ c.in-Ok.ensures.durable refl; kind = c.in-Ok.ensures.kind },
  record { opens = c.in-Ok.ensures.kept refl; kind = c.in-Ok.ensures.kind },
)
