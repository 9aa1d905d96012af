use Rattle.gl_store_book.specs.Frames.{goes_on_ledger}
use Rattle.ccfg.proofs.FileNodes.{as_plain_fault, as_plain_other, never_rose}
use Rattle.ccfg.proofs.FileStarts.{leaves_fold}
use Rattle.ccfg.proofs.schedule_nodes.start.keep_leaves.Goals as goal

pub keep-requires-clause-open : goal.keep-requires-clause-open
keep-requires-clause-open c = λ honest. c.requires.1.kept honest

pub only_memory-requires : goal.only_memory-requires
only_memory-requires c = λ fault is.
    let e = as_plain_fault _ _ fault c.in-Err.is is in
    never_rose (c.keep.ensures.cause.failed (as_plain_other _ _ _ e (c.keep.ensures.only fault e)))

pub returns-in-Ok : goal.returns-in-Ok
returns-in-Ok c = λ state here low high. record {
  kept = λ honest. c.in-Ok.ensures.«open» honest;
  opens = λ honest. c.in-Ok.ensures.kept honest goes_on_ledger state (record state { reserved = c.args.reserved }) (here.opens honest) (leaves_fold state c.args.reserved low high);
}
