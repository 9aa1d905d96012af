use Rattle.std.proofs.Common.{sym, ap, subst, ◌∙◌}
use Rattle.gl_journal.specs.Kept.{IsAtRest}
use Rattle.gl_store_book.specs.NodeFile.{opened}
use Rattle.gl_store_book.specs.Stands.{HasLedger as IsOfLedger}
use Rattle.ccfg.proofs.node.reopen.Goals as goal

pub returns-in-Ok-clause-begins : goal.returns-in-Ok-clause-begins
returns-in-Ok-clause-begins g c =
    let h = c.in-Ok.ensures in
    record {
      stands = h.stands;
      ledger = λ of. subst IsOfLedger (sym h.snapshot) of;
      going = h.serves;
      keeps = λ honest. ap (λ (disk : g.row.D.Denot). opened (g.D.Disk.bytes disk)) h.same ∙ c.requires.kept honest;
      at_rest = λ honest. subst (λ (disk : g.row.D.Denot). IsAtRest (g.D.Disk.bytes disk) (g.D.Disk.past disk)) (sym h.same) (c.requires.at_rest honest);
    }
