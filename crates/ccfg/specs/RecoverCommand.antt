-- What `recover` does with the settings of a service and the ledger of the one before it.
use Rattle.std.specs.Prelude.{IsTrue}
use Rattle.gl_journal.specs.declared.key.KeyKind.TheVariants.{Node}
use Rattle.gl_keyfile.specs.declared.leaf.LeafUse.TheVariants.{Start}
use Rattle.ccfg.specs.ExpectedOutput.{output_of_recovering}
use Rattle.ccfg.specs.Exits.{ExitsByDisk}
use Rattle.ccfg.specs.Run.{Run}
use Rattle.ccfg.specs.SignCommand.{ReadsWithKey, TakesLeaf}
use Rattle.ccfg.specs.declared.ending.Ending.{Ending}

pub record RecoverDoes {S D : Type 0} (r : Run S D) (e : Ending) : Type 0 where
  -- It ends, and writes, by the node's key that the file opens to, the settings, and the audit of
  -- the old ledger.
  pub exact : ExitsByDisk r e (λ shown. output_of_recovering shown.opens)
  pub leaf : IsTrue r.disk.honest → TakesLeaf Start r e
  pub unread : ReadsWithKey Node r
