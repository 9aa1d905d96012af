use Rattle.std.proofs.Common.{◌≡◌, take}
use Rattle.gl_ledger.specs.ServiceRow.{identity_in}
use Rattle.gl_ledger.specs.Tree.{tables_of}
use Rattle.gl_audit.specs.Kept.{key_of}
use Rattle.gl_audit.proofs.service_key.key_after.Given as goal

abbrev pub invariant-loop-entry : goal.invariant-loop-entry
invariant-loop-entry l = l.key ≡ key_of (identity_in (tables_of (take l.entry-index l.entries)))
