use Rattle.std.proofs.Common.{ap, List}
use Rattle.gl_entry.specs.declared.entry.Entry.{Entry}
use Rattle.gl_store.proofs.KeptEntries.{kept_empty}
use Rattle.gl_store.proofs.store.Store.new.Goals as goal

pub invariant_of-result : goal.invariant_of-result
invariant_of-result c = kept_empty c.in_ok-new.field-0 c.in_ok-new.ensures.empty c.in_ok-new.ensures.stands

pub returns : goal.returns
returns c = ap (λ (es : List Entry). record { ledger = es; commit = 0 }) c.in_ok-new.ensures.empty
