use Rattle.std.proofs.Common.{◌∙◌, List, ap}
use Rattle.gl_entry.specs.declared.entry.Entry.{Entry}
use Rattle.gl_snapshot_body.specs.Body.{no_body}
use Rattle.gl_store.proofs.KeptEntries.{kept_still}
use Rattle.gl_store.proofs.store.Store.copy.Goals as goal

pub invariant_of-result : goal.invariant_of-result
invariant_of-result c =
    kept_still c.self.inside.tail c.in_ok-copy.field-0 c.self.inside.commit c.self.invariant c.in_ok-copy.ensures.entries (c.in_ok-copy.ensures.stands no_body c.self.invariant.stands)

pub returns : goal.returns
returns c = ap (λ (es : List Entry). record { ledger = es; commit = c.self.inside.commit }) c.in_ok-copy.ensures.entries ∙ c.self.view_is
