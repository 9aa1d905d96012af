use Rattle.std.proofs.Common.{List, ap, subst, ◌∙◌, length, ◌≡◌, None}
use Rattle.gl_entry.specs.declared.entry.Entry.{Entry}
use Rattle.gl_ledger.specs.Audit.{audited}
use Rattle.gl_ledger.specs.NodeKeys.{service_layers}
use Rattle.gl_store_book.proofs.WholeBased.{whole_audited, whole_len}
use Rattle.gl_store_book.proofs.whole_ledger.WholeLedger.len.Goals as goal

pub returns-clause-len : goal.returns-clause-len
returns-clause-len c = c.len.ensures.len ∙ whole_len c.self.inside.ledger c.self.invariant ∙ ap (λ (es : List Entry). length es) c.self.view_is

pub returns-clause-valid : goal.returns-clause-valid
returns-clause-valid c = subst (λ (es : List Entry). audited service_layers es ≡ None) c.self.view_is (whole_audited c.self.inside.ledger c.self.invariant c.len.ensures.valid)
