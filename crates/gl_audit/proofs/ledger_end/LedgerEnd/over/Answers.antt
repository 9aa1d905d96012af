use Rattle.std.proofs.Common.{Option, ◌∙◌, refl, ap}
use Rattle.std.specs.Option.{option_or}
use Rattle.gl_base.specs.declared.tx_id.TxId.{TxId}
use Rattle.gl_rules.specs.Log.{entry_at}
use Rattle.gl_audit.proofs.Ends.{over_made}
use Rattle.gl_audit.proofs.ledger_end.LedgerEnd.over.Goals as goal

pub returns : goal.returns
returns c = λ body begun signed.
    over_made body c.args.entries.now c.args.base c.args.signed _ _ _ _ _ c.commit_or.result c.is_unopened.result begun signed c.last-last.ensures.value
    (c.entry_at-signature.ensures ∙ ap (entry_at c.args.entries.now) c.saturating_sub.ensures) refl (c.or.ensures ∙ ap (λ (o : Option TxId). option_or o c.args.base.last) c.id_in.ensures)
    (c.or-2.ensures ∙ ap (λ (o : Option TxId). option_or o c.args.base.signed) c.id_in-2.ensures) c.commit_or.ensures c.is_unopened.ensures
