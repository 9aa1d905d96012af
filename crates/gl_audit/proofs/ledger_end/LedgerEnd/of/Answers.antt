use Rattle.gl_audit.proofs.Ends.{end_made}
use Rattle.gl_audit.proofs.ledger_end.LedgerEnd.of.Goals as goal

pub returns : goal.returns
returns c =
    end_made c.args.entries.now c.args.signed _ _ c.id_in.result c.id_in-2.result c.recorded_commit.result c.is_unopened.result c.last-last.ensures.value c.requires.signed c.entry_at-signature.ensures c.id_in.ensures c.id_in-2.ensures
    c.recorded_commit.ensures c.is_unopened.ensures
