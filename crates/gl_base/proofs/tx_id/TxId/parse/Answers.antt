use Rattle.gl_base.proofs.TxIdText.{read_encoded, read_only}
use Rattle.gl_base.proofs.tx_id.TxId.parse.Goals as goal

pub returns-clause-encoded : goal.returns-clause-encoded
returns-clause-encoded c = read_encoded _ _ c.read.ensures

pub returns-clause-only : goal.returns-clause-only
returns-clause-only c = read_only _ _ c.read.ensures
