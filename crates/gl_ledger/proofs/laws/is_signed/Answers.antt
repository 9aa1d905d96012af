use Rattle.gl_ledger.proofs.NodeRows.{row_named, row_signs}
use Rattle.gl_ledger.proofs.NodeSignatures.{node_signs, node_makes}
use Rattle.gl_ledger.proofs.laws.is_signed.Goals as goal

pub returns : goal.returns
returns c = record {
  valid = λ keys endorsement identity x leaf message h low. node_signs keys endorsement identity x leaf message h low;
  makes = λ keys identity x leaf ledger view commit h low is. node_makes keys identity x leaf ledger view commit h low is;
  recorded = λ layers ledger sound none keys x named form own. row_signs layers ledger sound none x named keys form own;
  named = λ layers ledger sound none x named. row_named layers ledger sound none x named;
}
