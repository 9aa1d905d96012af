use Rattle.gl_ledger.proofs.Opened.{begins_opening, opening_opened, opening_unrecovered}
use Rattle.gl_ledger.proofs.OpeningLaws.{nodes_recorded, nodes_configured}
use Rattle.gl_ledger.proofs.NodeOrder.{row_of_node}
use Rattle.gl_ledger.proofs.Recovered.{recovered_opened, recovered_identity, recovered_nodes}
use Rattle.gl_ledger.proofs.NodeRows.{genesis_endorsement}
use Rattle.gl_ledger.proofs.laws.is_opened.Goals as goal

pub returns : goal.returns
returns c = record {
  opening = λ layers keys s h. begins_opening layers keys s h;
  genesis = λ layers keys g x h. opening_opened layers keys g x h;
  unrecovered = λ layers keys g x h. opening_unrecovered layers keys g x h;
  recorded = λ layers keys g x h. nodes_recorded layers keys g x h;
  configured = λ layers keys g x h. nodes_configured layers keys g x h;
  rows = λ g i node apart at. row_of_node g i node apart at;
  recovery = λ layers keys ledger r x leaf h. recovered_opened layers keys ledger r x leaf h;
  identity = λ layers keys ledger r x leaf h. recovered_identity layers keys ledger r x leaf h;
  nodes = λ layers keys ledger r x leaf h. recovered_nodes layers keys ledger r x leaf h;
  endorsement = λ g es i node fits apart at. genesis_endorsement g es i node fits apart at;
}
