use Rattle.std.proofs.Common.{◌∙◌, ap}
use Rattle.gl_requests.specs.Parsing.{request_in}
use Rattle.gl_audit.proofs.Beginnings.{begins_where}
use Rattle.gl_audit.proofs.ledger_end.begins.Goals as goal

pub returns-in-Governance : goal.returns-in-Governance
returns-in-Governance c =
    begins_where c.args.entry.now c.in-Governance.request c.begins_service.result c.in-Governance.is c.requires.read (λ g reads. c.begins_service.ensures g (ap request_in c.as_slice.ensures ∙ reads))
