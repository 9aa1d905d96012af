use Rattle.std.proofs.Common.{◌≡◌, ◌∙◌, ap, subst, arith, true, Result}
use Rattle.gl_base.specs.Answers.{Answers}
use Rattle.gl_base.specs.declared.fault.CodeFault.{CodeFault}
use Rattle.gl_base.proofs.ParsedBytes.{decoded}
use Rattle.gl_requests.specs.Encoding.{request_bytes}
use Rattle.gl_requests.specs.Ranges.{is_request}
use Rattle.gl_requests.specs.Parsing.{request_result}
use Rattle.gl_requests.specs.declared.request.GovernanceRequest.{GovernanceRequest}
use Rattle.gl_requests.proofs.RequestReadings.{request-encoded, request-read}
use Rattle.gl_requests.proofs.request.GovernanceRequest.decode.Goals as goal

pub returns-clause-found : goal.returns-clause-found
returns-clause-found c =
    decoded c.read_whole_request.result (request_result c.args.bytes.now) (λ request. (is_request request ≡ true) × (c.args.bytes.now ≡ request_bytes request)) c.read_whole_request.ensures
    (λ request read. request-encoded c.args.bytes.now request (λ i. omega (arith, c.type_inv.bytes i)) read)

pub returns-clause-only : goal.returns-clause-only
returns-clause-only c request limits encoded =
    subst (λ (reading : Result GovernanceRequest CodeFault). Answers (λ request. request) c.read_whole_request.result reading)
    (ap request_result encoded ∙ request-read request limits) c.read_whole_request.ensures
