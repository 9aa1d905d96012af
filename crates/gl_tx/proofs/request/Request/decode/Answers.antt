use Rattle.std.proofs.Common.{◌≡◌, ◌∙◌, ap, subst, arith, true, Result}
use Rattle.gl_base.specs.Answers.{Answers}
use Rattle.gl_base.specs.declared.fault.CodeFault.{CodeFault}
use Rattle.gl_tx.specs.Request.{is_request, request_bytes}
use Rattle.gl_tx.specs.Parsing.{request_of}
use Rattle.gl_tx.specs.declared.request.Request.{Request}
use Rattle.gl_base.proofs.ParsedBytes.{decoded}
use Rattle.gl_tx.proofs.Formats.{request-encoded, request-read}
use Rattle.gl_tx.proofs.request.Request.decode.Goals as goal

pub returns-clause-found : goal.returns-clause-found
returns-clause-found c =
    decoded c.read_whole_request.result (request_of c.args.bytes.now) (λ request. (is_request request ≡ true) × (c.args.bytes.now ≡ request_bytes request)) c.read_whole_request.ensures
    (λ request read. request-encoded c.args.bytes.now request (λ i. omega (arith, c.type_inv.bytes i)) read)

pub returns-clause-only : goal.returns-clause-only
returns-clause-only c operations limits encoded =
    subst (λ (reading : Result Request CodeFault). Answers (λ request. request) c.read_whole_request.result reading)
    (ap request_of encoded ∙ request-read operations limits) c.read_whole_request.ensures
