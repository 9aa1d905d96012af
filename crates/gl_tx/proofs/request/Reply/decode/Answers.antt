use Rattle.std.proofs.Common.{◌≡◌, ◌∙◌, ap, subst, arith, true, Result}
use Rattle.gl_base.specs.Answers.{Answers}
use Rattle.gl_base.specs.declared.fault.CodeFault.{CodeFault}
use Rattle.gl_tx.specs.Request.{is_reply, reply_bytes}
use Rattle.gl_tx.specs.Parsing.{reply_of}
use Rattle.gl_tx.specs.declared.request.Reply.{Reply}
use Rattle.gl_base.proofs.ParsedBytes.{decoded}
use Rattle.gl_tx.proofs.Formats.{reply-encoded, reply-read}
use Rattle.gl_tx.proofs.request.Reply.decode.Goals as goal

pub returns-clause-found : goal.returns-clause-found
returns-clause-found c =
    decoded c.read_whole_reply.result (reply_of c.args.bytes.now) (λ reply. (is_reply reply ≡ true) × (c.args.bytes.now ≡ reply_bytes reply)) c.read_whole_reply.ensures
    (λ reply read. reply-encoded c.args.bytes.now reply (λ i. omega (arith, c.type_inv.bytes i)) read)

pub returns-clause-only : goal.returns-clause-only
returns-clause-only c answers limits encoded =
    subst (λ (reading : Result Reply CodeFault). Answers (λ reply. reply) c.read_whole_reply.result reading)
    (ap reply_of encoded ∙ reply-read answers limits) c.read_whole_reply.ensures
