use Rattle.std.proofs.Common.{◌≡◌, true, ap, ◌∙◌, subst, arith}
use Rattle.gl_base.specs.Answers.{Answers}
use Rattle.gl_messages.specs.Message.{message_bytes, is_message}
use Rattle.gl_messages.specs.MessageReading.{message_of}
use Rattle.gl_messages.proofs.Tagged.{found}
use Rattle.gl_messages.proofs.MessageLaws.{whole_encoded, whole_read}
use Rattle.gl_messages.proofs.message.Message.decode.Goals as goal

pub returns-clause-found : goal.returns-clause-found
returns-clause-found c =
    found c.read_whole.result (message_of c.args.bytes.now) (λ message. (is_message message ≡ true) × (c.args.bytes.now ≡ message_bytes message)) c.read_whole.ensures
    (λ message e. whole_encoded c.args.bytes.now message (λ i. omega (arith, c.type_inv.bytes i)) e)

pub returns-clause-only : goal.returns-clause-only
returns-clause-only c = λ message is encoded.
    subst (λ reading. Answers (λ x. x) c.read_whole.result reading) (ap message_of encoded ∙ whole_read message is) c.read_whole.ensures
