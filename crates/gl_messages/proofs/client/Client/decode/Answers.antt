use Rattle.std.proofs.Common.{◌≡◌, true, ap, ◌∙◌, subst, arith}
use Rattle.gl_base.specs.Answers.{Answers}
use Rattle.gl_messages.specs.Client.{client_bytes, is_client, client_at, client_of}
use Rattle.gl_messages.proofs.Tagged.{whole_takes, whole_finds, found}
use Rattle.gl_messages.proofs.ClientLaws.{client_takes, client_finds}
use Rattle.gl_messages.proofs.client.Client.decode.Goals as goal

pub returns-clause-found : goal.returns-clause-found
returns-clause-found c =
    found c.read_whole.result (client_of c.args.bytes.now) (λ client. (is_client client ≡ true) × (c.args.bytes.now ≡ client_bytes client)) c.read_whole.ensures
    (λ client e. whole_takes client_bytes is_client client_at client_takes c.args.bytes.now client (λ i. omega (arith, c.type_inv.bytes i)) e)

pub returns-clause-only : goal.returns-clause-only
returns-clause-only c = λ client is encoded.
    subst (λ reading. Answers (λ x. x) c.read_whole.result reading) (ap client_of encoded ∙ whole_finds client_bytes is_client client_at client_finds client is) c.read_whole.ensures
