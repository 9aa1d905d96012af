use Rattle.std.proofs.Common.{◌≡◌, rules}
use Rattle.gl_messages.specs.Client.{client_bytes}
use Rattle.gl_messages.proofs.ClientLaws.{client_bytes-fit}
use Rattle.gl_messages.proofs.client.Client.encode.Goals as goal

pub returns-clause-fits : goal.returns-clause-fits
returns-clause-fits c =
    let bytes : c.put_call.new.out.items ≡ client_bytes c.args.self.now = search rules in
    rw bytes (client_bytes-fit c.args.self.now c.requires)
