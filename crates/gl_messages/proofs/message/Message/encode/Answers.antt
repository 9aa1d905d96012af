use Rattle.std.proofs.Common.{◌≡◌, length, rules}
use Rattle.gl_messages.specs.Message.{message_bytes}
use Rattle.gl_messages.proofs.MessageLaws.{message_bytes-fit}
use Rattle.gl_messages.proofs.message.Message.encode.Goals as goal

pub returns-clause-fits : goal.returns-clause-fits
returns-clause-fits c =
    let bytes : c.put_body.new.out.items ≡ message_bytes c.args.self.now = search rules in
    let sender : length c.args.self.now.from ≡ 32 = search rules in
    let receiver : length c.args.self.now.to ≡ 32 = search rules in
    rw bytes (message_bytes-fit c.args.self.now sender receiver c.requires)
