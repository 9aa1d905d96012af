use Rattle.std.proofs.Common.{◌≡◌, rules}
use Rattle.gl_tx.specs.Request.{reply_bytes}
use Rattle.gl_tx.proofs.Formats.{reply_bytes-few}
use Rattle.gl_tx.proofs.request.Reply.encode.Goals as goal

pub returns-clause-few : goal.returns-clause-few
returns-clause-few c =
    let bytes : c.put_answers.new.out.items ≡ reply_bytes c.args.self.now = search rules in
    rw bytes (reply_bytes-few c.args.self.now c.as_slice-answers.ensures.valid)
