use Rattle.std.proofs.Common.{◌≡◌, rules}
use Rattle.gl_tx.specs.Request.{request_bytes}
use Rattle.gl_tx.proofs.Formats.{request_bytes-few}
use Rattle.gl_tx.proofs.request.Request.encode.Goals as goal

pub returns-clause-few : goal.returns-clause-few
returns-clause-few c =
    let bytes : c.put_operations.new.out.items ≡ request_bytes c.args.self.now = search rules in
    rw bytes (request_bytes-few c.args.self.now c.as_slice-operations.ensures.valid)
