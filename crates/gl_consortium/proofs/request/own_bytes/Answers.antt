use Rattle.std.proofs.lemmas.List.{take_rest}
use Rattle.gl_consortium.proofs.request.own_bytes.Goals as goal

pub returns : goal.returns
returns c = take_rest c.args.message.now 67
