use Rattle.gl_tx.proofs.Values.{is_value-number}
use Rattle.gl_tx.proofs.performed.value_of.Goals as goal

pub of-requires : goal.of-requires
of-requires c = rw (c.in_ok-put_u64.ensures.put, c.new-bytes.ensures.items) (is_value-number c.args.number)
