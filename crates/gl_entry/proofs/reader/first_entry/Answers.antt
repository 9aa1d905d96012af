use Rattle.std.proofs.Common.{arith}
use Rattle.gl_entry.proofs.NextEntries.{found_next, within_next, failed_next}
use Rattle.gl_entry.proofs.reader.first_entry.Goals as goal

pub returns-clause-found : goal.returns-clause-found
returns-clause-found c = found_next c.args.bytes.now c.decode.result c.requires (λ i. omega (arith, c.type_inv.bytes i)) c.decode.ensures.exact

pub returns-clause-within : goal.returns-clause-within
returns-clause-within c = within_next c.args.bytes.now c.decode.result c.decode.ensures.found

pub returns-clause-fault : goal.returns-clause-fault
returns-clause-fault c = failed_next c.args.bytes.now c.decode.result c.requires c.decode.ensures.exact
