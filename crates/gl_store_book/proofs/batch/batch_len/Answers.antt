use Rattle.gl_store_book.proofs.Batches.{first_small}
use Rattle.gl_store_book.proofs.batch.batch_len.Goals as goal

pub frame_len-requires-clause-writes : goal.frame_len-requires-clause-writes
frame_len-requires-clause-writes c = (first_small c.args.entries.now c.in-Some.rest.now c.in-Some.first.now c.in-Some.ensures.cases.0 c.requires).1
