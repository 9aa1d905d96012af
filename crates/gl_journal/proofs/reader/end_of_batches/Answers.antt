use Rattle.std.proofs.Common.{◌≡◌, ◌+◌, [], ◌∷◌, ◌++◌, length, Err, ◌∙◌, ap, subst, arith, length-append}
use Rattle.gl_journal.specs.Gates.{body_of}
use Rattle.gl_journal.specs.Parts.{Parts}
use Rattle.gl_journal.specs.declared.fault.JournalFault.{JournalFault}
use Rattle.gl_journal.proofs.Exits.{same_fault}
use Rattle.gl_journal.proofs.Openings.{length-body}
use Rattle.gl_journal.proofs.PartLaws.{opens_cut, parts_push}
use Rattle.gl_journal.proofs.reader.end_of_batches.Goals as goal

pub returns-in_err-batch-clause-fault : goal.returns-in_err-batch-clause-fault
returns-in_err-batch-clause-fault c fault e =
    let at = c.args.at in
    let bytes = c.args.bytes.now in
    let place = c.loop-suffix.place in
    let so_far = c.loop-suffix.invariant.parts in
    let parts = subst (Parts at bytes so_far.0 place) c.in-Some.ensures.open so_far.1 in
    let is : c.batch_after.result ≡ Err fault = c.in_err-batch.was ∙ ap (λ (f : JournalFault). Err f) (same_fault c.from_residual.result c.in_err-batch.field-0.0 fault c.from_residual.ensures.1 e) in
    let reported = c.batch_after.ensures.fault fault is in
    (place + 1, reported.0, opens_cut at bytes so_far.0 place c.in-Some.suffix.now parts reported.1)

pub loop-suffix-preserved : goal.loop-suffix-preserved
loop-suffix-preserved c =
    let at = c.args.at in
    let bytes = c.args.bytes.now in
    let place = c.loop-suffix.place in
    let suffix = c.in-Some.suffix.now in
    let batch = c.in_ok-batch.batch in
    let is = c.in_ok-batch.ensures in
    let so_far = c.loop-suffix.invariant.parts in
    let parts = subst (Parts at bytes so_far.0 place) c.in-Some.ensures.open so_far.1 in
    record {
      parts = (so_far.0 ++ batch.payload.now ∷ [], parts_push at bytes so_far.0 place suffix batch.payload.now batch.next batch.rest.now parts is.encoded is.small is.next);
      size = omega (arith, is.next, c.loop-suffix.invariant.size, ap length is.encoded, ap length c.in-Some.ensures.open, length-append (body_of batch.payload.now) batch.rest.now, length-body batch.payload.now);
    }

pub returns-clause-parts : goal.returns-clause-parts
returns-clause-parts c = let so_far = c.loop-suffix.invariant.parts in (so_far.0, c.loop-suffix.rest.now, so_far.1, c.in_default.ensures.closed)
