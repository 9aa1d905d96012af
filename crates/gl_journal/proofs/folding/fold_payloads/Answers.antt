use Rattle.std.proofs.Common.{◌≡◌, Err, length, IsOk, option_map, ◌∙◌, ap, subst, arith, length-append}
use Rattle.gl_base.specs.declared.or_no_memory.OrNoMemory.{OrNoMemory}
use Rattle.gl_base.specs.declared.or_no_memory.OrNoMemory.TheVariants.{Fault}
use Rattle.gl_journal.specs.Gates.{Opening, body_of, payloads_from, with_first}
use Rattle.gl_journal.specs.Durable.{fold_opening}
use Rattle.gl_journal.specs.RecordView.{state_of}
use Rattle.gl_journal.specs.declared.fault.JournalFault.{JournalFault}
use Rattle.gl_journal.proofs.Exits.{same_fault}
use Rattle.gl_journal.proofs.Openings.{length-body}
use Rattle.gl_journal.proofs.PartLaws.{nothing_open, opens_first}
use Rattle.gl_journal.proofs.PayloadLaws.{first_opens, opening_step, opening_stop}
use Rattle.gl_journal.proofs.folding.fold_payloads.Goals as goal

pub loop-suffix-preserved : goal.loop-suffix-preserved
loop-suffix-preserved g c =
    let goes_on = g.L.EntryLog.goes_on in
    let place = c.loop-suffix.place in
    let rest = c.loop-suffix.rest.now in
    let batch = c.in_ok-batch.batch in
    let is = c.in_ok-batch.ensures in
    let state = option_map (state_of g.L.EntryLog.frames) c.loop-suffix.state in
    let next = option_map (state_of g.L.EntryLog.frames) c.fold_payload.new.state in
    let more = payloads_from batch.next batch.rest.now in
    let first : payloads_from place rest ≡ with_first batch.payload.now more = opens_first place rest c.in-Some.suffix.now batch.payload.now batch.next batch.rest.now c.in-Some.ensures.open is.encoded is.small is.next in
    record {
      opens = first_opens batch.payload.now more (subst (λ (o : Opening). IsOk o) first c.loop-suffix.invariant.opens);
      stands = c.in_ok-fold_payload.ensures.stands;
      folded = c.loop-suffix.invariant.folded ∙ ap (λ (o : Opening). fold_opening goes_on place o state) first ∙ opening_step goes_on place batch.payload.now more state next batch.next c.in_ok-fold_payload.ensures.folds is.next;
      size = omega (arith, is.next, c.loop-suffix.invariant.size, ap length is.encoded, ap length c.in-Some.ensures.open, length-append (body_of batch.payload.now) batch.rest.now, length-body batch.payload.now);
    }

pub returns-in_err-fold_payload-clause-fault : goal.returns-in_err-fold_payload-clause-fault
returns-in_err-fold_payload-clause-fault g c fault e =
    let goes_on = g.L.EntryLog.goes_on in
    let place = c.loop-suffix.place in
    let rest = c.loop-suffix.rest.now in
    let batch = c.in_ok-batch.batch in
    let is = c.in_ok-batch.ensures in
    let state = option_map (state_of g.L.EntryLog.frames) c.loop-suffix.state in
    let more = payloads_from batch.next batch.rest.now in
    let first : payloads_from place rest ≡ with_first batch.payload.now more = opens_first place rest c.in-Some.suffix.now batch.payload.now batch.next batch.rest.now c.in-Some.ensures.open is.encoded is.small is.next in
    let opens = first_opens batch.payload.now more (subst (λ (o : Opening). IsOk o) first c.loop-suffix.invariant.opens) in
    let met : c.in_err-fold_payload.field-0.0 ≡ Fault fault = same_fault c.from_residual-in_err-fold_payload.result c.in_err-fold_payload.field-0.0 (Fault fault) c.from_residual-in_err-fold_payload.ensures.1 e in
    let reported = c.fold_payload.ensures.fault fault (c.in_err-fold_payload.was ∙ ap (λ (x : OrNoMemory JournalFault). Err x) met) in
    (reported.0, reported.1, c.loop-suffix.invariant.folded ∙ ap (λ (o : Opening). fold_opening goes_on place o state) first ∙ opening_stop goes_on place batch.payload.now more state reported.0 opens reported.2)

pub returns-clause-folds : goal.returns-clause-folds
returns-clause-folds g c =
    let state = option_map (state_of g.L.EntryLog.frames) c.loop-suffix.state in
    c.loop-suffix.invariant.folded ∙ ap (λ (o : Opening). fold_opening g.L.EntryLog.goes_on c.loop-suffix.place o state) (nothing_open c.loop-suffix.place c.loop-suffix.rest.now c.in_default.ensures.closed)
