use Rattle.std.proofs.Common.{◌≡◌, [], sym, ◌∙◌, ap}
use Rattle.gl_journal.specs.Gates.{payloads_from}
use Rattle.gl_journal.specs.Durable.{begins_with_key}
use Rattle.gl_journal.proofs.PartLaws.{nothing_open, opens_first}
use Rattle.gl_journal.proofs.PayloadLaws.{begins_first}
use Rattle.gl_journal.proofs.folding.begins_with_key.Goals as goal

pub returns-in_default : goal.returns-in_default
returns-in_default c payloads is =
    let nothing = nothing_open 8 c.args.batches.now c.in_default.ensures.closed in
    let none : [] ≡ payloads = cc in
    ap begins_with_key none

pub returns-in-Ok : goal.returns-in-Ok
returns-in-Ok c payloads is =
    let batch = c.in-Ok.batch in
    let read = c.in-Ok.ensures in
    let first = opens_first 8 c.args.batches.now c.in-Some.suffix.now batch.payload.now batch.next batch.rest.now c.in-Some.ensures.open read.encoded read.small read.next in
    c.is_of_key.ensures ∙ begins_first batch.payload.now (payloads_from batch.next batch.rest.now) payloads (sym first ∙ is)
