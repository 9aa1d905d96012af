use Rattle.std.proofs.Common.{◌≡◌, ◌+◌, Ok, Err, sym, ◌∙◌, ap, arith}
use Rattle.gl_base.specs.Cut.{string_at}
use Rattle.gl_journal.specs.Gates.{length_limit, payload_at}
use Rattle.gl_journal.specs.declared.fault.JournalFault.TheVariants.{BadRecord}
use Rattle.gl_journal.proofs.Openings.{payload_facts, opened_cut}
use Rattle.gl_journal.proofs.reader.batch_after.Goals as goal

pub returns-in_default-clause-fault : goal.returns-in_default-clause-fault
returns-in_default-clause-fault c fault e =
    let same : fault ≡ BadRecord (c.args.at + 1) = cc in
    let is : payload_at (c.args.at + 1) c.args.suffix.now ≡ Err c.in_default.field-0 = ap (string_at 4 length_limit) (sym c.new_at-cut.ensures) ∙ c.in_default.ensures.exact.0 in
    (same, opened_cut c.args.at c.args.suffix.now c.in_default.field-0 is)

pub returns-clause-small : goal.returns-clause-small
returns-clause-small c =
    let is : payload_at (c.args.at + 1) c.args.suffix.now ≡ Ok (c.in-Ok.payload.now, c.bytes.new.self) = ap (string_at 4 length_limit) (sym c.new_at-cut.ensures) ∙ c.in-Ok.ensures.exact in
    (payload_facts (c.args.at + 1) c.args.suffix.now c.in-Ok.payload.now c.bytes.new.self is).0

pub returns-clause-next : goal.returns-clause-next
returns-clause-next c =
    let is : payload_at (c.args.at + 1) c.args.suffix.now ≡ Ok (c.in-Ok.payload.now, c.bytes.new.self) = ap (string_at 4 length_limit) (sym c.new_at-cut.ensures) ∙ c.in-Ok.ensures.exact in
    let place = (payload_facts (c.args.at + 1) c.args.suffix.now c.in-Ok.payload.now c.bytes.new.self is).1 in
    omega (arith, place, c.at.ensures)
