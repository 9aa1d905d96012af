use Rattle.std.proofs.Common.{sym, ◌∙◌}
use Rattle.gl_messages.proofs.Appending.{framed, skipped, not_skipped}
use Rattle.gl_messages.proofs.append.read_frame.Goals as goal

pub returns-in_err-bytes-clause-exact : goal.returns-in_err-bytes-clause-exact
returns-in_err-bytes-clause-exact c =
    let found = c.in_ok-entry.ensures.found in
    let there = framed c.args.cut.now c.in_ok-entry.entry c.in_ok-entry.size found.2 found.0 found.1 (sym c.all_of-place.ensures.bytes ∙ found.3) in
    absurd (not_skipped c.args.cut.now c.in_ok-entry.entry c.in_ok-entry.size _ there c.in_err-bytes.ensures.exact.0)

pub returns-clause-exact : goal.returns-clause-exact
returns-clause-exact c =
    let found = c.in_ok-entry.ensures.found in
    let there = framed c.args.cut.now c.in_ok-entry.entry c.in_ok-entry.size found.2 found.0 found.1 (sym c.all_of-place.ensures.bytes ∙ found.3) in
    skipped (λ x. x.now) c.args.cut.now c.bytes.new.self c.in_ok-entry.entry c.in_ok-entry.size c.in_ok-bytes.field-0 there c.in_ok-bytes.ensures.exact
