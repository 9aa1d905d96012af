use Rattle.gl_vmaps.proofs.StandingLaws.{after-apply}
use Rattle.t_data.proofs.tables.apply.Goals as goal

pub returns : goal.returns
returns c =
    let after = after-apply c.apply.result c.args.tables.now c.args.place c.args.writes.now c.apply.new.self c.requires.above c.apply.ensures.ok c.apply.ensures.err in
    record { base = after.base; compacted = after.compacted; last = after.last }
