use Rattle.std.proofs.Common.{◌≡◌, false, not, sym, ap, ◌∙◌}
use Rattle.gl_gov_rules.specs.Index.{has_mark_after}
use Rattle.gl_audit.proofs.Nodes.{above_unmarked}
use Rattle.gl_audit.proofs.removals.are_above_removals.Goals as goal

pub returns-then-not-has_mark_after : goal.returns-then-not-has_mark_after
returns-then-not-has_mark_after c =
    let none : has_mark_after c.args.past.now c.args.seqno ≡ false = sym c.has_mark_after.ensures ∙ c.if-not-has_mark_after.true in
    ap not c.if-not-has_mark_after.true ∙ sym (above_unmarked c.args.past.now c.args.seqno c.args.commit none)
