use Rattle.gl_gov.proofs.TouchedRows.{changes_more_by_change, changes_more_by_share}
use Rattle.gl_gov.proofs.touched.changes_more.Goals as goal

pub returns-then-not-is_empty : goal.returns-then-not-is_empty
returns-then-not-is_empty c = λ h brought.
    changes_more_by_change h c.args.recorded.now c.args.changes.now c.is_empty.result brought c.is_empty.ensures c.if-not-is_empty.true

pub returns-else-not-is_empty : goal.returns-else-not-is_empty
returns-else-not-is_empty c = λ h brought.
    changes_more_by_share h c.args.recorded.now c.args.changes.now c.is_empty.result c.gives_share.result brought c.is_empty.ensures c.if-not-is_empty.false c.gives_share.ensures
