use Rattle.std.proofs.Common.{refl}
use Rattle.gl_gov.proofs.touched.touched_by.Goals as goal

pub returns : goal.returns
returns c =
    let is_more = c.changes_more-changes_more.ensures c.args.past.now c.requires.brought in
    rw (c.from.ensures, c.in_ok-proposals.ensures, is_more, c.signer.ensures, c.node_named.ensures) refl
