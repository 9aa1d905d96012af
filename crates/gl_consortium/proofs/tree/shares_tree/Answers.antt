use Rattle.std.proofs.Common.{[], map, sym, ap, ◌∙◌}
use Rattle.std.proofs.lemmas.List.{take_more}
use Rattle.serde_json.specs.View.{view}
use Rattle.gl_consortium.specs.Tree.{share_tree}
use Rattle.gl_consortium.proofs.TreeLemmas.{trees_more}
use Rattle.gl_consortium.proofs.tree.shares_tree.Goals as goal

pub loop-share-preserved : goal.loop-share-preserved
loop-share-preserved c =
    let more = take_more c.args.shares.now c.loop-share.share-index (record { member = 0; digest = [] }) c.loop-share-test.true in
    let one = trees_more c.loop-share.items.items c.in_ok-share_tree.field-0 _ _ c.loop-share.invariant c.in_ok-share_tree.ensures in
    ap (map view) c.in_ok-push.ensures.items ∙ one ∙ ap (map share_tree) (sym more)
