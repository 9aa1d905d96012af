use Rattle.std.proofs.Common.{◌≡◌, map, take}
use Rattle.serde_json.specs.View.{view}
use Rattle.gl_consortium.specs.Tree.{share_tree}
use Rattle.gl_consortium.proofs.tree.shares_tree.Given as goal

abbrev pub invariant-loop-share : goal.invariant-loop-share
invariant-loop-share l = map view l.items.items ≡ map share_tree (take l.share-index l.shares)
