-- The leaves of a key file, and that none is taken twice.
use Rattle.std.specs.Prelude.{◌≡◌, ℕ, ◌+◌, ◌<◌, List, [], ◌∷◌, Some, Ok}
use Rattle.gl_outside.specs.Disk.{Step, IsImage}
use Rattle.gl_journal.specs.Durable.{Durable, LogRules}
use Rattle.gl_keyfile.specs.KeyFile.{opened, OpensOnlyTo}
use Rattle.gl_keyfile.specs.declared.leaf.LeafUse.{LeafUse}
use Rattle.gl_keyfile.specs.declared.leaf.LeafUse.TheVariants.{Signature, Start}

-- What a file opens to once its next leaf is taken: one leaf more is spent, and the start of a
-- service tells that number besides.
abbrev pub after_leaf : LeafUse → Durable → Durable
after_leaf Signature state = record state { reserved = state.reserved + 1 }
after_leaf Start state =
    record state { reserved = state.reserved + 1; start = Some (state.reserved + 1) }

-- What a file opens to once its next leaves are taken for these uses, one after the other.
abbrev pub after_leaves : List LeafUse → Durable → Durable
after_leaves [] state = state
after_leaves (leaf_use ∷ others) state = after_leaves others (after_leaf leaf_use state)

-- No leaf of a file is taken twice. The leaf that is taken has the number `reserved` of what the
-- file opened to. A stop then leaves an image in which it is spent, whatever other leaves are taken
-- from what is left, with calls that fail and stops in between, as each of these leaves the state
-- before it or that after its leaf: the next leaf is always a higher one.
abbrev pub NoLeafTwice : Type 0
NoLeafTwice =
    (goes_on : LogRules) (leaf_use : LeafUse) (before found : Durable) (past : List Step)
    (image : List ℕ) (others : List LeafUse) →
    OpensOnlyTo goes_on past (after_leaf leaf_use before) → IsImage past image →
    opened goes_on image ≡ Ok found → before.reserved < (after_leaves others found).reserved
