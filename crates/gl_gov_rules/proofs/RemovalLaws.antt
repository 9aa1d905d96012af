-- Where there is no request no node is removed and none is marked.
use Rattle.std.proofs.Common.{◌≡◌, ℕ, List, [], None, refl}
use Rattle.gl_gov_rules.specs.Nodes.{nodes, node, removal, mark}
use Rattle.gl_gov_rules.specs.Changes.{history}

-- of no requests no node is removed
pub no_removal : (id : List ℕ) → removal (history []) id ≡ None
unfolding removal node nodes history
no_removal id = refl

-- and none is marked
pub no_mark : (id : List ℕ) → mark (history []) id ≡ None
unfolding mark history
no_mark id = refl
